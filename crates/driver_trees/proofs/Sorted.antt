-- Pieces of one signal that lie one above the other stand in one order only.
use Rattle.std.proofs.Common.{◌≡◌, ℕ, zero, suc, ◌+◌, ◌*◌, ◌<◌, ◌≤◌, Bool, true, false, cond, ◌==◌, ◌⊎◌, inl, inr, List, [], ◌∷◌, ◌++◌, length, get_or, refl, sym, ap, ap₂, subst, ◌∙◌, arith, eqb-true, eq-eqb, ne_eqb, nat_lt}
use Rattle.std.specs.Prelude.{All, IsPermutation}
use Rattle.std.specs.List.{AllByRecursion as Each, sum_by}
use Rattle.std.specs.List.Sorted.{IsNonDecreasingBy}
use Rattle.std.proofs.lemmas.List.Sorted.{All-permutation, IsPermutation-sym, sum_by-IsPermutation}
use Rattle.std.proofs.lemmas.List.Sums.{sum_by-cons}
use Rattle.cell_graph.specs.Tree.{Const}
use Rattle.flat_meaning.specs.Trees.{Selects}
use Rattle.flat_meaning.specs.Assigned.{is_within}
use Rattle.flat_meaning.specs.Law.{AreWords}
use Rattle.flat_meaning.specs.Design.{once}
use Rattle.flat_meaning.specs.Pieces as meaning
use Rattle.flat_meaning.specs.Pieces.{placed, in_order}
use Rattle.flat_meaning.proofs.Words.{by_lt, never}
use Rattle.flat_meaning.proofs.Placed.{times, times_in_order, within, IsIn, Ascend, ascend, all_in_order, each_of, of_each, each_map, each_all, each_and, each_swap}
use Rattle.driver_trees.specs.declared.draft.Draft.{Draft}
use Rattle.driver_trees.specs.declared.sketch.Piece.{Piece}
use Rattle.driver_trees.specs.Sketches.{piece_of, pieces_in, IsPieceIn, IsBefore, AreOrdered}
use Rattle.driver_trees.specs.Sketched.{Driven, ArePieces}

-- ---- lists of pieces with the same members

abbrev In : meaning.Piece → List meaning.Piece → Type 0
In p [] = ⊥
In p (q ∷ qs) = (p ≡ q) ⊎ In p qs

-- the pieces begin at higher and higher places, from n on
abbrev Climb : ℕ → List meaning.Piece → Type 0
Climb n [] = Unit {0}
Climb n (p ∷ ps) = (n ≤ p.at) × Climb (suc p.at) ps

low_in : (n : ℕ) (ps : List meaning.Piece) (q : meaning.Piece) → Climb n ps → In q ps → n ≤ q.at
low_in n [] q h i = absurd i
low_in n (p ∷ ps) q h i = elim i [
  | inl e ↦ subst (λ (x : meaning.Piece). n ≤ x.at) (sym e) h.0
  | inr j ↦ let l = low_in (suc p.at) ps q h.1 j in omega (arith, l, h.0)
]

one_order : (n m : ℕ) (ps qs : List meaning.Piece) → Climb n ps → Climb m qs → ((x : meaning.Piece) → In x ps → In x qs) → ((x : meaning.Piece) → In x qs → In x ps) → ps ≡ qs
one_order n m [] [] h k f g = refl
one_order n m [] (q ∷ qs) h k f g = absurd (g q (inl refl))
one_order n m (p ∷ ps) [] h k f g = absurd (f p (inl refl))
one_order n m (p ∷ ps) (q ∷ qs) h k f g = ap₂ (λ x xs. x ∷ xs) first (one_order (suc p.at) (suc q.at) ps qs h.1 k.1 rest back)
  where
    first : p ≡ q
    first = elim (f p (inl refl)) [
      | inl e ↦ e
      | inr i ↦ elim (g q (inl refl)) [
        | inl e ↦ sym e
        | inr j ↦ absurd (let a = low_in (suc q.at) qs p k.1 i in let b = low_in (suc p.at) ps q h.1 j in omega (arith, a, b))
      ]
    ]

    rest : (x : meaning.Piece) → In x ps → In x qs
    rest x i = elim (f x (inr i)) [
      | inl e ↦ absurd (let a = low_in (suc p.at) ps x h.1 i in let b = ap (λ (y : meaning.Piece). y.at) (e ∙ sym first) in omega (arith, a, b))
      | inr j ↦ j
    ]

    back : (x : meaning.Piece) → In x qs → In x ps
    back x i = elim (g x (inr i)) [
      | inl e ↦ absurd (let a = low_in (suc q.at) qs x k.1 i in let b = ap (λ (y : meaning.Piece). y.at) (e ∙ first) in omega (arith, a, b))
      | inr j ↦ j
    ]

-- ---- sorting keeps the members

placed_in : (p x : meaning.Piece) (qs : List meaning.Piece) → In x (placed p qs) → (x ≡ p) ⊎ In x qs
placed_in p x [] i = i
placed_in p x (q ∷ qs) i = go (nat_lt p.at q.at) i (placed_in p x qs)
  where
    go : (b : Bool) → In x (cond b (p ∷ q ∷ qs) (q ∷ placed p qs)) → (In x (placed p qs) → (x ≡ p) ⊎ In x qs) → (x ≡ p) ⊎ In x (q ∷ qs)
    go true i h = i
    go false i h = elim i [
      | inl e ↦ inr (inl e)
      | inr j ↦ elim (h j) [
        | inl e ↦ inl e
        | inr k ↦ inr (inr k)
      ]
    ]

in_placed : (p x : meaning.Piece) (qs : List meaning.Piece) → (x ≡ p) ⊎ In x qs → In x (placed p qs)
in_placed p x [] i = i
in_placed p x (q ∷ qs) i = go (nat_lt p.at q.at) i (in_placed p x qs)
  where
    go : (b : Bool) → (x ≡ p) ⊎ In x (q ∷ qs) → ((x ≡ p) ⊎ In x qs → In x (placed p qs)) → In x (cond b (p ∷ q ∷ qs) (q ∷ placed p qs))
    go true i h = i
    go false i h = elim i [
      | inl e ↦ inr (h (inl e))
      | inr j ↦ elim j [
        | inl e ↦ inl e
        | inr k ↦ inr (h (inr k))
      ]
    ]

order_in : (x : meaning.Piece) (ps : List meaning.Piece) → In x (in_order ps) → In x ps
order_in x [] i = i
order_in x (p ∷ ps) i = elim (placed_in p x (in_order ps) i) [
  | inl e ↦ inl e
  | inr j ↦ inr (order_in x ps j)
]

in_ordered : (x : meaning.Piece) (ps : List meaning.Piece) → In x ps → In x (in_order ps)
in_ordered x [] i = i
in_ordered x (p ∷ ps) i = in_placed p x (in_order ps) (elim i [
  | inl e ↦ inl e
  | inr j ↦ inr (in_ordered x ps j)
])

climbs : (n : ℕ) (ps : List meaning.Piece) (whole : ℕ) → Each (IsIn whole) ps → Ascend n ps whole → Climb n ps
climbs n [] whole h a = tt
climbs n (p ∷ ps) whole h a = (a.0, lower (p.bits + p.at) (suc p.at) ps (let s = h.0.some in omega (arith, s)) (climbs (p.bits + p.at) ps whole h.1 a.1))
  where
    lower : (m k : ℕ) (qs : List meaning.Piece) → k ≤ m → Climb m qs → Climb k qs
    lower m k [] l c = tt
    lower m k (q ∷ qs) l c = ((omega (arith, l, c.0)), c.1)

-- ---- the pieces of one signal among all

module _ (sel : Selects) (ds : List Draft) (x : ℕ) where
  abbrev mine : List Piece → List meaning.Piece
  mine ps = pieces_in sel ds ps x

  -- a piece of the signal is one of those
  abbrev IsMine : List meaning.Piece → Piece → Type 0
  IsMine ms p = (p.sig == x) ≡ true → In (piece_of sel ds p) ms

  mine_more : (ms : List meaning.Piece) (q : Piece) (b : Bool) (p : Piece) → IsMine ms p → IsMine (cond b (piece_of sel ds q ∷ ms) ms) p
  mine_more ms q true p h e = inr (h e)
  mine_more ms q false p h e = h e

  all_mine : (ps : List Piece) → Each (IsMine (mine ps)) ps
  all_mine [] = tt
  all_mine (p ∷ ps) = (go (p.sig == x), each_map (λ q h. mine_more (mine ps) p (p.sig == x) q h) ps (all_mine ps))
    where
      go : (b : Bool) → b ≡ true → In (piece_of sel ds p) (cond b (piece_of sel ds p ∷ mine ps) (mine ps))
      go true e = inl refl
      go false e = absurd (let f : false ≡ true → ⊥ = λ k. cc in f e)

  from_mine : (ms : List meaning.Piece) (ps : List Piece) → Each (IsMine ms) ps → (m : meaning.Piece) → In m (mine ps) → In m ms
  from_mine ms [] h m i = absurd i
  from_mine ms (p ∷ ps) h m i = go (p.sig == x) h.0 i (from_mine ms ps h.1 m)
    where
      go : (b : Bool) → (b ≡ true → In (piece_of sel ds p) ms) → In m (cond b (piece_of sel ds p ∷ mine ps) (mine ps)) → (In m (mine ps) → In m ms) → In m ms
      go true f j g = elim j [
        | inl e ↦ subst (λ q. In q ms) (sym e) (f refl)
        | inr k ↦ g k
      ]
      go false f j g = g j

  -- one list in another order has the same pieces
  moved_in : (ps qs : List Piece) → IsPermutation ps qs → (m : meaning.Piece) → In m (mine ps) → In m (mine qs)
  moved_in ps qs h m i = from_mine (mine qs) ps (each_of (IsMine (mine qs)) ps (All-permutation (IsMine (mine qs)) qs ps (IsPermutation-sym ps qs h) (of_each (IsMine (mine qs)) qs (all_mine qs)))) m i

  -- how often a bit is in the signal's pieces
  abbrev count : ℕ → Piece → ℕ
  count i p = cond (p.sig == x) (once (is_within p.at p.width i)) 0

  mine_times : (i : ℕ) (ps : List Piece) → times (mine ps) i ≡ sum_by (count i) ps
  mine_times i [] = refl
  mine_times i (p ∷ ps) = go (p.sig == x) ∙ ap (λ n. count i p + n) (mine_times i ps) ∙ sym (sum_by-cons (count i) p ps)
    where
      go : (b : Bool) → times (cond b (piece_of sel ds p ∷ mine ps) (mine ps)) i ≡ cond b (once (is_within p.at p.width i)) 0 + times (mine ps) i
      go true = refl
      go false = omega arith

  same_times : (i : ℕ) (ps qs : List Piece) → IsPermutation ps qs → times (mine qs) i ≡ times (mine ps) i
  same_times i ps qs h = mine_times i qs ∙ sum_by-IsPermutation (count i) ps qs h ∙ sym (mine_times i ps)

-- ---- pieces by signal and place

abbrev pub place_key : Piece → ℕ
place_key p = p.sig * 256 + p.at

-- a piece of a bit or more, below place 256
pub record IsShort (p : Piece) : Type 0 where
  pub low : p.at < 256
  pub some : 1 ≤ p.width

abbrev Rises : List Piece → Type 0
Rises [] = Unit {0}
Rises (p ∷ ps) = Each (λ q. place_key p ≤ place_key q) ps × Rises ps

rises : (ps : List Piece) → IsNonDecreasingBy place_key ps → Rises ps
rises [] h = tt
rises (p ∷ ps) h = (
  each_of (λ q. place_key p ≤ place_key q) ps (λ k d l. h 0 (suc k) d (omega arith) (omega (arith, l))),
  rises ps (λ i j d l m. h (suc i) (suc j) d (omega (arith, l)) (omega (arith, m))),
)

sigs_rise : (s a t b : ℕ) → a < 256 → b < 256 → s * 256 + a ≤ t * 256 + b → s ≤ t
sigs_rise s a t b h k l = omega (arith, h, k, l)

places_rise : (s a t b : ℕ) → s ≡ t → s * 256 + a ≤ t * 256 + b → a ≤ b
places_rise s a t b e l = omega (arith, e, l)

abbrev pub any : Selects
any s at w = Const 1 0

module _ (ds : List Draft) where
  abbrev Single : List Piece → Type 0
  Single ps = (x i : ℕ) → times (pieces_in any ds ps x) i ≤ 1

  fewer : (p : Piece) (ps : List Piece) → Single (p ∷ ps) → Single ps
  fewer p ps h x i = go (p.sig == x) (h x i)
    where
      go : (b : Bool) → times (cond b (piece_of any ds p ∷ pieces_in any ds ps x) (pieces_in any ds ps x)) i ≤ 1 → times (pieces_in any ds ps x) i ≤ 1
      go true l = omega (arith, l)
      go false l = l

  -- a bit of a piece counts in those of its signal
  counts : (ps : List Piece) (i : ℕ) → Each (λ q. once (is_within q.at q.width i) ≤ times (pieces_in any ds ps q.sig) i) ps
  counts [] i = tt
  counts (p ∷ ps) i = (
    subst (λ b. once (is_within p.at p.width i) ≤ times (cond b (piece_of any ds p ∷ pieces_in any ds ps p.sig) (pieces_in any ds ps p.sig)) i) (sym (eq-eqb p.sig p.sig refl)) (omega arith),
    each_map (λ q l. more q (p.sig == q.sig) l) ps (counts ps i),
  )
    where
      more : (q : Piece) (b : Bool) → once (is_within q.at q.width i) ≤ times (pieces_in any ds ps q.sig) i
          → once (is_within q.at q.width i) ≤ times (cond b (piece_of any ds p ∷ pieces_in any ds ps q.sig) (pieces_in any ds ps q.sig)) i
      more q true l = omega (arith, l)
      more q false l = l

  apart : (p q : Piece) (n : ℕ) → p.at ≤ q.at → 1 ≤ q.width → once (is_within q.at q.width q.at) ≤ n → once (is_within p.at p.width q.at) + n ≤ 1 → p.at + p.width ≤ q.at
  apart p q n l s h k = by_lt (λ b. p.at + p.width ≤ q.at) q.at (p.at + p.width)
      (λ m. let a = ap once (within p.at p.width q.at l m) in let b = ap once (within q.at q.width q.at (omega arith) (omega (arith, s))) in never 0 (omega (arith, a, b, h, k)))
      (λ m. m)

  ordered : (ps : List Piece) → Rises ps → Each IsShort ps → Single ps → AreOrdered ps
  ordered [] h k one = tt
  ordered (p ∷ ps) h k one = (
    of_each (IsBefore p) ps (each_map (λ q z. before q z.0.0 z.0.1 z.1) ps (each_and _ _ ps (each_and _ _ ps h.0 k.1) (each_swap (λ i q. once (is_within q.at q.width i) ≤ times (pieces_in any ds ps q.sig) i) ps (λ i. counts ps i)))),
    ordered ps h.1 k.1 (fewer p ps one),
  )
    where
      before : (q : Piece) → place_key p ≤ place_key q → IsShort q → ((i : ℕ) → once (is_within q.at q.width i) ≤ times (pieces_in any ds ps q.sig) i) → IsBefore p q
      before q l s c = (
        λ e. apart p q (times (pieces_in any ds ps q.sig) q.at) (places_rise p.sig p.at q.sig q.at e l) s.some (c q.at)
            (subst (λ b. times (cond b (piece_of any ds p ∷ pieces_in any ds ps q.sig) (pieces_in any ds ps q.sig)) q.at ≤ 1) (eq-eqb p.sig q.sig e) (one q.sig q.at)),
        sigs_rise p.sig p.at q.sig q.at k.0.low s.low l,
      )

  climb_mine : (sel : Selects) (x n : ℕ) (ps : List Piece) → AreOrdered ps → Each IsShort ps → Each (λ p. (p.sig == x) ≡ true → n ≤ p.at) ps → Climb n (pieces_in sel ds ps x)
  climb_mine sel x n [] h k l = tt
  climb_mine sel x n (p ∷ ps) h k l = go (p.sig == x) refl (λ e. climb_mine sel x (suc p.at) ps h.1 k.1 (above e)) (climb_mine sel x n ps h.1 k.1 l.1)
    where
      above : (p.sig == x) ≡ true → Each (λ q. (q.sig == x) ≡ true → suc p.at ≤ q.at) ps
      above e = each_map (λ q b f. let s = k.0.some in let a = b.0 (eqb-true p.sig x e ∙ sym (eqb-true q.sig x f)) in omega (arith, s, a)) ps (each_of (IsBefore p) ps h.0)

      go : (b : Bool) → (p.sig == x) ≡ b → ((p.sig == x) ≡ true → Climb (suc p.at) (pieces_in sel ds ps x)) → Climb n (pieces_in sel ds ps x) → Climb n (cond b (piece_of sel ds p ∷ pieces_in sel ds ps x) (pieces_in sel ds ps x))
      go true e f g = (l.0 e, f e)
      go false e f g = g

in_each : (P : meaning.Piece → Type 0) (ms : List meaning.Piece) (m : meaning.Piece) → Each P ms → In m ms → P m
in_each P [] m h i = absurd i
in_each P (p ∷ ps) m h i = elim i [
  | inl e ↦ subst P (sym e) h.0
  | inr j ↦ in_each P ps m h.1 j
]

-- sorted pieces are those of each signal in order
module _ (wid : ℕ → ℕ) (words : AreWords wid) (ds : List Draft) (ps qs : List Piece) (driven : Driven) (are : ArePieces ds ps driven) (moved : IsPermutation ps qs) (up : IsNonDecreasingBy place_key qs)
    (inside : (sel : Selects) (x : ℕ) → Each (IsIn (wid x)) (driven sel x)) (once_each : (sel : Selects) (x i : ℕ) → times (driven sel x) i ≤ 1) where
  short_first : Each IsShort ps
  short_first = each_map (λ p h. let i = in_each (IsIn (wid p.sig)) (driven any p.sig) (piece_of any ds p) (inside any p.sig)
      (subst (In (piece_of any ds p)) (are.pieces any p.sig) (h p.sig (eq-eqb p.sig p.sig refl))) in
      let w = words p.sig in record { low = (let a = i.some in let b = i.room in omega (arith, a, b, w)); some = i.some }) ps
      (each_swap (λ x. IsMine any ds x (pieces_in any ds ps x)) ps (λ x. all_mine any ds x ps))

  short : Each IsShort qs
  short = each_of IsShort qs (All-permutation IsShort ps qs moved (of_each IsShort ps short_first))

  pub in_their_order : AreOrdered qs
  in_their_order = ordered ds qs (rises qs up) short (λ x i. let e = same_times any ds x i ps qs moved in let f = ap (λ ms. times ms i) (are.pieces any x) in let o = once_each any x i in omega (arith, e, f, o))

  pub sorted_pieces : ArePieces ds qs (λ sel x. in_order (driven sel x))
  sorted_pieces = record {
    stand = All-permutation (IsPieceIn ds) ps qs moved are.stand;
    pieces = λ sel x. one_order 0 0 (pieces_in sel ds qs x) (in_order (driven sel x)) (climb_mine ds sel x 0 qs in_their_order short (each_all (λ p e. omega arith) qs))
        (climbs 0 (in_order (driven sel x)) (wid x) (all_in_order (IsIn (wid x)) (driven sel x) (inside sel x)) (ascend (wid x) (driven sel x) (inside sel x) (once_each sel x)))
        (λ m i. in_ordered m (driven sel x) (subst (In m) (are.pieces sel x) (moved_in sel ds x qs ps (IsPermutation-sym ps qs moved) m i)))
        (λ m i. moved_in sel ds x ps qs moved m (subst (In m) (sym (are.pieces sel x)) (order_in m (driven sel x) i)));
  }
