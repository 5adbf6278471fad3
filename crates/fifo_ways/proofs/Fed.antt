-- Ways lead to the nodes that are fed.
use Rattle.std.proofs.Common.{◌≡◌, ◌↔◌, ◌⊎◌, inl, inr, sym, ap, subst, refl, arith, ℕ, zero, suc, ◌+◌, ◌-◌, ◌<◌, ◌≤◌, Bool, true, false, cond, nat_lt, ltb-true, ltb-false, lt-ltb, List, [], ◌∷◌, ◌++◌, length, Option, Some, None, slice_get}
use Rattle.std.specs.Prelude.{filter, ◌&&◌}
use Rattle.std.specs.List.{Contains}
use Rattle.std.proofs.lemmas.Bool.{and_parts, and_from}
use Rattle.cell_graph.specs.declared.cell.Cell.{Cell}
use Rattle.cell_graph.specs.declared.cell.Cell.TheVariants.{Var, Const, Not, And, Or, Xor, Add, Sub, Eq, Lt, Shl, Shr, Mux, Concat, Slice, Extend, Reduce}
use Rattle.cell_graph.specs.declared.cell.CellId.{CellId}
use Rattle.cell_graph.specs.declared.cell.Node.{Node}
use Rattle.cell_graph.specs.declared.cell.ReduceKind.{ReduceKind}
use Rattle.cell_graph.specs.declared.cell.ReduceKind.TheVariants as kind
use Rattle.cell_graph.specs.declared.feeds.Passed.{Passed}
use Rattle.cell_graph.specs.declared.feeds.Passed.TheVariants as passed
use Rattle.cell_graph.specs.Cells.{Cells, cell_at, cell_width}
use Rattle.cell_graph.specs.Feeds.{node, bit_or_zero, moved_up, moved_down, constant, by_constant, passed_by, bits_from, pairs_from, all_bits, feeds_passed, feeds_of}
use Rattle.cell_graph.specs.Tree.{Tree, width}
use Rattle.cell_graph.specs.Unfolded.{unfolded, reduced, trees, tree_of, AreAlike, IsCellOf, IsWellFormed, IsNodeOf, bit_of}
use Rattle.cell_graph.specs.Origin.{TreeBit}
use Rattle.cell_graph.proofs.Trees.{width-tree_of}
use Rattle.cell_graph.proofs.Leads as moves
use Rattle.cell_graph.proofs.Leads.{leads}
use Rattle.cdc_model.proofs.Ascending.{in_filter, from_filter}
use Rattle.fifo_laws.specs.Ways.{Leads, SomeBelow, If, MovedUp, MovedDown}
use Rattle.gray_pointer.specs.Words.{IsPlain}
use Rattle.gray_pointer.proofs.Trees.{same_bits, cell_there, tree_there, is_cell}
use Rattle.fifo_ways.specs.Feeds.{IsFeedOf, IsFed, first, below}
use Rattle.fifo_ways.specs.Reads.{IsMux, is_mux}
use Rattle.fifo_ways.specs.Sought.{AreNodes}
use Rattle.fifo_ways.proofs.Judged.{constant-tree}

-- P holds of some node of a list
abbrev pub OfSome : (Node → Type 0) → List Node → Type 0
OfSome P [] = ⊥
OfSome P (n ∷ ns) = P n ⊎ OfSome P ns

pub some-of : (P : Node → Type 0) (ns : List Node) → OfSome P ns → (n : Node) × Contains ns n × P n
some-of P [] h = absurd h
some-of P (n ∷ ns) (inl p) = (n, (0, omega arith, refl), p)
some-of P (n ∷ ns) (inr h) = let s = some-of P ns h in (s.0, (suc s.1.0, (let l = s.1.1 in omega arith), s.1.2), s.2)

pub of-some : (P : Node → Type 0) (ns : List Node) (n : Node) → Contains ns n → P n → OfSome P ns
of-some P [] n h p = absurd (let l = h.1 in omega arith)
of-some P (m ∷ ns) n (zero, l, e) p = inl (subst P (sym e) p)
of-some P (m ∷ ns) n (suc k, l, e) p = inr (of-some P ns n (k, (omega arith), e) p)

pub some-append : (P : Node → Type 0) (ms ns : List Node) → OfSome P (ms ++ ns) ↔ (OfSome P ms ⊎ OfSome P ns)
some-append P [] ns = ((λ h. inr h), λ s. elim s [ inl h ↦ absurd h | inr h ↦ h ])
some-append P (m ∷ ms) ns =
    let ih = some-append P ms ns in (
      (λ s. elim s [ inl p ↦ inl (inl p) | inr h ↦ elim (ih.0 h) [ inl q ↦ inl (inr q) | inr q ↦ inr q ] ]),
      λ s. elim s [ inl h ↦ elim h [ inl p ↦ inl p | inr q ↦ inr (ih.1 (inl q)) ] | inr q ↦ inr (ih.1 (inr q)) ],
    )

-- ---- one of the lowest n bits of a cell, or of two

module _ (P : Node → Type 0) where
  bits-some : (a : CellId) (i n : ℕ) → OfSome P (bits_from a i n) ↔ ((j : ℕ) × (i ≤ j) × (j < i + n) × P (node a j))
  bits-some a i zero = ((λ h. absurd h), λ s. absurd (let l = s.1 in let k = s.2 in omega arith))
  bits-some a i (suc n) =
      let ih = bits-some a (suc i) n in (
        (λ s. elim s [
          | inl p ↦ (i, omega arith, omega arith, p)
          | inr h ↦ let t = ih.0 h in (t.0, (let l = t.1 in omega arith), (let l = t.2 in omega arith), t.3)
        ]),
        λ s. go s.0 s.1 s.2 s.3 (λ t. ih.1 t) (nat_lt i s.0) refl,
      )
    where
      go : (j : ℕ) → i ≤ j → j < i + suc n → P (node a j)
          → ((k : ℕ) × (suc i ≤ k) × (k < suc i + n) × P (node a k) → OfSome P (bits_from a (suc i) n)) → (b : Bool) → nat_lt i j ≡ b
          → P (node a i) ⊎ OfSome P (bits_from a (suc i) n)
      go j l m p further true e = let k = ltb-true i j e in inr (further (j, k, (omega arith), p))
      go j l m p further false e = let k = ltb-false i j e in let same : j ≡ i = omega arith in inl (subst (λ x. P (node a x)) same p)

  pairs-some : (a b : CellId) (i n : ℕ) → OfSome P (pairs_from a b i n) ↔ ((j : ℕ) × (i ≤ j) × (j < i + n) × (P (node a j) ⊎ P (node b j)))
  pairs-some a b i zero = ((λ h. absurd h), λ s. absurd (let l = s.1 in let k = s.2 in omega arith))
  pairs-some a b i (suc n) =
      let ih = pairs-some a b (suc i) n in (
        (λ s. elim s [
          | inl p ↦ (i, omega arith, omega arith, inl p)
          | inr r ↦ elim r [
            | inl q ↦ (i, omega arith, omega arith, inr q)
            | inr h ↦ let t = ih.0 h in (t.0, (let l = t.1 in omega arith), (let l = t.2 in omega arith), t.3)
          ]
        ]),
        λ s. go s.0 s.1 s.2 s.3 (λ t. ih.1 t) (nat_lt i s.0) refl,
      )
    where
      go : (j : ℕ) → i ≤ j → j < i + suc n → P (node a j) ⊎ P (node b j)
          → ((k : ℕ) × (suc i ≤ k) × (k < suc i + n) × (P (node a k) ⊎ P (node b k)) → OfSome P (pairs_from a b (suc i) n)) → (c : Bool)
          → nat_lt i j ≡ c → P (node a i) ⊎ (P (node b i) ⊎ OfSome P (pairs_from a b (suc i) n))
      go j l m p further true e = let k = ltb-true i j e in inr (inr (further (j, k, (omega arith), p)))
      go j l m p further false e =
          let k = ltb-false i j e in let same : j ≡ i = omega arith in
          elim p [ inl q ↦ inl (subst (λ x. P (node a x)) same q) | inr q ↦ inr (inl (subst (λ x. P (node b x)) same q)) ]

  pub all-some : (g : Cells) (a : CellId) → OfSome P (all_bits g a) ↔ SomeBelow (cell_width g a) (λ j. P (node a j))
  all-some g a = (
    (λ h. let s = (bits-some a 0 (cell_width g a)).0 h in (s.0, (let l = s.2 in omega arith), s.3)),
    λ s. (bits-some a 0 (cell_width g a)).1 (s.0, omega arith, (let l = s.1 in omega arith), s.2),
  )

  pub below-some : (a b : CellId) (n : ℕ) → OfSome P (pairs_from a b 0 n) ↔ SomeBelow n (λ j. P (node a j) ⊎ P (node b j))
  below-some a b n = (
    (λ h. let s = (pairs-some a b 0 n).0 h in (s.0, (let l = s.2 in omega arith), s.3)),
    λ s. (pairs-some a b 0 n).1 (s.0, omega arith, (let l = s.1 in omega arith), s.2),
  )

-- ---- how facts are joined

only : {A B X : Type 0} → A ↔ B → A ↔ ((⊥ × X) ⊎ B)
only e = ((λ a. inr (e.0 a)), λ s. elim s [ inl h ↦ absurd h.0 | inr b ↦ e.1 b ])

alone : {A : Type 0} → A ↔ (A ⊎ ⊥)
alone = ((λ a. inl a), λ s. elim s [ inl a ↦ a | inr h ↦ absurd h ])

two : {A B : Type 0} → (A ⊎ B) ↔ (A ⊎ (B ⊎ ⊥))
two = (
  (λ s. elim s [ inl a ↦ inl a | inr b ↦ inr (inl b) ]),
  λ s. elim s [ inl a ↦ inl a | inr t ↦ elim t [ inl b ↦ inr b | inr h ↦ absurd h ] ],
)

choice : {A B C X : Type 0} → (X ⊎ (A ⊎ (B ⊎ C))) ↔ ((Unit {0} × X) ⊎ (A ⊎ (B ⊎ (C ⊎ ⊥))))
choice = (
  (λ s. elim s [
    | inl x ↦ inl (tt, x)
    | inr t ↦ elim t [ inl a ↦ inr (inl a) | inr u ↦ elim u [ inl b ↦ inr (inr (inl b)) | inr d ↦ inr (inr (inr (inl d))) ] ]
  ]),
  λ s. elim s [
    | inl h ↦ inl h.1
    | inr t ↦ elim t [
      | inl a ↦ inr (inl a)
      | inr u ↦ elim u
          [ inl b ↦ inr (inr (inl b)) | inr v ↦ elim v [ inl d ↦ inr (inr (inr d)) | inr h ↦ absurd h ] ]
    ]
  ],
)

turn : {A B : Type 0} → A ↔ B → B ↔ A
turn e = (e.1, e.0)

then : {A B C : Type 0} → A ↔ B → B ↔ C → A ↔ C
then e f = ((λ a. f.0 (e.0 a)), λ c. e.1 (f.1 c))

either : {A B C D : Type 0} → A ↔ B → C ↔ D → (A ⊎ C) ↔ (B ⊎ D)
either e f = ((λ s. elim s [ inl a ↦ inl (e.0 a) | inr c ↦ inr (f.0 c) ]), λ s. elim s [ inl b ↦ inl (e.1 b) | inr d ↦ inr (f.1 d) ])

module _ (g : Cells) (well : IsWellFormed g) (P : Tree → ℕ → Type 0) where
  -- some way from the node comes to P
  abbrev pub LeadsAt : Node → Type 0
  LeadsAt n = Leads P (tree_of g n.cell) n.at

  part-leads : (a : CellId) (k : ℕ) (others : List Node)
      → If (nat_lt k (width (tree_of g a))) (Leads P (tree_of g a) k) ⊥ ↔ OfSome LeadsAt (feeds_passed (bit_or_zero g a k) others)
  part-leads a k others = rw (← width-tree_of g a) (go (nat_lt k (cell_width g a)))
    where
      go : (b : Bool) → If b (Leads P (tree_of g a) k) ⊥ ↔ OfSome LeadsAt (feeds_passed (cond b (passed.Bit (node a k)) passed.Zero) others)
      go true = alone
      go false = ((λ h. absurd h), λ h. absurd h)

  up-leads : (a : CellId) (i : ℕ) (o : Option ℕ) (all : Type 0) (others : List Node) → all ↔ OfSome LeadsAt others
      → MovedUp o i (width (tree_of g a)) all ⊥ (λ j. Leads P (tree_of g a) j)
      ↔ OfSome LeadsAt (feeds_passed (by_constant o (moved_up g a i)) others)
  up-leads a i None all others e = e
  up-leads a i (Some n) all others e = go (nat_lt i n)
    where
      go : (b : Bool) → If b ⊥ (If (nat_lt (i - n) (width (tree_of g a))) (Leads P (tree_of g a) (i - n)) ⊥)
          ↔ OfSome LeadsAt (feeds_passed (cond b passed.Zero (bit_or_zero g a (i - n))) others)
      go true = ((λ h. absurd h), λ h. absurd h)
      go false = part-leads a (i - n) others

  down-leads : (a : CellId) (i : ℕ) (o : Option ℕ) (all : Type 0) (others : List Node) → all ↔ OfSome LeadsAt others
      → MovedDown o i (width (tree_of g a)) all ⊥ (λ j. Leads P (tree_of g a) j)
      ↔ OfSome LeadsAt (feeds_passed (by_constant o (moved_down g a i)) others)
  down-leads a i None all others e = e
  down-leads a i (Some n) all others e = part-leads a (i + n) others

  joined-leads : (high low : CellId) (i : ℕ)
      → If (nat_lt i (width (tree_of g low))) (Leads P (tree_of g low) i) (Leads P (tree_of g high) (i - width (tree_of g low)))
      ↔ OfSome LeadsAt (feeds_passed (cond (nat_lt i (cell_width g low)) (passed.Bit (node low i)) (passed.Bit (node high (i - cell_width g low))))
      [])
  joined-leads high low i = rw (← width-tree_of g low) (go (nat_lt i (cell_width g low)))
    where
      go : (b : Bool) → If b (Leads P (tree_of g low) i) (Leads P (tree_of g high) (i - cell_width g low))
          ↔ OfSome LeadsAt (feeds_passed (cond b (passed.Bit (node low i)) (passed.Bit (node high (i - cell_width g low)))) [])
      go true = alone
      go false = alone

  -- all bits of a cell
  whole-leads : (a : CellId) → SomeBelow (width (tree_of g a)) (λ j. Leads P (tree_of g a) j) ↔ OfSome LeadsAt (all_bits g a)
  whole-leads a = rw (← width-tree_of g a) (turn (all-some LeadsAt g a))

  reduced-leads : (k : ReduceKind) (a : CellId) (i : ℕ) → Leads P (reduced k (tree_of g a)) i ↔ OfSome LeadsAt (all_bits g a)
  reduced-leads kind.And a i = whole-leads a
  reduced-leads kind.Or a i = whole-leads a
  reduced-leads kind.Xor a i = whole-leads a

  pairs-lead : (a b : CellId) (i : ℕ) → SomeBelow (suc i) (λ j. Leads P (tree_of g a) j ⊎ Leads P (tree_of g b) j)
      ↔ OfSome LeadsAt (pairs_from a b 0 (i + 1))
  pairs-lead a b i =
      subst (λ n. SomeBelow n (λ j. Leads P (tree_of g a) j ⊎ Leads P (tree_of g b) j) ↔ OfSome LeadsAt (pairs_from a b 0 (i + 1)))
      (let e : i + 1 ≡ suc i = omega arith in e) (turn (below-some LeadsAt a b (i + 1)))

  widths-lead : (a b : CellId) → SomeBelow (width (tree_of g a)) (λ j. Leads P (tree_of g a) j ⊎ Leads P (tree_of g b) j)
      ↔ OfSome LeadsAt (pairs_from a b 0 (cell_width g a))
  widths-lead a b = rw (← width-tree_of g a) (turn (below-some LeadsAt a b (cell_width g a)))

  shift-leads : (a by : CellId) → (SomeBelow (width (tree_of g a)) (λ j. Leads P (tree_of g a) j)
      ⊎ SomeBelow (width (tree_of g by)) (λ j. Leads P (tree_of g by) j)) ↔ OfSome LeadsAt (all_bits g a ++ all_bits g by)
  shift-leads a by = then (either (whole-leads a) (whole-leads by)) (turn (some-append LeadsAt (all_bits g a) (all_bits g by)))

  -- a way goes on through one of the feeds, or ends at a Mux of which P holds
  leads-cell : (n : ℕ) (c : Cell) (i : ℕ) → n ≤ length g.cells → IsCellOf g n c → i < width (unfolded g.signals (trees g) c)
      → Leads P (unfolded g.signals (trees g) c) i ↔ ((IsMux c × P (unfolded g.signals (trees g) c) i) ⊎ OfSome LeadsAt (feeds_of g c i))
  leads-cell n (Var sig) i l h lt = only ((λ h. absurd h), λ h. absurd h)
  leads-cell n (Const w v) i l h lt = only ((λ h. absurd h), λ h. absurd h)
  leads-cell n (Not a) i l h lt = only alone
  leads-cell n (And a b) i l h lt = only two
  leads-cell n (Or a b) i l h lt = only two
  leads-cell n (Xor a b) i l h lt = only two
  leads-cell n (Add a b) i l h lt = only (pairs-lead a b i)
  leads-cell n (Sub a b) i l h lt = only (pairs-lead a b i)
  leads-cell n (Eq a b) i l h lt = only (widths-lead a b)
  leads-cell n (Lt a b) i l h lt = only (widths-lead a b)
  leads-cell n (Shl a by) i l h lt =
      let q = h.1 in only (rw (constant-tree g well by (omega arith))
      (up-leads a i (constant (cell_at g by)) _ (all_bits g a ++ all_bits g by) (shift-leads a by)))
  leads-cell n (Shr a by) i l h lt =
      let q = h.1 in only (rw (constant-tree g well by (omega arith))
      (down-leads a i (constant (cell_at g by)) _ (all_bits g a ++ all_bits g by) (shift-leads a by)))
  leads-cell n (Mux c x y) i l h lt = choice
  leads-cell n (Concat high low) i l h lt = only (joined-leads high low i)
  leads-cell n (Slice a from w) i l h lt =
      let q = h.2 in let p = width-tree_of g a in
      only (rw (lt-ltb (from + i) (width (tree_of g a)) (omega arith)) at (part-leads a (from + i) []))
  leads-cell n (Extend a w) i l h lt = only (part-leads a i [])
  leads-cell n (Reduce k a) i l h lt = only (reduced-leads k a i)

-- ---- feeds are nodes of earlier cells

module _ (g : Cells) (id : CellId) (m : Node) where
  abbrev Within : Type 0
  Within = (m.cell.0 < id.0) × (m.at < cell_width g m.cell)

  abbrev IsM : Node → Type 0
  IsM x = x ≡ m

  at : (a : CellId) (j : ℕ) → a.0 < id.0 → j < cell_width g a → node a j ≡ m → Within
  at a j l k e = subst (λ (x : Node). (x.cell.0 < id.0) × (x.at < cell_width g x.cell)) e (l, k)

  same : (a b : CellId) (i : ℕ) → AreAlike g id.0 a b → i < cell_width g a → (node a i ≡ m) ⊎ ((node b i ≡ m) ⊎ ⊥) → Within
  same a b i h l s = let e = h.2 in elim s [ inl q ↦ at a i h.0 l q | inr t ↦ elim t [ inl q ↦ at b i h.1 (omega arith) q | inr n ↦ absurd n ] ]

  whole : (a : CellId) → a.0 < id.0 → OfSome IsM (all_bits g a) → Within
  whole a l h = let s = (all-some IsM g a).0 h in at a s.0 l s.1 s.2

  paired : (a b : CellId) (k : ℕ) → a.0 < id.0 → b.0 < id.0 → k ≤ cell_width g a → k ≤ cell_width g b → OfSome IsM (pairs_from a b 0 k) → Within
  paired a b k l r p q h =
      let s = (below-some IsM a b k).0 h in
      let lt = s.1 in
      elim s.2 [ inl e ↦ at a s.0 l (omega arith) e | inr e ↦ at b s.0 r (omega arith) e ]

  passes : (own o : TreeBit) (p : Passed) (others : List Node) → moves.Leads g id.0 own o p → (OfSome IsM others → Within)
      → OfSome IsM (feeds_passed p others) → Within
  passes own o (passed.Bit x) others l f h =
      elim h [ inl e ↦ subst (λ (y : Node). (y.cell.0 < id.0) × (y.at < cell_width g y.cell)) e (l.1, l.2) | inr n ↦ absurd n ]
  passes own o passed.Zero others l f h = absurd h
  passes own o passed.Other others l f h = f h

  feed-within : (well : IsWellFormed g) (c : Cell) (i : ℕ) → slice_get g.cells id.0 ≡ Some c → i < cell_width g id
      → i < width (unfolded g.signals (trees g) c) → IsCellOf g id.0 c → OfSome IsM (feeds_of g c i) → Within
  feed-within well (Var sig) i there l lt h s = absurd s
  feed-within well (Const w v) i there l lt h s = absurd s
  feed-within well (Not a) i there l lt h s = elim s [ inl e ↦ at a i h (let p = width-tree_of g a in omega arith) e | inr n ↦ absurd n ]
  feed-within well (And a b) i there l lt h s = same a b i h (let p = width-tree_of g a in omega arith) s
  feed-within well (Or a b) i there l lt h s = same a b i h (let p = width-tree_of g a in omega arith) s
  feed-within well (Xor a b) i there l lt h s = same a b i h (let p = width-tree_of g a in omega arith) s
  feed-within well (Add a b) i there l lt h s = let p = width-tree_of g a in let e = h.2 in paired a b (i + 1) h.0 h.1 (omega arith) (omega arith) s
  feed-within well (Sub a b) i there l lt h s = let p = width-tree_of g a in let e = h.2 in paired a b (i + 1) h.0 h.1 (omega arith) (omega arith) s
  feed-within well (Eq a b) i there l lt h s = let e = h.2 in paired a b (cell_width g a) h.0 h.1 (omega arith) (omega arith) s
  feed-within well (Lt a b) i there l lt h s = let e = h.2 in paired a b (cell_width g a) h.0 h.1 (omega arith) (omega arith) s
  feed-within well (Shl a by) i there l lt h s =
      passes _ _ (passed_by g (Shl a by) i) (all_bits g a ++ all_bits g by) (leads g well id i (Shl a by) there l)
      (λ k. elim ((some-append IsM (all_bits g a) (all_bits g by)).0 k) [ inl q ↦ whole a h.0 q | inr q ↦ whole by h.1 q ]) s
  feed-within well (Shr a by) i there l lt h s =
      passes _ _ (passed_by g (Shr a by) i) (all_bits g a ++ all_bits g by) (leads g well id i (Shr a by) there l)
      (λ k. elim ((some-append IsM (all_bits g a) (all_bits g by)).0 k) [ inl q ↦ whole a h.0 q | inr q ↦ whole by h.1 q ]) s
  feed-within well (Mux c x y) i there l lt h s =
      let p = width-tree_of g x in let o = h.1 in let e = h.2.2 in
      elim s [
        | inl q ↦ at c 0 h.0 (omega arith) q
        | inr t ↦ elim t [ inl q ↦ at x i h.2.0 (omega arith) q | inr u ↦ elim u [ inl q ↦ at y i h.2.1 (omega arith) q | inr n ↦ absurd n ] ]
      ]
  feed-within well (Concat high low) i there l lt h s =
      passes _ _ (passed_by g (Concat high low) i) [] (leads g well id i (Concat high low) there l) (λ k. absurd k) s
  feed-within well (Slice a from w) i there l lt h s =
      passes _ _ (passed_by g (Slice a from w) i) [] (leads g well id i (Slice a from w) there l) (λ k. absurd k) s
  feed-within well (Extend a w) i there l lt h s =
      passes _ _ (passed_by g (Extend a w) i) [] (leads g well id i (Extend a w) there l) (λ k. absurd k) s
  feed-within well (Reduce k a) i there l lt h s = whole a h s

-- ---- what is fed is where ways lead

module _ (g : Cells) (well : IsWellFormed g) where
  -- the width of a cell is that of the tree made of its operands
  made-width : (n : Node) → IsNodeOf g n → n.at < width (unfolded g.signals (trees g) (cell_at g n.cell))
  made-width n is = let w = ap width (tree_there g well n.cell is.0) in let v = width-tree_of g n.cell in let l = is.1 in omega arith

  pub feed-in : (n m : Node) → IsNodeOf g n → IsFeedOf g n m → IsNodeOf g m × (m.cell.0 < n.cell.0)
  feed-in n m is of =
      let l = is.0 in
      let w = feed-within g n.cell m well (cell_at g n.cell) n.at (cell_there g n.cell is.0) is.1 (made-width n is) (is_cell g well n.cell is.0)
      (of-some (λ x. x ≡ m) (feeds_of g (cell_at g n.cell) n.at) m of refl) in
      let k = w.0 in (((omega arith), w.1), w.0)

  pub node-leads : (P : Tree → ℕ → Type 0) (n : Node) → IsNodeOf g n
      → Leads P (tree_of g n.cell) n.at ↔ ((IsMux (cell_at g n.cell) × P (tree_of g n.cell) n.at)
      ⊎ OfSome (LeadsAt g well P) (feeds_of g (cell_at g n.cell) n.at))
  node-leads P n is =
      subst (λ t. Leads P t n.at ↔ ((IsMux (cell_at g n.cell) × P t n.at) ⊎ OfSome (LeadsAt g well P) (feeds_of g (cell_at g n.cell) n.at)))
      (sym (tree_there g well n.cell is.0))
      (leads-cell g well P n.cell.0 (cell_at g n.cell) n.at (let l = is.0 in omega arith) (is_cell g well n.cell is.0) (made-width n is))

  module _ (roots : List Node) (nodes : AreNodes g roots) where
    pub fed-node : (n : Node) → IsFed g roots n → IsNodeOf g n
    fed-node n (first h) = nodes n h
    fed-node m (below {n = n} fed of) = (feed-in n m (fed-node n fed) of).0

    -- from a node that is fed a way leads down to another one
    pub reached : (P : Tree → ℕ → Type 0) (k : ℕ) (n : Node) → n.cell.0 < k → IsFed g roots n → Leads P (tree_of g n.cell) n.at
        → (x : Node) × IsFed g roots x × IsMux (cell_at g x.cell) × P (tree_of g x.cell) x.at
    reached P zero n lt fed h = absurd (omega arith)
    reached P (suc k) n lt fed h =
        let is = fed-node n fed in
        elim ((node-leads P n is).0 h) [
          | inl here ↦ (n, fed, here.0, here.1)
          | inr s ↦
              let t = some-of (LeadsAt g well P) (feeds_of g (cell_at g n.cell) n.at) s in
              let w = (feed-in n t.0 is t.1).1 in
              reached P k t.0 (omega arith) (below fed t.1) t.2
        ]

    -- and up to a root
    pub from_root : (P : Tree → ℕ → Type 0) (n : Node) → IsFed g roots n → Leads P (tree_of g n.cell) n.at
        → (root : Node) × Contains roots root × Leads P (tree_of g root.cell) root.at
    from_root P n (first h) l = (n, h, l)
    from_root P m (below {n = n} fed of) l =
        from_root P n fed ((node-leads P n (fed-node n fed)).1 (inr (of-some (LeadsAt g well P) (feeds_of g (cell_at g n.cell) n.at) m of l)))

-- a Mux is fed exactly where some way from a root leads to it
pub fed-leads : (g : Cells) → IsPlain g → (roots : List Node) → AreNodes g roots → (n : Node) → IsNodeOf g n
    → (IsMux (cell_at g n.cell) × IsFed g roots n)
    ↔ ((root : Node) × Contains roots root × Leads (λ t i. bit_of g n ≡ (t, i)) (tree_of g root.cell) root.at)
fed-leads g plain roots nodes n is = (
  (λ (h : IsMux (cell_at g n.cell) × IsFed g roots n). from_root g plain.well roots nodes (λ t i. bit_of g n ≡ (t, i)) n h.1
      ((node-leads g plain.well (λ t i. bit_of g n ≡ (t, i)) n is).1 (inl (h.0, refl)))),
  λ s.
      let t = reached g plain.well roots nodes (λ t i. bit_of g n ≡ (t, i)) (suc s.0.cell.0) s.0 (omega arith) (first s.1) s.2 in
      let same = same_bits g plain t.0 n (fed-node g plain.well roots nodes t.0 t.1) is (sym t.3) in
      (subst (λ (x : Node). IsMux (cell_at g x.cell)) same t.2, subst (IsFed g roots) same t.1),
)

mux-is : (c : Cell) → is_mux c ≡ true → IsMux c
mux-is (Mux c x y) h = tt
mux-is (Var sig) h = cc
mux-is (Const w v) h = cc
mux-is (Not a) h = cc
mux-is (And a b) h = cc
mux-is (Or a b) h = cc
mux-is (Xor a b) h = cc
mux-is (Add a b) h = cc
mux-is (Sub a b) h = cc
mux-is (Eq a b) h = cc
mux-is (Lt a b) h = cc
mux-is (Shl a by) h = cc
mux-is (Shr a by) h = cc
mux-is (Concat high low) h = cc
mux-is (Slice a from w) h = cc
mux-is (Extend a w) h = cc
mux-is (Reduce k a) h = cc

is-mux : (c : Cell) → IsMux c → is_mux c ≡ true
is-mux (Mux c x y) h = refl
is-mux (Var sig) h = absurd h
is-mux (Const w v) h = absurd h
is-mux (Not a) h = absurd h
is-mux (And a b) h = absurd h
is-mux (Or a b) h = absurd h
is-mux (Xor a b) h = absurd h
is-mux (Add a b) h = absurd h
is-mux (Sub a b) h = absurd h
is-mux (Eq a b) h = absurd h
is-mux (Lt a b) h = absurd h
is-mux (Shl a by) h = absurd h
is-mux (Shr a by) h = absurd h
is-mux (Concat high low) h = absurd h
is-mux (Slice a from w) h = absurd h
is-mux (Extend a w) h = absurd h
is-mux (Reduce k a) h = absurd h

-- the sought nodes of multiplexers among those that are fed are the reads to which ways lead
pub leads-exact : (g : Cells) → IsPlain g → (reads roots fed found : List Node) (is_sought : Node → Bool)
    → ((n : Node) → (is_sought n ≡ true) ↔ Contains reads n) → ((n : Node) → Contains fed n ↔ IsFed g roots n)
    → found ≡ filter (λ n. is_mux (cell_at g n.cell) && is_sought n) fed → AreNodes g reads → AreNodes g roots → (n : Node)
    → Contains found n ↔ (Contains reads n × ((root : Node) × Contains roots root
    × Leads (λ t i. bit_of g n ≡ (t, i)) (tree_of g root.cell) root.at))
leads-exact g plain reads roots fed found is_sought sought are e of_reads of_roots n = (
  λ h.
      let k = from_filter (λ n. is_mux (cell_at g n.cell) && is_sought n) fed n (subst (λ xs. Contains xs n) e h) in
      let p = and_parts (is_mux (cell_at g n.cell)) (is_sought n) k.1 in
      let r = (sought n).0 p.1 in
      (r, (fed-leads g plain roots of_roots n (of_reads n r)).0 (mux-is (cell_at g n.cell) p.0, (are n).0 k.0)),
  λ h.
      let s = (fed-leads g plain roots of_roots n (of_reads n h.0)).1 h.1 in
      subst (λ xs. Contains xs n) (sym e)
      (in_filter (λ n. is_mux (cell_at g n.cell) && is_sought n) fed n ((are n).1 s.1)
      (and_from (is_mux (cell_at g n.cell)) (is_sought n) (is-mux (cell_at g n.cell) s.0) ((sought n).1 h.0))),
)
