-- Where no segment depends on itself the trees are there, and they are one: selects that are unfolded as often as a chain of segments can be
-- long don't change any more.
use Rattle.std.proofs.Common.{◌≡◌, ℕ, zero, suc, ◌+◌, ◌-◌, ◌<◌, ◌≤◌, max, min, Bool, true, false, cond, ◌&&◌, ◌||◌, ◌==◌, nat_lt, nat_le, List, [], ◌∷◌, ◌++◌, refl, sym, ap, ap₂, ◌∙◌, arith, ltb-true, lt-ltb, le-ltb, subst}
use Rattle.std.specs.List.{AllByRecursion as Each}
use Rattle.std.proofs.lemmas.Bool.{and_parts}
use Rattle.cell_graph.specs.Tree.{Tree, Const, Var}
use Rattle.flat_meaning.specs.Flat.{Expr, Target, Whole, Part, Pick, Group, Targets, no_targets, target, Stmt, assigns}
use Rattle.flat_meaning.specs.Trees.{Selects, cut, value_tree}
use Rattle.flat_meaning.specs.Assigned.{is_within, covers, may_assign}
use Rattle.flat_meaning.specs.Deps.{AllIn, span, wire_deps}
use Rattle.flat_meaning.specs.Law.{expr_reads}
use Rattle.flat_meaning.specs.Pieces.{Piece, whole_piece, pieces, all_pieces, Run, runs, run_pieces, comb_pieces, assigned_pieces, all_comb_pieces, placed, in_order, met, join_pieces}
use Rattle.flat_meaning.specs.Design.{once, Flat, size_in, is_variable}
use Rattle.flat_meaning.specs.Sound.{IsSoundAssign, inside, IsSoundComb, IsSound}
use Rattle.flat_meaning.specs.SignalTrees.{pieces_of, select_of, AreTrees}
use Rattle.flat_meaning.specs.Segments.{IsLoopFree, made_of, made_by_assigns, made_by_combs}
use Rattle.flat_meaning.specs.Elaboration.{TreesLaw}
use Rattle.flat_meaning.proofs.Words.{never, never_same, by_lt}
use Rattle.flat_meaning.proofs.Targets.{left_in, right_in}
use Rattle.flat_meaning.proofs.Depth.{by_bool, IsDeep, bit_count, all_deep}
use Rattle.flat_meaning.proofs.Placed.{times, each_of, none_within, none_past, within}
use Rattle.flat_meaning.proofs.Drivers.{pieces_times, not_covered, not_assigned, comb_times, driven, driven_in}
use Rattle.flat_meaning.proofs.Same.{value_same, wire_same}
use Rattle.flat_meaning.proofs.Selects.{in_span}

-- ---- lists of pieces that differ in trees alone

-- one by one
abbrev Zip : (Piece → Piece → Type 0) → List Piece → List Piece → Type 0
Zip R [] [] = Unit {0}
Zip R [] (q ∷ qs) = ⊥
Zip R (p ∷ ps) [] = ⊥
Zip R (p ∷ ps) (q ∷ qs) = R p q × Zip R ps qs

zip_map : {R S : Piece → Piece → Type 0} → ((p q : Piece) → R p q → S p q) → (ps qs : List Piece) → Zip R ps qs → Zip S ps qs
zip_map h [] [] k = tt
zip_map h [] (q ∷ qs) k = k
zip_map h (p ∷ ps) [] k = k
zip_map h (p ∷ ps) (q ∷ qs) k = (h p q k.0, zip_map h ps qs k.1)

module _ (R : Piece → Piece → Type 0) where
  zip_both : (ps qs xs ys : List Piece) → Zip R ps qs → Zip R xs ys → Zip R (ps ++ xs) (qs ++ ys)
  zip_both [] [] xs ys h k = k
  zip_both [] (q ∷ qs) xs ys h k = absurd h
  zip_both (p ∷ ps) [] xs ys h k = absurd h
  zip_both (p ∷ ps) (q ∷ qs) xs ys h k = (h.0, zip_both ps qs xs ys h.1 k)

  zip_each : (P : Piece → Type 0) (ps qs : List Piece) → Zip R ps qs → Each P ps → Zip (λ p q. R p q × P p) ps qs
  zip_each P [] [] h k = tt
  zip_each P [] (q ∷ qs) h k = absurd h
  zip_each P (p ∷ ps) [] h k = absurd h
  zip_each P (p ∷ ps) (q ∷ qs) h k = ((h.0, k.0), zip_each P ps qs h.1 k.1)

-- what holds one by one for each number holds for each number one by one
zip_swap : (R : ℕ → Piece → Piece → Type 0) (ps qs : List Piece) → ((i : ℕ) → Zip (R i) ps qs) → Zip (λ p q. (i : ℕ) → R i p q) ps qs
zip_swap R [] [] h = tt
zip_swap R [] (q ∷ qs) h = h 0
zip_swap R (p ∷ ps) [] h = h 0
zip_swap R (p ∷ ps) (q ∷ qs) h = (λ i. (h i).0, zip_swap R ps qs (λ i. (h i).1))

-- pieces of the same bits, whose trees may differ
pub record IsShaped (p q : Piece) : Type 0 where
  pub at : p.at ≡ q.at
  pub bits : p.bits ≡ q.bits
  pub size : p.size ≡ q.size
  pub inside : p.inside ≡ q.inside

-- and don't where the bit is
abbrev SameAt : ℕ → Piece → Piece → Type 0
SameAt i p q = IsShaped p q × (is_within p.at p.bits i ≡ true → p.tree ≡ q.tree)

same_piece : (p : Piece) → IsShaped p p
same_piece p = record { at = refl; bits = refl; size = refl; inside = refl }

zip_same : (ps : List Piece) (i : ℕ) → Zip (SameAt i) ps ps
zip_same [] i = tt
zip_same (p ∷ ps) i = ((same_piece p, λ h. refl), zip_same ps i)

-- lists that don't have the bit are the same there
zip_absent : (ps qs : List Piece) (i : ℕ) → Zip IsShaped ps qs → times ps i ≡ 0 → Zip (SameAt i) ps qs
zip_absent ps qs i h k = zip_map (λ p q e. (e.0, λ z. never_same (sym z ∙ e.1))) ps qs (zip_each IsShaped (λ p. is_within p.at p.bits i ≡ false) ps qs h (none_within ps i k))

module _ (R : Piece → Piece → Type 0) (at_of : (p q : Piece) → R p q → p.at ≡ q.at) where
  zip_placed : (p q : Piece) (ps qs : List Piece) → R p q → Zip R ps qs → Zip R (placed p ps) (placed q qs)
  zip_placed p q [] [] h k = (h, tt)
  zip_placed p q [] (y ∷ ys) h k = absurd k
  zip_placed p q (x ∷ xs) [] h k = absurd k
  zip_placed p q (x ∷ xs) (y ∷ ys) h k = go (nat_lt p.at x.at) (nat_lt q.at y.at) (ap₂ nat_lt (at_of p q h) (at_of x y k.0)) (zip_placed p q xs ys h k.1)
    where
      go : (u v : Bool) → u ≡ v → Zip R (placed p xs) (placed q ys) → Zip R (cond u (p ∷ x ∷ xs) (x ∷ placed p xs)) (cond v (q ∷ y ∷ ys) (y ∷ placed q ys))
      go true true e z = (h, k)
      go false false e z = (k.0, z)
      go true false e z = never_same e
      go false true e z = never_same (sym e)

  zip_in_order : (ps qs : List Piece) → Zip R ps qs → Zip R (in_order ps) (in_order qs)
  zip_in_order [] [] h = tt
  zip_in_order [] (q ∷ qs) h = absurd h
  zip_in_order (p ∷ ps) [] h = absurd h
  zip_in_order (p ∷ ps) (q ∷ qs) h = zip_placed p q (in_order ps) (in_order qs) h.0 (zip_in_order ps qs h.1)

-- a select meets the same parts where the pieces that it meets are the same
module _ (at w : ℕ) where
  abbrev SameMet : Piece → Piece → Type 0
  SameMet p q = IsShaped p q × (max at p.at < min (at + w) (p.bits + p.at) → p.tree ≡ q.tree)

  abbrev part : (from bits size inside : ℕ) → Tree → Piece
  part from bits size inside t =
      let low = max at from in let high = min (at + w) (bits + from) in
      whole_piece (low - at) (high - low) (cut size (inside + (low - from)) (high - low) t)

  abbrev part_of : Piece → Piece
  part_of p = part p.at p.bits p.size p.inside p.tree

  part_same : (p q : Piece) → IsShaped p q → p.tree ≡ q.tree → part_of p ≡ part_of q
  part_same p q e t = ap₂ (λ x y. part x y p.size p.inside p.tree) e.at e.bits ∙ ap₂ (λ x y. part q.at q.bits x y p.tree) e.size e.inside ∙ ap (part q.at q.bits q.size q.inside) t

  abbrev is_met : Piece → Bool
  is_met p = nat_lt (max at p.at) (min (at + w) (p.bits + p.at))

  first_same : (p q : Piece) (xs ys : List Piece) → xs ≡ ys → SameMet p q → cond (is_met p) (part_of p ∷ xs) xs ≡ cond (is_met q) (part_of q ∷ ys) ys
  first_same p q xs ys e h =
      let k = ap₂ (λ x y. nat_lt (max at x) (min (at + w) (y + x))) h.0.at h.0.bits in
      by_lt (λ u. cond u (part_of p ∷ xs) xs ≡ cond (is_met q) (part_of q ∷ ys) ys) (max at p.at) (min (at + w) (p.bits + p.at))
      (λ l. ap₂ (λ x y. x ∷ y) (part_same p q h.0 (h.1 l)) e ∙ ap (λ u. cond u (part_of q ∷ ys) ys) (sym (lt-ltb (max at p.at) (min (at + w) (p.bits + p.at)) l) ∙ k))
      (λ l. e ∙ ap (λ u. cond u (part_of q ∷ ys) ys) (sym (le-ltb (max at p.at) (min (at + w) (p.bits + p.at)) l) ∙ k))

  met_same : (ps qs : List Piece) → Zip SameMet ps qs → met at w ps ≡ met at w qs
  met_same [] [] h = refl
  met_same [] (q ∷ qs) h = absurd h
  met_same (p ∷ ps) [] h = absurd h
  met_same (p ∷ ps) (q ∷ qs) h = first_same p q (met at w ps) (met at w qs) (met_same ps qs h.1) h.0

-- ---- targets and processes

module _ (wid : ℕ → ℕ) (x : ℕ) where
  mutual
    pieces_shaped : (t : Target) (a b : Tree) → Zip IsShaped (pieces wid x t a) (pieces wid x t b)
    pieces_shaped (Whole s) a b = go (x == s)
      where
        go : (u : Bool) → Zip IsShaped (cond u (whole_piece 0 (wid s) a ∷ []) []) (cond u (whole_piece 0 (wid s) b ∷ []) [])
        go true = (record { at = refl; bits = refl; size = refl; inside = refl }, tt)
        go false = tt
    pieces_shaped (Part s at w) a b = go (x == s)
      where
        go : (u : Bool) → Zip IsShaped (cond u (whole_piece at w a ∷ []) []) (cond u (whole_piece at w b ∷ []) [])
        go true = (record { at = refl; bits = refl; size = refl; inside = refl }, tt)
        go false = tt
    pieces_shaped (Pick s e) a b = tt
    pieces_shaped (Group gs) a b = all_pieces_shaped gs a b

    all_pieces_shaped : (gs : Targets) (a b : Tree) → Zip IsShaped (all_pieces wid x gs a) (all_pieces wid x gs b)
    all_pieces_shaped no_targets a b = tt
    all_pieces_shaped (target t gs) a b = zip_both IsShaped (pieces wid x t _) (pieces wid x t _) (all_pieces wid x gs a) (all_pieces wid x gs b) (pieces_shaped t _ _) (all_pieces_shaped gs a b)

runs_shaped : (n : ℕ) (a b : Tree) (rs : List Run) → Zip IsShaped (run_pieces n a rs) (run_pieces n b rs)
runs_shaped n a b [] = tt
runs_shaped n a b (r ∷ rs) = (record { at = refl; bits = refl; size = refl; inside = refl }, runs_shaped n a b rs)

-- ---- designs

module _ (f : Flat) (sound : IsSound f) where
  module _ (sel other : Selects) (s : ℕ) where
    assigned_shaped : (as_ : List (Target × Expr)) → Zip IsShaped (assigned_pieces (size_in f) sel s as_) (assigned_pieces (size_in f) other s as_)
    assigned_shaped [] = tt
    assigned_shaped (a ∷ as_) = zip_both IsShaped (pieces (size_in f) s a.0 _) (pieces (size_in f) s a.0 _) (assigned_pieces (size_in f) sel s as_) (assigned_pieces (size_in f) other s as_)
        (pieces_shaped (size_in f) s a.0 _ _) (assigned_shaped as_)

    comb_shaped : (b : Stmt) → Zip IsShaped (comb_pieces (size_in f) sel s b) (comb_pieces (size_in f) other s b)
    comb_shaped b = runs_shaped (size_in f s) _ _ (runs (may_assign (size_in f) b s) (size_in f s) [])

    combs_shaped : (bs : List Stmt) → Zip IsShaped (all_comb_pieces (size_in f) sel s bs) (all_comb_pieces (size_in f) other s bs)
    combs_shaped [] = tt
    combs_shaped (b ∷ bs) = zip_both IsShaped (comb_pieces (size_in f) sel s b) (comb_pieces (size_in f) other s b) (all_comb_pieces (size_in f) sel s bs) (all_comb_pieces (size_in f) other s bs)
        (comb_shaped b) (combs_shaped bs)

    driven_shaped : Zip IsShaped (driven f s sel) (driven f s other)
    driven_shaped = zip_both IsShaped (assigned_pieces (size_in f) sel s f.assigns) (assigned_pieces (size_in f) other s f.assigns) (all_comb_pieces (size_in f) sel s f.combs) (all_comb_pieces (size_in f) other s f.combs)
        (assigned_shaped f.assigns) (combs_shaped f.combs)

    -- one bit, where the selects that it is made of are the same
    module _ (i : ℕ) (l : i < size_in f s) (same : (t at w : ℕ) → inside f t at w ≡ true → AllIn (made_of f s i) (span t at w) → sel t at w ≡ other t at w) where
      assigned_same : (as_ : List (Target × Expr)) → Each (IsSoundAssign f) as_ → AllIn (made_of f s i) (made_by_assigns (size_in f) as_ s i)
          → Zip (SameAt i) (assigned_pieces (size_in f) sel s as_) (assigned_pieces (size_in f) other s as_)
      assigned_same [] h o = tt
      assigned_same (a ∷ as_) h o = zip_both (SameAt i) (pieces (size_in f) s a.0 _) (pieces (size_in f) s a.0 _) (assigned_pieces (size_in f) sel s as_) (assigned_pieces (size_in f) other s as_)
          (by_bool (covers (size_in f) a.0 s i)
          (λ e. let good : AllIn (made_of f s i) (expr_reads (size_in f) a.1) = (λ t j m. o t j (ap₂ (λ x y. (x && y) || made_by_assigns (size_in f) as_ s i t j) e m)) in
          let z = value_same (size_in f) (inside f) (made_of f s i) sel other same a.0 a.1 h.0.0 good in
          subst (λ (t : Tree). Zip (SameAt i) (pieces (size_in f) s a.0 (value_tree (size_in f) sel a.0 a.1)) (pieces (size_in f) s a.0 t)) z (zip_same (pieces (size_in f) s a.0 (value_tree (size_in f) sel a.0 a.1)) i))
          (λ e. zip_absent (pieces (size_in f) s a.0 _) (pieces (size_in f) s a.0 _) i (pieces_shaped (size_in f) s a.0 _ _) (pieces_times (size_in f) s a.0 _ i ∙ not_covered (size_in f) s a.0 i e)))
          (assigned_same as_ h.1 (right_in (made_of f s i) (λ t j. covers (size_in f) a.0 s i && expr_reads (size_in f) a.1 t j) (made_by_assigns (size_in f) as_ s i) o))

      combs_same : (bs : List Stmt) → Each (IsSoundComb f) bs → AllIn (made_of f s i) (made_by_combs (size_in f) bs s i) → Zip (SameAt i) (all_comb_pieces (size_in f) sel s bs) (all_comb_pieces (size_in f) other s bs)
      combs_same [] h o = tt
      combs_same (b ∷ bs) h o = zip_both (SameAt i) (comb_pieces (size_in f) sel s b) (comb_pieces (size_in f) other s b) (all_comb_pieces (size_in f) sel s bs) (all_comb_pieces (size_in f) other s bs)
          (by_bool (may_assign (size_in f) b s i)
          (λ e. let good : AllIn (made_of f s i) (wire_deps (size_in f) b s) = (λ t j m. o t j (ap₂ (λ x y. (x && y) || made_by_combs (size_in f) bs s i t j) e m)) in
          let local = by_bool (assigns b s) (λ z. z) (λ z. never_same (sym e ∙ not_assigned (size_in f) s b i z)) in
          let z = wire_same (size_in f) (inside f) (made_of f s i) sel other same b h.0.fits s local good in
          let rs = runs (may_assign (size_in f) b s) (size_in f s) [] in
          subst (λ (t : Tree). Zip (SameAt i) (comb_pieces (size_in f) sel s b) (run_pieces (size_in f s) t rs)) z (zip_same (comb_pieces (size_in f) sel s b) i))
          (λ e. zip_absent (comb_pieces (size_in f) sel s b) (comb_pieces (size_in f) other s b) i (comb_shaped b) (comb_times f s sel b i l ∙ ap once e)))
          (combs_same bs h.1 (right_in (made_of f s i) (λ t j. may_assign (size_in f) b s i && wire_deps (size_in f) b s t j) (made_by_combs (size_in f) bs s i) o))

      bit_same : Zip (SameAt i) (driven f s sel) (driven f s other)
      bit_same =
          let all : AllIn (made_of f s i) (λ t j. made_by_assigns (size_in f) f.assigns s i t j || made_by_combs (size_in f) f.combs s i t j) =
          (λ t j m. ap₂ (λ x y. x && y) (lt-ltb i (size_in f s) l) m) in
          zip_both (SameAt i) (assigned_pieces (size_in f) sel s f.assigns) (assigned_pieces (size_in f) other s f.assigns) (all_comb_pieces (size_in f) sel s f.combs) (all_comb_pieces (size_in f) other s f.combs)
          (assigned_same f.assigns (each_of _ f.assigns sound.assigned) (left_in (made_of f s i) (made_by_assigns (size_in f) f.assigns s i) (made_by_combs (size_in f) f.combs s i) all))
          (combs_same f.combs (each_of _ f.combs sound.processed) (right_in (made_of f s i) (made_by_assigns (size_in f) f.assigns s i) (made_by_combs (size_in f) f.combs s i) all))

    past_same : (i : ℕ) → size_in f s ≤ i → Zip (SameAt i) (driven f s sel) (driven f s other)
    past_same i h = zip_absent (driven f s sel) (driven f s other) i driven_shaped (none_past (size_in f s) (driven f s sel) i (driven_in f s sel sound) h)

    -- a select whose bits are the same
    select_same : (at w : ℕ) → ((j : ℕ) → at ≤ j → j < at + w → Zip (SameAt j) (driven f s sel) (driven f s other)) → select_of f sel s at w ≡ select_of f other s at w
    select_same at w h = ap (cond (is_variable f s) (cut (size_in f s) at w (Var s (size_in f s))))
        (ap (λ ps. join_pieces 0 (Const 0 0) ps w) (met_same at w (pieces_of f sel s) (pieces_of f other s)
        (zip_in_order (SameMet at w) (λ p q e. e.0.at) (driven f s sel) (driven f s other)
        (zip_map meets (driven f s sel) (driven f s other) (zip_swap InRange (driven f s sel) (driven f s other) ranged)))))
      where
        InRange : ℕ → Piece → Piece → Type 0
        InRange j p q = IsShaped p q × (at ≤ j → j < at + w → is_within p.at p.bits j ≡ true → p.tree ≡ q.tree)

        ranged : (j : ℕ) → Zip (InRange j) (driven f s sel) (driven f s other)
        ranged j = by_lt (λ u. Zip (InRange j) (driven f s sel) (driven f s other)) j at
            (λ l. zip_map (λ p q e. (e, λ a b. never 0 (omega arith))) (driven f s sel) (driven f s other) driven_shaped)
            (λ l. by_lt (λ u. Zip (InRange j) (driven f s sel) (driven f s other)) j (at + w)
            (λ m. zip_map (λ p q e. (e.0, λ a b. e.1)) (driven f s sel) (driven f s other) (h j l m))
            (λ m. zip_map (λ p q e. (e, λ a b. never 0 (omega arith))) (driven f s sel) (driven f s other) driven_shaped))

        meets : (p q : Piece) → ((j : ℕ) → InRange j p q) → SameMet at w p q
        meets p q e = ((e 0).0, λ l. (e (max at p.at)).1 (omega arith) (omega arith) (within p.at p.bits (max at p.at) (omega arith) (omega arith)))

  -- two families of selects, each made of the ones before
  module _ (A B : ℕ → Selects) (next_a : (n s at w : ℕ) → A (suc n) s at w ≡ select_of f (A n) s at w) (next_b : (n s at w : ℕ) → B (suc n) s at w ≡ select_of f (B n) s at w) where
    stable : (n s i : ℕ) → IsDeep f n s i → (m k : ℕ) → n ≤ m → n ≤ k → Zip (SameAt i) (driven f s (A m)) (driven f s (B k))
    stable zero s i deep m k a b = by_lt (λ u. Zip (SameAt i) (driven f s (A m)) (driven f s (B k))) i (size_in f s)
        (λ l. bit_same (A m) (B k) s i l (λ t at w h o.
        let p = ltb-true 0 w (and_parts (nat_lt 0 w) (nat_le (at + w) (size_in f t)) h).0 in
        never_same (sym (o t at (in_span t at w at (omega arith) (omega arith))) ∙ deep t at)))
        (λ l. past_same (A m) (B k) s i l)
    stable (suc n) s i deep zero k a b = never 0 (omega arith)
    stable (suc n) s i deep (suc m) zero a b = never 0 (omega arith)
    stable (suc n) s i deep (suc m) (suc k) a b = by_lt (λ u. Zip (SameAt i) (driven f s (A (suc m))) (driven f s (B (suc k)))) i (size_in f s)
        (λ l. bit_same (A (suc m)) (B (suc k)) s i l (λ t at w h o.
        next_a m t at w ∙ select_same (A m) (B k) t at w (λ j c d. stable n t j (deep t j (o t j (in_span t at w j c d))) m k (omega arith) (omega arith)) ∙ sym (next_b k t at w)))
        (λ l. past_same (A (suc m)) (B (suc k)) s i l)

  module _ (free : IsLoopFree f) where
    -- selects unfolded so often
    abbrev unfolded : ℕ → Selects
    unfolded zero s at w = Const w 0
    unfolded (suc n) s at w = select_of f (unfolded n) s at w

    abbrev depth : ℕ
    depth = bit_count f sound.sized

    last_same : (A : ℕ → Selects) → ((n s at w : ℕ) → A (suc n) s at w ≡ select_of f (A n) s at w) → (m : ℕ) → depth ≤ m → (s at w : ℕ) → select_of f (A m) s at w ≡ select_of f (unfolded depth) s at w
    last_same A next m h s at w = select_same (A m) (unfolded depth) s at w
        (λ j c d. stable A unfolded next (λ n s at w. refl) depth s j (all_deep f sound.sized free s j) m depth h (omega arith))

    abbrev trees : Selects
    trees = unfolded (suc depth)

    are_trees : AreTrees f trees
    are_trees s at w = sym (last_same unfolded (λ n s at w. refl) (suc depth) (omega arith) s at w)

    one_tree : (other : Selects) → AreTrees f other → (s at w : ℕ) → other s at w ≡ trees s at w
    one_tree other are s at w = are s at w ∙ last_same (λ n. other) (λ n. are) depth (omega arith) s at w

pub trees_law : TreesLaw
trees_law f sound free = (trees f sound free, are_trees f sound free, one_tree f sound free)
