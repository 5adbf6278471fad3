-- The pieces of a sound design: as many on each bit as it has drivers, each inside its signal, one above the other.
use Rattle.std.proofs.Common.{◌≡◌, ℕ, ◌+◌, ◌<◌, ◌≤◌, Bool, true, false, cond, ◌&&◌, ◌||◌, ◌==◌, List, [], ◌∷◌, ◌++◌, refl, ap, ap₂, ◌∙◌, arith, lt-ltb, eqb-true}
use Rattle.std.specs.List.{AllByRecursion as Each}
use Rattle.cell_graph.specs.Tree.{Tree}
use Rattle.flat_meaning.specs.Flat.{Expr, Target, Whole, Part, Pick, Group, Targets, no_targets, target, Stmt, Null, Set, If, Case, Block, Items, no_items, default_item, item, Stmts, no_stmts, stmt, is_target, are_targets, assigns, case_assigns, all_assign}
use Rattle.flat_meaning.specs.Trees.{Selects, value_tree}
use Rattle.flat_meaning.specs.Assigned.{is_within, covers, cover, reaches, reach, may_assign, may_assign_in, any_may_assign}
use Rattle.flat_meaning.specs.Law.{wire_tree}
use Rattle.flat_meaning.specs.Pieces.{Piece, whole_piece, pieces, all_pieces, runs, comb_pieces, assigned_pieces, all_comb_pieces}
use Rattle.flat_meaning.specs.Design.{once, Flat, size_in, times_in, all_times_in, times_assigned, times_processed, drivers}
use Rattle.flat_meaning.specs.Sound.{IsSoundAssign, DrivesWires, AllDriveWires, IsSound}
use Rattle.flat_meaning.specs.SignalTrees.{pieces_of}
use Rattle.flat_meaning.proofs.Words.{by_lt}
use Rattle.std.proofs.lemmas.Bool.{or_parts}
use Rattle.flat_meaning.proofs.Placed.{times, times_both, all_both, IsIn, Ascend, ascend, none_past, each_of, runs_in, times_runs, runs_are_in}

-- ---- targets

module _ (wid : ℕ → ℕ) (x : ℕ) where
  mutual
    pub pieces_times : (t : Target) (tree : Tree) (i : ℕ) → times (pieces wid x t tree) i ≡ times_in wid x i t
    pieces_times (Whole s) tree i = go (x == s)
      where
        go : (u : Bool) → times (cond u (whole_piece 0 (wid s) tree ∷ []) []) i ≡ once (u && is_within 0 (wid s) i)
        go true = let e : once (is_within 0 (wid s) i) + 0 ≡ once (is_within 0 (wid s) i) = omega arith in e
        go false = refl
    pieces_times (Part s at w) tree i = go (x == s)
      where
        go : (u : Bool) → times (cond u (whole_piece at w tree ∷ []) []) i ≡ once (u && is_within at w i)
        go true = let e : once (is_within at w i) + 0 ≡ once (is_within at w i) = omega arith in e
        go false = refl
    pieces_times (Pick s e) tree i = refl
    pieces_times (Group gs) tree i = all_pieces_times gs tree i

    all_pieces_times : (gs : Targets) (tree : Tree) (i : ℕ) → times (all_pieces wid x gs tree) i ≡ all_times_in wid x i gs
    all_pieces_times no_targets tree i = refl
    all_pieces_times (target g gs) tree i = times_both (pieces wid x g _) (all_pieces wid x gs tree) i ∙ ap₂ (λ a b. a + b) (pieces_times g _ i) (all_pieces_times gs tree i)

  mutual
    pub not_covered : (t : Target) (i : ℕ) → covers wid t x i ≡ false → times_in wid x i t ≡ 0
    not_covered (Whole s) i h = ap once h
    not_covered (Part s at w) i h = ap once h
    not_covered (Pick s e) i h = refl
    not_covered (Group gs) i h = none_covered gs i h

    none_covered : (gs : Targets) (i : ℕ) → cover wid gs x i ≡ false → all_times_in wid x i gs ≡ 0
    none_covered no_targets i h = refl
    none_covered (target g gs) i h = let k = or_parts (covers wid g x i) (cover wid gs x i) h in ap₂ (λ a b. a + b) (not_covered g i k.0) (none_covered gs i k.1)

  -- what isn't a target isn't reached
  mutual
    not_reached : (t : Target) (i : ℕ) → is_target t x ≡ false → reaches wid t x i ≡ false
    not_reached (Whole s) i h = ap (λ u. u && is_within 0 (wid s) i) h
    not_reached (Part s at w) i h = ap (λ u. u && is_within at w i) h
    not_reached (Pick s e) i h = ap (λ u. u && is_within 0 (wid s) i) h
    not_reached (Group gs) i h = none_reached gs i h

    none_reached : (gs : Targets) (i : ℕ) → are_targets gs x ≡ false → reach wid gs x i ≡ false
    none_reached no_targets i h = refl
    none_reached (target g gs) i h = let k = or_parts (is_target g x) (are_targets gs x) h in ap₂ (λ a b. a || b) (not_reached g i k.0) (none_reached gs i k.1)

  mutual
    pub not_assigned : (s : Stmt) (i : ℕ) → assigns s x ≡ false → may_assign wid s x i ≡ false
    not_assigned Null i h = refl
    not_assigned (Set b t e) i h = not_reached t i h
    not_assigned (If c y z) i h = let k = or_parts (assigns y x) (assigns z x) h in ap₂ (λ a b. a || b) (not_assigned y i k.0) (not_assigned z i k.1)
    not_assigned (Case e is) i h = none_assigned_in is i h
    not_assigned (Block ss) i h = none_assigned ss i h

    none_assigned_in : (is : Items) (i : ℕ) → case_assigns is x ≡ false → may_assign_in wid is x i ≡ false
    none_assigned_in no_items i h = refl
    none_assigned_in (default_item body) i h = not_assigned body i h
    none_assigned_in (item ls body rest) i h = let k = or_parts (assigns body x) (case_assigns rest x) h in ap₂ (λ a b. a || b) (not_assigned body i k.0) (none_assigned_in rest i k.1)

    none_assigned : (ss : Stmts) (i : ℕ) → all_assign ss x ≡ false → any_may_assign wid ss x i ≡ false
    none_assigned no_stmts i h = refl
    none_assigned (stmt s ss) i h = let k = or_parts (assigns s x) (all_assign ss x) h in ap₂ (λ a b. a || b) (not_assigned s i k.0) (none_assigned ss i k.1)

-- ---- designs

module _ (f : Flat) (x : ℕ) where
  mutual
    target_in : (t : Target) (tree : Tree) → DrivesWires f t → Each (IsIn (size_in f x)) (pieces (size_in f) x t tree)
    target_in (Whole s) tree h = go (x == s) refl
      where
        go : (u : Bool) → (x == s) ≡ u → Each (IsIn (size_in f x)) (cond u (whole_piece 0 (size_in f s) tree ∷ []) [])
        go true e = let z = ap (size_in f) (eqb-true x s e) in (record { some = h.1; room = omega arith }, tt)
        go false e = tt
    target_in (Part s at w) tree h = go (x == s) refl
      where
        go : (u : Bool) → (x == s) ≡ u → Each (IsIn (size_in f x)) (cond u (whole_piece at w tree ∷ []) [])
        go true e = let z = ap (size_in f) (eqb-true x s e) in let k = h.2 in (record { some = h.1; room = omega arith }, tt)
        go false e = tt
    target_in (Pick s e) tree h = tt
    target_in (Group gs) tree h = targets_in gs tree h

    targets_in : (gs : Targets) (tree : Tree) → AllDriveWires f gs → Each (IsIn (size_in f x)) (all_pieces (size_in f) x gs tree)
    targets_in no_targets tree h = tt
    targets_in (target g gs) tree h = all_both (IsIn (size_in f x)) (pieces (size_in f) x g _) (all_pieces (size_in f) x gs tree) (target_in g _ h.0) (targets_in gs tree h.1)

  module _ (sel : Selects) where
    assigned_in : (as_ : List (Target × Expr)) → Each (IsSoundAssign f) as_ → Each (IsIn (size_in f x)) (assigned_pieces (size_in f) sel x as_)
    assigned_in [] h = tt
    assigned_in (a ∷ as_) h = all_both (IsIn (size_in f x)) (pieces (size_in f) x a.0 (value_tree (size_in f) sel a.0 a.1)) (assigned_pieces (size_in f) sel x as_) (target_in a.0 _ h.0.1) (assigned_in as_ h.1)

    pub comb_in : (body : Stmt) → Each (IsIn (size_in f x)) (comb_pieces (size_in f) sel x body)
    comb_in body = runs_are_in (size_in f x) (wire_tree (size_in f) sel body x) (size_in f x) (runs (may_assign (size_in f) body x) (size_in f x) []) (runs_in (size_in f x) (may_assign (size_in f) body x) (size_in f x) [] (omega arith) tt)

    combs_in : (bs : List Stmt) → Each (IsIn (size_in f x)) (all_comb_pieces (size_in f) sel x bs)
    combs_in [] = tt
    combs_in (b ∷ bs) = all_both (IsIn (size_in f x)) (comb_pieces (size_in f) sel x b) (all_comb_pieces (size_in f) sel x bs) (comb_in b) (combs_in bs)

    assigned_times : (as_ : List (Target × Expr)) (i : ℕ) → times (assigned_pieces (size_in f) sel x as_) i ≡ times_assigned (size_in f) x i as_
    assigned_times [] i = refl
    assigned_times (a ∷ as_) i = times_both (pieces (size_in f) x a.0 _) (assigned_pieces (size_in f) sel x as_) i ∙ ap₂ (λ p q. p + q) (pieces_times (size_in f) x a.0 _ i) (assigned_times as_ i)

    pub comb_times : (body : Stmt) (i : ℕ) → i < size_in f x → times (comb_pieces (size_in f) sel x body) i ≡ once (may_assign (size_in f) body x i)
    comb_times body i h =
        let e = times_runs (size_in f x) (wire_tree (size_in f) sel body x) (may_assign (size_in f) body x) (size_in f x) [] i in
        let k = ap (λ u. once (u && may_assign (size_in f) body x i)) (lt-ltb i (size_in f x) h) in omega arith

    combs_times : (bs : List Stmt) (i : ℕ) → i < size_in f x → times (all_comb_pieces (size_in f) sel x bs) i ≡ times_processed (size_in f) x i bs
    combs_times [] i h = refl
    combs_times (b ∷ bs) i h = times_both (comb_pieces (size_in f) sel x b) (all_comb_pieces (size_in f) sel x bs) i ∙ ap₂ (λ p q. p + q) (comb_times b i h) (combs_times bs i h)

    -- a signal's pieces, driver by driver
    abbrev pub driven : List Piece
    driven = assigned_pieces (size_in f) sel x f.assigns ++ all_comb_pieces (size_in f) sel x f.combs

    pub driven_times : (i : ℕ) → i < size_in f x → times driven i ≡ drivers f x i
    driven_times i h = times_both (assigned_pieces (size_in f) sel x f.assigns) (all_comb_pieces (size_in f) sel x f.combs) i ∙ ap₂ (λ p q. p + q) (assigned_times f.assigns i) (combs_times f.combs i h)

    module _ (sound : IsSound f) where
      pub driven_in : Each (IsIn (size_in f x)) driven
      driven_in = all_both (IsIn (size_in f x)) (assigned_pieces (size_in f) sel x f.assigns) (all_comb_pieces (size_in f) sel x f.combs) (assigned_in f.assigns (each_of _ f.assigns sound.assigned)) (combs_in f.combs)

      pub driven_once : (i : ℕ) → times driven i ≤ 1
      driven_once i = by_lt (λ u. times driven i ≤ 1) i (size_in f x)
          (λ l. let e = driven_times i l in let k = sound.one_driver x i l in omega arith)
          (λ l. let e = none_past (size_in f x) driven i driven_in l in omega arith)

      pub pieces_ascend : Ascend 0 (pieces_of f sel x) (size_in f x)
      pieces_ascend = ascend (size_in f x) driven driven_in driven_once
