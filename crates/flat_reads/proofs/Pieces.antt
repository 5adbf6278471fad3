-- The pieces of a design's wires read what the segments of their bits are made of.
use Rattle.std.proofs.Common.{◌≡◌, ℕ, ◌+◌, ◌<◌, ◌≤◌, Bool, true, false, cond, ◌&&◌, ◌||◌, ◌==◌, List, [], ◌∷◌, ◌++◌, refl, sym, ap, ap₂, ◌∙◌, arith, eqb-true}
use Rattle.std.specs.List.{Contains, AllByRecursion as Each}
use Rattle.std.proofs.lemmas.List.Elements.{All-contains_itself}
use Rattle.cell_graph.specs.Tree.{Tree}
use Rattle.flat_meaning.specs.Flat.{Expr, Target, Whole, Part, Pick, Group, Targets, no_targets, target, Stmt, target_size, target_sizes, value_size, assigns}
use Rattle.flat_meaning.specs.Trees.{value_tree}
use Rattle.flat_meaning.specs.Assigned.{is_within, covers, cover, may_assign}
use Rattle.flat_meaning.specs.Deps.{Bits, wire_deps}
use Rattle.flat_meaning.specs.Law.{expr_reads, wire_tree}
use Rattle.flat_meaning.specs.Pieces.{Piece, whole_piece, pieces, all_pieces, Run, runs, run_pieces, comb_pieces, assigned_pieces, all_comb_pieces}
use Rattle.flat_meaning.specs.Design.{once, Flat, size_in, is_variable, times_in, all_times_in, times_assigned, times_processed, drivers}
use Rattle.flat_meaning.specs.SignalTrees.{pieces_of}
use Rattle.flat_meaning.specs.Sound.{inside, DrivesWires, AllDriveWires, IsSoundAssign, IsSoundComb, IsSound}
use Rattle.flat_meaning.specs.Segments.{made_of, made_by_assigns, made_by_combs}
use Rattle.flat_meaning.proofs.Words.{never, never_same, by_lt}
use Rattle.flat_meaning.proofs.Depth.{by_bool}
use Rattle.flat_meaning.proofs.Placed.{IsIn, within, times, times_both, times_in_order, all_in_order, all_both, each_map, each_of, of_each, each_and, each_swap, each_hits, some_piece, none_within, none_past}
use Rattle.flat_meaning.proofs.Drivers.{pieces_times, not_covered, not_assigned, comb_times, driven, driven_in, driven_once, driven_times}
use Rattle.flat_reads.specs.Marks.{marked, marks}
use Rattle.flat_reads.specs.Filled.{IsFilled, IsStmtFilled, IsDesignFilled}
use Rattle.flat_reads.specs.Laws.{has_bit, DesignReads}
use Rattle.flat_reads.proofs.Cells.{or_none, Reads, slice_reads, cut_reads}
use Rattle.flat_reads.proofs.Laws.{expression_marks, process_marks}

not_once : (u : Bool) → once u ≡ 0 → u ≡ false
not_once true h = never 0 (sym h)
not_once false h = refl

-- one bit of one signal, and one that its segment may be made of
module _ (wid : ℕ → ℕ) (x i t j : ℕ) where
  -- each piece with the bit reads what b says, and without such a piece b is false
  record Give (ps : List Piece) (b : Bool) : Type 0 where
    each : Each (λ p. has_bit p i ≡ true → marks p.tree t j ≡ b) ps
    none : times ps i ≡ 0 → b ≡ false

  -- a piece with the bit is counted
  counted : {P Q : Piece → Type 0} (ps : List Piece) → ((p : Piece) → P p → has_bit p i ≡ true → 1 ≤ times ps i → Q p) → Each P ps → Each (λ p. has_bit p i ≡ true → Q p) ps
  counted {P} ps h all = each_map (λ p q e. let z = ap once e in let l = q.0 in h p q.1 e (omega arith)) ps (each_and (λ p. once (has_bit p i) ≤ times ps i) P ps (each_hits ps i) all)

  both_give : (ps qs : List Piece) (b c : Bool) → times (ps ++ qs) i ≤ 1 → Give ps b → Give qs c → Give (ps ++ qs) (b || c)
  both_give ps qs b c one h k =
      let sum = times_both ps qs i in record {
        each = all_both (λ p. has_bit p i ≡ true → marks p.tree t j ≡ (b || c)) ps qs
            (counted ps (λ p r e l. r e ∙ sym (ap (λ y. b || y) (k.none (omega arith)) ∙ or_none b)) h.each)
            (counted qs (λ p r e l. r e ∙ sym (ap (λ y. y || c) (h.none (omega arith)))) k.each);
        none = λ e. ap₂ (λ y z. y || z) (h.none (omega arith)) (k.none (omega arith));
      }

  -- ---- assignments

  mutual
    uncovered : (g : Target) → times_in wid x i g ≡ 0 → covers wid g x i ≡ false
    uncovered (Whole s) h = not_once _ h
    uncovered (Part s at w) h = not_once _ h
    uncovered (Pick s e) h = refl
    uncovered (Group gs) h = all_uncovered gs h

    all_uncovered : (gs : Targets) → all_times_in wid x i gs ≡ 0 → cover wid gs x i ≡ false
    all_uncovered no_targets h = refl
    all_uncovered (target g gs) h = ap₂ (λ y z. y || z) (uncovered g (omega arith)) (all_uncovered gs (omega arith))

  -- each part of a target reads what the whole value does
  mutual
    parts_read : (g : Target) (v : Tree) (b : Bits) → Reads v b → Each (λ p. Reads p.tree b) (pieces wid x g v)
    parts_read (Whole s) v b h = go (x == s)
      where
        go : (u : Bool) → Each (λ p. Reads p.tree b) (cond u (whole_piece 0 (wid s) v ∷ []) [])
        go true = (h, tt)
        go false = tt
    parts_read (Part s at w) v b h = go (x == s)
      where
        go : (u : Bool) → Each (λ p. Reads p.tree b) (cond u (whole_piece at w v ∷ []) [])
        go true = (h, tt)
        go false = tt
    parts_read (Pick s e) v b h = tt
    parts_read (Group gs) v b h = all_parts_read gs v b h

    all_parts_read : (gs : Targets) (v : Tree) (b : Bits) → Reads v b → Each (λ p. Reads p.tree b) (all_pieces wid x gs v)
    all_parts_read no_targets v b h = tt
    all_parts_read (target g gs) v b h = all_both (λ p. Reads p.tree b) (pieces wid x g _) (all_pieces wid x gs v)
        (parts_read g _ b (slice_reads h (target_sizes wid gs) (target_size wid g))) (all_parts_read gs v b h)

  assign_gives : (g : Target) (v : Tree) (b : Bits) → Reads v b → Give (pieces wid x g v) (covers wid g x i && b t j)
  assign_gives g v b h =
      let count = pieces_times wid x g v i in record {
        each = counted (pieces wid x g v) (λ p r e l. by_bool (covers wid g x i)
            (λ c. r.same t j ∙ sym (ap (λ y. y && b t j) c))
            (λ c. let z = not_covered wid x g i c in never 0 (omega arith))) (parts_read g v b h);
        none = λ e. ap (λ y. y && b t j) (uncovered g (sym count ∙ e));
      }

  -- ---- processes

  runs_read : (n : ℕ) (v : Tree) (b : Bits) → Reads v b → (rs : List Run) → Each (λ p. Reads p.tree b) (run_pieces n v rs)
  runs_read n v b h [] = tt
  runs_read n v b h (r ∷ rs) = (h, runs_read n v b h rs)

module _ (f : Flat) (x i t j : ℕ) where
  abbrev Gives : List Piece → Bool → Type 0
  Gives = Give (size_in f) x i t j

  comb_gives : (body : Stmt) → IsSoundComb f body → IsStmtFilled body → i < size_in f x
      → Gives (comb_pieces (size_in f) marked x body) (may_assign (size_in f) body x i && wire_deps (size_in f) body x t j)
  comb_gives body sound filled l =
      let count = comb_times f x marked body i l in
      let reads = process_marks (size_in f) (inside f) body sound.fits filled x in record {
        each = counted (size_in f) x i t j (comb_pieces (size_in f) marked x body) (λ p r e k. by_bool (may_assign (size_in f) body x i)
            (λ c. r.same t j ∙ sym (ap (λ y. y && wire_deps (size_in f) body x t j) c))
            (λ c. let z = ap once c in never 0 (omega arith)))
            (runs_read (size_in f) x i t j (size_in f x) (wire_tree (size_in f) marked body x) (wire_deps (size_in f) body x) reads (runs (may_assign (size_in f) body x) (size_in f x) []));
        none = λ e. ap (λ y. y && wire_deps (size_in f) body x t j) (not_once _ (sym count ∙ e));
      }

  assigns_give : (as_ : List (Target × Expr)) → Each (IsSoundAssign f) as_ → Each (λ a. IsFilled a.1) as_ → times (assigned_pieces (size_in f) marked x as_) i ≤ 1
      → Gives (assigned_pieces (size_in f) marked x as_) (made_by_assigns (size_in f) as_ x i t j)
  assigns_give [] h k one = record { each = tt; none = λ e. refl }
  assigns_give (a ∷ as_) h k one =
      let sum = times_both (pieces (size_in f) x a.0 (value_tree (size_in f) marked a.0 a.1)) (assigned_pieces (size_in f) marked x as_) i in
      let n = value_size (size_in f) a.0 a.1 in
      both_give (size_in f) x i t j (pieces (size_in f) x a.0 _) (assigned_pieces (size_in f) marked x as_) _ _ one
      (assign_gives (size_in f) x i t j a.0 _ (expr_reads (size_in f) a.1) (cut_reads (expression_marks (size_in f) (inside f) a.1 h.0.0 k.0 n) n 0 (target_size (size_in f) a.0)))
      (assigns_give as_ h.1 k.1 (omega arith))

  combs_give : i < size_in f x → (bs : List Stmt) → Each (IsSoundComb f) bs → Each IsStmtFilled bs → times (all_comb_pieces (size_in f) marked x bs) i ≤ 1
      → Gives (all_comb_pieces (size_in f) marked x bs) (made_by_combs (size_in f) bs x i t j)
  combs_give l [] h k one = record { each = tt; none = λ e. refl }
  combs_give l (b ∷ bs) h k one =
      let sum = times_both (comb_pieces (size_in f) marked x b) (all_comb_pieces (size_in f) marked x bs) i in
      both_give (size_in f) x i t j (comb_pieces (size_in f) marked x b) (all_comb_pieces (size_in f) marked x bs) _ _ one (comb_gives b h.0 k.0 l) (combs_give l bs h.1 k.1 (omega arith))

  module _ (sound : IsSound f) (filled : IsDesignFilled f) where
    driven_give : i < size_in f x → Gives (driven f x marked) (made_by_assigns (size_in f) f.assigns x i t j || made_by_combs (size_in f) f.combs x i t j)
    driven_give l =
        let one = driven_once f x marked sound i in
        let sum = times_both (assigned_pieces (size_in f) marked x f.assigns) (all_comb_pieces (size_in f) marked x f.combs) i in
        both_give (size_in f) x i t j (assigned_pieces (size_in f) marked x f.assigns) (all_comb_pieces (size_in f) marked x f.combs) _ _ one
        (assigns_give f.assigns (each_of _ f.assigns sound.assigned) (each_of _ f.assigns filled.assigned) (omega arith))
        (combs_give l f.combs (each_of _ f.combs sound.processed) (each_of _ f.combs filled.processed) (omega arith))

    design_gives : Gives (driven f x marked) (made_of f x i t j)
    design_gives = by_lt (λ u. Gives (driven f x marked) (u && (made_by_assigns (size_in f) f.assigns x i t j || made_by_combs (size_in f) f.combs x i t j))) i (size_in f x)
        driven_give
        (λ l. record {
          each = each_map (λ p e k. never_same (sym k ∙ e)) (driven f x marked) (none_within (driven f x marked) i (none_past (size_in f x) (driven f x marked) i (driven_in f x marked sound) l));
          none = λ e. refl;
        })

    placed_give : Gives (pieces_of f marked x) (made_of f x i t j)
    placed_give = record {
      each = all_in_order (λ p. has_bit p i ≡ true → marks p.tree t j ≡ made_of f x i t j) (driven f x marked) design_gives.each;
      none = λ e. design_gives.none (sym (times_in_order (driven f x marked) i) ∙ e);
    }

-- ---- wires

module _ (f : Flat) (x : ℕ) (variable : is_variable f x ≡ true) (i : ℕ) where
  -- what drives wires drives no variable
  mutual
    none_in : (g : Target) → DrivesWires f g → times_in (size_in f) x i g ≡ 0
    none_in (Whole s) h = by_bool (x == s) (λ e. never_same (sym variable ∙ ap (is_variable f) (eqb-true x s e) ∙ h.0)) (λ e. ap (λ u. once (u && is_within 0 (size_in f s) i)) e)
    none_in (Part s at w) h = by_bool (x == s) (λ e. never_same (sym variable ∙ ap (is_variable f) (eqb-true x s e) ∙ h.0)) (λ e. ap (λ u. once (u && is_within at w i)) e)
    none_in (Pick s e) h = refl
    none_in (Group gs) h = none_in_all gs h

    none_in_all : (gs : Targets) → AllDriveWires f gs → all_times_in (size_in f) x i gs ≡ 0
    none_in_all no_targets h = refl
    none_in_all (target g gs) h = ap₂ (λ a b. a + b) (none_in g h.0) (none_in_all gs h.1)

  none_assigned : (as_ : List (Target × Expr)) → Each (IsSoundAssign f) as_ → times_assigned (size_in f) x i as_ ≡ 0
  none_assigned [] h = refl
  none_assigned (a ∷ as_) h = ap₂ (λ a b. a + b) (none_in a.0 h.0.1) (none_assigned as_ h.1)

  none_processed : (bs : List Stmt) → Each (IsSoundComb f) bs → times_processed (size_in f) x i bs ≡ 0
  none_processed [] h = refl
  none_processed (b ∷ bs) h = ap₂ (λ a b. a + b)
      (by_bool (assigns b x) (λ e. never_same (sym variable ∙ h.0.wires x e)) (λ e. ap once (not_assigned (size_in f) x b i e))) (none_processed bs h.1)

  undriven : IsSound f → drivers f x i ≡ 0
  undriven sound = ap₂ (λ a b. a + b) (none_assigned f.assigns (each_of _ f.assigns sound.assigned)) (none_processed f.combs (each_of _ f.combs sound.processed))

module _ (f : Flat) (sound : IsSound f) (x : ℕ) where
  abbrev IsOfWire : Piece → Type 0
  IsOfWire p = (is_variable f x ≡ false) × (1 ≤ p.bits) × (p.at + p.bits ≤ size_in f x)

  of_wire : Each IsOfWire (driven f x marked)
  of_wire = each_map (λ p h. (wire p h.0 h.1, h.0.some, h.0.room)) (driven f x marked)
      (each_and (IsIn (size_in f x)) (λ p. (i : ℕ) → once (has_bit p i) ≤ times (driven f x marked) i) (driven f x marked) (driven_in f x marked sound)
      (each_swap (λ i p. once (has_bit p i) ≤ times (driven f x marked) i) (driven f x marked) (λ i. each_hits (driven f x marked) i)))
    where
      wire : (p : Piece) → IsIn (size_in f x) p → ((i : ℕ) → once (has_bit p i) ≤ times (driven f x marked) i) → is_variable f x ≡ false
      wire p room hits = by_bool (is_variable f x)
          (λ e. let some = room.some in let end = room.room in
          let a = undriven f x e p.at sound in let b = driven_times f x marked p.at (omega arith) in let c = hits p.at in
          let d = ap once (within p.at p.bits p.at (omega arith) (omega arith)) in never 0 (omega arith))
          (λ e. e)

pub design_reads : DesignReads
design_reads f sound filled x = record {
  of_wire = of_each (IsOfWire f sound x) (pieces_of f marked x) (all_in_order (IsOfWire f sound x) (driven f x marked) (of_wire f sound x));
  each = of_each (λ p. (i t j : ℕ) → has_bit p i ≡ true → marks p.tree t j ≡ made_of f x i t j) (pieces_of f marked x)
      (each_swap (λ i p. (t j : ℕ) → has_bit p i ≡ true → marks p.tree t j ≡ made_of f x i t j) (pieces_of f marked x)
      (λ i. each_swap (λ t p. (j : ℕ) → has_bit p i ≡ true → marks p.tree t j ≡ made_of f x i t j) (pieces_of f marked x)
      (λ t. each_swap (λ j p. has_bit p i ≡ true → marks p.tree t j ≡ made_of f x i t j) (pieces_of f marked x)
      (λ j. (placed_give f x i t j sound filled).each))));
  some = λ i t j h. by_lt (λ u. (p : Piece) × Contains (pieces_of f marked x) p × (has_bit p i ≡ true)) 0 (times (pieces_of f marked x) i)
      (some_piece (pieces_of f marked x) i
      (each_map (λ p c e. (p, c, e)) (pieces_of f marked x) (each_of (Contains (pieces_of f marked x)) (pieces_of f marked x) (All-contains_itself (pieces_of f marked x)))))
      (λ l. never_same (sym h ∙ (placed_give f x i t j sound filled).none (omega arith)));
}
