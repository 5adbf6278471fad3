-- The law of elaboration.
use Rattle.std.proofs.Common.{◌≡◌, ℕ, zero, suc, ◌+◌, ◌-◌, ◌<◌, ◌≤◌, Bool, true, false, cond, ◌&&◌, List, [], ◌∷◌, refl, sym, ap, ap₂, subst, ◌∙◌, arith, lt-ltb, le-leb}
use Rattle.std.specs.List.{AllByRecursion as Each}
use Rattle.cell_graph.specs.Reading.{Reading}
use Rattle.cell_graph.specs.Tree.{Tree, Var, width, bit}
use Rattle.flat_meaning.specs.Values.{Words}
use Rattle.flat_meaning.specs.Flat.{Expr, Target, Stmt, assigns}
use Rattle.flat_meaning.specs.Meaning.{run_clocked}
use Rattle.flat_meaning.specs.Trees.{Selects, value_tree}
use Rattle.flat_meaning.specs.Assigned.{is_within, may_assign}
use Rattle.flat_meaning.specs.Law.{Shows, every, next_tree}
use Rattle.flat_meaning.specs.Pieces.{pieces, comb_pieces, assigned_pieces, all_comb_pieces, Run, runs, run_pieces, IsRight}
use Rattle.flat_meaning.specs.Design.{HoldsValue, IsKept, once, Flat, size_in, is_variable, Pin, given, bit_of, drivers, Consistent, next_in}
use Rattle.flat_meaning.specs.Sound.{IsSoundAssign, inside, IsSoundComb, IsSoundClocked, IsSound}
use Rattle.flat_meaning.specs.SignalTrees.{AreTrees, tree_of, sharing, giver, given_tree, next_tree_by, next_tree_in}
use Rattle.flat_meaning.specs.Segments.{IsLoopFree}
use Rattle.flat_meaning.specs.Elaboration.{LawOfElaboration}
use Rattle.flat_meaning.proofs.Words.{IsWord, as_word, never, never_same}
use Rattle.flat_meaning.proofs.Law.{clocked_law, comb_law}
use Rattle.flat_meaning.proofs.Depth.{by_bool, all_deep}
use Rattle.flat_meaning.proofs.Placed.{each_of, of_each, each_map, each_and, each_left, each_right, each_hits, each_swap, some_piece, within, from_within}
use Rattle.flat_meaning.proofs.Drivers.{driven, driven_times, driven_once, comb_in, comb_times, not_assigned}
use Rattle.flat_meaning.proofs.Selects.{RightAt, select_word, value_word, AssignGives, CombGives, finished, right}
use Rattle.flat_meaning.proofs.Shared.{joined_word, bit_by, by_sharing, bit_by_one, giver_bit}
use Rattle.flat_meaning.proofs.Held.{pieces_right, held_bits, HasBits, piece_bit, no_bit, have_bits, run_keeps}

-- a run's piece is a part of the whole tree at its own place
run_forms : (n : ℕ) (t : Tree) (rs : List Run) → Each (λ p. (p.tree ≡ t) × (p.size ≡ n) × (p.inside ≡ p.at)) (run_pieces n t rs)
run_forms n t [] = tt
run_forms n t (r ∷ rs) = ((refl, refl, refl), run_forms n t rs)

module _ (f : Flat) (sel : Selects) (g : Reading) (v : Words) where
  -- a process's pieces are right where they have the values' bits and the finished tree its width
  run_right : (body : Stmt) (x : ℕ) → width (finished f sel g v body x) ≡ size_in f x → Each (HasBits g (v x)) (comb_pieces (size_in f) sel x body) → Each (IsRight g (v x)) (comb_pieces (size_in f) sel x body)
  run_right body x wide h =
      let forms = run_forms (size_in f x) (finished f sel g v body x) (runs (may_assign (size_in f) body x) (size_in f x) []) in
      each_map (λ p k. let form = k.0.0 in let room = k.0.1.room in record {
        wide = ap width form.0 ∙ wide ∙ sym form.1;
        room = (let y = form.2 in let z = form.1 in omega arith);
        same = k.1;
      }) (comb_pieces (size_in f) sel x body)
      (each_and _ _ (comb_pieces (size_in f) sel x body) (each_and _ _ (comb_pieces (size_in f) sel x body) forms (comb_in f x sel body)) h)

  -- each piece of a process lies where the process may assign
  run_bits : (body : Stmt) (x : ℕ) → ((i : ℕ) → i < size_in f x → may_assign (size_in f) body x i ≡ true → bit g (finished f sel g v body x) i ≡ v x i)
      → Each (HasBits g (v x)) (comb_pieces (size_in f) sel x body)
  run_bits body x h =
      let forms = run_forms (size_in f x) (finished f sel g v body x) (runs (may_assign (size_in f) body x) (size_in f x) []) in
      each_map (λ p k i l. let form = k.0.0 in let room = k.0.1.room in
      ap₂ (bit g) form.0 (ap (λ y. y + i) form.2) ∙ h (p.at + i) (omega arith) (k.1 (p.at + i) (omega arith) (within p.at p.bits (p.at + i) (omega arith) (omega arith))))
      (comb_pieces (size_in f) sel x body)
      (each_and _ _ (comb_pieces (size_in f) sel x body) (each_and _ _ (comb_pieces (size_in f) sel x body) forms (comb_in f x sel body))
      (each_swap (λ i p. i < size_in f x → is_within p.at p.bits i ≡ true → may_assign (size_in f) body x i ≡ true) (comb_pieces (size_in f) sel x body) reached))
    where
      reached : (i : ℕ) → Each (λ p. i < size_in f x → is_within p.at p.bits i ≡ true → may_assign (size_in f) body x i ≡ true) (comb_pieces (size_in f) sel x body)
      reached i = each_map (λ p k l e. let n = comb_times f x sel body i l in let m = ap once e in
          by_bool (may_assign (size_in f) body x i) (λ z. z) (λ z. let y = ap once z in never 0 (omega arith))) (comb_pieces (size_in f) sel x body) (each_hits (comb_pieces (size_in f) sel x body) i)

-- ---- consistent values are those of the trees

module _ (f : Flat) (sound : IsSound f) (free : IsLoopFree f) (sel : Selects) (are : AreTrees f sel) (pins : ℕ → Pin) (r : Reading) where
  module _ (v : Words) (c : Consistent f pins r v) where
    assigns_hold : Each (AssignGives f sel (given f pins r) v) f.assigns
    assigns_hold = each_map {Q = AssignGives f sel (given f pins r) v} (λ a (same : HoldsValue f v a) p x wire. pieces_right (given f pins r) v (size_in f) x a.0 _ _ p same) f.assigns (each_of _ f.assigns c.assigned)

    processes_hold : Each (CombGives f sel (given f pins r) v) f.combs
    processes_hold = each_map {Q = CombGives f sel (given f pins r) v} (λ body (same : IsKept f v body) x local wide h.
        run_right f sel (given f pins r) v body x wide (run_bits f sel (given f pins r) v body x (λ i l m. h i l m ∙ same x i l))) f.combs (each_of _ f.combs c.processed)

    consistent_right : (s i : ℕ) → RightAt f sound sel are (given f pins r) v c.variables c.undriven s i
    consistent_right s i = right f sound sel are (given f pins r) v c.variables c.undriven assigns_hold processes_hold _ s i (all_deep f sound.sized free s i)

    tree_word : (s at w : ℕ) → inside f s at w ≡ true → IsWord (given f pins r) (sel s at w) w (λ i. v s (at + i))
    tree_word s at w h = select_word f sound sel are (given f pins r) v c.variables c.undriven s at w h (λ j l m. consistent_right s j)

    shows_all : Shows (given f pins r) v (inside f) every sel
    shows_all s at w h k = let p = tree_word s at w h in (p.wide, p.bits)

    whole_word : (s : ℕ) → 1 ≤ size_in f s → IsWord (given f pins r) (tree_of f sel s) (size_in f s) (v s)
    whole_word s h = as_word (given f pins r) (tree_word s 0 (size_in f s) (ap₂ (λ x y. x && y) (lt-ltb 0 (size_in f s) (omega arith)) (le-leb (0 + size_in f s) (size_in f s) (omega arith))))
        (λ i l. ap (v s) (let z : 0 + i ≡ i = omega arith in z))

    -- the word that a clocked process gives a register
    process_word : (body : Stmt) → IsSoundClocked f body → (s : ℕ) → assigns body s ≡ true → IsWord (given f pins r) (next_tree (size_in f) sel body s) (size_in f s) (run_clocked (size_in f) body v s)
    process_word body h s z =
        let q = clocked_law (given f pins r) v (size_in f) (inside f) sel sound.sized shows_all body h.fits (λ x i local l. sym (c.variables x i l (h.registers x local))) s z in
        record { wide = q.0; bits = q.1 }

    own_word : (s : ℕ) → is_variable f s ≡ true → IsWord (given f pins r) (Var s (size_in f s)) (size_in f s) (v s)
    own_word s e = record { wide = refl; bits = λ i l. sym (c.variables s i l e) }

    -- a process that assigns the register
    abbrev Gives : ℕ → Stmt → Type 0
    Gives s body = IsSoundClocked f body × (assigns body s ≡ true)

    sharing_sound : (ps : List (ℕ × Stmt)) → Each (λ p. IsSoundClocked f p.1) ps → (s : ℕ) → Each (Gives s) (sharing ps s)
    sharing_sound [] h s = tt
    sharing_sound (p ∷ ps) h s = by_bool (assigns p.1 s)
        (λ e. subst (λ (b : Bool). Each (Gives s) (cond b (p.1 ∷ sharing ps s) (sharing ps s))) (sym e) ((h.0, e), sharing_sound ps h.1 s))
        (λ e. subst (λ (b : Bool). Each (Gives s) (cond b (p.1 ∷ sharing ps s) (sharing ps s))) (sym e) (sharing_sound ps h.1 s))

    -- each numbered tree is a word of the register's size
    given_word : (bodies : List Stmt) (s : ℕ) → is_variable f s ≡ true → Each (Gives s) bodies → (k : ℕ)
        → IsWord (given f pins r) (given_tree (size_in f) sel bodies s k) (size_in f s) (λ i. bit (given f pins r) (given_tree (size_in f) sel bodies s k) i)
    given_word [] s e h k = record { wide = refl; bits = λ i l. refl }
    given_word (body ∷ bodies) s e h zero = record { wide = (process_word body h.0.0 s h.0.1).wide; bits = λ i l. refl }
    given_word (body ∷ bodies) s e h (suc k) = given_word bodies s e h.1 k

    next_by_word : (bodies : List Stmt) (s : ℕ) → is_variable f s ≡ true → Each (Gives s) bodies
        → IsWord (given f pins r) (next_tree_by (size_in f) sel bodies s) (size_in f s) (bit_by (size_in f) v s bodies)
    next_by_word [] s e h = own_word s e
    next_by_word (body ∷ []) s e h = as_word (given f pins r) (process_word body h.0.0 s h.0.1) (λ i l. bit_by_one (size_in f) v s body i l)
    next_by_word (body ∷ other ∷ bodies) s e h =
        let all = body ∷ other ∷ bodies in
        joined_word (given f pins r) (size_in f s) (sound.sized s) (given_tree (size_in f) sel all s) (giver (size_in f) all s) (bit_by (size_in f) v s all) (given_word all s e h)
        (λ i l. giver_bit (size_in f) v s (given f pins r) sel all i l ((own_word s e).bits i l) (each_map (λ b k. (process_word b k.0 s k.1).bits i l) all h))

    next_word : (ps : List (ℕ × Stmt)) → Each (λ p. IsSoundClocked f p.1) ps → (s : ℕ) → is_variable f s ≡ true
        → IsWord (given f pins r) (next_tree_in (size_in f) sel ps s) (size_in f s) (next_in (size_in f) ps v s)
    next_word ps h s e = as_word (given f pins r) (next_by_word (sharing ps s) s e (sharing_sound ps h s)) (λ i l. by_sharing (size_in f) v s ps i)

  -- ---- and the bits of the trees are consistent

  abbrev tree_bits : Words
  tree_bits s i = cond (is_variable f s) (given f pins r (bit_of s i)) (piece_bit (given f pins r) (driven f s sel) i)

  are_inputs : (s i : ℕ) → i < size_in f s → is_variable f s ≡ true → tree_bits s i ≡ given f pins r (bit_of s i)
  are_inputs s i l e = ap (λ u. cond u (given f pins r (bit_of s i)) (piece_bit (given f pins r) (driven f s sel) i)) e

  are_pieces : (s i : ℕ) → is_variable f s ≡ false → tree_bits s i ≡ piece_bit (given f pins r) (driven f s sel) i
  are_pieces s i e = ap (λ u. cond u (given f pins r (bit_of s i)) (piece_bit (given f pins r) (driven f s sel) i)) e

  are_zero : (s i : ℕ) → i < size_in f s → is_variable f s ≡ false → drivers f s i ≡ 0 → tree_bits s i ≡ false
  are_zero s i l e z = are_pieces s i e ∙ no_bit (given f pins r) (driven f s sel) i (driven_times f s sel i l ∙ z)

  driven_bits : (x : ℕ) → is_variable f x ≡ false → Each (HasBits (given f pins r) (tree_bits x)) (driven f x sel)
  driven_bits x e = each_map (λ p h k l. h k l ∙ sym (are_pieces x (p.at + k) e)) (driven f x sel) (have_bits (given f pins r) (driven f x sel) (driven_once f x sel sound))

  abbrev AssignedBits : Target × Expr → Type 0
  AssignedBits a = (x : ℕ) → is_variable f x ≡ false → Each (HasBits (given f pins r) (tree_bits x)) (pieces (size_in f) x a.0 (value_tree (size_in f) sel a.0 a.1))

  assigned_bits : (as_ : List (Target × Expr)) → ((x : ℕ) → is_variable f x ≡ false → Each (HasBits (given f pins r) (tree_bits x)) (assigned_pieces (size_in f) sel x as_)) → Each AssignedBits as_
  assigned_bits [] h = tt
  assigned_bits (a ∷ as_) h = (
    λ x e. each_left _ (pieces (size_in f) x a.0 _) (assigned_pieces (size_in f) sel x as_) (h x e),
    assigned_bits as_ (λ x e. each_right _ (pieces (size_in f) x a.0 _) (assigned_pieces (size_in f) sel x as_) (h x e)),
  )

  abbrev CombBits : Stmt → Type 0
  CombBits body = (x : ℕ) → is_variable f x ≡ false → Each (HasBits (given f pins r) (tree_bits x)) (comb_pieces (size_in f) sel x body)

  comb_bits : (bs : List Stmt) → ((x : ℕ) → is_variable f x ≡ false → Each (HasBits (given f pins r) (tree_bits x)) (all_comb_pieces (size_in f) sel x bs)) → Each CombBits bs
  comb_bits [] h = tt
  comb_bits (b ∷ bs) h = (
    λ x e. each_left _ (comb_pieces (size_in f) sel x b) (all_comb_pieces (size_in f) sel x bs) (h x e),
    comb_bits bs (λ x e. each_right _ (comb_pieces (size_in f) sel x b) (all_comb_pieces (size_in f) sel x bs) (h x e)),
  )

  all_assigned_bits : Each AssignedBits f.assigns
  all_assigned_bits = assigned_bits f.assigns (λ x e. each_left _ (assigned_pieces (size_in f) sel x f.assigns) (all_comb_pieces (size_in f) sel x f.combs) (driven_bits x e))

  all_comb_bits : Each CombBits f.combs
  all_comb_bits = comb_bits f.combs (λ x e. each_right _ (assigned_pieces (size_in f) sel x f.assigns) (all_comb_pieces (size_in f) sel x f.combs) (driven_bits x e))

  assigns_give : Each (AssignGives f sel (given f pins r) tree_bits) f.assigns
  assigns_give = each_map {Q = AssignGives f sel (given f pins r) tree_bits} (λ a (h : IsSoundAssign f a × AssignedBits a) p x wire.
      pieces_right (given f pins r) tree_bits (size_in f) x a.0 _ _ p (λ k l. held_bits f (given f pins r) tree_bits a.0 _ h.0.1 h.1 k l ∙ p.bits k l)) f.assigns
      (each_and _ _ f.assigns (each_of _ f.assigns sound.assigned) all_assigned_bits)

  processes_give : Each (CombGives f sel (given f pins r) tree_bits) f.combs
  processes_give = each_map {Q = CombGives f sel (given f pins r) tree_bits} (λ body (h : IsSoundComb f body × CombBits body) x local wide k. run_right f sel (given f pins r) tree_bits body x wide (h.1 x (h.0.wires x local))) f.combs
      (each_and _ _ f.combs (each_of _ f.combs sound.processed) all_comb_bits)

  tree_bits_right : (s i : ℕ) → RightAt f sound sel are (given f pins r) tree_bits are_inputs are_zero s i
  tree_bits_right s i = right f sound sel are (given f pins r) tree_bits are_inputs are_zero assigns_give processes_give _ s i (all_deep f sound.sized free s i)

  tree_bits_show : Shows (given f pins r) tree_bits (inside f) every sel
  tree_bits_show s at w h k = let p = select_word f sound sel are (given f pins r) tree_bits are_inputs are_zero s at w h (λ j l m. tree_bits_right s j) in (p.wide, p.bits)

  process_keeps : (body : Stmt) → IsSoundComb f body → CombBits body → IsKept f tree_bits body
  process_keeps body h k s i l = by_bool (may_assign (size_in f) body s i)
      (λ e. let local = by_bool (assigns body s) (λ z. z) (λ z. never_same (sym e ∙ not_assigned (size_in f) s body i z)) in
      let p = comb_law (given f pins r) tree_bits (size_in f) (inside f) every sel sound.sized tree_bits_show body h.fits s local (λ t j m. refl) in
      let forms = run_forms (size_in f s) (finished f sel (given f pins r) tree_bits body s) (runs (may_assign (size_in f) body s) (size_in f s) []) in
      sym (p.1 i l (h.no_latch s i l e))
      ∙ some_piece (comb_pieces (size_in f) sel s body) i
      (each_map (λ q m z. let range = from_within q.at q.bits i z in let form = m.0 in
      ap₂ (bit (given f pins r)) (sym form.0) (let y = form.2 in let x : i ≡ q.inside + (i - q.at) = omega arith in x) ∙ m.1 (i - q.at) (omega arith) ∙ ap (tree_bits s) (let y : q.at + (i - q.at) ≡ i = omega arith in y))
      (comb_pieces (size_in f) sel s body) (each_and _ _ (comb_pieces (size_in f) sel s body) forms (k s (h.wires s local))))
      (let n = comb_times f s sel body i l in let m = ap once e in omega arith))
      (λ e. run_keeps (size_in f) s i l (λ now. now) body tree_bits e)

  assign_holds : (a : Target × Expr) → IsSoundAssign f a → AssignedBits a → HoldsValue f tree_bits a
  assign_holds a h k i l =
      let p = value_word f sel (given f pins r) tree_bits every tree_bits_show a h.0 (λ t j m. refl) in
      held_bits f (given f pins r) tree_bits a.0 _ h.1 k i l ∙ p.bits i l

  trees_consistent : Consistent f pins r tree_bits
  trees_consistent = record {
    variables = are_inputs;
    undriven = are_zero;
    assigned = of_each _ f.assigns (each_map {Q = HoldsValue f tree_bits} (λ a h. assign_holds a h.0 h.1) f.assigns (each_and _ _ f.assigns (each_of _ f.assigns sound.assigned) all_assigned_bits));
    processed = of_each _ f.combs (each_map {Q = IsKept f tree_bits} (λ body h. process_keeps body h.0 h.1) f.combs (each_and _ _ f.combs (each_of _ f.combs sound.processed) all_comb_bits));
  }

pub law_of_elaboration : LawOfElaboration
law_of_elaboration f sound free sel are pins r =
    let v = tree_bits f sound free sel are pins r in let c = trees_consistent f sound free sel are pins r in record {
      values = v;
      consistent = c;
      one = λ u d s i l. sym ((whole_word f sound free sel are pins r u d s (omega arith)).bits i l) ∙ (whole_word f sound free sel are pins r v c s (omega arith)).bits i l;
      trees = λ s l. let p = whole_word f sound free sel are pins r v c s l in (p.wide, p.bits);
      nexts = λ s e. let p = next_word f sound free sel are pins r v c f.clocked (each_of _ f.clocked sound.clocked) s e in (p.wide, p.bits);
    }
