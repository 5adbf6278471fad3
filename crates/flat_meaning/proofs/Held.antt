-- What a target holds, and what the pieces of its value are.
use Rattle.std.proofs.Common.{◌≡◌, ℕ, ◌+◌, ◌-◌, ◌<◌, ◌≤◌, Bool, true, false, cond, ◌&&◌, ◌==◌, List, [], ◌∷◌, refl, sym, ap, ap₂, subst, ◌∙◌, arith, lt-ltb, eqb-true, eq-eqb, le_refl}
use Rattle.std.specs.List.{AllByRecursion as Each}
use Rattle.cell_graph.specs.Reading.{Reading}
use Rattle.cell_graph.specs.Tree.{Tree, Slice, bit}
use Rattle.flat_meaning.specs.Values.{Word, Words}
use Rattle.flat_meaning.specs.Flat.{Target, Whole, Part, Pick, Group, Targets, no_targets, target, Stmt, Null, Set, If, Case, Block, Items, no_items, default_item, item, Stmts, no_stmts, stmt, case_size, target_size, target_sizes, value_size}
use Rattle.flat_meaning.specs.Meaning.{value, index, is_true, is_one_of, put, put_all, run, run_case, run_all}
use Rattle.flat_meaning.specs.Assigned.{is_within, reaches, reach, may_assign, may_assign_in, any_may_assign}
use Rattle.flat_meaning.specs.Pieces.{Piece, whole_piece, pieces, all_pieces, IsRight}
use Rattle.flat_meaning.specs.Design.{once, Flat, size_in, is_variable, held, all_held}
use Rattle.flat_meaning.specs.Sound.{DrivesWires, AllDriveWires}
use Rattle.flat_meaning.proofs.Words.{IsWord, slice_word, never, never_same, by_lt}
use Rattle.std.proofs.lemmas.Bool.{or_parts}
use Rattle.flat_meaning.proofs.Processes.{other}
use Rattle.flat_meaning.proofs.Depth.{by_bool}
use Rattle.flat_meaning.proofs.Placed.{hits, times, all_both, each_left, each_right, each_map, each_and, each_swap, each_hits, within}

-- the rest of a concatenation has the lower bits
low_part : (wid : ℕ → ℕ) (v : Words) (g : Target) (gs : Targets) (k : ℕ) → k < target_sizes wid gs → all_held wid v (target g gs) k ≡ all_held wid v gs k
low_part wid v g gs k h = ap (λ u. cond u (all_held wid v gs k) (held wid v g (k - target_sizes wid gs))) (lt-ltb k (target_sizes wid gs) h)

high_part : (wid : ℕ → ℕ) (v : Words) (g : Target) (gs : Targets) (k : ℕ) → all_held wid v (target g gs) (target_sizes wid gs + k) ≡ held wid v g k
high_part wid v g gs k = by_lt (λ u. cond u (all_held wid v gs (target_sizes wid gs + k)) (held wid v g (target_sizes wid gs + k - target_sizes wid gs)) ≡ held wid v g k) (target_sizes wid gs + k) (target_sizes wid gs)
    (λ l. never 0 (omega arith)) (λ l. ap (held wid v g) (let z : target_sizes wid gs + k - target_sizes wid gs ≡ k = omega arith in z))

-- ---- a target that holds its value's bits has right pieces

module _ (g : Reading) (v : Words) (wid : ℕ → ℕ) (x : ℕ) where
  mutual
    pub pieces_right : (t : Target) (tree : Tree) (h : Word) → IsWord g tree (target_size wid t) h → ((k : ℕ) → k < target_size wid t → held wid v t k ≡ h k) → Each (IsRight g (v x)) (pieces wid x t tree)
    pieces_right (Whole s) tree h p same = go (x == s) refl
      where
        go : (u : Bool) → (x == s) ≡ u → Each (IsRight g (v x)) (cond u (whole_piece 0 (wid s) tree ∷ []) [])
        go true e = (
          record {
            wide = p.wide;
            room = omega arith;
            same = λ i l. ap (bit g tree) (let z : 0 + i ≡ i = omega arith in z) ∙ p.bits i l ∙ sym (same i l) ∙ ap₂ v (sym (eqb-true x s e)) (let z : i ≡ 0 + i = omega arith in z);
          },
          tt,
        )
        go false e = tt
    pieces_right (Part s at w) tree h p same = go (x == s) refl
      where
        go : (u : Bool) → (x == s) ≡ u → Each (IsRight g (v x)) (cond u (whole_piece at w tree ∷ []) [])
        go true e = (
          record {
            wide = p.wide;
            room = omega arith;
            same = λ i l. ap (bit g tree) (let z : 0 + i ≡ i = omega arith in z) ∙ p.bits i l ∙ sym (same i l) ∙ ap (λ s. v s (at + i)) (sym (eqb-true x s e));
          },
          tt,
        )
        go false e = tt
    pieces_right (Pick s e) tree h p same = tt
    pieces_right (Group gs) tree h p same = all_pieces_right gs tree h (target_sizes wid gs) p (le_refl (target_sizes wid gs)) same

    all_pieces_right : (gs : Targets) (tree : Tree) (h : Word) (n : ℕ) → IsWord g tree n h → target_sizes wid gs ≤ n → ((k : ℕ) → k < target_sizes wid gs → all_held wid v gs k ≡ h k) → Each (IsRight g (v x)) (all_pieces wid x gs tree)
    all_pieces_right no_targets tree h n p room same = tt
    all_pieces_right (target t gs) tree h n p room same =
        all_both (IsRight g (v x)) (pieces wid x t _) (all_pieces wid x gs tree)
        (pieces_right t (Slice tree (target_sizes wid gs) (target_size wid t)) (λ k. h (target_sizes wid gs + k)) (slice_word g p (target_sizes wid gs) (target_size wid t) (omega arith))
        (λ k l. sym (high_part wid v t gs k) ∙ same (target_sizes wid gs + k) (omega arith)))
        (all_pieces_right gs tree h n p (omega arith) (λ k l. sym (low_part wid v t gs k l) ∙ same k (omega arith)))

-- ---- and the other way round

-- the piece has the values' bits, whatever its width is
abbrev pub HasBits : Reading → Word → Piece → Type 0
HasBits g f p = (k : ℕ) → k < p.bits → bit g p.tree (p.inside + k) ≡ f (p.at + k)

module _ (f : Flat) (g : Reading) (v : Words) where
  mutual
    pub held_bits : (t : Target) (tree : Tree) → DrivesWires f t → ((x : ℕ) → is_variable f x ≡ false → Each (HasBits g (v x)) (pieces (size_in f) x t tree))
        → (k : ℕ) → k < target_size (size_in f) t → held (size_in f) v t k ≡ bit g tree k
    held_bits (Whole s) tree d h k l =
        let p = subst (λ (u : Bool). Each (HasBits g (v s)) (cond u (whole_piece 0 (size_in f s) tree ∷ []) [])) (eq-eqb s s refl) (h s d.0) in
        let z : 0 + k ≡ k = omega arith in sym (ap (bit g tree) (sym z) ∙ p.0 k l ∙ ap (v s) z)
    held_bits (Part s at w) tree d h k l =
        let p = subst (λ (u : Bool). Each (HasBits g (v s)) (cond u (whole_piece at w tree ∷ []) [])) (eq-eqb s s refl) (h s d.0) in
        let z : 0 + k ≡ k = omega arith in sym (ap (bit g tree) (sym z) ∙ p.0 k l)
    held_bits (Pick s e) tree d h k l = absurd d
    held_bits (Group gs) tree d h k l = all_held_bits gs tree d h k l

    all_held_bits : (gs : Targets) (tree : Tree) → AllDriveWires f gs → ((x : ℕ) → is_variable f x ≡ false → Each (HasBits g (v x)) (all_pieces (size_in f) x gs tree))
        → (k : ℕ) → k < target_sizes (size_in f) gs → all_held (size_in f) v gs k ≡ bit g tree k
    all_held_bits no_targets tree d h k l = never 0 (omega arith)
    all_held_bits (target t gs) tree d h k l =
        let n = target_sizes (size_in f) gs in
        by_lt (λ u. cond u (all_held (size_in f) v gs k) (held (size_in f) v t (k - n)) ≡ bit g tree k) k n
        (λ m. all_held_bits gs tree d.1 (λ x e. each_right (HasBits g (v x)) (pieces (size_in f) x t _) (all_pieces (size_in f) x gs tree) (h x e)) k m)
        (λ m. held_bits t _ d.0 (λ x e. each_left (HasBits g (v x)) (pieces (size_in f) x t _) (all_pieces (size_in f) x gs tree) (h x e)) (k - n) (omega arith)
        ∙ ap (bit g tree) (let z : n + (k - n) ≡ k = omega arith in z))

-- ---- the bits of pieces of which no two have one bit

abbrev pub piece_bit : Reading → List Piece → Word
piece_bit g [] i = false
piece_bit g (p ∷ ps) i = cond (is_within p.at p.bits i) (bit g p.tree (p.inside + (i - p.at))) (piece_bit g ps i)

module _ (g : Reading) where
  pub no_bit : (ps : List Piece) (i : ℕ) → times ps i ≡ 0 → piece_bit g ps i ≡ false
  no_bit [] i h = refl
  no_bit (p ∷ ps) i h = by_bool (is_within p.at p.bits i) (λ e. let z = ap once e in never 0 (omega arith))
      (λ e. other (is_within p.at p.bits i) (bit g p.tree (p.inside + (i - p.at))) (piece_bit g ps i) e ∙ no_bit ps i (omega arith))

  bit_at_place : (ps : List Piece) (i : ℕ) → times ps i ≤ 1 → Each (λ p. is_within p.at p.bits i ≡ true → bit g p.tree (p.inside + (i - p.at)) ≡ piece_bit g ps i) ps
  bit_at_place [] i h = tt
  bit_at_place (p ∷ ps) i h = (
    λ e. sym (ap (λ u. cond u (bit g p.tree (p.inside + (i - p.at))) (piece_bit g ps i)) e),
    each_map (λ q a e. by_bool (is_within p.at p.bits i)
        (λ z. let b = ap once z in let c = ap once e in let d = a.1 in never 0 (omega arith))
        (λ z. a.0 e ∙ sym (other (is_within p.at p.bits i) (bit g p.tree (p.inside + (i - p.at))) (piece_bit g ps i) z))) ps
        (each_and (λ q. is_within q.at q.bits i ≡ true → bit g q.tree (q.inside + (i - q.at)) ≡ piece_bit g ps i) (λ q. hits q i ≤ times ps i) ps (bit_at_place ps i (omega arith)) (each_hits ps i)),
  )

  pub have_bits : (ps : List Piece) → ((i : ℕ) → times ps i ≤ 1) → Each (HasBits g (piece_bit g ps)) ps
  have_bits ps single = each_map (λ p h k l. ap (λ i. bit g p.tree (p.inside + i)) (let z : k ≡ p.at + k - p.at = omega arith in z) ∙ h (p.at + k) (within p.at p.bits (p.at + k) (omega arith) (omega arith))) ps
      (each_swap (λ i p. is_within p.at p.bits i ≡ true → bit g p.tree (p.inside + (i - p.at)) ≡ piece_bit g ps i) ps (λ i. bit_at_place ps i (single i)))

-- ---- what a statement can't assign keeps its value

module _ (wid : ℕ → ℕ) (x i : ℕ) (l : i < wid x) where
  module _ (u : Words) where
    mutual
      put_keeps : (t : Target) (h : Word) (v : Words) → reaches wid t x i ≡ false → put wid u t h v x i ≡ v x i
      put_keeps (Whole s) h v e = other ((x == s) && is_within 0 (wid s) i) (h (i - 0)) (v x i) e
      put_keeps (Part s at w) h v e = other ((x == s) && is_within at w i) (h (i - at)) (v x i) e
      put_keeps (Pick s c) h v e = go (x == s) refl e
        where
          go : (b : Bool) → (x == s) ≡ b → (b && is_within 0 (wid s) i) ≡ false → cond (b && is_within (index u c) 1 i) (h (i - index u c)) (v x i) ≡ v x i
          go true z e = never_same (sym (within 0 (wid s) i (omega arith) (let y = ap wid (eqb-true x s z) in omega arith)) ∙ e)
          go false z e = refl
      put_keeps (Group gs) h v e = put_all_keeps gs h v e

      put_all_keeps : (gs : Targets) (h : Word) (v : Words) → reach wid gs x i ≡ false → put_all wid u gs h v x i ≡ v x i
      put_all_keeps no_targets h v e = refl
      put_all_keeps (target t gs) h v e = let k = or_parts (reaches wid t x i) (reach wid gs x i) e in put_all_keeps gs h _ k.1 ∙ put_keeps t _ v k.0

  either : (b : Bool) (p q v : Words) → p x i ≡ v x i → q x i ≡ v x i → cond b p q x i ≡ v x i
  either true p q v h k = h
  either false p q v h k = k

  module _ (now : Words → Words) where
    mutual
      pub run_keeps : (s : Stmt) (v : Words) → may_assign wid s x i ≡ false → run wid now s v x i ≡ v x i
      run_keeps Null v e = refl
      run_keeps (Set b t c) v e = put_keeps (now v) t (value (now v) c (value_size wid t c)) v e
      run_keeps (If c y z) v e = let k = or_parts (may_assign wid y x i) (may_assign wid z x i) e in either (is_true (now v) c) (run wid now y v) (run wid now z v) v (run_keeps y v k.0) (run_keeps z v k.1)
      run_keeps (Case c is) v e = case_keeps (case_size c is) (value (now v) c (case_size c is)) is v e
      run_keeps (Block ss) v e = all_keep ss v e

      case_keeps : (w : ℕ) (f : Word) (is : Items) (v : Words) → may_assign_in wid is x i ≡ false → run_case wid now w f is v x i ≡ v x i
      case_keeps w f no_items v e = refl
      case_keeps w f (default_item body) v e = run_keeps body v e
      case_keeps w f (item ls body rest) v e = let k = or_parts (may_assign wid body x i) (may_assign_in wid rest x i) e in
          either (is_one_of (now v) w f ls) (run wid now body v) (run_case wid now w f rest v) v (run_keeps body v k.0) (case_keeps w f rest v k.1)

      all_keep : (ss : Stmts) (v : Words) → any_may_assign wid ss x i ≡ false → run_all wid now ss v x i ≡ v x i
      all_keep no_stmts v e = refl
      all_keep (stmt s ss) v e = let k = or_parts (may_assign wid s x i) (any_may_assign wid ss x i) e in all_keep ss (run wid now s v) k.1 ∙ run_keeps s v k.0
