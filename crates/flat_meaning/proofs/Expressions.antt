-- The tree of an expression has the expression's value.
use Rattle.std.proofs.Common.{◌≡◌, ℕ, ◌+◌, ◌^◌, ◌<◌, ◌≤◌, true, false, cond, nat_lt, sym, ap, ◌∙◌, arith, le_refl, lt-ltb}
use Rattle.cell_graph.specs.Tree.{Tree}
use Rattle.cell_graph.specs.Reading.{Reading}
use Rattle.cell_graph.proofs.Words.{number-lt}
use Rattle.flat_meaning.specs.Values.{Word, Words}
use Rattle.flat_meaning.specs.Flat.{UnaryOp, complement, logical_not, reduce_and, reduce_or, reduce_xor, reduce_nand, reduce_nor, reduce_xnor, BinaryOp, times, divided, remainder, plus, minus, shift_left, shift_right, is_less, is_at_most, is_greater, is_at_least, is_equal, is_unequal, bitwise_and, bitwise_or, bitwise_xor, bitwise_xnor, logical_and, logical_or, Expr, Number, Read, At, Unary, Binary, Choose, Gate, Join, Repeat, Exprs, no_exprs, expr, unary_size, binary_size, size, sizes, largest}
use Rattle.flat_meaning.specs.Meaning.{unary, binary, unary_at, left_at, right_at, value, joined, gated, gated_on, is_true, index}
use Rattle.flat_meaning.specs.Trees.{Selects, unary_tree, binary_tree, tree, joined_tree, gate_tree, gate_on, truth_of}
use Rattle.flat_meaning.specs.Fits.{has_cell, is_gate, Fits, AllFit}
use Rattle.flat_meaning.proofs.Words.{never_same, zero_word, IsWord, as_word, const_word, not_word, and_word, or_word, xor_word, add_word, sub_word, eq_word, lt_word, mux_word, all_word, any_word, odd_word, truth_word, slice_word, fit_word, shl_word, shr_word, glue_word, empty_word, copies_word}

unary_room : (op : UnaryOp) (W m : ℕ) → unary_size op m ≤ W → m ≤ unary_at op W m
unary_room complement W m h = h
unary_room logical_not W m h = le_refl m
unary_room reduce_and W m h = le_refl m
unary_room reduce_or W m h = le_refl m
unary_room reduce_xor W m h = le_refl m
unary_room reduce_nand W m h = le_refl m
unary_room reduce_nor W m h = le_refl m
unary_room reduce_xnor W m h = le_refl m

binary_room : (op : BinaryOp) (W m n : ℕ) → binary_size op m n ≤ W → (m ≤ left_at op W m n) × (n ≤ right_at op W m n)
binary_room times W m n h = omega arith
binary_room divided W m n h = omega arith
binary_room remainder W m n h = omega arith
binary_room plus W m n h = omega arith
binary_room minus W m n h = omega arith
binary_room shift_left W m n h = omega arith
binary_room shift_right W m n h = omega arith
binary_room is_less W m n h = omega arith
binary_room is_at_most W m n h = omega arith
binary_room is_greater W m n h = omega arith
binary_room is_at_least W m n h = omega arith
binary_room is_equal W m n h = omega arith
binary_room is_unequal W m n h = omega arith
binary_room bitwise_and W m n h = omega arith
binary_room bitwise_or W m n h = omega arith
binary_room bitwise_xor W m n h = omega arith
binary_room bitwise_xnor W m n h = omega arith
binary_room logical_and W m n h = omega arith
binary_room logical_or W m n h = omega arith

module _ (r : Reading) where
  unary_word : (op : UnaryOp) (W m : ℕ) {t : Tree} {f : Word} → IsWord r t (unary_at op W m) f → unary_size op m ≤ W
      → IsWord r (unary_tree op W (unary_at op W m) t) W (unary op (unary_at op W m) f)
  unary_word complement W m p h = not_word r p
  unary_word logical_not W m p h = fit_word r (not_word r (truth_word r p)) W h
  unary_word reduce_and W m p h = fit_word r (all_word r p) W h
  unary_word reduce_or W m p h = fit_word r (any_word r p) W h
  unary_word reduce_xor W m p h = fit_word r (odd_word r p) W h
  unary_word reduce_nand W m p h = fit_word r (not_word r (all_word r p)) W h
  unary_word reduce_nor W m p h = fit_word r (not_word r (any_word r p)) W h
  unary_word reduce_xnor W m p h = fit_word r (not_word r (odd_word r p)) W h

  binary_word : (op : BinaryOp) (W m n : ℕ) {s t : Tree} {f g : Word} → IsWord r s (left_at op W m n) f → IsWord r t (right_at op W m n) g → has_cell op ≡ true → binary_size op m n ≤ W
      → IsWord r (binary_tree op W (left_at op W m n) (right_at op W m n) s t) W (binary op (left_at op W m n) (right_at op W m n) f g)
  binary_word times W m n p q o h = never_same (sym o)
  binary_word divided W m n p q o h = never_same (sym o)
  binary_word remainder W m n p q o h = never_same (sym o)
  binary_word plus W m n p q o h = add_word r p q
  binary_word minus W m n p q o h = sub_word r p q
  binary_word shift_left W m n p q o h = shl_word r p q
  binary_word shift_right W m n p q o h = shr_word r p q
  binary_word is_less W m n p q o h = fit_word r (lt_word r p q) W h
  binary_word is_at_most W m n p q o h = fit_word r (not_word r (lt_word r q p)) W h
  binary_word is_greater W m n p q o h = fit_word r (lt_word r q p) W h
  binary_word is_at_least W m n p q o h = fit_word r (not_word r (lt_word r p q)) W h
  binary_word is_equal W m n p q o h = fit_word r (eq_word r p q) W h
  binary_word is_unequal W m n p q o h = fit_word r (not_word r (eq_word r p q)) W h
  binary_word bitwise_and W m n p q o h = and_word r p q
  binary_word bitwise_or W m n p q o h = or_word r p q
  binary_word bitwise_xor W m n p q o h = xor_word r p q
  binary_word bitwise_xnor W m n p q o h = not_word r (xor_word r p q)
  binary_word logical_and W m n p q o h = fit_word r (and_word r (truth_word r p) (truth_word r q)) W h
  binary_word logical_or W m n p q o h = fit_word r (or_word r (truth_word r p) (truth_word r q)) W h

  -- a gate's step
  step_word : (op : BinaryOp) (W : ℕ) {s t : Tree} {f g : Word} → is_gate op ≡ true → IsWord r s W f → IsWord r t W g → IsWord r (binary_tree op W W W s t) W (binary op W W f g)
  step_word bitwise_and W o p q = and_word r p q
  step_word bitwise_or W o p q = or_word r p q
  step_word bitwise_xor W o p q = xor_word r p q
  step_word times W o p q = never_same (sym o)
  step_word divided W o p q = never_same (sym o)
  step_word remainder W o p q = never_same (sym o)
  step_word plus W o p q = never_same (sym o)
  step_word minus W o p q = never_same (sym o)
  step_word shift_left W o p q = never_same (sym o)
  step_word shift_right W o p q = never_same (sym o)
  step_word is_less W o p q = never_same (sym o)
  step_word is_at_most W o p q = never_same (sym o)
  step_word is_greater W o p q = never_same (sym o)
  step_word is_at_least W o p q = never_same (sym o)
  step_word is_equal W o p q = never_same (sym o)
  step_word is_unequal W o p q = never_same (sym o)
  step_word bitwise_xnor W o p q = never_same (sym o)
  step_word logical_and W o p q = never_same (sym o)
  step_word logical_or W o p q = never_same (sym o)

  module _ (v : Words) (wid : ℕ → ℕ) (sel : Selects) (ok : (sig at width : ℕ) → Type 0)
      (sees : (s at w : ℕ) → ok s at w → IsWord r (sel s at w) w (λ i. v s (at + i))) where
    mutual
      pub tree_word : (e : Expr) → Fits wid ok e → (W : ℕ) → size e ≤ W → IsWord r (tree wid sel e W) W (value v e W)
      tree_word (Number w n) f W h = fit_word r (const_word r w n) W h
      tree_word (Read s at w) f W h = fit_word r (sees s at w f) W h
      tree_word (At s e) f W h =
          let n = index v e in
          let small : n < 2 ^ size e = number-lt (value v e (size e)) (size e) in
          let room = f.1 in
          fit_word r (as_word r
          (slice_word r (shr_word r (sees s 0 (wid s) f.0) (tree_word e f.2 (size e) (le_refl (size e)))) 0 1 (omega arith))
          (λ i l. let z : 0 + i ≡ 0 = omega arith in
          ap (λ j. cond (nat_lt (j + n) (wid s)) (v s (0 + (j + n))) false) z
          ∙ ap (λ b. cond b (v s (0 + (0 + n))) false) (lt-ltb (0 + n) (wid s) (omega arith)) ∙ ap (v s) (let y : 0 + (0 + n) ≡ n = omega arith in y))) W h
      tree_word (Unary op a) f W h = unary_word op W (size a) (tree_word a f (unary_at op W (size a)) (unary_room op W (size a) h)) h
      tree_word (Binary op a b) f W h =
          let k = binary_room op W (size a) (size b) h in
          binary_word op W (size a) (size b) (tree_word a f.1 (left_at op W (size a) (size b)) k.0) (tree_word b f.2 (right_at op W (size a) (size b)) k.1) f.0 h
      tree_word (Choose c x y) f W h = mux_word r (tree_word x f.1 W (omega arith)) (tree_word y f.2 W (omega arith)) (truth_word r (tree_word c f.0 (size c) (le_refl (size c))))
      tree_word (Gate op es) f W h = gate_word op es f.0 f.2 W (omega arith)
      tree_word (Join es) f W h = let k = f.0 in fit_word r (joined_word es f.1 (omega arith)) W h
      tree_word (Repeat n es) f W h = let k = f.0 in let l = f.1 in fit_word r (copies_word r (joined_word es f.2 (omega arith)) n (omega arith)) W h

      gate_word : (op : BinaryOp) (es : Exprs) → is_gate op ≡ true → AllFit wid ok es → (W : ℕ) → largest es ≤ W → IsWord r (gate_tree wid sel op W es) W (gated v op W es)
      gate_word op no_exprs o f W h = zero_word r W
      gate_word op (expr e es) o f W h = gate_on_word op es o f.1 W (omega arith) _ _ (tree_word e f.0 W (omega arith))

      gate_on_word : (op : BinaryOp) (es : Exprs) → is_gate op ≡ true → AllFit wid ok es → (W : ℕ) → largest es ≤ W → (t : Tree) (g : Word) → IsWord r t W g → IsWord r (gate_on wid sel op W t es) W (gated_on v op W g es)
      gate_on_word op no_exprs o f W h t g p = p
      gate_on_word op (expr e es) o f W h t g p = gate_on_word op es o f.1 W (omega arith) _ _ (step_word op W o p (tree_word e f.0 W (omega arith)))

      pub joined_word : (es : Exprs) → AllFit wid ok es → sizes es ≤ 255 → IsWord r (joined_tree wid sel es) (sizes es) (joined v es)
      joined_word no_exprs f room = empty_word r (λ i. false)
      joined_word (expr e es) f room = glue_word r (tree_word e f.0 (size e) (le_refl (size e))) (joined_word es f.1 (omega arith)) room

    pub truth_of_word : (e : Expr) → Fits wid ok e → IsWord r (truth_of wid sel e) 1 (λ i. is_true v e)
    truth_of_word e f = truth_word r (tree_word e f (size e) (le_refl (size e)))
