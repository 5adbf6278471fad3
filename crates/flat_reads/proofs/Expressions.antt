-- The tree of an expression reads what the expression does.
use Rattle.std.proofs.Common.{◌≡◌, ℕ, ◌*◌, true, false, refl, sym, arith}
use Rattle.cell_graph.specs.Tree.{Tree}
use Rattle.flat_meaning.specs.Flat.{BinaryOp, times, divided, remainder, plus, minus, shift_left, shift_right, is_less, is_at_most, is_greater, is_at_least, is_equal, is_unequal, bitwise_and, bitwise_or, bitwise_xor, bitwise_xnor, logical_and, logical_or, Expr, Number, Read, At, Unary, Binary, Choose, Gate, Join, Repeat, Exprs, no_exprs, expr, size, sizes}
use Rattle.flat_meaning.specs.Meaning.{unary_at, left_at, right_at}
use Rattle.flat_meaning.specs.Trees.{Selects, tree, joined_tree, gate_tree, gate_on}
use Rattle.flat_meaning.specs.Fits.{has_cell, is_gate, Fits, AllFit}
use Rattle.flat_meaning.specs.Deps.{Bits, Deps, union, reads, all_reads}
use Rattle.flat_reads.specs.Filled.{IsFilled, AreFilled}
use Rattle.flat_reads.proofs.Cells.{or_none, or_more, Reads, reads_as, const_reads, slice_reads, fit_reads, truth_reads, unary_reads, shr_reads, glue_reads, mux_reads, binary_reads, copies_reads}

gate_cell : (op : BinaryOp) → is_gate op ≡ true → has_cell op ≡ true
gate_cell times h = h
gate_cell divided h = h
gate_cell remainder h = h
gate_cell plus h = refl
gate_cell minus h = refl
gate_cell shift_left h = refl
gate_cell shift_right h = refl
gate_cell is_less h = refl
gate_cell is_at_most h = refl
gate_cell is_greater h = refl
gate_cell is_at_least h = refl
gate_cell is_equal h = refl
gate_cell is_unequal h = refl
gate_cell bitwise_and h = refl
gate_cell bitwise_or h = refl
gate_cell bitwise_xor h = refl
gate_cell bitwise_xnor h = refl
gate_cell logical_and h = refl
gate_cell logical_or h = refl

-- `through` tells what a select reads
module _ (wid : ℕ → ℕ) (sel : Selects) (ok : (sig at width : ℕ) → Type 0) (through : Deps → (sig at width : ℕ) → Bits) (d : Deps)
    (sees : (s at w : ℕ) → Reads (sel s at w) (through d s at w)) where
  no_parts : (es : Exprs) → AreFilled es → sizes es ≡ 0 → (s j : ℕ) → all_reads wid through d es s j ≡ false
  no_parts no_exprs f e s j = refl
  no_parts (expr a es) f e s j = let k = f.0 in absurd (omega arith)

  mutual
    pub tree_reads : (e : Expr) → Fits wid ok e → IsFilled e → (W : ℕ) → Reads (tree wid sel e W) (reads wid through d e)
    tree_reads (Number w n) f h W = fit_reads (const_reads w n) W w
    tree_reads (Read s at w) f h W = fit_reads (sees s at w) W w
    tree_reads (At s e) f h W = fit_reads (slice_reads (shr_reads (sees s 0 (wid s)) (tree_reads e f.2 h (size e))) 0 1) W 1
    tree_reads (Unary op a) f h W = unary_reads op W (unary_at op W (size a)) (tree_reads a f h (unary_at op W (size a)))
    tree_reads (Binary op a b) f h W =
        let m = left_at op W (size a) (size b) in let n = right_at op W (size a) (size b) in
        binary_reads op W m n f.0 (tree_reads a f.1 h.0 m) (tree_reads b f.2 h.1 n)
    tree_reads (Choose c x y) f h W = mux_reads (truth_reads (tree_reads c f.0 h.0 (size c)) (size c)) (tree_reads x f.1 h.1 W) (tree_reads y f.2 h.2 W)
    tree_reads (Gate op es) f h W = gate_reads op es (gate_cell op f.0) f.2 h W
    tree_reads (Join es) f h W = fit_reads (joined_reads es f.1 h) W (sizes es)
    tree_reads (Repeat n es) f h W = fit_reads (copies_reads n (sizes es) h.0 (joined_reads es f.2 h.1) (no_parts es h.1)) W (n * sizes es)

    joined_reads : (es : Exprs) → AllFit wid ok es → AreFilled es → Reads (joined_tree wid sel es) (all_reads wid through d es)
    joined_reads no_exprs f h = const_reads 0 0
    joined_reads (expr e es) f h = glue_reads (tree_reads e f.0 h.1 (size e)) (joined_reads es f.1 h.2) (size e) (sizes es) (λ z. let k = h.0 in absurd (omega arith)) (no_parts es h.2)

    gate_reads : (op : BinaryOp) (es : Exprs) → has_cell op ≡ true → AllFit wid ok es → AreFilled es → (W : ℕ) → Reads (gate_tree wid sel op W es) (all_reads wid through d es)
    gate_reads op no_exprs o f h W = const_reads W 0
    gate_reads op (expr e es) o f h W = gate_on_reads op es o f.1 h.2 W _ _ (tree_reads e f.0 h.1 W)

    gate_on_reads : (op : BinaryOp) (es : Exprs) → has_cell op ≡ true → AllFit wid ok es → AreFilled es → (W : ℕ) (t : Tree) (b : Bits) → Reads t b → Reads (gate_on wid sel op W t es) (union b (all_reads wid through d es))
    gate_on_reads op no_exprs o f h W t b p = reads_as p (λ s j. sym (or_none (b s j)))
    gate_on_reads op (expr e es) o f h W t b p = reads_as (gate_on_reads op es o f.1 h.2 W _ _ (binary_reads op W W W o p (tree_reads e f.0 h.1 W)))
        (λ s j. or_more (b s j) (reads wid through d e s j) (all_reads wid through d es s j))
