-- The cells of operators.
use Rattle.std.specs.Prelude.{◌≡◌, ℕ, Bool, true, false, cond, List, Option, Some, None}
use Rattle.std.specs.Option.{option_map_or}
use Rattle.flat_form.specs.declared.flat.FUnaryOp.{FUnaryOp}
use Rattle.flat_form.specs.declared.flat.FUnaryOp.TheVariants as u
use Rattle.verilog_ast.specs.declared.BinaryOp.{BinaryOp}
use Rattle.verilog_ast.specs.declared.BinaryOp.TheVariants as b
use Rattle.cell_graph.specs.declared.cell.Cell.{Cell}
use Rattle.cell_graph.specs.declared.cell.Cell.TheVariants as cell
use Rattle.cell_graph.specs.declared.cell.CellId.{CellId}
use Rattle.cell_graph.specs.declared.cell.ReduceKind.{ReduceKind}
use Rattle.cell_graph.specs.declared.cell.ReduceKind.TheVariants as kind
use Rattle.cell_graph.specs.Tree.{Tree, Not}
use Rattle.cell_graph.specs.Unfolded.{reduced}
use Rattle.flat_meaning.specs.Trees.{Selects, truth}
use Rattle.driver_trees.specs.declared.draft.Draft.{Draft}
use Rattle.driver_trees.specs.Drafts.{tree_in, IsDraftOf}
use Rattle.driver_trees.specs.Growth.{Grows}

abbrev pub reduction : FUnaryOp → Option ReduceKind
reduction u.Not = None
reduction u.LogicNot = None
reduction u.And = Some kind.And
reduction u.Or = Some kind.Or
reduction u.Xor = Some kind.Xor
reduction u.Nand = Some kind.And
reduction u.Nor = Some kind.Or
reduction u.Xnor = Some kind.Xor

abbrev pub negates : FUnaryOp → Bool
negates u.Not = true
negates u.LogicNot = true
negates u.And = false
negates u.Or = false
negates u.Xor = false
negates u.Nand = true
negates u.Nor = true
negates u.Xnor = true

abbrev pub not_if : Bool → Tree → Tree
not_if negated t = cond negated (Not t) t

-- a reduction of a word, or its truth
abbrev pub bit_tree : Option ReduceKind → ℕ → Tree → Tree
bit_tree o w t = option_map_or (λ k. reduced k t) o (truth w t)

-- `&&` and `||`
abbrev pub takes_truths : BinaryOp → Bool
takes_truths b.Mul = false
takes_truths b.Div = false
takes_truths b.Mod = false
takes_truths b.Add = false
takes_truths b.Sub = false
takes_truths b.Shl = false
takes_truths b.Shr = false
takes_truths b.Lt = false
takes_truths b.Le = false
takes_truths b.Gt = false
takes_truths b.Ge = false
takes_truths b.Eq = false
takes_truths b.Ne = false
takes_truths b.And = false
takes_truths b.Xor = false
takes_truths b.Xnor = false
takes_truths b.Or = false
takes_truths b.LogicAnd = true
takes_truths b.LogicOr = true

-- what the operator's cell takes of an operand, and its bits
abbrev pub operand_tree : BinaryOp → ℕ → Tree → Tree
operand_tree op m t = cond (takes_truths op) (truth m t) t

abbrev pub operand_bits : BinaryOp → ℕ → ℕ
operand_bits op m = cond (takes_truths op) 1 m

pub record AreOperands (op : BinaryOp) (wid : ℕ → ℕ) (old new : List Draft) (m n : ℕ) (a b x y : CellId) : Type 0 where
  pub grows : Grows wid old new
  pub left : IsDraftOf new x (operand_bits op m)
  pub right : IsDraftOf new y (operand_bits op n)
  pub left_tree : (sel : Selects) → tree_in sel new x ≡ operand_tree op m (tree_in sel old a)
  pub right_tree : (sel : Selects) → tree_in sel new y ≡ operand_tree op n (tree_in sel old b)

-- the cell of an operator, and whether its word is negated; `* / %` have none
abbrev pub operator_cell : BinaryOp → CellId → CellId → Option (Cell × Bool)
operator_cell b.Mul x y = None
operator_cell b.Div x y = None
operator_cell b.Mod x y = None
operator_cell b.Add x y = Some (cell.Add x y, false)
operator_cell b.Sub x y = Some (cell.Sub x y, false)
operator_cell b.Shl x y = Some (cell.Shl x y, false)
operator_cell b.Shr x y = Some (cell.Shr x y, false)
operator_cell b.Lt x y = Some (cell.Lt x y, false)
operator_cell b.Le x y = Some (cell.Lt y x, true)
operator_cell b.Gt x y = Some (cell.Lt y x, false)
operator_cell b.Ge x y = Some (cell.Lt x y, true)
operator_cell b.Eq x y = Some (cell.Eq x y, false)
operator_cell b.Ne x y = Some (cell.Eq x y, true)
operator_cell b.And x y = Some (cell.And x y, false)
operator_cell b.Xor x y = Some (cell.Xor x y, false)
operator_cell b.Xnor x y = Some (cell.Xor x y, true)
operator_cell b.Or x y = Some (cell.Or x y, false)
operator_cell b.LogicAnd x y = Some (cell.And x y, false)
operator_cell b.LogicOr x y = Some (cell.Or x y, false)
