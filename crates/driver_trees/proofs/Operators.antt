-- The cells of operators make their trees.
use Rattle.std.proofs.Common.{◌≡◌, ℕ, ◌<◌, ◌≤◌, ◌^◌, Bool, true, false, cond, max, List, [], length, Option, Some, None, MatchOption, nat_lt, inl, inr, refl, sym, ap, ap₂, ◌∙◌, arith, ltb-true}
use Rattle.std.proofs.lemmas.Bool.{cases_Bool}
use Rattle.flat_form.specs.declared.flat.FUnaryOp.{FUnaryOp}
use Rattle.flat_form.specs.declared.flat.FUnaryOp.TheVariants as u
use Rattle.verilog_ast.specs.declared.BinaryOp.{BinaryOp}
use Rattle.verilog_ast.specs.declared.BinaryOp.TheVariants as b
use Rattle.cell_graph.specs.declared.cell.Cell.{Cell}
use Rattle.cell_graph.specs.declared.cell.CellId.{CellId}
use Rattle.cell_graph.specs.Tree as tree
use Rattle.cell_graph.specs.Tree.{Tree}
use Rattle.cell_graph.specs.Unfolded.{tree_at, unfolded}
use Rattle.flat_form.specs.View.{unary_of, binary_of}
use Rattle.flat_meaning.specs.Meaning.{unary_at, left_at, right_at}
use Rattle.flat_meaning.specs.Trees.{fit, unary_tree, binary_tree}
use Rattle.driver_trees.specs.declared.draft.Draft.{Draft}
use Rattle.driver_trees.specs.Drafts.{IsMade, IsDraftOf}
use Rattle.driver_trees.specs.Operators.{reduction, negates, not_if, bit_tree, operand_tree, operand_bits, operator_cell}

pub unary-steps : (op : FUnaryOp) → (op ≡ u.Not → ⊥) → (W w : ℕ) (t : Tree) → fit W 1 (not_if (negates op) (bit_tree (reduction op) w t)) ≡ unary_tree (unary_of op) W w t
unary-steps u.Not h W w t = absurd (h refl)
unary-steps u.LogicNot h W w t = refl
unary-steps u.And h W w t = refl
unary-steps u.Or h W w t = refl
unary-steps u.Xor h W w t = refl
unary-steps u.Nand h W w t = refl
unary-steps u.Nor h W w t = refl
unary-steps u.Xnor h W w t = refl

fit-same : (W : ℕ) (t : Tree) → fit W W t ≡ t
fit-same W t = elim (cases_Bool (nat_lt W W)) [
  | inl h ↦ let l = ltb-true W W h in absurd (omega arith)
  | inr h ↦ ap (λ v. cond v (tree.Extend t W) t) h
]

-- the operator's cell, whose word has some bits, over drafts of the sizes of its operands
pub record IsOperator (op : BinaryOp) (ds : List Draft) (W m n : ℕ) (x y : CellId) (p : Cell × Bool) : Type 0 where
  pub bits : ℕ
  pub narrow : bits ≤ W
  pub made : IsMade ds (length ds) bits p.0
  pub tree : (ts : List Tree) (t v : Tree) → tree_at ts x ≡ operand_tree op m t → tree_at ts y ≡ operand_tree op n v → fit W bits (not_if p.1 (unfolded [] ts p.0)) ≡ binary_tree (binary_of op) W m n t v

module _ (ds : List Draft) (W p q : ℕ) (some : 1 ≤ W) (x y : CellId) where
  abbrev Left : BinaryOp → ℕ
  Left op = left_at (binary_of op) W p q

  abbrev Right : BinaryOp → ℕ
  Right op = right_at (binary_of op) W p q

  pub operator : (op : BinaryOp) → IsDraftOf ds x (operand_bits op (Left op)) → IsDraftOf ds y (operand_bits op (Right op))
      → MatchOption (operator_cell op x y) (Unit {0}) (IsOperator op ds W (Left op) (Right op) x y)
  operator b.Mul h k = tt
  operator b.Div h k = tt
  operator b.Mod h k = tt
  operator b.Add h k = record { bits = W; narrow = omega arith; made = (sym h.1, (h.0, k.0, h.1 ∙ sym k.1)); tree = λ ts t v e f. fit-same W _ ∙ ap₂ tree.Add e f }
  operator b.Sub h k = record { bits = W; narrow = omega arith; made = (sym h.1, (h.0, k.0, h.1 ∙ sym k.1)); tree = λ ts t v e f. fit-same W _ ∙ ap₂ tree.Sub e f }
  operator b.Shl h k = record { bits = W; narrow = omega arith; made = (sym h.1, h.0, k.0); tree = λ ts t v e f. fit-same W _ ∙ ap₂ tree.Shl e f }
  operator b.Shr h k = record { bits = W; narrow = omega arith; made = (sym h.1, h.0, k.0); tree = λ ts t v e f. fit-same W _ ∙ ap₂ tree.Shr e f }
  operator b.Lt h k = record { bits = 1; narrow = some; made = (refl, (h.0, k.0, h.1 ∙ sym k.1)); tree = λ ts t v e f. ap₂ (λ l r. fit W 1 (tree.Lt l r)) e f }
  operator b.Le h k = record { bits = 1; narrow = some; made = (refl, (k.0, h.0, k.1 ∙ sym h.1)); tree = λ ts t v e f. ap₂ (λ l r. fit W 1 (tree.Not (tree.Lt r l))) e f }
  operator b.Gt h k = record { bits = 1; narrow = some; made = (refl, (k.0, h.0, k.1 ∙ sym h.1)); tree = λ ts t v e f. ap₂ (λ l r. fit W 1 (tree.Lt r l)) e f }
  operator b.Ge h k = record { bits = 1; narrow = some; made = (refl, (h.0, k.0, h.1 ∙ sym k.1)); tree = λ ts t v e f. ap₂ (λ l r. fit W 1 (tree.Not (tree.Lt l r))) e f }
  operator b.Eq h k = record { bits = 1; narrow = some; made = (refl, (h.0, k.0, h.1 ∙ sym k.1)); tree = λ ts t v e f. ap₂ (λ l r. fit W 1 (tree.Eq l r)) e f }
  operator b.Ne h k = record { bits = 1; narrow = some; made = (refl, (h.0, k.0, h.1 ∙ sym k.1)); tree = λ ts t v e f. ap₂ (λ l r. fit W 1 (tree.Not (tree.Eq l r))) e f }
  operator b.And h k = record { bits = W; narrow = omega arith; made = (sym h.1, (h.0, k.0, h.1 ∙ sym k.1)); tree = λ ts t v e f. fit-same W _ ∙ ap₂ tree.And e f }
  operator b.Xor h k = record { bits = W; narrow = omega arith; made = (sym h.1, (h.0, k.0, h.1 ∙ sym k.1)); tree = λ ts t v e f. fit-same W _ ∙ ap₂ tree.Xor e f }
  operator b.Xnor h k = record { bits = W; narrow = omega arith; made = (sym h.1, (h.0, k.0, h.1 ∙ sym k.1)); tree = λ ts t v e f. fit-same W _ ∙ ap₂ (λ l r. tree.Not (tree.Xor l r)) e f }
  operator b.Or h k = record { bits = W; narrow = omega arith; made = (sym h.1, (h.0, k.0, h.1 ∙ sym k.1)); tree = λ ts t v e f. fit-same W _ ∙ ap₂ tree.Or e f }
  operator b.LogicAnd h k = record { bits = 1; narrow = some; made = (sym h.1, (h.0, k.0, h.1 ∙ sym k.1)); tree = λ ts t v e f. ap₂ (λ l r. fit W 1 (tree.And l r)) e f }
  operator b.LogicOr h k = record { bits = 1; narrow = some; made = (sym h.1, (h.0, k.0, h.1 ∙ sym k.1)); tree = λ ts t v e f. ap₂ (λ l r. fit W 1 (tree.Or l r)) e f }

pub no-operator : (op : BinaryOp) (x y : CellId) → operator_cell op x y ≡ None → (W m n : ℕ) (t v : Tree) → tree.Const W 0 ≡ binary_tree (binary_of op) W m n t v
no-operator b.Mul x y e W m n t v = refl
no-operator b.Div x y e W m n t v = refl
no-operator b.Mod x y e W m n t v = refl
no-operator b.Add x y e W m n t v = cc
no-operator b.Sub x y e W m n t v = cc
no-operator b.Shl x y e W m n t v = cc
no-operator b.Shr x y e W m n t v = cc
no-operator b.Lt x y e W m n t v = cc
no-operator b.Le x y e W m n t v = cc
no-operator b.Gt x y e W m n t v = cc
no-operator b.Ge x y e W m n t v = cc
no-operator b.Eq x y e W m n t v = cc
no-operator b.Ne x y e W m n t v = cc
no-operator b.And x y e W m n t v = cc
no-operator b.Xor x y e W m n t v = cc
no-operator b.Xnor x y e W m n t v = cc
no-operator b.Or x y e W m n t v = cc
no-operator b.LogicAnd x y e W m n t v = cc
no-operator b.LogicOr x y e W m n t v = cc
