-- The operator's cell over what it takes of its operands, perhaps negated, with zeros above.
use Rattle.std.proofs.Common.{◌≡◌, Bool, Option, Some, None, MatchOption, sym, subst, ◌∙◌}
use Rattle.std.proofs.lemmas.Nat.{pow_pos}
use Rattle.cell_graph.specs.declared.cell.Cell.{Cell}
use Rattle.flat_form.specs.View.{binary_of}
use Rattle.flat_meaning.specs.Meaning.{left_at, right_at}
use Rattle.flat_meaning.specs.Trees.{fit, binary_tree}
use Rattle.driver_trees.specs.Drafts.{draft_trees, tree_in}
use Rattle.driver_trees.specs.Operators.{not_if, operator_cell}
use Rattle.driver_trees.proofs.Growing.{built-after, built-as, built-of, ok-map}
use Rattle.driver_trees.proofs.Operators.{IsOperator, no-operator, operator}
use Rattle.driver_trees.proofs.expr.binary.Goals as goal

pub returns-in_ok-word-in-Some-2 : goal.returns-in_ok-word-in-Some-2
returns-in_ok-word-in-Some-2 c = record {
  built = λ wid x y are left right some most.
      let old = c.args.drafts.now in
      let mid = c.operands.new.drafts in
      let op = c.args.op in
      let W = c.args.width in
      let m = left_at (binary_of op) W x y in
      let n = right_at (binary_of op) W x y in
      let p = c.in_ok-x.x in
      let q = c.in_ok-x.y in
      let ops = c.in_ok-x.ensures.built wid m n are left right in
      let e : operator_cell op p q ≡ Some (c.in-Some.cell, c.in-Some.negated) = sym c.cell_of.ensures ∙ c.in-Some.is in
      let is : IsOperator op mid W m n p q (c.in-Some.cell, c.in-Some.negated) = subst (λ (o : Option (Cell × Bool)). MatchOption o (Unit {0}) (IsOperator op mid W m n p q)) e (operator mid W x y some p q op ops.left ops.right) in
      let one = c.in_ok-word-in-Some.ensures.built wid is.bits ops.grows.drafts is.made in
      let two = c.in_ok-word-in-Some-2.ensures.built wid is.bits one.grows.drafts one.place in
      ok-map c.fitted.result
      (λ id b. built-after ops.grows (built-as (λ sel. binary_tree (binary_of op) W m n (tree_in sel old c.args.a) (tree_in sel old c.args.b)) (built-of (fit W is.bits) (built-of (not_if c.in-Some.negated) one two) b)
      (λ sel. is.tree (draft_trees sel mid) (tree_in sel old c.args.a) (tree_in sel old c.args.b) (ops.left_tree sel) (ops.right_tree sel))))
      (c.fitted.ensures.built wid is.bits two.grows.drafts two.place is.narrow most);
}

pub returns-in-None : goal.returns-in-None
returns-in-None c = record {
  built = λ wid x y are left right some most.
      let old = c.args.drafts.now in
      let op = c.args.op in
      let W = c.args.width in
      let m = left_at (binary_of op) W x y in
      let n = right_at (binary_of op) W x y in
      let ops = c.in_ok-x.ensures.built wid m n are left right in
      let e : operator_cell op c.in_ok-x.x c.in_ok-x.y ≡ None = sym c.cell_of.ensures ∙ c.in-None.is in
      ok-map c.constant.result
      (λ id b. built-after ops.grows (built-as (λ sel. binary_tree (binary_of op) W m n (tree_in sel old c.args.a) (tree_in sel old c.args.b)) b
      (λ sel. no-operator op c.in_ok-x.x c.in_ok-x.y e W m n (tree_in sel old c.args.a) (tree_in sel old c.args.b))))
      (c.constant.ensures.built wid ops.grows.drafts some most (pow_pos W));
}
