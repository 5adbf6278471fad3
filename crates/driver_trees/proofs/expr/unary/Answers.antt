-- `~` is its cell; all others are a bit with zeros above.
use Rattle.std.proofs.Common.{IfOk, sym, ap, subst, ◌∙◌}
use Rattle.flat_form.specs.declared.flat.FUnaryOp.{FUnaryOp}
use Rattle.flat_form.specs.View.{unary_of}
use Rattle.flat_meaning.specs.Meaning.{unary_at}
use Rattle.flat_meaning.specs.Trees.{fit, unary_tree}
use Rattle.driver_trees.specs.Drafts.{tree_in, IsDraftOf}
use Rattle.driver_trees.specs.Growth.{IsBuilt}
use Rattle.driver_trees.specs.Operators.{reduction, not_if, bit_tree}
use Rattle.driver_trees.proofs.Growing.{built-as, built-of, ok-map}
use Rattle.driver_trees.proofs.Operators.{unary-steps}
use Rattle.driver_trees.proofs.expr.unary.Goals as goal

pub returns-in-Not : goal.returns-in-Not
returns-in-Not c = record {
  built = λ wid own are is some most.
      let old = c.args.drafts.now in
      let W = c.args.width in
      subst (λ (o : FUnaryOp). IsDraftOf old c.args.a (unary_at (unary_of o) W own)
      → IfOk c.add.result (λ id. IsBuilt wid old c.add.new.self id W (λ sel. unary_tree (unary_of o) W (unary_at (unary_of o) W own) (tree_in sel old c.args.a))))
      (sym c.in-Not.is) (λ h. c.add.ensures.built wid W are (sym h.1, h.0)) is;
}

pub returns-in_ok-bit-in_default-2 : goal.returns-in_ok-bit-in_default-2
returns-in_ok-bit-in_default-2 c = record {
  built = λ wid own are is some most.
      let old = c.args.drafts.now in
      let op = c.args.op in
      let W = c.args.width in
      let m = unary_at (unary_of op) W own in
      let one = c.in_ok-bit-in_default.ensures.built wid m are is in
      let two = c.in_ok-bit-in_default-2.ensures.built wid 1 one.grows.drafts one.place in
      ok-map c.fitted.result
      (λ id b. built-as (λ sel. unary_tree (unary_of op) W m (tree_in sel old c.args.a)) (built-of (fit W 1) (built-of (not_if c.is_negated.result) one two) b)
      (λ sel. ap (λ v. fit W 1 (not_if v (bit_tree (reduction op) m (tree_in sel old c.args.a)))) c.is_negated.ensures ∙ unary-steps op c.in_default.not-Not W m (tree_in sel old c.args.a)))
      (c.fitted.ensures.built wid 1 two.grows.drafts two.place some most);
}
