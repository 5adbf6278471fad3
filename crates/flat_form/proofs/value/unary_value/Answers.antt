use Rattle.std.proofs.Common.{◌≡◌, Bool, cond, subst, sym, ap, ◌∙◌}
use Rattle.flat_form.specs.declared.flat.FUnaryOp.{FUnaryOp}
use Rattle.cell_graph.specs.Tree.{number}
use Rattle.flat_meaning.specs.Meaning.{unary, unary_at}
use Rattle.flat_form.specs.View.{unary_of}
use Rattle.flat_form.proofs.Numbers.{not-is, byte-is, no-complement, unary-flag}
use Rattle.flat_form.proofs.value.unary_value.Goals as goal

pub returns-in-Not : goal.returns-in-Not
returns-in-Not c = λ f whole small some at e.
    subst (λ (op : FUnaryOp). c.low_bits.result ≡ number (unary (unary_of op) c.args.size f) whole) (sym c.in-Not.is)
    (not-is c.low_bits.result c.args.a c.args.size whole f small (ap (λ (op : FUnaryOp). unary_at (unary_of op) whole c.args.size) (sym c.in-Not.is) ∙ at) e c.low_bits.ensures)

pub returns-in_default : goal.returns-in_default
returns-in_default c = λ f whole small some at e.
    let n = no-complement c.args.op c.in_default.not-Not in
    c.from.ensures ∙ byte-is c.reduced.result ∙ ap (λ (b : Bool). cond b 1 0) (c.reduced.ensures f small n e) ∙ unary-flag (unary_of c.args.op) c.args.size whole f n some
