use Rattle.std.proofs.Common.{◌≡◌, ℕ, ◌^◌, ◌<◌, subst, arith}
use Rattle.cell_graph.specs.Tree.{number}
use Rattle.flat_meaning.specs.Meaning.{value}
use Rattle.flat_meaning.specs.Full.{nothing}
use Rattle.flat_form.specs.View.{expr_of}
use Rattle.flat_form.proofs.value.own_value.Goals as goal

pub returns : goal.returns
returns c = λ s.
    let w = c.width_of.ensures in
    subst (λ (n : ℕ). (c.value_at.result ≡ number (value nothing (expr_of c.args.expr.now) n) n) × (c.value_at.result < 2 ^ n)) w.kept (c.value_at.ensures s (omega (arith, w.kept)) (w.most s))
