use Rattle.std.proofs.Common.{◌≡◌, Some, ap, sym, ◌∙◌}
use Rattle.std.proofs.Math.Nat.{mod-eq_of_lt}
use Rattle.cell_graph.specs.Tree.{bit_at, number}
use Rattle.cell_graph.proofs.Words.{number-bits}
use Rattle.flat_form.specs.Whole.{one_if, unary_whole}
use Rattle.flat_form.proofs.Numbers.{byte-is, no-complement}
use Rattle.flat_form.proofs.WholeNumbers.{other-unary}
use Rattle.flat_form.proofs.whole.whole_unary.Goals as goal

pub returns-in_default : goal.returns-in_default
returns-in_default c = λ small fits.
    let n = c.in_ok-a.a in
    let is : c.args.a ≡ Some n = c.in_ok-a.was in
    let e : n ≡ number (bit_at n) c.args.size = sym (mod-eq_of_lt (fits n is)) ∙ sym (number-bits n c.args.size) in
    ap Some (c.from.ensures ∙ byte-is c.reduced.result ∙ ap one_if (c.reduced.ensures (bit_at n) small (no-complement c.args.op c.in_default.not-Not) e))
    ∙ sym (ap (unary_whole c.args.op c.args.size) is ∙ other-unary c.args.op c.args.size n c.in_default.not-Not)
