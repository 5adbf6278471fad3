use Rattle.std.proofs.Common.{◌≡◌, ℕ, ◌%◌, ◌^◌, ◌<◌, max, subst, sym, ap, ◌∙◌, arith}
use Rattle.cell_graph.specs.Tree.{number}
use Rattle.cell_graph.proofs.Words.{number-low, number-lt}
use Rattle.flat_meaning.specs.Meaning.{value}
use Rattle.flat_meaning.specs.Full.{nothing}
use Rattle.flat_form.specs.View.{expr_of}
use Rattle.flat_form.specs.Sizes.{kept_of}
use Rattle.flat_form.proofs.value.assigned_value.Goals as goal

pub returns : goal.returns
returns c = λ s l.
    let x = c.args.expr.now in
    let m = max c.args.width (kept_of x).width in
    let f = value nothing (expr_of x) m in
    let w = c.width_of.ensures in
    let most = w.most s in
    let kept = w.kept in
    let at : c.max.result ≡ m = c.max.ensures ∙ ap (max c.args.width) kept in
    let v : c.value_at.result ≡ number f m = subst (λ (n : ℕ). c.value_at.result ≡ number (value nothing (expr_of x) n) n) at (c.value_at.ensures s (omega arith) (omega arith)).0 in
    let e : c.low_bits.result ≡ number f c.args.width = c.low_bits.ensures ∙ ap (λ n. n % 2 ^ c.args.width) v ∙ number-low f m c.args.width (omega arith) in
    (e, subst (λ n. n < 2 ^ c.args.width) (sym e) (number-lt f c.args.width))
