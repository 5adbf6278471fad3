use Rattle.std.proofs.Common.{◌≡◌, ◌<◌, ◌^◌, sym, ap, ap₂, subst, ◌∙◌, arith}
use Rattle.flat_unfolding.specs.Constants.{own_unary}
use Rattle.flat_names.proofs.Counted.{whole-fits, size-small, unary_value}
use Rattle.flat_names.proofs.Terms.{counted-of}
use Rattle.flat_names.proofs.resolved.unary.Goals as goal

pub returns-in-Some : goal.returns-in-Some
returns-in-Some c = λ l p is fits.
    let k = counted-of p c.args.a c.in-Some.count is c.in-Some.is in
    let size : c.width-size.result ≡ k.0 = c.width-size.ensures ∙ is.width k.0 k.1 in
    let small = size-small p k.0 fits k.1 in
    c.counted_unary.ensures l p k.0 is fits k.1 (c.own_unary-width.ensures ∙ ap (own_unary c.args.op) size)
    (c.unary_whole-whole.ensures (omega arith) (λ n e. subst (λ j. n < 2 ^ j) (sym size) (whole-fits p k.0 fits k.1 n (k.2 ∙ e))) ∙ ap₂ (unary_value c.args.op) size (sym k.2))
