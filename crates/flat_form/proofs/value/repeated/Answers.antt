use Rattle.std.proofs.Common.{◌≡◌, ℕ, suc, ◌+◌, ◌*◌, subst, ap, ◌∙◌, arith}
use Rattle.std.specs.Prelude.{bit_or}
use Rattle.cell_graph.specs.Tree.{number}
use Rattle.flat_meaning.specs.Meaning.{copies}
use Rattle.flat_form.proofs.Constants.{repeat-step, fewer}
use Rattle.flat_form.proofs.value.repeated.Goals as goal

pub loop-preserved : goal.loop-preserved
loop-preserved c = λ f small e.
    let n = c.loop.counter in
    let w = c.args.width in
    let next : suc n ≡ n + 1 = omega arith in
    subst (λ (k : ℕ). bit_or c.shifted_left.result c.args.word ≡ number (copies k w f) (k * w)) next
    (ap (λ (k : ℕ). bit_or k c.args.word) c.shifted_left.ensures ∙ repeat-step f w n c.args.word c.loop.all (fewer (suc n) c.args.count w (omega arith) small) e (c.loop.invariant f small e))

pub returns : goal.returns
returns c = λ f small e.
    let z : c.loop.counter ≡ c.args.count = omega arith in
    subst (λ (k : ℕ). c.loop.all ≡ number (copies k c.args.width f) (k * c.args.width)) z (c.loop.invariant f small e)
