use Rattle.std.proofs.Common.{◌≡◌, ◌-◌, ◌/◌, ◌^◌, min, ap, ap₂, ◌∙◌, arith, bit_and}
use Rattle.std.proofs.lemmas.Nat.{and_mask}
use Rattle.flat_form.specs.declared.flat.FExpr.TheVariants as form
use Rattle.flat_names.proofs.select.bits_of.Goals as goal

pub returns : goal.returns
returns c = λ h.
    let v = c.args.param.value in let at = c.args.at in let w = c.args.width in
    let e : min w 64 ≡ w = omega arith in
    ap (λ k. form.Number k w) (ap₂ bit_and (c.shifted_right.ensures ∙ ap (λ k. v / 2 ^ k) c.from.ensures) (c.low_bits.ensures.ones ∙ ap (λ k. 2 ^ k - 1) e) ∙ and_mask (v / 2 ^ at) w)
