use Rattle.std.proofs.Common.{◌≡◌, [], ◌∷◌, ◌++◌, bit_and, sym, ap, subst, ◌∙◌}
use Rattle.std.proofs.lemmas.Result.{IfOk-weaker}
use Rattle.flat_form.specs.declared.flat.FExpr.TheVariants as e
use Rattle.flat_form.specs.declared.flat.FTarget.TheVariants as t
use Rattle.flat_form.specs.declared.flat.FlatAssign.{FlatAssign}
use Rattle.flat_design.specs.StartValues.{start_assigned, GrowsBy}
use Rattle.flat_design.proofs.StartValues.{start-pushed}
use Rattle.flat_design.proofs.constants.add_start.Goals as goal

pub returns : goal.returns
returns c =
    let s = c.args.sig in let w = c.args.entry.now.width in let v = c.in-Some.start in let bits = c.low_bits.result in
    let old = c.args.assigns.now.items in let new = c.push.new.items.items in
    let number : c.in-Ok.sig ≡ s = c.in-Ok.ensures.1 in
    IfOk-weaker c.push.result _ _ (λ _ p.
    subst (λ o. GrowsBy old new (start_assigned s w o)) (sym c.in-Some.is) (start-pushed s w v bits old new c.low_bits.ensures.ones
    (p ∙ ap (λ i. old ++ (record { target = t.Whole i; value = e.Number (bit_and v bits) w }) ∷ []) number))) c.push.ensures.pushed
