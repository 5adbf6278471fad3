use Rattle.std.proofs.Common.{◌≡◌, ◌+◌, suc, ◌∷◌, drop, Some, refl, sym, ap, subst, ◌∙◌, arith, rules}
use Rattle.std.specs.Prelude.{slice_get}
use Rattle.std.proofs.lemmas.List.{drop_more}
use Rattle.std.proofs.lemmas.Option.{slice_get-get_or}
use Rattle.cdc_base.specs.declared.signal.ResetPin.{ResetPin}
use Rattle.flat_design.proofs.Pins.{PinsSoFar, pins-more}
use Rattle.flat_design.proofs.resets.pins_by_name.Goals as goal

pub loop-number-preserved : goal.loop-number-preserved
loop-number-preserved c =
    let all = c.args.resets.now in let k = c.loop-number.number in let r = c.index-resets-number.result in
    let next : drop k all ≡ r ∷ drop (k + 1) all = drop_more all k r c.loop-number-test.true ∙ ap (λ (z : ResetPin). z ∷ drop (k + 1) all) (sym c.index-resets-number.is) in
    let at : slice_get all k ≡ Some r = slice_get-get_or all k r c.loop-number-test.true ∙ ap Some (sym c.index-resets-number.is) in
    let e : k + 1 ≡ suc k = omega arith in
    let l = c.loop-number-test.true in
    let number : c.in-Ok.number ≡ k = search rules in
    subst (λ j. PinsSoFar all j c.add_pin.new.pins) (sym e)
    (pins-more all k r (drop (k + 1) all) c.loop-number.pins c.add_pin.new.pins c.loop-number.invariant next at (ap (λ j. drop j all) e)
    (record { pin = c.in-Ok.number; is_high = r.high }) number refl c.in_ok-add_pin.ensures)
