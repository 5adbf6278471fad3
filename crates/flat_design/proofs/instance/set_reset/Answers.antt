use Rattle.std.proofs.Common.{◌≡◌, Option, None, Some, length, refl, sym, ap, ap₂, ◌∙◌, arith, ltb-true, ltb-false}
use Rattle.std.specs.Prelude.{slice_get}
use Rattle.std.proofs.lemmas.Grind.{common_steps}
use Rattle.std.proofs.lemmas.Option.{slice_get_read, slice_get_past}
use Rattle.std.proofs.Math.ListN.{set}
use Rattle.flat_names.specs.declared.design.Reset.{Reset}
use Rattle.flat_unfolding.specs.Instances.{resolving_to}
use Rattle.flat_design.proofs.Resolving.{unchanged-there, shows-resolving}
use Rattle.flat_design.proofs.instance.set_reset.Goals as goal

pub returns-in-Some : goal.returns-in-Some
returns-in-Some c = λ pins e r h resets.
    let place : c.unwrap_or-place.result ≡ c.args.sig = grind (arith, common_steps) in
    let d = c.args.design.now in
    let xs = d.entries.items in
    let x = c.in-Some.entry.now in
    let there = c.in-Some.ensures.item in
    let at : slice_get xs c.unwrap_or-place.result ≡ Some x = slice_get_read xs (length xs) c.unwrap_or-place.result x refl (ltb-true c.unwrap_or-place.result (length xs) (sym there.0)) there.1 in
    shows-resolving pins d e h c.args.sig c.args.reset r resets x _ (ap (slice_get xs) (sym place) ∙ at) (ap₂ (λ k (q : Option Reset). set xs k (record x { reset = q })) place c.or-entry.ensures)

pub returns-in_default : goal.returns-in_default
returns-in_default c = λ pins e r h resets.
    let place : c.unwrap_or-place.result ≡ c.args.sig = grind (arith, common_steps) in
    let d = c.args.design.now in
    let xs = d.entries.items in
    let none : slice_get xs c.args.sig ≡ None = ap (slice_get xs) (sym place) ∙ slice_get_past xs c.unwrap_or-place.result (ltb-false c.unwrap_or-place.result (length xs) (sym c.in_default.ensures.item.0)) in
    unchanged-there pins d e h c.args.sig (resolving_to r) d.entries none refl
