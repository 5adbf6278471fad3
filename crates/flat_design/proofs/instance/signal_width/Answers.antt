use Rattle.std.proofs.Common.{◌≡◌, ap, sym, length, refl, ◌∙◌, arith, ltb-true, Some}
use Rattle.std.specs.Prelude.{slice_get}
use Rattle.std.proofs.lemmas.Grind.{common_steps}
use Rattle.std.proofs.lemmas.Option.{slice_get_read}
use Rattle.flat_design.proofs.Shown.{width-shown}
use Rattle.flat_design.proofs.instance.signal_width.Goals as goal

pub returns-in-Some : goal.returns-in-Some
returns-in-Some c = λ pins e h l.
    let place : c.unwrap_or.result ≡ c.args.sig = grind (arith, common_steps) in
    let xs = c.deref.result.now in
    let there = c.in-Some.ensures.lookup in
    let at : slice_get xs c.unwrap_or.result ≡ Some c.in-Some.entry.now = slice_get_read xs (length xs) c.unwrap_or.result c.in-Some.entry.now refl (ltb-true c.unwrap_or.result (length xs) (sym there.0)) there.1 in
    width-shown c.args.design.now.entries.items e.entries h.entries c.args.sig c.in-Some.entry.now (ap (λ ys. slice_get ys c.args.sig) (sym c.deref.ensures.value) ∙ ap (slice_get xs) (sym place) ∙ at)
