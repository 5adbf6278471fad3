use Rattle.std.proofs.Common.{arith, ◌∙◌, ap, sym}
use Rattle.std.specs.Prelude.{position}
use Rattle.std.specs.Str.{bytes_eq}
use Rattle.std.proofs.lemmas.Grind.{common_steps}
use Rattle.sdc_subset.proofs.Lookups.{meaning-there, meaning-found}
use Rattle.sdc_subset.proofs.pins.meaning_of.Goals as goal

pub returns-in-Some-get : goal.returns-in-Some-get
returns-in-Some-get c = meaning-found c.args.port.now c.args.pins.now c.in-Some.place c.in-Some-get.pin.now
    (ap (position (bytes_eq c.args.port.now)) (sym c.requires) ∙ sym c.in-Some.ensures) c.in-Some-get.ensures.lookup.3.0 c.in-Some-get.ensures.lookup.1

pub returns-in-None : goal.returns-in-None
returns-in-None c = let there = meaning-there c.args.port.now c.args.pins.now in grind (arith, common_steps)
