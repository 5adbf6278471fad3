use Rattle.std.proofs.Common.{arith}
use Rattle.std.proofs.lemmas.Bool.Decides.{nat_tests}
use Rattle.clock_constraints.proofs.Places.{clock_place_among}
use Rattle.clock_constraints.proofs.names.clock_place.Goals as goal

pub returns-in-Some : goal.returns-in-Some
returns-in-Some c =
    let e = clock_place_among c.args.name.now c.args.ports.now.keys c.args.clocks.now c.requires.0 c.requires.1 in
    grind (arith, nat_tests)

pub returns-in_default : goal.returns-in_default
returns-in_default c =
    let e = clock_place_among c.args.name.now c.args.ports.now.keys c.args.clocks.now c.requires.0 c.requires.1 in
    grind (arith, nat_tests)

pub returns-in_default-2 : goal.returns-in_default-2
returns-in_default-2 c =
    let e = clock_place_among c.args.name.now c.args.ports.now.keys c.args.clocks.now c.requires.0 c.requires.1 in
    grind (arith, nat_tests)
