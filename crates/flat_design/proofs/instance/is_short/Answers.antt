use Rattle.std.proofs.Common.{Some, length}
use Rattle.std.specs.Prelude.{option_and_then}
use Rattle.flat_unfolding.specs.Names as n
use Rattle.flat_names.specs.Looks.{meaning_of}
use Rattle.flat_design.specs.Visiting.{leaning_in}
use Rattle.flat_design.proofs.Taken.{meant-by, fit-meant, short-is}
use Rattle.flat_design.proofs.instance.is_short.Goals as goal

pub returns-in-Some : goal.returns-in-Some
returns-in-Some c = λ pins s shows fit.
    let g = c.args.given.now in let v = c.in-Some.meaning.now in let at = c.in-Some.ensures.value in
    short-is s (leaning_in g) (option_and_then n.as_value (Some (meaning_of v))) c.taken_bits.result (meant-by c.args.names.now s.names shows.names g.name (Some v) at)
    (c.taken_bits.ensures pins s.design shows.design (fit-meant c.args.names.now s.names shows.names g.name (length s.design.entries) fit v at))
