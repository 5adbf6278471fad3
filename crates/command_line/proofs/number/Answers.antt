use Rattle.std.proofs.Common.{◌∙◌}
use Rattle.std.specs.contracts.prelude.U32FromStr.TheImpl as numbers
use Rattle.clap.specs.Words.{found_of, rows_of, one_of}
use Rattle.clap.proofs.WalkLemmas.{one_text-rows}
use Rattle.command_line.proofs.Numbers.{there}
use Rattle.command_line.proofs.number.Goals as goal

pub returns : goal.returns
returns c =
    let rows = one_text-rows (found_of c.args.found.now) c.args.id.now in
    c.unwrap_or.ensures ∙ there _ numbers.ghosts.from_str_gives (λ t r h. h.0) (one_of c.args.id.now (rows_of (found_of c.args.found.now))) c.get_one.result c.requires.there c.requires.numeral c.requires.most
    (λ t is. c.get_one.ensures.value t (rows ∙ is))
