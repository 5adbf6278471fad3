use Rattle.std.proofs.Common.{◌∙◌, arith}
use Rattle.std.proofs.lemmas.Grind.{common_steps}
use Rattle.clap.specs.Words.{found_of}
use Rattle.clap.proofs.WalkLemmas.{first_value-rows}
use Rattle.command_line.proofs.text.Goals as goal

pub returns : goal.returns
returns c =
    let rows = first_value-rows (found_of c.args.found.now) c.args.id.now in
    let texts = c.get_str.ensures ∙ rows in
    grind (arith, common_steps, texts)
