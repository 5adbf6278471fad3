use Rattle.std.proofs.Common.{◌∙◌}
use Rattle.run_file.proofs.names.clock_named.Goals as goal

pub returns : goal.returns
returns c = λ can. c.copied.ensures ∙ c.get.ensures.value ∙ can.clocks c.args.name.now
