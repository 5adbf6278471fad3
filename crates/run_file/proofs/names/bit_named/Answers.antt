use Rattle.std.proofs.Common.{◌∙◌}
use Rattle.run_file.proofs.names.bit_named.Goals as goal

pub returns : goal.returns
returns c = λ can. c.copied.ensures ∙ c.get.ensures.value ∙ can.bits c.args.name.now
