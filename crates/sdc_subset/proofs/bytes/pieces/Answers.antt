use Rattle.std.proofs.Common.{arith}
use Rattle.std.proofs.lemmas.Grind.{common_steps}
use Rattle.sdc_subset.specs.Bytes.{in_class}
use Rattle.sdc_subset.proofs.Pieces.{pieces-whole}
use Rattle.sdc_subset.proofs.bytes.pieces.Goals as goal

pub returns : goal.returns
returns c = let whole = pieces-whole (in_class c.args.class) c.args.text.now in grind (arith, common_steps)
