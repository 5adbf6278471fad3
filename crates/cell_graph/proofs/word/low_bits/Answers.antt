use Rattle.std.proofs.Common.{◌∙◌, ap, min, arith}
use Rattle.std.specs.Prelude.{bit_and}
use Rattle.std.proofs.lemmas.Nat.{and_mask}
use Rattle.cell_graph.proofs.Words.{word-low}
use Rattle.cell_graph.proofs.word.low_bits.Goals as goal

pub returns : goal.returns
returns c = ap (bit_and c.args.word) c.mask.ensures ∙ and_mask c.args.word (min c.args.width 64) ∙ word-low c.args.word c.args.width (omega arith)
