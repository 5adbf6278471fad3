use Rattle.std.proofs.Common.{arith, bit_and}
use Rattle.std.proofs.lemmas.Simd.{get_or-zip2}
use Rattle.campaign.proofs.lanes.ands.Goals as goal

pub returns : goal.returns
returns c = λ i h. get_or-zip2 bit_and c.args.a c.args.b i 0 0 0 (omega arith) (omega arith)
