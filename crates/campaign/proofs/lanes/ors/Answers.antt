use Rattle.std.proofs.Common.{arith, bit_or}
use Rattle.std.proofs.lemmas.Simd.{get_or-zip2}
use Rattle.campaign.proofs.lanes.ors.Goals as goal

pub returns : goal.returns
returns c = λ i h. get_or-zip2 bit_or c.args.a c.args.b i 0 0 0 (omega arith) (omega arith)
