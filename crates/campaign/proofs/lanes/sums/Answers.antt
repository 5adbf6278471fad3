use Rattle.std.proofs.Common.{◌+◌, ◌%◌, ◌^◌, arith}
use Rattle.std.proofs.lemmas.Simd.{get_or-zip2}
use Rattle.campaign.proofs.lanes.sums.Goals as goal

pub returns : goal.returns
returns c = λ i h. get_or-zip2 (λ x y. (x + y) % 2 ^ 64) c.args.a c.args.b i 0 0 0 (omega arith) (omega arith)
