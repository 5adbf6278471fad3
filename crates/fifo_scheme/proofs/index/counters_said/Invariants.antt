-- The bits are those of the counts so far.
use Rattle.std.proofs.Common.{is_some}
use Rattle.std.specs.HashMap as hash
use Rattle.cdc_base.specs.contracts.bit.BitPartialEq.TheImpl as equality
use Rattle.fifo_parts.specs.Words.{lowest}
use Rattle.fifo_scheme.proofs.IndexLooks.{AreLowest}
use Rattle.fifo_scheme.proofs.index.counters_said.Given as goal

abbrev pub invariant-loop-count : goal.invariant-loop-count
invariant-loop-count l = AreLowest (λ n. is_some (hash.get equality.ghosts.eq l.sides (lowest n))) l.count-items l.count-index l.bits
