-- The reads of earlier cells, and of the bits so far; and the conditions that are known.
use Rattle.std.proofs.Common.{◌<◌, length}
use Rattle.domains.specs.declared.Domains.{Domains}
use Rattle.cdc_model.specs.Nets.{design_of}
use Rattle.fifo_laws.specs.Sides.{Side}
use Rattle.fifo_ways.specs.Steps.{AreConditions}
use Rattle.fifo_parts.specs.Tellers.{IsShown}
use Rattle.fifo_parts.specs.Words.{AreReadBy, AreReadsAmong, CountsBy, IsBefore, IsBeforeAt}
use Rattle.fifo_parts.proofs.reads.add_reads.Given as goal

abbrev pub invariant-loop-at : goal.invariant-loop-at
invariant-loop-at l = record {
  reads : (domains : Domains) → IsShown l.net l.table → l.cell.0 < length l.net.graph.cells → AreReadBy l.net domains l.cell l.count
      → AreReadsAmong l.net domains (IsBefore l.cell.0) l.initial.reads → AreReadsAmong l.net domains (IsBeforeAt l.cell l.at) l.reads;
  conditions : (domains : Domains) (s : Side) → IsShown l.net l.table → l.cell.0 < length l.net.graph.cells → CountsBy l.net domains l.count s
      → AreConditions l.net.graph (design_of l.net domains) s l.conditions;
}
