-- The reads of the cells so far, and the counts of their conditions.
use Rattle.domains.specs.declared.Domains.{Domains}
use Rattle.fifo_parts.specs.Tellers.{IsShown}
use Rattle.fifo_parts.specs.Words.{AreCounts, AreReadsAmong, IsBefore}
use Rattle.fifo_parts.proofs.reads.reads.Given as goal

abbrev pub invariant-loop-place : goal.invariant-loop-place
invariant-loop-place l = (domains : Domains) → IsShown l.net l.table → AreCounts l.net l.counts
    × AreReadsAmong l.net domains (IsBefore l.place) l.reads
