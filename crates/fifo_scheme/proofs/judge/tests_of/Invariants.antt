-- Each guard so far was met, and those with a test are kept.
use Rattle.std.proofs.Common.{take}
use Rattle.fifo_laws.specs.Sides.{Side}
use Rattle.fifo_ways.specs.Sought.{AreNodes}
use Rattle.fifo_parts.specs.Tellers.{IsPair, IsShown}
use Rattle.fifo_scheme.proofs.MetTests.{AreTestsSoFar}
use Rattle.fifo_scheme.proofs.judge.tests_of.Given as goal

abbrev pub invariant-loop-guard : goal.invariant-loop-guard
invariant-loop-guard l = IsShown l.shown.net.now l.shown.table.now → (write read : Side) → IsPair l.shown.net.now l.shown.domains.now l.pair write read → AreNodes l.shown.net.now.graph l.roots
    → AreTestsSoFar l.shown.net.now l.shown.domains.now write read (take l.guard-index l.guard-items) l.met l.tests
