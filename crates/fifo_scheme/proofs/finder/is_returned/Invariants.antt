-- No way so far leads back.
use Rattle.std.proofs.Common.{◌≡◌, drop}
use Rattle.fifo_scheme.specs.Candidates.{leads_back}
use Rattle.fifo_scheme.proofs.finder.is_returned.Given as goal

abbrev pub invariant-loop-way : goal.invariant-loop-way
invariant-loop-way l = leads_back l.ways l.ways ≡ leads_back l.ways (drop l.way-index l.ways)
