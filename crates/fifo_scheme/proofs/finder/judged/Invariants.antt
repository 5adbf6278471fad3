-- The FIFOs are those of the sides so far.
use Rattle.std.proofs.Common.{◌≡◌, ◌++◌, List}
use Rattle.cdc_model.specs.declared.scheme.GrayReg.{GrayReg}
use Rattle.cdc_model.specs.Schemes.{Sync}
use Rattle.fifo_scheme.specs.Candidates.{AreKept, AreMade}
use Rattle.fifo_scheme.specs.Given.{AreGiven}
use Rattle.fifo_scheme.specs.Indexed.{IsIndex}
use Rattle.fifo_parts.specs.Tellers.{IsShown}
use Rattle.fifo_scheme.proofs.finder.judged.Given as goal

abbrev pub invariant-loop-sides : goal.invariant-loop-sides
invariant-loop-sides l = (l.yielded ++ l.sides-iterator ≡ l.fn.candidates.entries)
    × ((syncs : List Sync) (grays : List GrayReg) → AreGiven l.shown.net.now l.shown.domains.now l.syncs syncs → IsShown l.shown.net.now l.shown.table.now → IsIndex l.shown.net.now l.shown.domains.now syncs grays l.index
    → AreKept l.index.sides.items l.fn.candidates → AreMade l.shown.net.now l.shown.domains.now syncs grays l.index.sides.items l.yielded l.fifos)
