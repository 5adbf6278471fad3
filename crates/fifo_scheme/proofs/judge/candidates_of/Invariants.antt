-- The places of those that read the words so far.
use Rattle.std.proofs.Common.{List, take}
use Rattle.cdc_model.specs.declared.scheme.GrayReg.{GrayReg}
use Rattle.cdc_model.specs.Schemes.{Sync}
use Rattle.fifo_scheme.specs.Indexed.{IsIndex}
use Rattle.fifo_scheme.specs.Met.{AreGathered, ReadsAt}
use Rattle.fifo_parts.specs.Tellers.{IsShown}
use Rattle.fifo_scheme.proofs.judge.candidates_of.Given as goal

abbrev pub invariant-loop-word : goal.invariant-loop-word
invariant-loop-word l = (meant : List Sync) (grays : List GrayReg) → IsShown l.shown.net.now l.shown.table.now → IsIndex l.shown.net.now l.shown.domains.now meant grays l.index
    → AreGathered (ReadsAt l.shown.net.now l.shown.domains.now l.index l.pair.read.side.now.clock) (take l.word-index l.words) l.places.items
