-- The first flops of the synchronizers so far.
use Rattle.std.proofs.Common.{Bool, List, take}
use Rattle.cdc_model.specs.declared.scheme.GrayReg.{GrayReg}
use Rattle.cdc_model.specs.Schemes.{Ring}
use Rattle.obligations.specs.Given.{AreFound, design_in, syncs_in}
use Rattle.obligations.specs.Words.{AreEntries}
use Rattle.obligations.proofs.words.entries.Given as goal

abbrev pub invariant-loop-sync : goal.invariant-loop-sync
invariant-loop-sync l = (grays : GrayReg → Bool) (rings : List Ring) → AreFound grays rings l.found → AreEntries (design_in l.found) (take l.sync-index (syncs_in l.found)) l.entries.items
