use Rattle.std.proofs.Common.{List, length, drop}
use Rattle.cdc_base.specs.declared.signal.ResetPin.{ResetPin}
use Rattle.flat_unfolding.specs.Design as u
use Rattle.flat_names.specs.Designs.{ShowsDesign}
use Rattle.flat_process.specs.Resets.{AreGiven}
use Rattle.flat_process.proofs.Keeping.{KeptSoFar}
use Rattle.flat_process.proofs.reset.keep_given.Given as goal

abbrev pub invariant-loop-one : goal.invariant-loop-one
invariant-loop-one l = (pins : List ResetPin) (e : u.Design) (us : List u.Given) → ShowsDesign pins l.initial.design e → AreGiven (length e.entries) us l.given → KeptSoFar pins e us l.design (drop l.one-index l.given)
