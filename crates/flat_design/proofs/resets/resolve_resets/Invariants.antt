use Rattle.std.proofs.Common.{◌≡◌, ◌-◌, List, length}
use Rattle.cdc_base.specs.declared.signal.ResetPin.{ResetPin}
use Rattle.flat_unfolding.specs.Names.{Entry}
use Rattle.flat_unfolding.specs.Design.{Stage, change_from}
use Rattle.flat_unfolding.specs.Unfolding.{declared_reset}
use Rattle.flat_names.specs.Designs.{ShowsDesign}
use Rattle.flat_design.specs.Visiting.{ShowsPins}
use Rattle.flat_design.proofs.resets.resolve_resets.Given as goal

-- what is left to be changed makes the whole of the entries so far
abbrev pub invariant-loop-sig : goal.invariant-loop-sig
invariant-loop-sig l = (pins : List ResetPin) (s : Stage) → ShowsPins l.pins pins → ShowsDesign pins l.initial.design s.design
    → (es : List Entry) × (change_from (declared_reset s.design.pins) l.sig (length s.design.entries - l.sig) es
    ≡ change_from (declared_reset s.design.pins) l.first (length s.design.entries - l.first) s.design.entries) × ShowsDesign pins l.design (record s.design { entries = es })
