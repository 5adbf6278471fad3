use Rattle.std.proofs.Common.{◌≡◌, List, length, map, drop}
use Rattle.std.specs.List.{list_any}
use Rattle.cdc_base.specs.declared.signal.ResetPin.{ResetPin}
use Rattle.flat_unfolding.specs.Instances.{is_short}
use Rattle.flat_unfolding.specs.Design.{Stage}
use Rattle.flat_names.specs.Designs.{ShowsStage}
use Rattle.flat_design.specs.Visiting.{leaning_in, AreFitNames}
use Rattle.flat_design.proofs.instance.has_short.Given as goal

abbrev pub invariant-loop-given : goal.invariant-loop-given
invariant-loop-given l = (pins : List ResetPin) (s : Stage) → ShowsStage pins l.names l.design s → AreFitNames s.names (length s.design.entries)
    → list_any (is_short s) (map leaning_in l.leaning) ≡ list_any (is_short s) (map leaning_in (drop l.given-index l.leaning))
