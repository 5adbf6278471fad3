use Rattle.std.proofs.Common.{◌≡◌, ◌++◌, List, length, drop}
use Rattle.cdc_base.specs.declared.signal.ResetPin.{ResetPin}
use Rattle.flat_unfolding.specs.Design.{Design}
use Rattle.reset_nets.specs.Nets.{further_pins}
use Rattle.reset_nets.specs.Shown.{ShowsWires}
use Rattle.reset_nets.proofs.nets.pins_of.Given as goal

abbrev pub invariant-loop-place : goal.invariant-loop-place
invariant-loop-place l = (pins : List ResetPin) (d : Design) → ShowsWires pins l.wires d → length l.levels ≡ length d.entries
    → l.pins.items ++ further_pins pins (drop l.place d.entries) (drop l.place l.levels) ≡ further_pins pins d.entries l.levels
