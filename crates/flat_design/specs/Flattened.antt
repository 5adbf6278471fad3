-- What the layers above may rest on in each flat design that flattening gives.
use Rattle.std.specs.Prelude.{◌≡◌, ℕ, ◌<◌, ◌≤◌, false, length, Some, slice_get}
use Rattle.cdc_base.specs.declared.signal.Signal.{Signal}
use Rattle.flat_form.specs.declared.flat.Flat as code
use Rattle.flat_form.specs.View.{flat_of}
use Rattle.flat_form.specs.Sizes.{IsWellSized}
use Rattle.flat_meaning.specs.Design.{Flat}
use Rattle.flat_meaning.specs.Sound.{IsSound}
use Rattle.flat_unfolding.specs.Drivers.{is_undriven}
use Rattle.flat_unfolding.specs.Laws.{IsWellClocked}
use Rattle.signal_names.specs.Laws.{AreNames, names_in}

-- no bit is read that has no driver, but for what comes from outside
abbrev pub IsDriven : Flat → Type 0
IsDriven f = (s i : ℕ) (x : Signal) → slice_get f.signals s ≡ Some x → i < x.width → is_undriven f s x i ≡ false

-- Kept widths are sizes, numbers fit in theirs and selects lie in their signals; no bit has two drivers, and no process of wires a latch; each bit of
-- a register has one clocked process, and a register's processes one clock of one bit; what is read is driven; printed names differ; and there are 1,048,576 signals at most.
pub record IsFlattened (f : code.Flat) : Type 0 where
  pub sized : IsWellSized f
  pub sound : IsSound (flat_of f)
  pub well_clocked : IsWellClocked (flat_of f)
  pub driven : IsDriven (flat_of f)
  pub names : AreNames (names_in (flat_of f))
  pub few : length f.signals ≤ 1048576
