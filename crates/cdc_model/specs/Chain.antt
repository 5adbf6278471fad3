-- What the flops of synchronizers take in a step, and hold after a run.
use Rattle.std.specs.Prelude.{◌≡◌, ℕ, suc, ◌+◌, ◌<◌, ◌≤◌, Bool, true, false, Some, None, List, Contains}
use Rattle.cdc_base.specs.declared.bit.Bit.{Bit}
use Rattle.cdc_model.specs.Design.{Design, settle_of}
use Rattle.cdc_model.specs.Runs.{State, Trace, now, ticks, around}
use Rattle.cdc_model.specs.Schemes.{IsAt, Sync, flops, is_settling}
use Rattle.cdc_model.specs.Facts.{IsEither}

-- A step of the flops, from a state in which only settling flops are unsettled.
pub record ChainStep (d : Design) (syncs : List Sync) (edges : ℕ → Bool) (old new : State) : Type 0 where
  -- a first flop takes its source's value before or after the step, and is unsettled only where these differ
  pub first : (s : Sync) → Contains syncs s → ticks d edges s.first ≡ true → IsEither new s.first (old.values s.from) (new.values s.from)
  -- a further settling flop takes the value that the flop before it had, and is settled, unless that one needed two cycles or more
  pub further : (s : Sync) (j : ℕ) (x y : Bit) → Contains syncs s → suc j < settle_of d s.first → IsAt j x (flops s) → IsAt (suc j) y (flops s) → ticks d edges y ≡ true
      → old.left x ≤ 1 → (new.values y ≡ old.values x) × (new.left y ≡ 0)
  -- the number of a settling flop is less by its place
  pub cycles : (s : Sync) (j : ℕ) (x : Bit) → Contains syncs s → j < settle_of d s.first → IsAt j x (flops s) → ticks d edges x ≡ true → j + new.left x ≤ settle_of d s.first
  -- any other plain copy within a clock takes the value before the step, and is settled
  pub copy : (x b : Bit) → d.is_register x ≡ true → ticks d edges x ≡ true → is_settling d syncs x ≡ false → d.copied x ≡ Some b → d.clock b ≡ d.clock x
      → (new.values x ≡ old.values b) × (new.left x ≡ 0)

-- What settling flops hold after a run in whose states only settling flops are unsettled.
pub record ChainRun (d : Design) (syncs : List Sync) (run : Trace) : Type 0 where
  -- the value that their source had before or after the step in which the first flop captured it
  pub ticked : (s : Sync) (c j : ℕ) (x : Bit) (before after : State) → Contains syncs s → d.clock s.first ≡ Some c → j < d.settle c → IsAt j x (flops s)
      → around c j run ≡ Some (before, after) → IsEither (now run) x (before.values s.from) (after.values s.from)
  -- where their clock ticked fewer times they are settled
  pub unticked : (s : Sync) (c j : ℕ) (x : Bit) → Contains syncs s → d.clock s.first ≡ Some c → j < d.settle c → IsAt j x (flops s)
      → around c j run ≡ None → (now run).left x ≡ 0
