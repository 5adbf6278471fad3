-- What meets behind synchronizers belongs to one moment.
use Rattle.std.specs.Prelude.{◌≡◌, ℕ, true, Some, None, List, [], Contains, ◌⊎◌}
use Rattle.cdc_base.specs.declared.bit.Bit.{Bit}
use Rattle.cdc_model.specs.Design.{Design, group, is_behind}
use Rattle.cdc_model.specs.Runs.{State, Trace, now, around}
use Rattle.cdc_model.specs.Schemes.{Trees, Sync}

-- x reads an arrival of s from group g: the bit y, n flops behind the first flop, by plain copies on its clock.
pub record Reads (d : Design) (t : Trees) (syncs : List Sync) (x : Bit) (g n : ℕ) (s : Sync) (y : Bit) : Type 0 where
  pub sync : Contains syncs s
  pub from : group d s.from ≡ Some g
  pub arrival : is_behind d s.first n y ≡ true
  pub reads : t.reads [] x y ≡ true

-- The arrivals from group g, n flops behind first flops, that x reads have one clock, and have the values that their sources had at one moment: before or after the last step but n of that clock.
pub record IsTogether (d : Design) (t : Trees) (syncs : List Sync) (run : Trace) (x : Bit) (g n : ℕ) : Type 0 where
  pub one_clock : (s r : Sync) (y z : Bit) → Reads d t syncs x g n s y → Reads d t syncs x g n r z → d.clock y ≡ d.clock z
  pub one_moment : (c : ℕ) (before after : State) → around c n run ≡ Some (before, after)
      → ((s : Sync) (y : Bit) → Reads d t syncs x g n s y → d.clock y ≡ Some c → (now run).values y ≡ before.values s.from)
      ⊎ ((s : Sync) (y : Bit) → Reads d t syncs x g n s y → d.clock y ≡ Some c → (now run).values y ≡ after.values s.from)

-- A word enters a group on one clock, and a register bit that is no plain copy reads arrivals of one word that entered one group.
pub record OneFamily (d : Design) (t : Trees) (syncs : List Sync) : Type 0 where
  pub one_clock : (s r : Sync) → Contains syncs s → Contains syncs r → s.from.sig ≡ r.from.sig → group d s.first ≡ group d r.first → d.clock s.first ≡ d.clock r.first
  pub one_family : (x : Bit) (g n m : ℕ) (s r : Sync) (y z : Bit) → d.is_register x ≡ true → d.copied x ≡ None → Reads d t syncs x g n s y → Reads d t syncs x g m r z
      → (s.from.sig ≡ r.from.sig) × (group d s.first ≡ group d r.first)
