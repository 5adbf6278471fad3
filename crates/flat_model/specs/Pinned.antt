-- Bits of a design that stay at constants.
use Rattle.std.specs.Prelude.{◌≡◌, ◌⊎◌, ℕ, ◌<◌, Bool, true, false, None, Some, List}
use Rattle.cdc_base.specs.declared.bit.Bit.{Bit}
use Rattle.cell_graph.specs.Reading.{Reading}
use Rattle.cdc_model.specs.declared.scheme.Cover.{Cover}
use Rattle.cdc_model.specs.Design.{Design}
use Rattle.cdc_model.specs.Sound.{Sound}

-- the bit is static, without a known start value, and the readings give it one value
pub record IsHeld (d : Design) (pinned : Reading → Reading) (b : Bit) : Type 0 where
  pub register : d.is_register b ≡ false
  pub clock : d.clock b ≡ None
  pub start : d.start b ≡ None
  pub one : (r q : Reading) → pinned r b ≡ pinned q b

-- Next values of bits that lie in their signals are those of pinned readings, which hold some bits at constants and leave all others as they are.
pub record IsPinned (d : Design) (pinned : Reading → Reading) (next : Reading → Bit → Bool) : Type 0 where
  pub registers : (b : Bit) → d.is_register b ≡ true → b.at < d.width b.sig
  pub clocked : (b : Bit) (c : ℕ) → d.clock b ≡ Some c → b.at < d.width b.sig
  pub bits : (b : Bit) → IsHeld d pinned b ⊎ ((r : Reading) → pinned r b ≡ r b)
  pub nexts : (r : Reading) (x : Bit) → x.at < d.width x.sig → next r x ≡ d.next (pinned r) x

-- a sound design is sound where some of its static bits stay at constants
abbrev pub PinnedIsSound : Type 0
PinnedIsSound = (d : Design) (pinned : Reading → Reading) (next : Reading → Bit → Bool) → IsPinned d pinned next
    → (covers : List Cover) (rings : List (List Bit)) (is_extra : Bit → Bit → Bool) → Sound d covers rings is_extra → Sound (record d { next = next }) covers rings is_extra
