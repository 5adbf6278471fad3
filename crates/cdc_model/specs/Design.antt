-- A design as its runs see it: state bits, their clocks and groups, and the next value of each register bit.
use Rattle.std.specs.Prelude.{◌≡◌, ◌≢◌, ℕ, zero, suc, Bool, false, cond, not, ◌&&◌, Option, Some, None, option_map, ◌==◌, List, [], ◌∷◌}
use Rattle.cdc_base.specs.declared.bit.Bit.{Bit}
use Rattle.cell_graph.specs.Reading.{bit_eq, Reading}

-- State bits are those of registers, of clocked inputs and of static inputs.
pub record Design : Type 0 where
  -- how many bits a signal has
  pub width : ℕ → ℕ
  -- the bits of registers, and those of clocked inputs; any other state bit is static
  pub is_register : Bit → Bool
  pub is_input : Bit → Bool
  -- how many clocks there are, the clock of a bit of a register or clocked input, and the group of a clock
  pub clocks : ℕ
  pub clock : Bit → Option ℕ
  pub group_of : ℕ → ℕ
  -- the cycles of a clock within which a flop that captured a changing bit settles
  pub settle : ℕ → ℕ
  -- the known start values
  pub start : Bit → Option Bool
  -- the value that a register bit takes at its clock's edge, by a reading of the state bits
  pub next : Reading → Bit → Bool
  -- the bit that a register bit is a plain copy of
  pub copied : Bit → Option Bit

-- the group of a bit's clock
abbrev pub group : Design → Bit → Option ℕ
group d b = option_map d.group_of (d.clock b)

-- both have groups, and these differ
abbrev pub differ : Option ℕ → Option ℕ → Bool
differ (Some g) (Some h) = not (g == h)
differ (Some g) None = false
differ None h = false

-- the bits belong to different groups of clocks, which are asynchronous to each other
abbrev pub are_async : Design → Bit → Bit → Bool
are_async d a b = differ (group d a) (group d b)

-- both have a clock, and it is one
abbrev pub are_equal : Option ℕ → Option ℕ → Bool
are_equal (Some a) (Some b) = a == b
are_equal (Some a) None = false
are_equal None b = false

-- the cycles to settle on a clock; one where there is none
abbrev pub settle_by : (ℕ → ℕ) → Option ℕ → ℕ
settle_by settle None = 1
settle_by settle (Some c) = settle c

-- the cycles of its own clock within which a bit settles
abbrev pub settle_of : Design → Bit → ℕ
settle_of d x = settle_by d.settle (d.clock x)

-- the test holds of the bit that is there
abbrev pub at_bit : Option Bit → (Bit → Bool) → Bool
at_bit None test = false
at_bit (Some b) test = test b

-- x is n flops behind f: each of them copies the one before, on f's clock
abbrev pub is_behind : Design → Bit → ℕ → Bit → Bool
is_behind d f zero x = bit_eq x f
is_behind d f (suc n) x = d.is_register x && (are_equal (d.clock x) (d.clock f) && at_bit (d.copied x) (is_behind d f n))

-- n bits of a signal, from bit i up
abbrev pub bits_from : (sig i n : ℕ) → List Bit
bits_from sig i zero = []
bits_from sig i (suc n) = record { sig = sig; at = i } ∷ bits_from sig (suc i) n

-- all bits of a signal, the least significant first
abbrev pub word : Design → ℕ → List Bit
word d sig = bits_from sig 0 (d.width sig)

-- the reading with the bits of a set flipped
abbrev pub flipped : (Bit → Bool) → Reading → Reading
flipped flips r b = cond (flips b) (not (r b)) (r b)

-- the readings may differ at b alone
abbrev pub AgreeBut : Bit → Reading → Reading → Type 0
AgreeBut b r q = (a : Bit) → a ≢ b → r a ≡ q a
