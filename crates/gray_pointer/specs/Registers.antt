-- Registers that may count or hold a Gray code.
use Rattle.std.specs.Prelude.{◌≡◌, ◌≢◌, ℕ, ◌-◌, ◌/◌, ◌^◌, ◌<◌, ◌==◌, Bool, cond, ◌&&◌, nat_lt, bit_xor, List, [], ◌∷◌, Option, Some, None, slice_get, Contains}
use Rattle.std.specs.Option.{option_and_then}
use Rattle.cdc_base.specs.declared.signal.Signal.{Signal}
use Rattle.cell_graph.specs.declared.net.Net.{Net}
use Rattle.cell_graph.specs.declared.net.Reg.{Reg}
use Rattle.domains.specs.declared.Domains.{Domains}
use Rattle.domains.specs.Assignment.{clock_of}
use Rattle.gray_pointer.specs.declared.register.Register.{Register}

-- start values lie in their signals, and so do the masks of the bits that have one
pub record AreStartsNarrow (net : Net) : Type 0 where
  pub known : (sig : ℕ) (s : Signal) → slice_get net.graph.signals sig ≡ Some s → s.known < 2 ^ s.width
  pub start : (sig : ℕ) (s : Signal) → slice_get net.graph.signals sig ≡ Some s → s.start < 2 ^ s.width

-- from 2 to 64 bits
abbrev pub is_wide : ℕ → Bool
is_wide w = nat_lt 1 w && nat_lt w 65

-- the register, where it is so wide and all its bits have start values
abbrev pub register_of : Reg → ℕ → Signal → Option Register
register_of reg clock s = cond (is_wide s.width && (s.known == 2 ^ s.width - 1)) (Some (record { sig = reg.sig; width = s.width; clock = clock; start = s.start; next = reg.next })) None

abbrev pub register_at : Net → Domains → Reg → Option Register
register_at net domains reg = option_and_then (λ (s : Signal). option_and_then (λ clock. register_of reg clock s) (clock_of domains (record { sig = reg.sig; at = 0 }))) (slice_get net.graph.signals reg.sig)

-- in front of a list, where it is there
abbrev pub in_front : Option Register → List Register → List Register
in_front None rs = rs
in_front (Some r) rs = r ∷ rs

abbrev pub registers_among : Net → Domains → List Reg → List Register
registers_among net domains [] = []
registers_among net domains (reg ∷ regs) = in_front (register_at net domains reg) (registers_among net domains regs)

-- each register has a smaller signal than all behind it
abbrev pub Ascend : List Register → Type 0
Ascend [] = Unit {0}
Ascend (r ∷ rs) = ((s : Register) → Contains rs s → r.sig < s.sig) × Ascend rs

-- the registers at these places
abbrev pub taken_at : List Register → List ℕ → List Register
taken_at rs [] = []
taken_at rs (place ∷ places) = in_front (slice_get rs place) (taken_at rs places)

-- the Gray code of a number
abbrev pub number_code : ℕ → ℕ
number_code n = bit_xor n (n / 2)

-- the second starts with the code of the first: another register of its clock and width
abbrev pub Fits : Register → Register → Type 0
Fits count gray = (count.sig ≢ gray.sig) × (count.clock ≡ gray.clock) × (count.width ≡ gray.width) × (gray.start ≡ number_code count.start)
