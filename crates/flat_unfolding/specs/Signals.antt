-- The flat design once all modules are visited: free signals, the signals' kinds and start values.
use Rattle.std.specs.Prelude.{ℕ, zero, suc, ◌^◌, ◌%◌, Bool, true, false, cond, not, ◌&&◌, ◌||◌, List, [], ◌∷◌, ◌++◌, length, Option, Some, None, is_some, unwrap_or, slice_get, bytes_eq}
use Rattle.std.specs.List.{list_any}
use Rattle.std.specs.Option.{option_map_or}
use Rattle.cdc_base.specs.declared.signal.ResetPin.{ResetPin}
use Rattle.cdc_base.specs.declared.signal.Signal.{Signal}
use Rattle.cdc_base.specs.declared.signal.SigKind.{SigKind}
use Rattle.cdc_base.specs.declared.signal.SigKind.TheVariants.{Input, Register, Wire}
use Rattle.cdc_base.specs.Words.{is_in}
use Rattle.cell_graph.specs.Tree.{number}
use Rattle.flat_meaning.specs.Flat.{Expr, Number, Target, Whole, Stmt, is_target, assigns}
use Rattle.flat_meaning.specs.Design.{Flat}
use Rattle.flat_unfolding.specs.Outcome.{Text}
use Rattle.flat_unfolding.specs.Names.{Range, Entry, width_of}
use Rattle.flat_unfolding.specs.Starts.{starts_with, first_start, known_bit}
use Rattle.flat_unfolding.specs.Design.{Design, change_entry}

-- a register is what a clocked process assigns
abbrev pub is_register : Design → ℕ → Bool
is_register d s = list_any (λ (p : ℕ × Stmt). assigns p.1 s) d.clocked

-- ---- registers that no process assigns

-- a process assigns the signal
abbrev pub is_processed : Design → ℕ → Bool
is_processed d s = list_any (λ body. assigns body s) d.combs || (list_any (λ (r : Option ℕ × Stmt). assigns r.1 s) d.resets || is_register d s)

-- the start value of a signal that has one and that no process assigns is assigned to it; what comes from outside has none
abbrev pub constant_of : Design → ℕ → Entry → List (Target × Expr)
constant_of d s e = let w = width_of e.range in go w (cond (is_processed d s || e.is_top_input) None (first_start d.starts s))
  where
    go : (w : ℕ) → Option ℕ → List (Target × Expr)
    go w None = []
    go w (Some n) = (Whole s, Number w (n % 2 ^ w)) ∷ []

abbrev pub constants_from : Design → ℕ → List Entry → List (Target × Expr)
constants_from d n [] = []
constants_from d n (e ∷ rest) = constant_of d n e ++ constants_from d (suc n) rest

abbrev pub with_constants : Design → Design
with_constants d = record d { assigns = d.assigns ++ constants_from d 0 d.entries }

-- ---- free signals

-- an assignment or a process assigns the signal, or it has a start value
abbrev pub is_driven : Design → ℕ → Bool
is_driven d s = list_any (λ (a : Target × Expr). is_target a.0 s) d.assigns || (list_any (λ body. assigns body s) d.combs
    || (list_any (λ (r : Option ℕ × Stmt). assigns r.1 s) d.resets || (is_register d s || starts_with d.starts s)))

-- the constraints name it, as a reset or otherwise
abbrev pub is_named : List Text → Design → Entry → Bool
is_named named d e = is_in named e.printed || list_any (λ (r : ResetPin). bytes_eq r.name e.printed) d.pins

-- a free signal, which a macro drives that isn't Verilog, counts as an input of the top
abbrev pub is_free : List Text → Design → ℕ → Bool
is_free named d s = option_map_or (is_named named d) (slice_get d.entries s) false && not (is_driven d s)

abbrev pub from_outside : Entry → Entry
from_outside e = record e { is_top_input = true }

abbrev pub freed_from : List Text → Design → (s more : ℕ) → List Entry → List Entry
freed_from named d s zero es = es
freed_from named d s (suc more) es = freed_from named d (suc s) more (cond (is_free named d s) (change_entry from_outside s es) es)

abbrev pub with_free : List Text → Design → Design
with_free named d = record d { entries = freed_from named d 0 (length d.entries) d.entries }

abbrev pub kind_of : Entry → (clocked : Bool) → SigKind
kind_of e true = Register
kind_of e false = cond e.is_top_input Input Wire

-- the bits with a start value, and their values; a signal that isn't a register has none
abbrev pub known_bits : Design → (s w : ℕ) → (clocked : Bool) → ℕ
known_bits d s w false = 0
known_bits d s w true = number (λ i. is_some (known_bit d s i)) w

abbrev pub start_bits : Design → (s w : ℕ) → (clocked : Bool) → ℕ
start_bits d s w false = 0
start_bits d s w true = number (λ i. unwrap_or (known_bit d s i) false) w

-- the declared bounds, or 0 and 0 without a range
abbrev pub left_of : Option Range → ℕ
left_of r = option_map_or (λ (b : Range). b.left) r 0

abbrev pub right_of : Option Range → ℕ
right_of r = option_map_or (λ (b : Range). b.right) r 0

abbrev pub signal_of : Design → ℕ → Entry → Signal
signal_of d s e = let w = width_of e.range in record {
  name = e.printed;
  place = e.place;
  width = w;
  ranged = is_some e.range;
  left = left_of e.range;
  right = right_of e.range;
  kind = kind_of e (is_register d s);
  known = known_bits d s w (is_register d s);
  start = start_bits d s w (is_register d s);
}

abbrev pub signals_from : Design → ℕ → List Entry → List Signal
signals_from d n [] = []
signals_from d n (e ∷ rest) = signal_of d n e ∷ signals_from d (suc n) rest

abbrev pub flat_design : Design → Flat
flat_design d = record { signals = signals_from d 0 d.entries; assigns = d.assigns; combs = d.combs; clocked = d.clocked; outputs = d.outputs }
