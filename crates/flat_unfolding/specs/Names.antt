-- What the names of a module stand for, and what is known of the signals that are declared so far.
use Rattle.std.specs.Prelude.{ℕ, ◌+◌, ◌-◌, min, max, Bool, cond, ◌&&◌, ◌==◌, nat_lt, nat_le, List, [], ◌∷◌, ◌++◌, Option, Some, None, is_some, is_none, slice_get, option_and_then, find, bytes_eq, codes, decimal}
use Rattle.std.specs.Option.{option_map_or}
use Rattle.cdc_base.specs.declared.fault.Place.{Place}
use Rattle.cdc_base.specs.declared.signal.ResetPin.{ResetPin}
use Rattle.cdc_base.specs.Words.{found_in, is_simple}
use Rattle.flat_meaning.specs.Flat.{Expr, Number, Read}
use Rattle.flat_unfolding.specs.Outcome.{Text, Broken, breaks_if}

-- the bounds of a range, as declared
pub record Range : Type 0 where
  pub left : ℕ
  pub right : ℕ

-- how many indices it has
abbrev pub span : Range → ℕ
span r = max r.left r.right - min r.left r.right + 1

-- one bit where there is no range
abbrev pub width_of : Option Range → ℕ
width_of r = option_map_or span r 1

-- the offset of index i is i - right, or right - i if left is smaller; none outside the range
abbrev pub offset : ℕ → Range → Option ℕ
offset i r = cond (nat_lt r.left r.right) (cond (nat_le r.left i && nat_le i r.right) (Some (r.right - i)) None)
    (cond (nat_le r.right i && nat_le i r.left) (Some (i - r.right)) None)

abbrev pub offset_in : Option Range → ℕ → Option ℕ
offset_in r i = option_and_then (offset i) r

-- a parameter: its value, its size, and whether it is counted, and signed
pub record Param : Type 0 where
  pub value : ℕ
  pub width : ℕ
  pub is_counted : Bool
  pub is_signed : Bool
  pub range : Option Range

-- a memory: the number of its first word, and how many words follow one another from there
pub record Memory : Type 0 where
  pub first : ℕ
  pub words : ℕ

-- a signal is meant by its number; no value is that of an instance or of a memory's word by its printed name
pub data Meaning : Type 0 where
  a_param : Param → Meaning
  a_signal : ℕ → Meaning
  a_memory : Memory → Meaning
  no_value : Meaning

-- the names of one module
abbrev pub Names : Type 0
Names = List (Text × Meaning)

abbrev pub is_declared : Names → Text → Bool
is_declared names x = is_some (found_in names x)

abbrev pub as_value : Meaning → Option Meaning
as_value no_value = None
as_value m = Some m

-- what a name stands for in an expression or a target
abbrev pub meaning_in : Names → Text → Option Meaning
meaning_in names x = option_and_then as_value (found_in names x)

-- the direction of a signal in its module
pub data Direction : Type 0 where
  inner inward outward : Direction

-- a declared signal
pub record Entry : Type 0 where
  -- its name in its module, and its printed name
  pub own : Text
  pub printed : Text
  pub place : Place
  pub range : Option Range
  pub is_reg : Bool
  pub direction : Direction
  -- a plain port of the old style, which may be declared once more
  pub is_open : Bool
  pub is_top_input : Bool
  -- the reset that it resolves to
  pub reset : Option ResetPin

-- the reset that a signal of one bit is declared as, by its printed name
abbrev pub pin_of : List ResetPin → Entry → Option ResetPin
pin_of pins e = cond (width_of e.range == 1) (find (λ (r : ResetPin). bytes_eq r.name e.printed) pins) None

-- what an expression is read in: `active` tells at which of their levels resets read
pub record Look : Type 0 where
  pub names : Names
  pub entries : List Entry
  pub active : Bool

abbrev pub meaning : Look → Text → Option Meaning
meaning look x = meaning_in look.names x

abbrev pub width_at : List Entry → ℕ → ℕ
width_at entries s = option_map_or (λ (e : Entry). width_of e.range) (slice_get entries s) 0

abbrev pub range_at : List Entry → ℕ → Option Range
range_at entries s = option_and_then (λ (e : Entry). e.range) (slice_get entries s)

abbrev pub reset_at : List Entry → ℕ → Option ResetPin
reset_at entries s = option_and_then (λ (e : Entry). e.reset) (slice_get entries s)

abbrev pub direction_at : List Entry → ℕ → Direction
direction_at entries s = option_map_or (λ (e : Entry). e.direction) (slice_get entries s) inner

abbrev pub own_at : List Entry → ℕ → Text
own_at entries s = option_map_or (λ (e : Entry). e.own) (slice_get entries s) []

-- a reset's level as a number
abbrev pub level : Bool → ResetPin → ℕ
level active r = cond active (cond r.high 1 0) (cond r.high 0 1)

-- the bits of a signal from a place on: a reset reads as its level
abbrev pub bits_read : (active : Bool) → (sig at width : ℕ) → Option ResetPin → Expr
bits_read active s at w None = Read s at w
bits_read active s at w (Some r) = Number w (cond (at == 0) (level active r) 0)

abbrev pub bits_of : Look → (sig at width : ℕ) → Expr
bits_of look s at w = bits_read look.active s at w (reset_at look.entries s)

abbrev pub whole_of : Look → ℕ → Expr
whole_of look s = bits_of look s 0 (width_at look.entries s)

-- E305: a name that nothing declares
abbrev pub unknown : Look → Text → List Broken
unknown look x = breaks_if (is_none (meaning look x)) 305 x

-- a simple identifier as it stands, any other part of a name as a backslash, its bytes and one space
abbrev pub printed_part : Text → Text
printed_part x = cond (is_simple x) x (92 ∷ x ++ (32 ∷ []))

-- the name of a memory's word
abbrev pub word_name : Text → ℕ → Text
word_name m k = m ++ codes "[" ++ decimal k ++ codes "]"
