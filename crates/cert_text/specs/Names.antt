-- The signals and bits that a certificate names.
use Rattle.std.specs.Prelude.{ℕ, ◌==◌, List, [], ◌∷◌, Bool, true, false, Option, None, Some, if◌then◌else◌}
use Rattle.std.specs.Char.{is_ascii_digit}
use Rattle.cdc_base.specs.declared.bit.Bit.{Bit}
use Rattle.cdc_base.specs.declared.bytes.Class.TheVariants as class
use Rattle.cdc_base.specs.declared.signal.Signal.{Signal}
use Rattle.cdc_base.specs.Bytes.{in_class, is_word_start}
use Rattle.clock_constraints.specs.Refusals.{Text}
use Rattle.domains.specs.Tables.{named, first_signal, bit_names}
use Rattle.cert_text.specs.declared.names.Part.{Part}
use Rattle.cert_text.specs.declared.names.Part.TheVariants.{Begin, Plain, Slash, Escaped, Behind, Bracket, Index, Closed, Broken}

-- ---- the form of a printed name

-- Printed names are parts between dots, each an identifier or an escaped identifier with its space, and the index of a bit in brackets may end them.

-- what may go on behind a whole part
abbrev pub behind_part : ℕ → Part
behind_part b = if b == 46 then Begin else if b == 91 then Bracket else Broken

-- where a name stands one byte on
abbrev pub next_part : Part → ℕ → Part
next_part Begin b = if is_word_start b then Plain else if b == 92 then Slash else Broken
next_part Plain b = if in_class class.Word b then Plain else behind_part b
next_part Slash b = if in_class class.Visible b then Escaped else Broken
next_part Escaped b = if in_class class.Visible b then Escaped else if b == 32 then Behind else Broken
next_part Behind b = behind_part b
next_part Bracket b = if is_ascii_digit b then Index else Broken
next_part Index b = if is_ascii_digit b then Index else if b == 93 then Closed else Broken
next_part Closed b = Broken
next_part Broken b = Broken

-- a name may end here
abbrev pub may_end : Part → Bool
may_end Begin = false
may_end Plain = true
may_end Slash = false
may_end Escaped = false
may_end Behind = true
may_end Bracket = false
may_end Index = false
may_end Closed = true
may_end Broken = false

-- the name goes on from this part with these bytes
abbrev pub goes_on : Part → Text → Bool
goes_on part [] = may_end part
goes_on part (b ∷ bs) = goes_on (next_part part b) bs

abbrev pub is_name : Text → Bool
is_name text = goes_on Begin text

-- ---- what names stand for

-- the first bit and the first signal with this printed name
abbrev pub bit_named : List Signal → Text → Option Bit
bit_named signals text = if is_name text then named (bit_names 0 signals) text else None

abbrev pub signal_named : List Signal → Text → Option ℕ
signal_named signals text = if is_name text then first_signal signals text else None

-- the bits with these names, where all are known
abbrev pub in_front : {A : Type 0} → Option A → Option (List A) → Option (List A)
in_front None xs = None
in_front (Some x) None = None
in_front (Some x) (Some xs) = Some (x ∷ xs)

abbrev pub bits_named : List Signal → List Text → Option (List Bit)
bits_named signals [] = Some []
bits_named signals (w ∷ ws) = in_front (bit_named signals w) (bits_named signals ws)
