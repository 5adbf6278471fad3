-- Readings of a text that may break a rule.
use Rattle.std.specs.Prelude.{◌≡◌, ℕ, List, Option, None, Some, Result, Ok, Err, ⊤}
use Rattle.cdc_base.specs.declared.fault.Fault.{Fault}
use Rattle.cdc_base.specs.declared.fault.Stop.{Stop}
use Rattle.cdc_base.specs.declared.fault.Stop.TheVariants.{Refused, Memory}

abbrev pub Text : Type 0
Text = List ℕ

-- the refusal with this number and name
abbrev pub broken : ℕ → Text → Fault
broken number name = record { number = number; place = None; name = name }

-- that refusal, unless memory ran out
abbrev pub IsStop : ℕ → Text → Stop → Type 0
IsStop number name (Refused f) = f ≡ broken number name
IsStop number name Memory = ⊤

-- a reading is a value, or the first rule that is broken
infixl 10 ◌>>=◌
abbrev pub ◌>>=◌ : {A B : Type 0} → Result A Fault → (A → Result B Fault) → Result B Fault
Ok x >>= next = next x
Err f >>= next = Err f

-- a reading that stands where no rule was broken before
abbrev pub unless : {A : Type 0} → Option Fault → Result A Fault → Result A Fault
unless None r = r
unless (Some f) r = Err f

-- a value that has to be there, else the rule with this number and name is broken
abbrev pub required : {A : Type 0} → ℕ → Text → Option A → Result A Fault
required number name None = Err (broken number name)
required number name (Some x) = Ok x

-- the answer is the reading, unless memory ran out
abbrev pub Gives : {A : Type 0} → Result A Stop → Result A Fault → Type 0
Gives (Ok x) r = r ≡ Ok x
Gives (Err (Refused f)) r = r ≡ Err f
Gives (Err Memory) r = ⊤

-- the answer is Ok where no rule is broken, and else refuses by the first broken one, unless memory ran out
abbrev pub Passes : {A : Type 0} → Result A Stop → Option Fault → Type 0
Passes (Ok x) broken_rule = broken_rule ≡ None
Passes (Err (Refused f)) broken_rule = broken_rule ≡ Some f
Passes (Err Memory) broken_rule = ⊤
