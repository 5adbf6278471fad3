-- Broken rules as they are noted: of those so far the one that is tried first is kept.
use Rattle.std.specs.Prelude.{◌≡◌, ℕ, Bool, true, cond, ◌==◌, nat_lt, List, [], ◌∷◌, Option, Some, None, Result, Ok, Err}
use Rattle.cdc_base.specs.declared.fault.Place.{Place}
use Rattle.cdc_base.specs.declared.fault.Fault.{Fault}
use Rattle.cdc_base.specs.declared.fault.Stop.{Stop}
use Rattle.cdc_base.specs.declared.fault.Stop.TheVariants.{Refused, Memory}
use Rattle.flat_unfolding.specs.Outcome.{Broken, by_number, fault_of}
use Rattle.flat_unfolding.specs.Outcome as o
use Rattle.flat_unfolding.specs.Parameters.{parameter_order}
use Rattle.flat_unfolding.specs.Declarations.{declaration_order}
use Rattle.flat_names.specs.declared.fault.Rule.{Rule}
use Rattle.flat_names.specs.declared.fault.Rule.TheVariants as r
use Rattle.flat_names.specs.declared.fault.Order.{Order}
use Rattle.flat_names.specs.declared.fault.Order.TheVariants as k
use Rattle.flat_names.specs.declared.fault.Found.{Found}

-- the number that a refusal by the rule has
abbrev pub number_of : Rule → ℕ
number_of r.NoTop = 301
number_of r.UnknownModule = 302
number_of r.ModuleInsideItself = 303
number_of r.DeclaredTwice = 304
number_of r.UnknownName = 305
number_of r.Mismatch = 306
number_of r.ConstantOutOfRange = 307
number_of r.Width = 308
number_of r.TwoDrivers = 309
number_of r.Undriven = 310
number_of r.Latch = 311
number_of r.WrongAssignment = 313
number_of r.IndexOutOfRange = 314
number_of r.IndexMayMiss = 315
number_of r.ClockForm = 316
number_of r.ResetForm = 317
number_of r.Memory = 319
number_of r.TooManySignals = 601

-- where each number stands in an order of trial
abbrev pub order_of : Order → o.Order
order_of k.Parameter = parameter_order
order_of k.Declaration = declaration_order
order_of k.Other = by_number

-- the rule that counts so far
pub record Noted : Type 0 where
  pub order : Order
  pub found : Option Broken

-- of two broken rules the one that is tried first, and the earlier one where they are one rule
abbrev pub first_of : o.Order → Option Broken → Broken → Broken
first_of order None b = b
first_of order (Some a) b = cond (nat_lt (order b.number) (order a.number)) b a

-- whether a rule is tried before the one that counts so far
abbrev pub is_first : o.Order → Option Broken → ℕ → Bool
is_first order None n = true
is_first order (Some a) n = nat_lt (order n) (order a.number)

abbrev pub noted : Noted → Broken → Noted
noted n b = record { order = n.order; found = Some (first_of (order_of n.order) n.found b) }

abbrev pub all_noted : Noted → List Broken → Noted
all_noted n [] = n
all_noted n (b ∷ bs) = all_noted (noted n b) bs

-- a break of the rule
abbrev pub broken_of : Found → Broken
broken_of f = record { number = number_of f.rule; name = f.name; place = f.place }

-- a rule that counts elsewhere is noted here, if it is the one that is asked for
abbrev pub passed_on : ℕ → Option Broken → Noted → Noted
passed_on n None other = other
passed_on n (Some b) other = cond (b.number == n) (noted other b) other

-- the refusal of an item at a place, where a rule counts
abbrev pub Raises : Option Broken → Place → Result (Unit {0}) Stop → Type 0
Raises None p result = result ≡ Ok tt
Raises (Some b) p result = result ≡ Err (Refused (fault_of p b))

-- this refusal, or want of memory
abbrev pub Refuses : {T : Type 0} → Fault → Result T Stop → Type 0
Refuses f (Ok t) = ⊥
Refuses f (Err Memory) = Unit {0}
Refuses f (Err (Refused g)) = g ≡ f
