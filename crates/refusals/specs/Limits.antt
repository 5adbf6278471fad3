-- What a refusal tells of what is past a limit.
use Rattle.std.specs.Prelude.{ℕ, ◌≡◌, [], None}
use Rattle.cdc_base.specs.declared.fault.Fault.{Fault}
use Rattle.cdc_base.specs.declared.fault.Stop.{Stop}
use Rattle.cdc_base.specs.declared.fault.Stop.TheVariants.{Refused, Memory}

-- a refusal that isn't for want of memory tells this
abbrev pub Tells : (Fault → Type 0) → Stop → Type 0
Tells P (Refused fault) = P fault
Tells P Memory = Unit {0}

-- what is past a limit has neither a place nor a name
pub record IsPastLimit (n : ℕ) (fault : Fault) : Type 0 where
  pub number : fault.number ≡ n
  pub place : fault.place ≡ None
  pub name : fault.name ≡ []

-- a refusal by this limit has this cause; want of memory has none
abbrev pub HasCause : ℕ → Type 0 → Stop → Type 0
HasCause n cause (Refused fault) = IsPastLimit n fault × cause
HasCause n cause Memory = Unit {0}
