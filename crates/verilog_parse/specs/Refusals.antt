-- What a refusal of the parser tells.
use Rattle.std.specs.Prelude.{ℕ, ◌≡◌, Bool, List, [], ◌∷◌, ◌++◌, length, Some, if◌then◌else◌}
use Rattle.cdc_base.specs.declared.fault.Fault.{Fault}
use Rattle.cdc_base.specs.declared.fault.Stop.{Stop}
use Rattle.cdc_base.specs.declared.fault.Stop.TheVariants as stop
use Rattle.verilog_exprs.specs.declared.halt.Halt.{Halt}
use Rattle.verilog_exprs.specs.declared.halt.Halt.TheVariants as halt
use Rattle.verilog_lex.specs.declared.token.Token.{Token}
use Rattle.verilog_reading.specs.Refusals.{IsFirstRefused}

-- E202 tells that a deeper source begins with the tokens up to and with the refused one, and E201 that none does
abbrev pub number_of : Bool → ℕ
number_of deep = if deep then 202 else 201

-- the fault has that number, the place of that token, and no name
pub record Tells (deep : Bool) (t : Token) (f : Fault) : Type 0 where
  pub number : f.number ≡ number_of deep
  pub place : f.place ≡ Some t.place
  pub name : f.name ≡ []

-- the fault tells of the first token that no source of so many levels below the first goes on with
pub record TellsFirst (n : ℕ) (ts : List Token) (f : Fault) : Type 0 where
  pub deep : Bool
  pub before : List Token
  pub token : Token
  pub more : List Token
  pub is : ts ≡ before ++ token ∷ more
  pub first : IsFirstRefused n deep before token
  pub tells : Tells deep token f

-- a refusal that isn't for memory does
abbrev pub RefusesFirst : ℕ → List Token → Stop → Type 0
RefusesFirst n ts s = (f : Fault) → s ≡ stop.Refused f → TellsFirst n ts f

-- where as many tokens are left as the halt says, the fault tells of the first of them
abbrev pub TellsWhere : List Token → Halt → Stop → Type 0
TellsWhere ts h s = (before : List Token) (t : Token) (more : List Token) (deep : Bool) (f : Fault) → ts ≡ before ++ t ∷ more → h ≡ halt.Refused deep (length (t ∷ more)) → s ≡ stop.Refused f → Tells deep t f
