-- Broken rules, the order in which they are tried, and what a step of the unfolding gives.
use Rattle.std.specs.Prelude.{ℕ, suc, Bool, true, false, cond, ◌==◌, nat_lt, List, [], ◌∷◌, Option, Some, None, unwrap_or}
use Rattle.cdc_base.specs.declared.fault.Place.{Place}
use Rattle.cdc_base.specs.declared.fault.Fault.{Fault}

abbrev pub Text : Type 0
Text = List ℕ

-- a broken rule: its number, the name that the refusal tells, and a place where that isn't the item's
pub record Broken : Type 0 where
  pub number : ℕ
  pub name : Text
  pub place : Option Place

abbrev pub breaks : ℕ → Text → List Broken
breaks n x = record { number = n; name = x; place = None } ∷ []

-- the rule is broken where the test is true
abbrev pub breaks_if : Bool → ℕ → Text → List Broken
breaks_if false n x = []
breaks_if true n x = breaks n x

-- what a step gives: a result, or the refusal
pub data Outcome (A : Type 0) : Type 0 where
  good : A → Outcome A
  bad : Fault → Outcome A

abbrev pub then_ : {A B : Type 0} → Outcome A → (A → Outcome B) → Outcome B
then_ (good a) f = f a
then_ (bad e) f = bad e

-- one step after another; the first refusal ends it
abbrev pub each : {A S : Type 0} → (S → A → Outcome S) → S → List A → Outcome S
each f s [] = good s
each f s (a ∷ rest) = then_ (f s a) (λ t. each f t rest)

abbrev pub refused : {A : Type 0} → ℕ → Option Place → Text → Outcome A
refused n p x = bad (record { number = n; place = p; name = x })

-- a refusal where the test is true
abbrev pub refused_if : Bool → ℕ → Option Place → Text → Outcome (Unit {0})
refused_if false n p x = good tt
refused_if true n p x = refused n p x

-- where a rule stands in an order of trial
abbrev pub Order : Type 0
Order = ℕ → ℕ

-- the least number counts
abbrev pub by_number : Order
by_number n = n

-- the listed numbers in their order, then all others by number
abbrev pub as_listed : List ℕ → Order
as_listed [] n = n
as_listed (m ∷ ms) n = cond (n == m) 0 (suc (as_listed ms n))

-- the rule that is tried first, the earliest of those with one number
abbrev pub first_of_all : Order → Broken → List Broken → Broken
first_of_all order b [] = b
first_of_all order b (c ∷ cs) = first_of_all order (cond (nat_lt (order c.number) (order b.number)) c b) cs

abbrev pub fault_of : Place → Broken → Fault
fault_of p b = record { number = b.number; place = Some (unwrap_or b.place p); name = b.name }

-- the result of an item at a place that breaks these rules
abbrev pub judged : {A : Type 0} → Order → Place → List Broken → A → Outcome A
judged order p [] a = good a
judged order p (b ∷ bs) a = bad (fault_of p (first_of_all order b bs))
