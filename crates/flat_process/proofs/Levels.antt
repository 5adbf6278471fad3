-- Conditions while a reset is at one of its levels.
use Rattle.std.proofs.Common.{◌≡◌, ℕ, Bool, true, false, cond, not, ◌&&◌, ◌==◌, Option, Some, None, is_some, refl, sym, ap, ap₂, ◌∙◌}
use mathlib.Core.Bool.{beq}
use Rattle.std.specs.Prelude.{option_map}
use Rattle.std.specs.Option.{option_eq}
use Rattle.std.proofs.lemmas.Bool.{false≢true}
use Rattle.verilog_reading.specs.ExprTree.{ExprTree}
use Rattle.flat_unfolding.specs.Outcome.{Broken}
use Rattle.flat_unfolding.specs.Names as n
use Rattle.flat_unfolding.specs.Constants.{own_value}
use Rattle.flat_unfolding.specs.Expressions.{Term, is_sound, read}
use Rattle.flat_unfolding.specs.Resets.{is_test, at_level}
use Rattle.flat_names.specs.declared.fault.Rule.{Rule}
use Rattle.flat_names.specs.declared.fault.Order.{Order}
use Rattle.flat_names.specs.declared.scope.Look.{Look}
use Rattle.flat_names.specs.Noting.{number_of, Noted, all_noted}
use Rattle.flat_names.specs.Looks.{Shows, IsFit}
use Rattle.flat_statements.proofs.MetLabels.{rule-noted}

-- ---- whether a rule was noted

pub noted-sound : (t : Term) (order : Order) (f : Noted) (r : Option Rule) → f ≡ all_noted (record { order = order; found = None }) t.broken
    → option_map number_of r ≡ option_map (λ (b : Broken). b.number) f.found → is_some r ≡ not (is_sound t)
noted-sound t order f r h i = rule-noted t.broken order f r h i

pub sound-of : (b : Bool) → false ≡ not b → b ≡ true
sound-of true e = refl
sound-of false e = absurd (false≢true e)

-- ---- a look at another level

pub shows-level : (k : Look) (l : n.Look) (active : Bool) → Shows k l → Shows (record k { active = active }) (record l { active = active })
shows-level k l active h = record { names = h.names; entries = h.entries; active = refl }

pub fit-level : (l : n.Look) (active : Bool) → IsFit l → IsFit (record l { active = active })
fit-level l active h = record { params = h.params; signals = h.signals; memories = h.memories; entries = h.entries; few = h.few }

abbrev pub read_at : n.Look → Bool → ExprTree → Term
read_at l active e = read (record l { active = active }) e

pub value-at : (l : n.Look) (active : Bool) (e : ExprTree) (v : ℕ) → is_sound (read_at l active e) ≡ true → v ≡ own_value (read_at l active e).expr → Some (not (v == 0)) ≡ option_map (λ m. not (m == 0)) (at_level l active e)
value-at l active e v s h = ap (λ m. Some (not (m == 0))) h ∙ ap (λ b. option_map (λ m. not (m == 0)) (cond b (Some (own_value (read_at l active e).expr)) None)) (sym s)

-- ---- a test of a reset

by-levels : (a b : Bool) → (option_eq beq (Some (not a)) (Some false) && option_eq beq (Some (not b)) (Some true)) ≡ (a && not b)
by-levels true true = refl
by-levels true false = refl
by-levels false true = refl
by-levels false false = refl

no-active : (a : Bool) → (a && false) ≡ false
no-active true = refl
no-active false = refl

pub test-is : (l : n.Look) (a b : Option ℕ) (x y : Option Bool) → x ≡ option_map (λ m. not (m == 0)) a → y ≡ option_map (λ m. not (m == 0)) b
    → (option_eq beq x (Some false) && option_eq beq y (Some true)) ≡ is_test l a b
test-is l a b x y h i = ap₂ (λ v w. option_eq beq v (Some false) && option_eq beq w (Some true)) h i ∙ go a b
  where
    go : (a b : Option ℕ) → (option_eq beq (option_map (λ m. not (m == 0)) a) (Some false) && option_eq beq (option_map (λ m. not (m == 0)) b) (Some true)) ≡ is_test l a b
    go (Some m) (Some n) = by-levels (m == 0) (n == 0)
    go (Some m) None = no-active (option_eq beq (Some (not (m == 0))) (Some false))
    go None b = refl
