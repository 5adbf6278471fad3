-- Flipped readings, and groups.
use Rattle.std.proofs.Common.{◌≡◌, ◌≢◌, ℕ, Bool, true, false, cond, not, ◌==◌, Option, Some, None, refl, ap, subst, eq-eqb, option_map}
use Rattle.std.proofs.lemmas.Bool.{both_ways, false_from_ne_true, not-true}
use Rattle.cdc_base.specs.declared.bit.Bit.{Bit}
use Rattle.cell_graph.specs.Reading.{Reading}
use Rattle.cdc_model.specs.Design.{Design, are_async, differ, group, flipped}

pub flipped_not : (flips : Bit → Bool) (r : Reading) (b : Bit) → flips b ≡ false → flipped flips r b ≡ r b
flipped_not flips r b h = ap (λ f. cond f (not (r b)) (r b)) h

pub flipped_at : (flips : Bit → Bool) (r : Reading) (b : Bit) → flips b ≡ true → flipped flips r b ≡ not (r b)
flipped_at flips r b h = ap (λ f. cond f (not (r b)) (r b)) h

pub not_of_ne : (a b : Bool) → a ≢ b → not a ≡ b
not_of_ne true true h = absurd (h refl)
not_of_ne true false h = refl
not_of_ne false true h = refl
not_of_ne false false h = absurd (h refl)

pub same_not_differ : (a b : Option ℕ) → a ≡ b → differ a b ≡ true → ⊥
same_not_differ a None e h = cc (e, h)
same_not_differ a (Some n) e h = both_ways (n == n) (not-true (n == n) (subst (λ (o : Option ℕ). differ o (Some n) ≡ true) e h)) (eq-eqb n n refl)

pub same_group_not_async : (d : Design) (a b : Bit) → group d a ≡ group d b → are_async d a b ≡ false
same_group_not_async d a b e = false_from_ne_true (are_async d a b) (same_not_differ (group d a) (group d b) e)

pub group_of_clock : (d : Design) (a b : Bit) → d.clock a ≡ d.clock b → group d a ≡ group d b
group_of_clock d a b e = ap (option_map d.group_of) e

pub same_clock_not_async : (d : Design) (a b : Bit) → d.clock a ≡ d.clock b → are_async d a b ≡ false
same_clock_not_async d a b e = same_group_not_async d a b (group_of_clock d a b e)

pub one_bit : (a b : Bit) (o : Option Bit) → o ≡ Some a → o ≡ Some b → a ≡ b
one_bit a b o p q = cc
