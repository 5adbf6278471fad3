-- No bit of an unfolding has two drivers.
use Rattle.std.proofs.Common.{◌≡◌, ℕ, zero, suc, ◌+◌, ◌<◌, ◌≤◌, Bool, true, false, cond, ◌||◌, nat_le, List, [], ◌∷◌, Option, Some, None, refl, sym, ap, ◌∙◌, arith, rules, leb-false}
use Rattle.cdc_base.specs.declared.signal.Signal.{Signal}
use Rattle.flat_meaning.specs.Flat.{Stmt}
use Rattle.flat_meaning.specs.Design.{Flat, size_in, width_in, drivers}
use Rattle.flat_unfolding.specs.Outcome.{Outcome, good}
use Rattle.flat_unfolding.specs.Reads.{first_from}
use Rattle.flat_unfolding.specs.Drivers.{all_drivers, processes, times_driven, is_double, is_undriven, refuse_bit, refuse_first, driven_once}
use Rattle.flat_unfolding.proofs.Steps.{good_then}

-- nothing that is found: no number passes the test
none_passes : (p : ℕ → Bool) (n : ℕ) (t : Bool) (o : Option ℕ) → p n ≡ t → cond t (Some n) o ≡ None → (p n ≡ false) × (o ≡ None)
none_passes p n true o h e = absurd (search (rules, e))
none_passes p n false o h e = (h, e)

pub none_from : (p : ℕ → Bool) (n more : ℕ) → first_from p n more ≡ None → (i : ℕ) → i < more → p (n + i) ≡ false
none_from p n zero e i l = absurd (omega (arith, l))
none_from p n (suc more) e zero l = let h : n + 0 ≡ n = omega arith in ap p h ∙ (none_passes p n (p n) (first_from p (suc n) more) refl e).0
none_from p n (suc more) e (suc i) l =
    let h : n + suc i ≡ suc n + i = omega arith in let m : i < more = omega (arith, l) in
    ap p h ∙ none_from p (suc n) more (none_passes p n (p n) (first_from p (suc n) more) refl e).1 i m

pub no_bit : (rule : ℕ) (x : Signal) (o : Option ℕ) (later : Outcome (Unit {0})) (u : Unit {0}) → refuse_bit rule x o later ≡ good u → (o ≡ None) × (later ≡ good u)
no_bit rule x None later u e = (refl, e)
no_bit rule x (Some i) later u e = absurd (search (rules, e))

-- where no bit is refused, none breaks the rule
pub no_bit_breaks : (rule : ℕ) (p : ℕ → ℕ → Bool) (n : ℕ) (xs : List Signal) (u : Unit {0}) → refuse_first rule (λ s x i. p s i) n xs ≡ good u
    → (s i : ℕ) → i < width_in xs s → p (n + s) i ≡ false
no_bit_breaks rule p n [] u e s i l = absurd (omega (arith, l))
no_bit_breaks rule p n (x ∷ xs) u e zero i l =
    let h : n + 0 ≡ n = omega arith in let g = no_bit rule x (first_from (p n) 0 x.width) (refuse_first rule (λ s x i. p s i) (suc n) xs) u e in
    let k : 0 + i ≡ i = omega arith in
    ap (λ m. p m i) h ∙ sym (ap (p n) k) ∙ none_from (p n) 0 x.width g.0 i l
no_bit_breaks rule p n (x ∷ xs) u e (suc s) i l =
    let h : n + suc s ≡ suc n + s = omega arith in let g = no_bit rule x (first_from (p n) 0 x.width) (refuse_first rule (λ s x i. p s i) (suc n) xs) u e in
    ap (λ m. p m i) h ∙ no_bit_breaks rule p (suc n) xs u g.1 s i l

left_false : (a b : Bool) → (a || b) ≡ false → a ≡ false
left_false true b e = absurd (search (rules, e))
left_false false b e = refl

-- a design that the trial of drivers accepts
pub one_driver : (f : Flat) (resets : List (Option ℕ × Stmt)) (u : Unit {0}) → driven_once f resets ≡ good u → (s i : ℕ) → i < size_in f s → drivers f s i ≤ 1
one_driver f resets u e s i l =
    let g = good_then (refuse_first 309 (λ s x i. is_double f resets s i) 0 f.signals) (λ w. refuse_first 310 (is_undriven f) 0 f.signals) u e in
    let h = no_bit_breaks 309 (is_double f resets) 0 f.signals g.0 g.1 s i l in
    let k : 0 + s ≡ s = omega arith in
    let d = left_false (nat_le 2 (all_drivers f s i)) _ (left_false (nat_le 2 (all_drivers f s i) || nat_le 2 (times_driven (size_in f) (processes f.clocked resets) s i)) _ (sym (ap (λ m. is_double f resets m i) k) ∙ h)) in
    let m = leb-false 2 (all_drivers f s i) d in
    omega arith
