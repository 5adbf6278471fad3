-- Start values of signals that no process assigns: what holds of the assignments that are added for them.
use Rattle.std.proofs.Common.{◌≡◌, ℕ, suc, ◌+◌, ◌^◌, ◌<◌, ◌≤◌, Bool, true, false, ◌&&◌, ◌||◌, ◌==◌, List, [], ◌∷◌, ◌++◌, Option, Some, None, refl, subst, arith, rules, eqb-true}
use Rattle.std.specs.Prelude.{All}
use Rattle.std.proofs.lemmas.Bool.{or_parts}
use Rattle.std.proofs.lemmas.Nat.{pow_pos, mod_below}
use Rattle.std.proofs.lemmas.List.Elements.{All-head, All-cons, All-nil, All-tail, All-append}
use Rattle.flat_meaning.specs.Flat.{Expr, Number, Target, Whole}
use Rattle.flat_meaning.specs.Assigned.{is_within}
use Rattle.flat_meaning.specs.Design.{once, times_in, times_assigned}
use Rattle.flat_unfolding.specs.Names.{width_of, Entry, width_at}
use Rattle.flat_unfolding.specs.Starts.{first_start}
use Rattle.flat_unfolding.specs.Design.{Design}
use Rattle.flat_unfolding.specs.Signals.{is_processed, constant_of, constants_from}
use Rattle.flat_unfolding.proofs.Known.{top_at}
use Rattle.flat_unfolding.proofs.Grown.{width_some}

-- what holds of a number in its width that is assigned to a signal that no process assigns and that doesn't come from outside
module _ (P : Target × Expr → Type 0) (d : Design) where
  abbrev Holds : ℕ → List Entry → Type 0
  Holds n es = (s t v : ℕ) → n + s ≡ t → is_processed d t ≡ false → top_at es s ≡ false → 1 ≤ width_at es s → v < 2 ^ width_at es s
      → P (Whole t, Number (width_at es s) v)

  constant_holds : (n : ℕ) (e : Entry) (es : List Entry) → Holds n (e ∷ es) → All P (constant_of d n e)
  constant_holds n e es h = go (is_processed d n || e.is_top_input) refl (first_start d.starts n) refl
    where
      go : (b : Bool) → (is_processed d n || e.is_top_input) ≡ b → (o : Option ℕ) → first_start d.starts n ≡ o → All P (constant_of d n e)
      go true k o i = rw k (All-nil P)
      go false k None i = rw (k, i) (All-nil P)
      go false k (Some v) i =
          let p = or_parts (is_processed d n) e.is_top_input k in let w = width_of e.range in
          rw (k, i) (All-cons P (Whole n, Number w _) [] (h 0 n _ (let z : n + 0 ≡ n = omega arith in z) p.0 p.1 (width_some e.range) (mod_below v (2 ^ w) (pow_pos w))) (All-nil P))

  -- holds of all that are added
  pub constants_hold : (n : ℕ) (es : List Entry) → Holds n es → All P (constants_from d n es)
  constants_hold n [] h = All-nil P
  constants_hold n (e ∷ es) h =
      All-append P (constant_of d n e) (constants_from d (suc n) es) (constant_holds n e es h)
      (constants_hold (suc n) es (λ s t v i. h (suc s) t v (let z : n + suc s ≡ t = omega (arith, i) in z)))

module _ (bits : ℕ → ℕ) (s i : ℕ) where
  -- assignments that are added count beside those before
  pub times_both : (xs ys : List (Target × Expr)) → times_assigned bits s i (xs ++ ys) ≡ times_assigned bits s i xs + times_assigned bits s i ys
  times_both [] ys = let h : times_assigned bits s i ys ≡ 0 + times_assigned bits s i ys = omega arith in h
  times_both (x ∷ xs) ys =
      let h = times_both xs ys in
      let e : times_in bits s i x.0 + times_assigned bits s i (xs ++ ys) ≡ times_in bits s i x.0 + times_assigned bits s i xs + times_assigned bits s i ys = omega arith in e

  none_timed : (xs : List (Target × Expr)) → All (λ (a : Target × Expr). times_in bits s i a.0 ≡ 0) xs → times_assigned bits s i xs ≡ 0
  none_timed [] h = refl
  none_timed (x ∷ xs) h =
      let k = All-head (λ (a : Target × Expr). times_in bits s i a.0 ≡ 0) x xs h in
      let r = none_timed xs (All-tail (λ (a : Target × Expr). times_in bits s i a.0 ≡ 0) x xs h) in omega arith

  -- none of them drives what a process assigns
  pub none_constant : (d : Design) (n : ℕ) (es : List Entry) → is_processed d s ≡ true → times_assigned bits s i (constants_from d n es) ≡ 0
  none_constant d n es p = none_timed (constants_from d n es) (constants_hold (λ (a : Target × Expr). times_in bits s i a.0 ≡ 0) d n es (λ k t v e f g l m. apart t f))
    where
      apart : (t : ℕ) → is_processed d t ≡ false → once ((s == t) && is_within 0 (bits t) i) ≡ 0
      apart t f = go (s == t) refl
        where
          go : (b : Bool) → (s == t) ≡ b → once (b && is_within 0 (bits t) i) ≡ 0
          go false e = refl
          go true e = let q = subst (λ k. is_processed d k ≡ true) (eqb-true s t e) p in absurd (search (rules, q, f))
