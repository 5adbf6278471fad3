-- The start values of a register: those that a reset gives win over that of its declaration.
use Rattle.std.proofs.Common.{◌≡◌, ℕ, ◌-◌, ◌^◌, ◌<◌, ◌≤◌, min, Bool, true, false, cond, not, ◌&&◌, ◌||◌, List, Option, Some, None, bit_and, bit_or, refl, sym, ap, ap₂, subst, ◌∙◌, arith, lt-ltb}
use Rattle.std.specs.Prelude.{option_map, is_some, unwrap_or, IfSome}
use Rattle.std.specs.Option.{option_or}
use Rattle.std.specs.List.{list_any}
use Rattle.std.proofs.lemmas.Nat.{pow_pos, or_lt, and_le_l}
use Rattle.std.proofs.Math.Bool.{or-false}
use Rattle.flat_meaning.specs.Flat.{Stmt, assigns}
use Rattle.flat_form.specs.declared.flat.FlatClocked.{FlatClocked}
use Rattle.flat_drivers.specs.Driving.{clocked_in}
use Rattle.cell_graph.specs.Tree.{bit_at, number}
use Rattle.cell_graph.proofs.Words.{bit_or-bit, bit_and-bit, bit-not, bit-ones, bit-zero, bit-number, number-lt, is_number, has-64, number-has}

or-true : (b : Bool) → (b || true) ≡ true
or-true true = refl
or-true false = refl

and-no : (b : Bool) → (b && false) ≡ false
and-no true = refl
and-no false = refl

and-yes : (b : Bool) → (b && true) ≡ b
and-yes true = refl
and-yes false = refl

least : (w : ℕ) → w ≤ 64 → min w 64 ≡ w
least w h = omega arith

mapped-some : (f : ℕ → Bool) (o : Option ℕ) → is_some o ≡ is_some (option_map f o)
mapped-some f (Some v) = refl
mapped-some f None = refl

-- the bit of a start value, or of 0 where there is none
mapped-bit : (o : Option ℕ) (i : ℕ) → bit_at (unwrap_or o 0) i ≡ unwrap_or (option_map (λ v. bit_at v i) o) false
mapped-bit (Some v) i = refl
mapped-bit None i = bit-zero i

either_known : (a b : Option Bool) → (is_some b || is_some a) ≡ is_some (option_or a b)
either_known (Some x) b = or-true (is_some b)
either_known None b = or-false (is_some b)

first_wins : (a b : Option Bool) → ((unwrap_or b false && not (is_some a)) || unwrap_or a false) ≡ unwrap_or (option_or a b) false
first_wins (Some x) b = ap (λ t. t || x) (and-no (unwrap_or b false))
first_wins None b = or-false (unwrap_or b false && true) ∙ and-yes (unwrap_or b false)

module _ (start : Option ℕ) (w : ℕ) (g b : ℕ → Option Bool) (small : w ≤ 64) (is : (i : ℕ) → i < w → option_map (λ v. bit_at v i) start ≡ b i) where
  all_ones : (i : ℕ) → i < w → (o : Bool) → bit_at (cond o (2 ^ min w 64 - 1) 0) i ≡ o
  all_ones i l true = ap (λ n. bit_at (2 ^ n - 1) i) (least w small) ∙ bit-ones w i ∙ lt-ltb i w l
  all_ones i l false = bit-zero i

  ones_fit : (o : Bool) → cond o (2 ^ min w 64 - 1) 0 < 2 ^ w
  ones_fit true = let e : 2 ^ min w 64 ≡ 2 ^ w = ap (λ n. 2 ^ n) (least w small) in let p = pow_pos w in omega arith
  ones_fit false = pow_pos w

  pub known-is : (reset : ℕ) → reset ≡ number (λ i. is_some (g i)) w → bit_or (cond (is_some start) (2 ^ min w 64 - 1) 0) reset ≡ number (λ i. is_some (option_or (g i) (b i))) w
  known-is reset e = is_number (bit_or (cond (is_some start) (2 ^ min w 64 - 1) 0) reset) (λ i. is_some (option_or (g i) (b i))) w
      (or_lt w (cond (is_some start) (2 ^ min w 64 - 1) 0) reset (ones_fit (is_some start)) (subst (λ n. n < 2 ^ w) (sym e) (number-lt (λ i. is_some (g i)) w)))
      (λ i l. bit_or-bit (cond (is_some start) (2 ^ min w 64 - 1) 0) reset i
      ∙ ap₂ (λ x y. x || y) (all_ones i l (is_some start) ∙ mapped-some (λ v. bit_at v i) start ∙ ap is_some (is i l)) (ap (λ n. bit_at n i) e ∙ bit-number (λ i. is_some (g i)) w i l)
      ∙ either_known (g i) (b i))

  start_fits : (o : Option ℕ) → IfSome o (λ v. v < 2 ^ w) → unwrap_or o 0 < 2 ^ w
  start_fits (Some v) h = h
  start_fits None h = pow_pos w

  pub start-is : (known reset : ℕ) → known ≡ number (λ i. is_some (g i)) w → reset ≡ number (λ i. unwrap_or (g i) false) w → IfSome start (λ v. v < 2 ^ w)
      → bit_or (bit_and (unwrap_or start 0) (2 ^ 64 - 1 - known)) reset ≡ number (λ i. unwrap_or (option_or (g i) (b i)) false) w
  start-is known reset e k fits =
      let v = unwrap_or start 0 in
      let kept = bit_and v (2 ^ 64 - 1 - known) in
      let low : kept < 2 ^ w = let a = and_le_l v (2 ^ 64 - 1 - known) in let c = start_fits start fits in omega arith in
      let word : known < 2 ^ 64 = subst (λ n. n < 2 ^ 64) (sym e) (has-64 (number-has (λ i. is_some (g i)) w) small) in
      is_number (bit_or kept reset) (λ i. unwrap_or (option_or (g i) (b i)) false) w
      (or_lt w kept reset low (subst (λ n. n < 2 ^ w) (sym k) (number-lt (λ i. unwrap_or (g i) false) w)))
      (λ i l. bit_or-bit kept reset i
      ∙ ap₂ (λ x y. x || y)
      (bit_and-bit v (2 ^ 64 - 1 - known) i ∙ ap₂ (λ x y. x && y) (mapped-bit start i ∙ ap (λ o. unwrap_or o false) (is i l))
      (bit-not known i word (omega (arith, l, small)) ∙ ap not (ap (λ n. bit_at n i) e ∙ bit-number (λ i. is_some (g i)) w i l)))
      (ap (λ n. bit_at n i) k ∙ bit-number (λ i. unwrap_or (g i) false) w i l)
      ∙ first_wins (g i) (b i))

-- the signals that clocked processes assign
abbrev pub are_registers : List FlatClocked → ℕ → Bool
are_registers ps s = list_any (λ (p : ℕ × Stmt). assigns p.1 s) (clocked_in ps)
