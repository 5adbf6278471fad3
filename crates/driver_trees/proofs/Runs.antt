-- Runs of bits, one place after another.
use Rattle.std.proofs.Common.{◌≡◌, ℕ, zero, suc, ◌+◌, ◌-◌, ◌<◌, ◌≤◌, Bool, true, false, cond, ◌==◌, List, [], ◌∷◌, ◌++◌, refl, sym, ap, subst, ◌∙◌, arith, add-one, eq-eqb, ne_eqb}
use Rattle.flat_meaning.specs.Pieces.{Run, add_bit, runs}
use Rattle.driver_trees.specs.Collected.{runs_from, longer, IsAbove}

pub runs_down : (p : ℕ → Bool) (k at : ℕ) → runs p (at + k) [] ≡ runs p at (runs_from p at k)
runs_down p zero at = ap (λ n. runs p n []) (let e : at + 0 ≡ at = omega arith in e)
runs_down p (suc k) at = ap (λ n. runs p n []) (let e : at + suc k ≡ suc at + k = omega arith in e) ∙ runs_down p k (suc at)

pub runs_up : (p : ℕ → Bool) (n : ℕ) → runs p n [] ≡ runs_from p 0 n
runs_up p n = ap (λ m. runs p m []) (let e : n ≡ 0 + n = omega arith in e) ∙ runs_down p n 0

pub runs_above : (p : ℕ → Bool) (k at : ℕ) → IsAbove at (runs_from p (suc at) k)
runs_above p zero at = tt
runs_above p (suc k) at = go (p (suc at)) (runs_from p (suc (suc at)) k) (runs_above p k (suc at))
  where
    go : (b : Bool) (rs : List Run) → IsAbove (suc at) rs → IsAbove at (cond b (add_bit (suc at) rs) rs)
    go true [] h = omega arith
    go true (r ∷ rs) h = two (r.at == suc (suc at))
      where
        two : (d : Bool) → IsAbove at (cond d (record { at = suc at; bits = suc r.bits } ∷ rs) (record { at = suc at; bits = 1 } ∷ r ∷ rs))
        two true = omega arith
        two false = omega arith
    go false [] h = tt
    go false (r ∷ rs) h = omega (arith, h)

run_same : (low m n : ℕ) (rs : List Run) → m ≡ n → record { at = low; bits = m } ∷ rs ≡ record { at = low; bits = n } ∷ rs
run_same low m n rs e = ap (λ b. record { at = low; bits = b } ∷ rs) e

pub begins : (at : ℕ) (rs : List Run) → add_bit at rs ≡ longer at (at + 1) rs
begins at [] = run_same at 1 (at + 1 - at) [] (omega arith)
begins at (r ∷ rs) = ap (λ n. cond (r.at == n) (record { at = at; bits = suc r.bits } ∷ rs) (record { at = at; bits = 1 } ∷ r ∷ rs)) (sym (add-one at)) ∙ go (r.at == at + 1)
  where
    go : (b : Bool) → cond b (record { at = at; bits = suc r.bits } ∷ rs) (record { at = at; bits = 1 } ∷ r ∷ rs) ≡ cond b (record { at = at; bits = (at + 1 - at) + r.bits } ∷ rs) (record { at = at; bits = at + 1 - at } ∷ r ∷ rs)
    go true = run_same at (suc r.bits) ((at + 1 - at) + r.bits) rs (omega arith)
    go false = run_same at 1 (at + 1 - at) (r ∷ rs) (omega arith)

-- a run that ends below a place is not the first one above
pub ends : (low at : ℕ) (rs : List Run) → IsAbove at rs → longer low at rs ≡ record { at = low; bits = at - low } ∷ rs
ends low at [] h = refl
ends low at (r ∷ rs) h = ap (λ b. cond b (record { at = low; bits = (at - low) + r.bits } ∷ rs) (record { at = low; bits = at - low } ∷ r ∷ rs)) (ne_eqb r.at at (λ e. absurd (omega (arith, e, h))))

first_at : (low at n : ℕ) (rs : List Run) → longer low at (record { at = at; bits = n } ∷ rs) ≡ record { at = low; bits = (at - low) + n } ∷ rs
first_at low at n rs = ap (λ b. cond b (record { at = low; bits = (at - low) + n } ∷ rs) (record { at = low; bits = at - low } ∷ record { at = at; bits = n } ∷ rs)) (eq-eqb at at refl)

pub goes_on : (low at : ℕ) (rs : List Run) → low < at → longer low at (add_bit at rs) ≡ longer low (at + 1) rs
goes_on low at [] h = first_at low at 1 [] ∙ run_same low ((at - low) + 1) (at + 1 - low) [] (omega (arith, h))
goes_on low at (r ∷ rs) h = go (r.at == suc at) ∙ ap (λ n. cond (r.at == n) (record { at = low; bits = (at + 1 - low) + r.bits } ∷ rs) (record { at = low; bits = at + 1 - low } ∷ r ∷ rs)) (sym (add-one at))
  where
    go : (b : Bool) → longer low at (cond b (record { at = at; bits = suc r.bits } ∷ rs) (record { at = at; bits = 1 } ∷ r ∷ rs)) ≡ cond b (record { at = low; bits = (at + 1 - low) + r.bits } ∷ rs) (record { at = low; bits = at + 1 - low } ∷ r ∷ rs)
    go true = first_at low at (suc r.bits) rs ∙ run_same low ((at - low) + suc r.bits) ((at + 1 - low) + r.bits) rs (omega (arith, h))
    go false = first_at low at 1 (r ∷ rs) ∙ run_same low ((at - low) + 1) (at + 1 - low) (r ∷ rs) (omega (arith, h))

-- bits that aren't in the set have no runs
pub runs_past : (p : ℕ → Bool) (n k : ℕ) → ((i : ℕ) → n ≤ i → i < n + k → p i ≡ false) → (rs : List Run) → runs p (n + k) rs ≡ runs p n rs
runs_past p n zero h rs = ap (λ m. runs p m rs) (let e : n + 0 ≡ n = omega arith in e)
runs_past p n (suc k) h rs = ap (λ m. runs p m rs) (let e : n + suc k ≡ suc (n + k) = omega arith in e)
    ∙ ap (λ b. runs p (n + k) (cond b (add_bit (n + k) rs) rs)) (h (n + k) (omega arith) (omega arith)) ∙ runs_past p n k (λ i l m. h i l (omega (arith, m))) rs

pub runs_same : (p q : ℕ → Bool) (n : ℕ) → ((i : ℕ) → i < n → p i ≡ q i) → (rs : List Run) → runs p n rs ≡ runs q n rs
runs_same p q zero h rs = refl
runs_same p q (suc n) h rs = ap (λ b. runs p n (cond b (add_bit n rs) rs)) (h n (omega arith)) ∙ runs_same p q n (λ i l. h i (omega (arith, l))) (cond (q n) (add_bit n rs) rs)

pub from_next : (p : ℕ → Bool) (at n : ℕ) → at < n → runs_from p at (n - at) ≡ cond (p at) (add_bit at (runs_from p (at + 1) (n - (at + 1)))) (runs_from p (at + 1) (n - (at + 1)))
from_next p at n h = ap (runs_from p at) (let e : n - at ≡ suc (n - (at + 1)) = omega (arith, h) in e)
    ∙ ap (λ m. cond (p at) (add_bit at (runs_from p m (n - (at + 1)))) (runs_from p m (n - (at + 1)))) (sym (add-one at))

pub next_above : (p : ℕ → Bool) (at k : ℕ) → IsAbove at (runs_from p (at + 1) k)
next_above p at k = subst (λ m. IsAbove at (runs_from p m k)) (sym (add-one at)) (runs_above p k at)
