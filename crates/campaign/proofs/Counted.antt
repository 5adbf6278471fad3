-- Numbers that are listed one by one.
use Rattle.std.proofs.Common.{◌≡◌, ◌∙◌, ℕ, suc, ◌+◌, ◌-◌, ◌<◌, ◌≤◌, Bool, List, ◌++◌, sym, ap, arith, append_assoc, append-nil}
use Rattle.campaign.specs.Numbers.{numbers_from, one_if}

-- the numbers from a place up to an end: the first one if it passes, and the others
next : (test : ℕ → Bool) (i n : ℕ) → i < n → numbers_from test i (n - i) ≡ one_if (test i) i ++ numbers_from test (i + 1) (n - (i + 1))
next test i n lt =
    let e : n - i ≡ suc (n - (i + 1)) = omega arith in
    let f : suc i ≡ i + 1 = omega arith in
    ap (numbers_from test i) e ∙ ap (λ j. one_if (test i) i ++ numbers_from test j (n - (i + 1))) f

pub one-more : (test : ℕ → Bool) (xs ys : List ℕ) (i n : ℕ) → i < n → ys ≡ xs ++ one_if (test i) i
    → xs ++ numbers_from test i (n - i) ≡ ys ++ numbers_from test (i + 1) (n - (i + 1))
one-more test xs ys i n lt e =
    ap (λ zs. xs ++ zs) (next test i n lt) ∙ sym (append_assoc xs (one_if (test i) i) (numbers_from test (i + 1) (n - (i + 1))))
    ∙ ap (λ zs. zs ++ numbers_from test (i + 1) (n - (i + 1))) (sym e)

pub no-more : (test : ℕ → Bool) (xs : List ℕ) (i n : ℕ) → n ≤ i → numbers_from test 0 n ≡ xs ++ numbers_from test i (n - i) → numbers_from test 0 n ≡ xs
no-more test xs i n le e = e ∙ ap (λ k. xs ++ numbers_from test i k) (let z : n - i ≡ 0 = omega arith in z) ∙ append-nil xs
