-- Bytes of a line end that belongs to a joint.
use Rattle.std.proofs.Common.{◌≡◌, ap, arith, ℕ, zero, suc, ◌-◌, ◌+◌, ◌<◌, List, ◌∷◌, drop, length, get_or, drop-cons, add-one, ◌∙◌, sym}
use Rattle.sdc_subset.specs.Commands.{joined_behind}

passed : (n b : ℕ) (bs : List ℕ) → 0 < n → joined_behind n (b ∷ bs) ≡ joined_behind (n - 1) bs
passed zero b bs h = absurd (omega arith)
passed (suc n) b bs h = ap (λ k. joined_behind k bs) (let e : n ≡ suc n - 1 = omega arith in e)

-- one of them is left out
pub joined-passes : (n i : ℕ) (text : List ℕ) → 0 < n → i < length text → joined_behind n (drop i text) ≡ joined_behind (n - 1) (drop (i + 1) text)
joined-passes n i text h l = ap (joined_behind n) (drop-cons text i 0 l) ∙ passed n (get_or text i 0) (drop (suc i) text) h ∙ ap (λ k. joined_behind (n - 1) (drop k text)) (sym (add-one i))
