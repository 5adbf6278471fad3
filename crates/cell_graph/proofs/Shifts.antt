-- Words that are moved by their whole length or more.
use Rattle.std.proofs.Common.{◌≡◌, ◌∙◌, ap, ℕ, ◌<◌, ◌≤◌, ◌+◌, ◌*◌, ◌-◌, ◌/◌, ◌%◌, ◌^◌, arith}
use Rattle.std.proofs.Math.Nat.{mul-mod_right, div-eq_of_lt}
use Rattle.std.proofs.Math.Pow.{pow_mono}
use Rattle.std.proofs.lemmas.Nat.{pow-add}

pub shifted_out : (a by w : ℕ) → a < 2 ^ w → w ≤ by → a / 2 ^ by ≡ 0
shifted_out a by w h le = let m = pow_mono le in div-eq_of_lt (let lt : a < 2 ^ by = omega arith in lt)

pub pushed_out : (a by w : ℕ) → w ≤ by → a * 2 ^ by % 2 ^ w ≡ 0
pushed_out a by w le =
    let e : 2 ^ by ≡ 2 ^ w * 2 ^ (by - w) = ap (λ k. 2 ^ k) (let f : by ≡ w + (by - w) = omega arith in f) ∙ pow-add 2 w (by - w) in
    ap (λ m. a * m % 2 ^ w) e ∙ ap (λ m. m % 2 ^ w) (let f : a * (2 ^ w * 2 ^ (by - w)) ≡ 2 ^ w * (a * 2 ^ (by - w)) = omega arith in f) ∙ mul-mod_right (2 ^ w) (a * 2 ^ (by - w))
