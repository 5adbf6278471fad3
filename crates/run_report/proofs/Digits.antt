-- Hexadecimal digits, one by one.
use Rattle.std.proofs.Common.{◌≡◌, ◌∙◌, ℕ, suc, ◌*◌, ◌/◌, ◌%◌, ◌^◌, ◌<◌, ◌≤◌, List, [], ◌∷◌, ◌++◌, sym, ap, append_assoc, arith}
use Rattle.std.proofs.Math.Nat.{div-eq_of_lt}
use Rattle.std.proofs.Math.Pow.{pow_mono}
use Rattle.run_report.specs.Values.{hex_digit, hex_digits}

-- a word has no digit from place 16 on
pub no-digit : (value place : ℕ) → value < 2 ^ 64 → 16 ≤ place → hex_digit (value / 2 ^ (4 * place) % 16) ≡ 48
no-digit value place fits far =
    let wide : 64 ≤ 4 * place = omega arith in
    let large : 2 ^ 64 ≤ 2 ^ (4 * place) = pow_mono wide in
    let small : value < 2 ^ (4 * place) = omega arith in
    ap (λ n. hex_digit (n % 16)) (div-eq_of_lt small)

-- the next digit goes to the end
pub digit-goes : (value left less : ℕ) (whole text longer : List ℕ) (digit : ℕ) → left ≡ suc less → whole ≡ text ++ hex_digits left value
    → digit ≡ hex_digit (value / 2 ^ (4 * less) % 16) → longer ≡ text ++ digit ∷ [] → whole ≡ longer ++ hex_digits less value
digit-goes value left less whole text longer digit one before is added =
    before ∙ ap (λ n. text ++ hex_digits n value) one ∙ ap (λ d. text ++ d ∷ hex_digits less value) (sym is)
    ∙ sym (append_assoc text (digit ∷ []) (hex_digits less value)) ∙ ap (λ t. t ++ hex_digits less value) (sym added)
