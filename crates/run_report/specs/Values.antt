-- Values as text.
use Rattle.std.specs.Prelude.{ℕ, zero, suc, ◌+◌, ◌*◌, ◌/◌, ◌%◌, ◌^◌, nat_lt, List, [], ◌∷◌, ◌++◌, codes, if◌then◌else◌}
use Rattle.std.specs.Fmt.{decimal}

-- a digit from 0 to 15
abbrev pub hex_digit : ℕ → ℕ
hex_digit n = if nat_lt n 10 then 48 + n else 87 + n

-- the lowest n hexadecimal digits
abbrev pub hex_digits : ℕ → ℕ → List ℕ
hex_digits zero v = []
hex_digits (suc n) v = hex_digit (v / 2 ^ (4 * n) % 16) ∷ hex_digits n v

-- a value of a width: as many digits as the width needs
abbrev pub value_text : ℕ → ℕ → List ℕ
value_text width v = (decimal width ++ codes "'h") ++ hex_digits ((width + 3) / 4) v
