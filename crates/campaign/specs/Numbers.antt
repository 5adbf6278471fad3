-- Numbers in order.
use Rattle.std.specs.Prelude.{ℕ, zero, suc, Bool, cond, List, [], ◌∷◌, ◌++◌}

-- the number, if it passes
abbrev pub one_if : Bool → ℕ → List ℕ
one_if passes n = cond passes (n ∷ []) []

-- the numbers from j on, n of them, that pass a test
abbrev pub numbers_from : (ℕ → Bool) → (j n : ℕ) → List ℕ
numbers_from test j zero = []
numbers_from test j (suc n) = one_if (test j) j ++ numbers_from test (suc j) n
