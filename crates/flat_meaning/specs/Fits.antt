-- What holds of an expression in a flat design: its reads are of bits that may be read, no concatenation has more than 64 bits, an index
-- names no bit that isn't there, and `* / %` stand in numbers alone.
use Rattle.std.specs.Prelude.{ℕ, ◌≡◌, ◌*◌, ◌^◌, ◌≤◌, Bool, true, false}
use Rattle.flat_meaning.specs.Flat.{BinaryOp, times, divided, remainder, bitwise_and, bitwise_or, bitwise_xor, Expr, Number, Read, At, Unary, Binary, Choose, Gate, Join, Repeat, Exprs, no_exprs, expr, size, sizes, largest}

abbrev pub has_cell : BinaryOp → Bool
has_cell times = false
has_cell divided = false
has_cell remainder = false
has_cell op = true

abbrev pub is_gate : BinaryOp → Bool
is_gate bitwise_and = true
is_gate bitwise_or = true
is_gate bitwise_xor = true
is_gate op = false

module _ (wid : ℕ → ℕ) (ok : (sig at width : ℕ) → Type 0) where
  abbrev mutual
    pub Fits : Expr → Type 0
    Fits (Number w n) = Unit {0}
    Fits (Read s at w) = ok s at w
    Fits (At s e) = ok s 0 (wid s) × (2 ^ size e ≤ wid s) × Fits e
    Fits (Unary op a) = Fits a
    Fits (Binary op a b) = (has_cell op ≡ true) × Fits a × Fits b
    Fits (Choose c x y) = Fits c × Fits x × Fits y
    Fits (Gate op es) = (is_gate op ≡ true) × (largest es ≤ 1) × AllFit es
    Fits (Join es) = (sizes es ≤ 64) × AllFit es
    Fits (Repeat n es) = (sizes es ≤ 64) × (n * sizes es ≤ 64) × AllFit es

    pub AllFit : Exprs → Type 0
    AllFit no_exprs = Unit {0}
    AllFit (expr e es) = Fits e × AllFit es
