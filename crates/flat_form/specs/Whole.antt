-- Whole expressions: plain numbers and counted parameters, by operators. A subresult is a whole number from 0 to 2 ^ 31 - 1, and 0 or 1 where
-- its own size is 1; one that breaks this, or divides by 0, is None, and so is what is made of it.
use Rattle.std.specs.Prelude.{ℕ, ◌+◌, ◌-◌, ◌*◌, ◌/◌, ◌%◌, ◌^◌, Bool, cond, ◌==◌, nat_le, Option, Some, None, bit_and, bit_or, bit_xor}
use Rattle.std.specs.Option.{option_and_then}
use Rattle.flat_form.specs.declared.flat.FUnaryOp.{FUnaryOp}
use Rattle.flat_form.specs.declared.flat.FUnaryOp.TheVariants as u
use Rattle.verilog_ast.specs.declared.BinaryOp.{BinaryOp}
use Rattle.verilog_ast.specs.declared.BinaryOp.TheVariants as b
use Rattle.cell_graph.specs.Tree.{bit_at}
use Rattle.flat_meaning.specs.Meaning.{unary}
use Rattle.flat_form.specs.View.{unary_of}
use Rattle.flat_form.specs.Operators.{comparison}

-- a subresult of own size w, within its bounds
abbrev pub judged : (w n : ℕ) → Option ℕ
judged w n = cond (nat_le n (cond (w == 1) 1 (2 ^ 31 - 1))) (Some n) None

-- the opposite of a word of 32 bits
abbrev pub opposite : ℕ → ℕ
opposite n = 2 ^ 32 - 1 - n

abbrev pub one_if : Bool → ℕ
one_if b = cond b 1 0

-- `~`, `!` or a reduction of an operand of own size w
abbrev pub unary_number : FUnaryOp → (w n : ℕ) → Option ℕ
unary_number u.Not w n = judged w (opposite n)
unary_number op w n = Some (one_if (unary (unary_of op) w (bit_at n) 0))

-- both operands are judged, also those of `&&` and `||`
abbrev pub binary_number : BinaryOp → (m n : ℕ) → Option ℕ
binary_number b.Mul m n = Some (m * n)
binary_number b.Div m n = cond (n == 0) None (Some (m / n))
binary_number b.Mod m n = cond (n == 0) None (Some (m % n))
binary_number b.Add m n = Some (m + n)
binary_number b.Sub m n = cond (nat_le n m) (Some (m - n)) None
binary_number b.And m n = Some (bit_and m n)
binary_number b.Xor m n = Some (bit_xor m n)
binary_number b.Xnor m n = Some (opposite (bit_xor m n))
binary_number b.Or m n = Some (bit_or m n)
binary_number b.Shl m n = Some (m * 2 ^ n)
binary_number b.Shr m n = Some (m / 2 ^ n)
binary_number op m n = Some (one_if (comparison op m n))

abbrev pub unary_whole : FUnaryOp → ℕ → Option ℕ → Option ℕ
unary_whole op w a = option_and_then (unary_number op w) a

abbrev pub binary_whole : BinaryOp → ℕ → Option ℕ → Option ℕ → Option ℕ
binary_whole op w a b = option_and_then (λ m. option_and_then (λ n. option_and_then (judged w) (binary_number op m n)) b) a

-- of a choice the chosen branch alone is judged
abbrev pub choice_whole : ℕ → (c x y : Option ℕ) → Option ℕ
choice_whole w c x y = option_and_then (λ n. option_and_then (judged w) (cond (n == 0) y x)) c
