-- The kinds of binary operators, and comparisons.
use Rattle.std.specs.Prelude.{ℕ, Bool, false, not, ◌&&◌, ◌||◌, ◌==◌, nat_lt}
use Rattle.verilog_ast.specs.declared.BinaryOp.{BinaryOp}
use Rattle.verilog_ast.specs.declared.BinaryOp.TheVariants.{Mul, Div, Mod, Add, Sub, Shl, Shr, Lt, Le, Gt, Ge, Eq, Ne, And, Xor, Xnor, Or, LogicAnd, LogicOr}
use Rattle.flat_form.specs.declared.size.Family.{Family}
use Rattle.flat_form.specs.declared.size.Family.TheVariants.{Arithmetic, Shift, Comparison, Logic}

abbrev pub family : BinaryOp → Family
family Mul = Arithmetic
family Div = Arithmetic
family Mod = Arithmetic
family Add = Arithmetic
family Sub = Arithmetic
family And = Arithmetic
family Xor = Arithmetic
family Xnor = Arithmetic
family Or = Arithmetic
family Shl = Shift
family Shr = Shift
family Lt = Comparison
family Le = Comparison
family Gt = Comparison
family Ge = Comparison
family Eq = Comparison
family Ne = Comparison
family LogicAnd = Logic
family LogicOr = Logic

-- a comparison of two numbers, or `&&` or `||` of them; no other operator gives one bit
abbrev pub comparison : BinaryOp → ℕ → ℕ → Bool
comparison Lt a b = nat_lt a b
comparison Le a b = not (nat_lt b a)
comparison Gt a b = nat_lt b a
comparison Ge a b = not (nat_lt a b)
comparison Eq a b = a == b
comparison Ne a b = not (a == b)
comparison LogicAnd a b = not (a == 0) && not (b == 0)
comparison LogicOr a b = not (a == 0) || not (b == 0)
comparison Mul a b = false
comparison Div a b = false
comparison Mod a b = false
comparison Add a b = false
comparison Sub a b = false
comparison And a b = false
comparison Xor a b = false
comparison Xnor a b = false
comparison Or a b = false
comparison Shl a b = false
comparison Shr a b = false
