-- Which expressions IEEE 1364-2005 takes as signed (5.5), and which have a value that hangs on the size at which they are evaluated (5.4).
use Rattle.std.specs.Prelude.{Bool, true, false, not, ◌&&◌, ◌||◌, ◌==◌, Option, Some}
use Rattle.std.specs.Option.{option_map_or}
use Rattle.cdc_base.specs.declared.size.NumberSize.TheVariants as z
use Rattle.verilog_ast.specs.declared.UnaryOp.{UnaryOp}
use Rattle.verilog_ast.specs.declared.UnaryOp.TheVariants as u
use Rattle.verilog_ast.specs.declared.BinaryOp.{BinaryOp}
use Rattle.verilog_ast.specs.declared.BinaryOp.TheVariants as b
use Rattle.verilog_reading.specs.ExprTree.{ExprTree, number, name, index, part, unary, binary, choice, join, repeat, paren}
use Rattle.flat_unfolding.specs.Names.{Meaning, a_param, Names, meaning_in}
use Rattle.flat_unfolding.specs.Constants.{is_plain, counted_size, is_counted}

-- counted with the size 32
abbrev pub counts_whole : Names → ExprTree → Bool
counts_whole names e = option_map_or (λ k. k == 32) (counted_size names e) false

abbrev pub meant_signed : Option Meaning → Bool
meant_signed (Some (a_param p)) = p.is_signed
meant_signed m = false

-- `~` and `-` of a signed operand are signed
abbrev pub unary_signed : UnaryOp → Bool → Bool
unary_signed u.Not a = a
unary_signed u.Minus a = a
unary_signed op a = false

-- `+ - & | ^ ~^` of two signed operands is, and a shift of a signed one
abbrev pub binary_signed : BinaryOp → Bool → Bool → Bool
binary_signed b.Add m n = m && n
binary_signed b.Sub m n = m && n
binary_signed b.And m n = m && n
binary_signed b.Or m n = m && n
binary_signed b.Xor m n = m && n
binary_signed b.Xnor m n = m && n
binary_signed b.Shl m n = m
binary_signed b.Shr m n = m
binary_signed op m n = false

abbrev pub is_signed : Names → ExprTree → Bool
is_signed names (number v w spelt) = is_plain spelt
is_signed names (name x) = meant_signed (meaning_in names x)
is_signed names (index x i) = false
is_signed names (part x kind l r) = false
is_signed names (unary op a) = counts_whole names (unary op a) || unary_signed op (is_signed names a)
is_signed names (binary op a b) = counts_whole names (binary op a b) || binary_signed op (is_signed names a) (is_signed names b)
is_signed names (choice c a b) = counts_whole names (choice c a b) || (is_signed names a && is_signed names b)
is_signed names (join parts) = false
is_signed names (repeat count parts) = false
is_signed names (paren a) = is_signed names a

abbrev pub is_order : BinaryOp → Bool
is_order b.Lt = true
is_order b.Le = true
is_order b.Gt = true
is_order b.Ge = true
is_order op = false

-- a comparison of two signed operands, of which one isn't counted
abbrev pub compares_signed : Names → BinaryOp → ExprTree → ExprTree → Bool
compares_signed names op a b = is_order op && (is_signed names a && is_signed names b) && not (is_counted names (binary op a b))

-- `~` and `-` of one operand lean, `+ - ~^ <<` of two, `& | ^` with an operand that leans, and `>>` with a left one that does
abbrev pub unary_leans : UnaryOp → Bool
unary_leans u.Not = true
unary_leans u.Minus = true
unary_leans op = false

abbrev pub binary_leans : BinaryOp → Bool → Bool → Bool
binary_leans b.Add m n = true
binary_leans b.Sub m n = true
binary_leans b.Xnor m n = true
binary_leans b.Shl m n = true
binary_leans b.And m n = m || n
binary_leans b.Or m n = m || n
binary_leans b.Xor m n = m || n
binary_leans b.Shr m n = m
binary_leans op m n = false

-- what is counted with the size 32 is a number, which leans on no size
abbrev pub leans : Names → ExprTree → Bool
leans names (number v w spelt) = false
leans names (name x) = false
leans names (index x i) = false
leans names (part x kind l r) = false
leans names (unary op a) = not (counts_whole names (unary op a)) && unary_leans op
leans names (binary op a b) = not (counts_whole names (binary op a b)) && binary_leans op (leans names a) (leans names b)
leans names (choice c a b) = not (counts_whole names (choice c a b)) && (leans names a || leans names b)
leans names (join parts) = false
leans names (repeat count parts) = false
leans names (paren a) = leans names a

-- a number without a size, or what is counted with the size 32
abbrev pub is_unsized : Names → ExprTree → Bool
is_unsized names (number v w z.Sized) = false
is_unsized names (number v w spelt) = true
is_unsized names (paren a) = is_unsized names a
is_unsized names e = counts_whole names e
