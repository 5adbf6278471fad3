-- Counted and whole expressions: plain numbers and counted parameters, taken as whole numbers.
use Rattle.std.specs.Prelude.{ℕ, ◌+◌, ◌-◌, ◌*◌, ◌^◌, ◌/◌, ◌%◌, max, Bool, true, false, cond, not, ◌&&◌, ◌||◌, ◌==◌, nat_lt, nat_le, Option, Some, None, is_some, option_map, option_and_then, unwrap_or, bit_and, bit_or, bit_xor}
use Rattle.std.specs.Option.{option_map_or}
use Rattle.cdc_base.specs.declared.size.NumberSize.{NumberSize}
use Rattle.cdc_base.specs.declared.size.NumberSize.TheVariants as z
use Rattle.verilog_ast.specs.declared.UnaryOp.{UnaryOp}
use Rattle.verilog_ast.specs.declared.UnaryOp.TheVariants as u
use Rattle.flat_form.specs.declared.flat.FUnaryOp.{FUnaryOp}
use Rattle.flat_form.specs.declared.flat.FUnaryOp.TheVariants as flat
use Rattle.verilog_ast.specs.declared.BinaryOp.{BinaryOp}
use Rattle.verilog_ast.specs.declared.BinaryOp.TheVariants as b
use Rattle.verilog_reading.specs.ExprTree.{ExprTree, number, name, index, part, unary, binary, choice, join, repeat, paren}
use Rattle.cell_graph.specs.Tree as word
use Rattle.flat_meaning.specs.Flat.{unary_size, binary_size, Expr, size}
use Rattle.flat_meaning.specs.Meaning as meaning
use Rattle.flat_meaning.specs.Full.{nothing}
use Rattle.flat_form.specs.View.{unary_of, binary_of}
use Rattle.flat_unfolding.specs.Names.{Param, Meaning, a_param, Names, meaning_in}
use Rattle.flat_unfolding.specs.Outcome.{Text}

-- the value of a constant at its own size, and as it is assigned to some bits
abbrev pub own_value : Expr → ℕ
own_value e = word.number (meaning.value nothing e (size e)) (size e)

abbrev pub assigned_value : Expr → ℕ → ℕ
assigned_value e w = word.number (meaning.value nothing e (max w (size e))) w

abbrev pub if_counted : Meaning → Option Param
if_counted (a_param p) = cond p.is_counted (Some p) None
if_counted m = None

-- the counted parameter of that name
abbrev pub counted_param : Names → Text → Option Param
counted_param names x = option_and_then if_counted (meaning_in names x)

abbrev pub both : {A B C : Type 0} → (A → B → C) → Option A → Option B → Option C
both f (Some a) (Some b) = Some (f a b)
both f a b = None

-- a decimal run alone
abbrev pub is_plain : NumberSize → Bool
is_plain z.Plain = true
is_plain spelt = false

-- the operator over its operand; `-` has none, since `-a` stands for `0 - a`
abbrev pub plain_unary : UnaryOp → Option FUnaryOp
plain_unary u.Minus = None
plain_unary u.Not = Some flat.Not
plain_unary u.LogicNot = Some flat.LogicNot
plain_unary u.And = Some flat.And
plain_unary u.Or = Some flat.Or
plain_unary u.Xor = Some flat.Xor
plain_unary u.Nand = Some flat.Nand
plain_unary u.Nor = Some flat.Nor
plain_unary u.Xnor = Some flat.Xnor

-- the own size of a unary expression over an operand of size n; a difference from 0 has its operand's
abbrev pub own_unary : UnaryOp → (n : ℕ) → ℕ
own_unary op n = option_map_or (λ o. unary_size (unary_of o) n) (plain_unary op) n

-- the own size of a counted expression, and nothing of any other: no concatenation, replication, select or sized number is counted
abbrev pub counted_size : Names → ExprTree → Option ℕ
counted_size names (number v w spelt) = cond (is_plain spelt) (Some w) None
counted_size names (name x) = option_map (λ (p : Param). p.width) (counted_param names x)
counted_size names (index x i) = None
counted_size names (part x kind l r) = None
counted_size names (unary op a) = option_map (own_unary op) (counted_size names a)
counted_size names (binary op a b) = both (binary_size (binary_of op)) (counted_size names a) (counted_size names b)
counted_size names (choice c a b) = both (λ k n. n) (counted_size names c) (both max (counted_size names a) (counted_size names b))
counted_size names (join parts) = None
counted_size names (repeat count parts) = None
counted_size names (paren a) = counted_size names a

abbrev pub is_counted : Names → ExprTree → Bool
is_counted names e = is_some (counted_size names e)

-- a subresult is 0 to 2^31 - 1, and 0 or 1 where its own size is 1
abbrev pub within : (size n : ℕ) → Option ℕ
within size n = cond (nat_lt n (cond (size == 1) 2 (2 ^ 31))) (Some n) None

-- `~x` counts as 2^32 - 1 - x; a reduction is taken over its operand's own size
abbrev pub whole_plain : FUnaryOp → (size n : ℕ) → ℕ
whole_plain flat.Not size n = 2 ^ 32 - 1 - n
whole_plain op size n = word.number (meaning.unary (unary_of op) size (word.bit_at n)) 1

abbrev pub truth : Bool → ℕ
truth t = cond t 1 0

-- none where there is no such whole number: below 0, or a divisor of 0
abbrev pub whole_binary : BinaryOp → ℕ → ℕ → Option ℕ
whole_binary b.Mul m n = Some (m * n)
whole_binary b.Div m n = cond (n == 0) None (Some (m / n))
whole_binary b.Mod m n = cond (n == 0) None (Some (m % n))
whole_binary b.Add m n = Some (m + n)
whole_binary b.Sub m n = cond (nat_lt m n) None (Some (m - n))
whole_binary b.Shl m n = Some (m * 2 ^ n)
whole_binary b.Shr m n = Some (m / 2 ^ n)
whole_binary b.Lt m n = Some (truth (nat_lt m n))
whole_binary b.Le m n = Some (truth (nat_le m n))
whole_binary b.Gt m n = Some (truth (nat_lt n m))
whole_binary b.Ge m n = Some (truth (nat_le n m))
whole_binary b.Eq m n = Some (truth (m == n))
whole_binary b.Ne m n = Some (truth (not (m == n)))
whole_binary b.And m n = Some (bit_and m n)
whole_binary b.Xor m n = Some (bit_xor m n)
whole_binary b.Xnor m n = Some (2 ^ 32 - 1 - bit_xor m n)
whole_binary b.Or m n = Some (bit_or m n)
whole_binary b.LogicAnd m n = Some (truth (not (m == 0) && not (n == 0)))
whole_binary b.LogicOr m n = Some (truth (not (m == 0) || not (n == 0)))

-- `-x` counts as 0 - x
abbrev pub whole_unary : UnaryOp → (size n : ℕ) → Option ℕ
whole_unary op size n = option_map_or (λ o. Some (whole_plain o size n)) (plain_unary op) (whole_binary b.Sub 0 n)

module _ (names : Names) where
  abbrev pub size_in : ExprTree → ℕ
  size_in e = unwrap_or (counted_size names e) 0

  -- the value of a counted expression as a whole number; of a choice the chosen branch alone is judged. None breaks E307
  abbrev pub whole : ExprTree → Option ℕ
  whole (number v w spelt) = within 32 v
  whole (name x) = option_and_then (λ (p : Param). within p.width p.value) (counted_param names x)
  whole (index x i) = None
  whole (part x kind l r) = None
  whole (unary op a) = option_and_then (λ m. option_and_then (within (size_in (unary op a))) (whole_unary op (size_in a) m)) (whole a)
  whole (binary op a b) = option_and_then (λ m. option_and_then (λ n. option_and_then (within (size_in (binary op a b))) (whole_binary op m n)) (whole b)) (whole a)
  whole (choice c a b) = option_and_then (λ k. option_and_then (within (size_in (choice c a b))) (cond (k == 0) (whole b) (whole a))) (whole c)
  whole (join parts) = None
  whole (repeat count parts) = None
  whole (paren a) = whole a
