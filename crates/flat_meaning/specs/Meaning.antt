-- The meaning of expressions and statements, on values. It knows no cell.
use Rattle.std.specs.Prelude.{ℕ, zero, suc, ◌+◌, ◌-◌, ◌*◌, ◌^◌, ◌/◌, ◌%◌, max, Bool, false, cond, not, ◌&&◌, ◌||◌, ◌==◌, nat_lt}
use Rattle.cell_graph.specs.Tree.{bit_at, number, all_below, any_below, odd_below}
use Rattle.flat_meaning.specs.Values.{Word, Words}
use Rattle.flat_meaning.specs.Flat.{UnaryOp, complement, logical_not, reduce_and, reduce_or, reduce_xor, reduce_nand, reduce_nor, reduce_xnor, BinaryOp, times, divided, remainder, plus, minus, shift_left, shift_right, is_less, is_at_most, is_greater, is_at_least, is_equal, is_unequal, bitwise_and, bitwise_or, bitwise_xor, bitwise_xnor, logical_and, logical_or, Expr, Number, Read, At, Unary, Binary, Choose, Gate, Join, Repeat, Exprs, no_exprs, expr, Target, Whole, Part, Pick, Group, Targets, no_targets, target, Stmt, Null, Set, If, Case, Block, Items, no_items, default_item, item, Stmts, no_stmts, stmt, size, sizes, case_size, target_sizes, value_size}

-- the word of w bits, with zeros above
abbrev pub padded : ℕ → Word → Word
padded w f i = nat_lt i w && f i

-- a truth value as a word
abbrev pub flag : Bool → Word
flag b = padded 1 (λ i. b)

-- n low bits, with the high word above
abbrev pub cat : Word → ℕ → Word → Word
cat high n low i = cond (nat_lt i n) (low i) (high (i - n))

abbrev pub copies : ℕ → ℕ → Word → Word
copies zero w f = λ i. false
copies (suc n) w f = cat f (n * w) (copies n w f)

abbrev pub unary : UnaryOp → ℕ → Word → Word
unary complement w f = λ i. not (f i)
unary logical_not w f = flag (not (any_below f w))
unary reduce_and w f = flag (all_below f w)
unary reduce_or w f = flag (any_below f w)
unary reduce_xor w f = flag (odd_below f w)
unary reduce_nand w f = flag (not (all_below f w))
unary reduce_nor w f = flag (not (any_below f w))
unary reduce_xnor w f = flag (not (odd_below f w))

-- a and b have the size w; of a shift, b has the size v
abbrev pub binary : BinaryOp → ℕ → ℕ → Word → Word → Word
binary times w v f g = λ i. bit_at (number f w * number g w) i
binary divided w v f g = λ i. bit_at (number f w / number g w) i
binary remainder w v f g = λ i. bit_at (number f w % number g w) i
binary plus w v f g = λ i. bit_at (number f w + number g w) i
binary minus w v f g = λ i. bit_at (2 ^ w + number f w - number g w) i
binary shift_left w v f g = let n = number g v in λ i. cond (nat_lt i n) false (f (i - n))
binary shift_right w v f g = let n = number g v in λ i. cond (nat_lt (i + n) w) (f (i + n)) false
binary is_less w v f g = flag (nat_lt (number f w) (number g w))
binary is_at_most w v f g = flag (not (nat_lt (number g w) (number f w)))
binary is_greater w v f g = flag (nat_lt (number g w) (number f w))
binary is_at_least w v f g = flag (not (nat_lt (number f w) (number g w)))
binary is_equal w v f g = flag (number f w == number g w)
binary is_unequal w v f g = flag (not (number f w == number g w))
binary bitwise_and w v f g = λ i. f i && g i
binary bitwise_or w v f g = λ i. f i || g i
binary bitwise_xor w v f g = λ i. cond (f i) (not (g i)) (g i)
binary bitwise_xnor w v f g = λ i. not (cond (f i) (not (g i)) (g i))
binary logical_and w v f g = flag (any_below f w && any_below g v)
binary logical_or w v f g = flag (any_below f w || any_below g v)

-- the sizes at which the operands of a whole of size w are evaluated
abbrev pub unary_at : UnaryOp → ℕ → ℕ → ℕ
unary_at complement w m = w
unary_at logical_not w m = m
unary_at reduce_and w m = m
unary_at reduce_or w m = m
unary_at reduce_xor w m = m
unary_at reduce_nand w m = m
unary_at reduce_nor w m = m
unary_at reduce_xnor w m = m

abbrev pub left_at : BinaryOp → ℕ → ℕ → ℕ → ℕ
left_at times w m n = w
left_at divided w m n = w
left_at remainder w m n = w
left_at plus w m n = w
left_at minus w m n = w
left_at shift_left w m n = w
left_at shift_right w m n = w
left_at is_less w m n = max m n
left_at is_at_most w m n = max m n
left_at is_greater w m n = max m n
left_at is_at_least w m n = max m n
left_at is_equal w m n = max m n
left_at is_unequal w m n = max m n
left_at bitwise_and w m n = w
left_at bitwise_or w m n = w
left_at bitwise_xor w m n = w
left_at bitwise_xnor w m n = w
left_at logical_and w m n = m
left_at logical_or w m n = m

abbrev pub right_at : BinaryOp → ℕ → ℕ → ℕ → ℕ
right_at times w m n = w
right_at divided w m n = w
right_at remainder w m n = w
right_at plus w m n = w
right_at minus w m n = w
right_at shift_left w m n = n
right_at shift_right w m n = n
right_at is_less w m n = max m n
right_at is_at_most w m n = max m n
right_at is_greater w m n = max m n
right_at is_at_least w m n = max m n
right_at is_equal w m n = max m n
right_at is_unequal w m n = max m n
right_at bitwise_and w m n = w
right_at bitwise_or w m n = w
right_at bitwise_xor w m n = w
right_at bitwise_xnor w m n = w
right_at logical_and w m n = n
right_at logical_or w m n = n

-- the value of an expression at a size, given the value of each signal
abbrev mutual
  pub value : Words → Expr → ℕ → Word
  value v (Number w n) W = padded w (bit_at n)
  value v (Read s at w) W = padded w (λ i. v s (at + i))
  value v (At s e) W = flag (v s (number (value v e (size e)) (size e)))
  value v (Unary op a) W = let w = unary_at op W (size a) in unary op w (value v a w)
  value v (Binary op a b) W = let m = left_at op W (size a) (size b) in let n = right_at op W (size a) (size b) in binary op m n (value v a m) (value v b n)
  value v (Choose c x y) W = let chosen = any_below (value v c (size c)) (size c) in λ i. cond chosen (value v x W i) (value v y W i)
  value v (Gate op es) W = gated v op W es
  value v (Join es) W = padded (sizes es) (joined v es)
  value v (Repeat n es) W = padded (n * sizes es) (copies n (sizes es) (joined v es))

  pub joined : Words → Exprs → Word
  joined v no_exprs = λ i. false
  joined v (expr e es) = cat (value v e (size e)) (sizes es) (joined v es)

  -- a gate's inputs, folded from the left
  pub gated : Words → BinaryOp → ℕ → Exprs → Word
  gated v op W no_exprs = λ i. false
  gated v op W (expr e es) = gated_on v op W (value v e W) es

  pub gated_on : Words → BinaryOp → ℕ → Word → Exprs → Word
  gated_on v op W f no_exprs = f
  gated_on v op W f (expr e es) = gated_on v op W (binary op W W f (value v e W)) es

abbrev pub is_true : Words → Expr → Bool
is_true v e = any_below (value v e (size e)) (size e)

abbrev pub index : Words → Expr → ℕ
index v e = number (value v e (size e)) (size e)

-- the values after w bits of a signal, from a place on, took those of a word
abbrev pub change : ℕ → ℕ → ℕ → Word → Words → Words
change s at w f v t i = cond ((t == s) && (not (nat_lt i at) && nat_lt i (at + w))) (f (i - at)) (v t i)

abbrev pub is_one_of : Words → ℕ → Word → Exprs → Bool
is_one_of v w f no_exprs = false
is_one_of v w f (expr e es) = (number f w == number (value v e w) w) || is_one_of v w f es

-- an assignment: the values u tell what indices read
module _ (wid : ℕ → ℕ) (u : Words) where
  abbrev mutual
    pub put : Target → Word → Words → Words
    put (Whole s) f v = change s 0 (wid s) f v
    put (Part s at w) f v = change s at w f v
    put (Pick s e) f v = change s (index u e) 1 f v
    put (Group ts) f v = put_all ts f v

    -- from the left, which has the highest bits
    pub put_all : Targets → Word → Words → Words
    put_all no_targets f v = v
    put_all (target t ts) f v = put_all ts f (put t (λ i. f (target_sizes wid ts + i)) v)

-- statements: `now` tells, of the values so far, those that expressions read
module _ (wid : ℕ → ℕ) (now : Words → Words) where
  abbrev mutual
    pub run : Stmt → Words → Words
    run Null v = v
    run (Set b t e) v = put wid (now v) t (value (now v) e (value_size wid t e)) v
    run (If c x y) v = cond (is_true (now v) c) (run x v) (run y v)
    run (Case e is) v = run_case (case_size e is) (value (now v) e (case_size e is)) is v
    run (Block ss) v = run_all ss v

    pub run_case : ℕ → Word → Items → Words → Words
    run_case w f no_items v = v
    run_case w f (default_item body) v = run body v
    run_case w f (item ls body rest) v = cond (is_one_of (now v) w f ls) (run body v) (run_case w f rest v)

    pub run_all : Stmts → Words → Words
    run_all no_stmts v = v
    run_all (stmt s ss) v = run_all ss (run s v)

-- blocking: each reads what the ones before it left
abbrev pub run_blocking : (ℕ → ℕ) → Stmt → Words → Words
run_blocking wid s v = run wid (λ now. now) s v

-- nonblocking: all read the values before the event
abbrev pub run_clocked : (ℕ → ℕ) → Stmt → Words → Words
run_clocked wid s v = run wid (λ now. v) s v
