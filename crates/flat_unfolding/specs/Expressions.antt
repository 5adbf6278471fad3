-- Expressions with their names resolved, and the rules that they break.
use Rattle.std.specs.Prelude.{ℕ, zero, suc, ◌+◌, ◌-◌, ◌*◌, ◌^◌, ◌/◌, ◌%◌, Bool, true, false, cond, not, ◌&&◌, ◌==◌, nat_lt, nat_le, List, [], ◌∷◌, ◌++◌, map, flat_map, Option, Some, None}
use Rattle.std.specs.List.{list_all}
use Rattle.verilog_ast.specs.declared.UnaryOp.{UnaryOp}
use Rattle.verilog_ast.specs.declared.PartKind.{PartKind}
use Rattle.verilog_ast.specs.declared.PartKind.TheVariants as k
use Rattle.verilog_ast.specs.declared.BinaryOp.{BinaryOp}
use Rattle.verilog_ast.specs.declared.BinaryOp.TheVariants as b
use Rattle.verilog_reading.specs.ExprTree.{ExprTree, number, name, index, part, unary, binary, choice, join, repeat, paren, ExprTrees, no_trees, and_trees}
use Rattle.flat_meaning.specs.Flat.{minus, is_equal, Expr, Number, At, Unary, Binary, Choose, Join, Repeat, Exprs, size, sizes}
use Rattle.flat_form.specs.declared.flat.FUnaryOp.{FUnaryOp}
use Rattle.flat_form.specs.View.{unary_of, binary_of, exprs_of}
use Rattle.flat_unfolding.specs.Outcome.{Text, Broken, breaks, breaks_if}
use Rattle.flat_unfolding.specs.Names.{Range, span, offset_in, Param, Memory, Meaning, a_param, a_signal, a_memory, Look, meaning, range_at, bits_of, whole_of, unknown}
use Rattle.flat_unfolding.specs.Constants.{own_value, plain_unary, counted_size, whole}
use Rattle.flat_unfolding.specs.Signs.{compares_signed, is_unsized}

-- an expression as it was read. `is_constant` tells that no signal is in it, `broken` has the rules that it breaks in textual order.
-- What breaks a rule stands as no expression, so that `expr` tells what the others read.
pub record Term : Type 0 where
  pub expr : Expr
  pub is_constant : Bool
  pub broken : List Broken

abbrev pub is_empty : {A : Type 0} → List A → Bool
is_empty [] = true
is_empty (a ∷ rest) = false

abbrev pub is_sound : Term → Bool
is_sound t = is_empty t.broken

abbrev pub all_broken : List Term → List Broken
all_broken ts = flat_map (λ (t : Term). t.broken) ts

abbrev pub all_sound : List Term → Bool
all_sound ts = list_all is_sound ts

abbrev pub all_constant : List Term → Bool
all_constant ts = list_all (λ (t : Term). t.is_constant) ts

abbrev pub joined : List Term → Exprs
joined ts = exprs_of (map (λ (t : Term). t.expr) ts)

abbrev pub constant : Expr → Term
constant e = record { expr = e; is_constant = true; broken = [] }

abbrev pub variable : Expr → Term
variable e = record { expr = e; is_constant = false; broken = [] }

-- what breaks these rules, with what it reads
abbrev pub spoilt : Expr → Bool → List Broken → Term
spoilt e c bs = record { expr = e; is_constant = c; broken = bs }

abbrev pub no_expr : Expr
no_expr = Number 1 0

abbrev pub also : Term → List Broken → Term
also t bs = record { expr = t.expr; is_constant = t.is_constant; broken = t.broken ++ bs }

-- E307: a constant has to stand here
abbrev pub as_constant : Term → Term
as_constant t = also t (breaks_if (not t.is_constant) 307 [])

-- E307: a bound is a constant from 0 to 2^31 - 1
abbrev pub as_bound : Term → Term
as_bound t = let c = as_constant t in also c (breaks_if (is_sound c && nat_le (2 ^ 31) (own_value c.expr)) 307 [])

-- E307: a count is a bound of at least 1
abbrev pub as_count : Term → Term
as_count t = let c = as_bound t in also c (breaks_if (is_sound c && (own_value c.expr == 0)) 307 [])

-- what stands second between the brackets of a part: a bound, or a count of bits
abbrev pub as_second : PartKind → Term → Term
as_second k.Range t = as_bound t
as_second kind t = as_count t

-- the range with these bounds; none where one of them breaks a rule
abbrev pub range_of : Term → Term → Option Range
range_of l r = cond (is_sound l && is_sound r) (Some (record { left = own_value l.expr; right = own_value r.expr })) None

-- a constant select: its lowest bit and its bits
pub record Select : Type 0 where
  pub at : ℕ
  pub bits : ℕ

abbrev pub one_bit : Option ℕ → Option Select
one_bit None = None
one_bit (Some at) = Some (record { at = at; bits = 1 })

abbrev pub bit_select : Option Range → ℕ → Option Select
bit_select r i = one_bit (offset_in r i)

-- none where a bound is outside the range, or the bounds have the other direction than the range's
abbrev pub bits_between : Option ℕ → Option ℕ → Option Select
bits_between (Some high) (Some low) = cond (nat_lt high low) None (Some (record { at = low; bits = high - low + 1 }))
bits_between a b = None

abbrev pub part_select : Option Range → Range → Option Select
part_select r p = bits_between (offset_in r p.left) (offset_in r p.right)

-- the indices from low to high, of which the higher stands first where the range descends
abbrev pub ascends : Option Range → Bool
ascends None = false
ascends (Some r) = nat_lt r.left r.right

abbrev pub indices_select : Option Range → (low high : ℕ) → Option Select
indices_select r low high = part_select r (record { left = cond (ascends r) low high; right = cond (ascends r) high low })

-- `[left:right]`, `[b +: n]` with the indices b to b + n - 1, `[b -: n]` with b - n + 1 to b, by the two numbers between the brackets; n isn't 0
abbrev pub kind_select : Option Range → PartKind → Range → Option Select
kind_select r k.Range p = part_select r p
kind_select r k.Up p = indices_select r p.left (p.left + (p.right - 1))
kind_select r k.Down p = cond (nat_lt p.left (p.right - 1)) None (indices_select r (p.left - (p.right - 1)) p.left)

-- E315, but for this: `right` is 0, `left` isn't smaller, and 2 to the index's size is at most the width
abbrev pub may_index : Option Range → ℕ → Bool
may_index None n = false
may_index (Some r) n = (r.right == 0) && nat_le (2 ^ n) (span r)

-- a word of a memory that a constant index means
abbrev pub word_of : Memory → ℕ → Option ℕ
word_of m i = cond (nat_lt i m.words) (Some (m.first + i)) None

-- `i == n`, with a number as wide as the index
abbrev pub is_index : Expr → ℕ → Expr
is_index i n = Binary is_equal i (Number (size i) n)

-- ---- operators, concatenations and replications over what was read

-- `-a` is `0 - a`, this 0 having a's own size
abbrev pub unary_expr : Option FUnaryOp → Expr → Expr
unary_expr (Some op) e = Unary (unary_of op) e
unary_expr None e = Binary minus (Number (size e) 0) e

abbrev pub unary_term : UnaryOp → Term → Term
unary_term op a = spoilt (unary_expr (plain_unary op) a.expr) a.is_constant a.broken

-- E307: `* / %` stand in whole expressions alone
abbrev pub is_whole_only : BinaryOp → Bool
is_whole_only b.Mul = true
is_whole_only b.Div = true
is_whole_only b.Mod = true
is_whole_only op = false

abbrev pub binary_term : BinaryOp → Term → Term → Term
binary_term op a b = spoilt (Binary (binary_of op) a.expr b.expr) (a.is_constant && b.is_constant) (a.broken ++ b.broken ++ breaks_if (is_whole_only op) 307 [])

abbrev pub choice_term : Term → Term → Term → Term
choice_term c a b = spoilt (Choose c.expr a.expr b.expr) (c.is_constant && (a.is_constant && b.is_constant)) (c.broken ++ a.broken ++ b.broken)

-- E308: a concatenation has 64 bits at most
abbrev pub join_term : List Term → Term
join_term ts = spoilt (Join (joined ts)) (all_constant ts) (all_broken ts ++ breaks_if (all_sound ts && nat_lt 64 (sizes (joined ts))) 308 [])

-- E308, the count times the sum
abbrev pub repeat_term : Term → List Term → Term
repeat_term t ts = let c = as_count t in let n = own_value c.expr in
    spoilt (Repeat n (joined ts)) (all_constant ts) (c.broken ++ all_broken ts ++ breaks_if (is_sound c && all_sound ts && nat_lt 64 (n * sizes (joined ts))) 308 [])

module _ (look : Look) where
  -- ---- a name alone

  -- E305, E319: a memory stands with an index
  abbrev pub meant_term : Text → Option Meaning → Term
  meant_term x (Some (a_param p)) = constant (Number p.width p.value)
  meant_term x (Some (a_signal s)) = variable (whole_of look s)
  meant_term x (Some (a_memory m)) = spoilt no_expr false (breaks 319 x)
  meant_term x m = spoilt no_expr false (unknown look x)

  abbrev pub name_term : Text → Term
  name_term x = meant_term x (meaning look x)

  -- ---- an index

  -- some bits of a parameter: E314 outside its range
  abbrev pub param_bits : Text → Param → Option Select → Term
  param_bits x p None = spoilt no_expr true (breaks 314 x)
  param_bits x p (Some s) = constant (Number s.bits (p.value / 2 ^ s.at % 2 ^ s.bits))

  -- the same of a signal
  abbrev pub signal_bits : Text → ℕ → Option Select → Term
  signal_bits x sig None = spoilt no_expr false (breaks 314 x)
  signal_bits x sig (Some s) = variable (bits_of look sig s.at s.bits)

  -- the same of a memory's words
  abbrev pub word_bits : Text → Option ℕ → Term
  word_bits x None = spoilt no_expr false (breaks 314 x)
  word_bits x (Some s) = variable (whole_of look s)

  -- E315 of a variable index: a parameter has none
  abbrev pub param_index : Text → Param → Term → Term
  param_index x p i = cond i.is_constant (param_bits x p (bit_select p.range (own_value i.expr))) (spoilt i.expr false (breaks 315 x))

  abbrev pub signal_index : Text → ℕ → Term → Term
  signal_index x s i = cond i.is_constant (signal_bits x s (bit_select (range_at look.entries s) (own_value i.expr)))
      (spoilt (At s i.expr) false (breaks_if (not (may_index (range_at look.entries s) (size i.expr))) 315 x))

  -- the words from n on that an index chooses among: `i == n ? M[n] : ..`, the last word standing alone
  abbrev pub words_from : Memory → Expr → (n more : ℕ) → Expr
  words_from m i n zero = whole_of look (m.first + n)
  words_from m i n (suc more) = Choose (is_index i n) (whole_of look (m.first + n)) (words_from m i (suc n) more)

  -- E315: a memory's variable index chooses among words that are all there
  abbrev pub memory_index : Text → Memory → Term → Term
  memory_index x m i = cond i.is_constant (word_bits x (word_of m (own_value i.expr)))
      (cond (nat_le (2 ^ size i.expr) m.words) (variable (words_from m i.expr 0 (2 ^ size i.expr - 1))) (spoilt i.expr false (breaks 315 x)))

  abbrev pub also_first : List Broken → Term → Term
  also_first bs t = spoilt t.expr t.is_constant (bs ++ t.broken)

  abbrev pub is_param : Option Meaning → Bool
  is_param (Some (a_param p)) = true
  is_param m = false

  abbrev pub meant_index : Text → Term → Option Meaning → Term
  meant_index x i (Some (a_param p)) = param_index x p i
  meant_index x i (Some (a_signal s)) = signal_index x s i
  meant_index x i (Some (a_memory m)) = memory_index x m i
  meant_index x i m = spoilt i.expr false []

  abbrev pub index_term : Text → Term → Term
  index_term x i = also_first (unknown look x ++ i.broken) (cond (is_sound i) (meant_index x i (meaning look x)) (spoilt i.expr (is_param (meaning look x) && i.is_constant) []))

  -- ---- a part: E314, and E319 of a memory

  abbrev pub meant_part : Text → PartKind → Option Range → Option Meaning → Term
  meant_part x kind (Some p) (Some (a_param a)) = param_bits x a (kind_select a.range kind p)
  meant_part x kind (Some p) (Some (a_signal s)) = signal_bits x s (kind_select (range_at look.entries s) kind p)
  meant_part x kind None (Some (a_param a)) = spoilt no_expr true []
  meant_part x kind o (Some (a_memory m)) = spoilt no_expr false (breaks 319 x)
  meant_part x kind o m = spoilt no_expr false []

  abbrev pub part_term : Text → PartKind → Term → Term → Term
  part_term x kind left right = let l = as_bound left in let r = as_second kind right in let rest = meant_part x kind (range_of l r) (meaning look x) in
      spoilt rest.expr rest.is_constant (unknown look x ++ l.broken ++ r.broken ++ rest.broken)

  -- ---- expressions

  -- every maximal whole expression is judged, and counts as a plain number; any other has its meaning by its parts
  abbrev pub whole_number : Option ℕ → Term
  whole_number None = spoilt no_expr true (breaks 307 [])
  whole_number (Some n) = constant (Number 32 n)

  abbrev pub judged_whole : (counted value : Option ℕ) → Term → Term
  judged_whole None n t = t
  judged_whole (Some k) n t = cond (k == 32) (whole_number n) t

  abbrev mutual
    pub read : ExprTree → Term
    read (number v w spelt) = constant (Number w v)
    read (name x) = name_term x
    read (index x i) = index_term x (read i)
    read (part x kind l r) = part_term x kind (read l) (read r)
    read (unary op a) = judged_whole (counted_size look.names (unary op a)) (whole look.names (unary op a)) (unary_term op (read a))
    read (binary op a b) = judged_whole (counted_size look.names (binary op a b)) (whole look.names (binary op a b)) (also (binary_term op (read a) (read b)) (breaks_if (compares_signed look.names op a b) 307 []))
    read (choice c a b) = judged_whole (counted_size look.names (choice c a b)) (whole look.names (choice c a b)) (choice_term (read c) (read a) (read b))
    read (join parts) = join_term (read_parts parts)
    read (repeat count parts) = repeat_term (read count) (read_parts parts)
    read (paren a) = read a

    -- parts of a concatenation or a replication. E308: each has a size of its own
    pub read_parts : ExprTrees → List Term
    read_parts no_trees = []
    read_parts (and_trees a rest) = also (read a) (breaks_if (is_unsized look.names a) 308 []) ∷ read_parts rest
