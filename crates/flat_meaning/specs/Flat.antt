-- Expressions and statements of flat designs, without pointers. A size is computed, and kept in no place but the leaves.
use Rattle.std.specs.Prelude.{ℕ, ◌+◌, ◌*◌, max, Bool, false, ◌||◌, ◌==◌}

-- `~ ! & | ^ ~& ~| ~^`
pub data UnaryOp : Type 0 where
  complement logical_not reduce_and reduce_or reduce_xor reduce_nand reduce_nor reduce_xnor : UnaryOp

-- `* / % + - << >> < <= > >= == != & | ^ ~^ && ||`
pub data BinaryOp : Type 0 where
  times divided remainder plus minus shift_left shift_right is_less is_at_most is_greater is_at_least is_equal is_unequal bitwise_and bitwise_or bitwise_xor bitwise_xnor logical_and logical_or : BinaryOp

mutual
  pub data Expr : Type 0 where
    Number : (width value : ℕ) → Expr
    -- a whole signal or a constant select, whose lowest bit is `at`
    Read : (sig at width : ℕ) → Expr
    -- a variable index
    At : (sig : ℕ) → Expr → Expr
    Unary : UnaryOp → Expr → Expr
    Binary : BinaryOp → Expr → Expr → Expr
    -- c ? x : y
    Choose : (c x y : Expr) → Expr
    -- inputs of one bit each, folded from the left
    Gate : BinaryOp → Exprs → Expr
    -- concatenation, and replication of one
    Join : Exprs → Expr
    Repeat : ℕ → Exprs → Expr

  pub data Exprs : Type 0 where
    no_exprs : Exprs
    expr : Expr → Exprs → Exprs

mutual
  pub data Target : Type 0 where
    Whole : (sig : ℕ) → Target
    Part : (sig at width : ℕ) → Target
    -- a variable index
    Pick : (sig : ℕ) → Expr → Target
    Group : Targets → Target

  pub data Targets : Type 0 where
    no_targets : Targets
    target : Target → Targets → Targets

mutual
  pub data Stmt : Type 0 where
    Null : Stmt
    -- blocking in a process of wires, nonblocking in a clocked one: flattening refuses the other
    Set : (blocking : Bool) → Target → Expr → Stmt
    -- without `else` the second branch is Null
    If : Expr → Stmt → Stmt → Stmt
    Case : Expr → Items → Stmt
    Block : Stmts → Stmt

  -- the default stands last, wherever it was written
  pub data Items : Type 0 where
    no_items : Items
    default_item : Stmt → Items
    item : Exprs → Stmt → Items → Items

  pub data Stmts : Type 0 where
    no_stmts : Stmts
    stmt : Stmt → Stmts → Stmts

-- the self-determined sizes
abbrev pub unary_size : UnaryOp → ℕ → ℕ
unary_size complement n = n
unary_size logical_not n = 1
unary_size reduce_and n = 1
unary_size reduce_or n = 1
unary_size reduce_xor n = 1
unary_size reduce_nand n = 1
unary_size reduce_nor n = 1
unary_size reduce_xnor n = 1

abbrev pub binary_size : BinaryOp → ℕ → ℕ → ℕ
binary_size times m n = max m n
binary_size divided m n = max m n
binary_size remainder m n = max m n
binary_size plus m n = max m n
binary_size minus m n = max m n
binary_size shift_left m n = m
binary_size shift_right m n = m
binary_size is_less m n = 1
binary_size is_at_most m n = 1
binary_size is_greater m n = 1
binary_size is_at_least m n = 1
binary_size is_equal m n = 1
binary_size is_unequal m n = 1
binary_size bitwise_and m n = max m n
binary_size bitwise_or m n = max m n
binary_size bitwise_xor m n = max m n
binary_size bitwise_xnor m n = max m n
binary_size logical_and m n = 1
binary_size logical_or m n = 1

abbrev mutual
  pub size : Expr → ℕ
  size (Number w v) = w
  size (Read s at w) = w
  size (At s e) = 1
  size (Unary op a) = unary_size op (size a)
  size (Binary op a b) = binary_size op (size a) (size b)
  size (Choose c x y) = max (size x) (size y)
  size (Gate op es) = 1
  size (Join es) = sizes es
  size (Repeat n es) = n * sizes es

  pub sizes : Exprs → ℕ
  sizes no_exprs = 0
  sizes (expr e es) = size e + sizes es

-- the largest size of some expressions
abbrev pub largest : Exprs → ℕ
largest no_exprs = 0
largest (expr e es) = max (size e) (largest es)

abbrev pub largest_label : Items → ℕ
largest_label no_items = 0
largest_label (default_item body) = 0
largest_label (item ls body rest) = max (largest ls) (largest_label rest)

-- the size at which a case compares
abbrev pub case_size : Expr → Items → ℕ
case_size e is = max (size e) (largest_label is)

-- the size of a target, given that of each signal
abbrev mutual
  pub target_size : (ℕ → ℕ) → Target → ℕ
  target_size wid (Whole s) = wid s
  target_size wid (Part s at w) = w
  target_size wid (Pick s e) = 1
  target_size wid (Group ts) = target_sizes wid ts

  pub target_sizes : (ℕ → ℕ) → Targets → ℕ
  target_sizes wid no_targets = 0
  target_sizes wid (target t ts) = target_size wid t + target_sizes wid ts

-- the size at which an assigned value is evaluated: the larger of both sides'
abbrev pub value_size : (ℕ → ℕ) → Target → Expr → ℕ
value_size wid t e = max (target_size wid t) (size e)

-- whether a target, or a statement, may assign to a signal
abbrev mutual
  pub is_target : Target → ℕ → Bool
  is_target (Whole s) x = x == s
  is_target (Part s at w) x = x == s
  is_target (Pick s e) x = x == s
  is_target (Group ts) x = are_targets ts x

  pub are_targets : Targets → ℕ → Bool
  are_targets no_targets x = false
  are_targets (target t ts) x = is_target t x || are_targets ts x

abbrev mutual
  pub assigns : Stmt → ℕ → Bool
  assigns Null x = false
  assigns (Set b t e) x = is_target t x
  assigns (If c a b) x = assigns a x || assigns b x
  assigns (Case e is) x = case_assigns is x
  assigns (Block ss) x = all_assign ss x

  pub case_assigns : Items → ℕ → Bool
  case_assigns no_items x = false
  case_assigns (default_item body) x = assigns body x
  case_assigns (item ls body rest) x = assigns body x || case_assigns rest x

  pub all_assign : Stmts → ℕ → Bool
  all_assign no_stmts x = false
  all_assign (stmt s ss) x = assigns s x || all_assign ss x
