-- The trees of expressions and of processes.
use Rattle.std.specs.Prelude.{ℕ, zero, suc, ◌+◌, ◌-◌, ◌*◌, ◌^◌, Bool, cond, ◌||◌, ◌==◌, nat_lt}
use Rattle.cell_graph.specs.Tree.{Tree, Const, Not, And, Or, Xor, Add, Sub, Eq, Lt, Shl, Shr, Mux, Concat, Slice, Extend, ReduceAnd, ReduceOr, ReduceXor}
use Rattle.flat_meaning.specs.Flat.{UnaryOp, complement, logical_not, reduce_and, reduce_or, reduce_xor, reduce_nand, reduce_nor, reduce_xnor, BinaryOp, times, divided, remainder, plus, minus, shift_left, shift_right, is_less, is_at_most, is_greater, is_at_least, is_equal, is_unequal, bitwise_and, bitwise_or, bitwise_xor, bitwise_xnor, logical_and, logical_or, Expr, Number, Read, At, Unary, Binary, Choose, Gate, Join, Repeat, Exprs, no_exprs, expr, Target, Whole, Part, Pick, Group, Targets, no_targets, target, Stmt, Null, Set, If, Case, Block, Items, no_items, default_item, item, Stmts, no_stmts, stmt, size, sizes, case_size, target_size, target_sizes, value_size, assigns, case_assigns}
use Rattle.flat_meaning.specs.Meaning.{unary_at, left_at, right_at}
use Rattle.flat_meaning.specs.Full.{is_full}

-- w bits from a place on, of a signal: what a constant select or a whole read stands for
abbrev pub Selects : Type 0
Selects = (sig at width : ℕ) → Tree

-- the present tree of each signal
abbrev pub Trees : Type 0
Trees = ℕ → Tree

-- a tree of w bits at the size W
abbrev pub fit : (W w : ℕ) → Tree → Tree
fit W w t = cond (nat_lt w W) (Extend t W) t

-- a tree of n bits cut to w, from a place on
abbrev pub cut : (n at w : ℕ) → Tree → Tree
cut n at w t = cond (n == w) t (Slice t at w)

-- two words side by side; a word of no bits is left out
abbrev pub glue : (m : ℕ) → Tree → (n : ℕ) → Tree → Tree
glue m high n low = cond (n == 0) high (cond (m == 0) low (Concat high low))

abbrev pub truth : ℕ → Tree → Tree
truth w t = cond (w == 1) t (ReduceOr t)

abbrev pub copies_tree : ℕ → ℕ → Tree → Tree
copies_tree zero w t = Const 0 0
copies_tree (suc n) w t = glue w t (n * w) (copies_tree n w t)

abbrev pub unary_tree : UnaryOp → (W w : ℕ) → Tree → Tree
unary_tree complement W w t = Not t
unary_tree logical_not W w t = fit W 1 (Not (truth w t))
unary_tree reduce_and W w t = fit W 1 (ReduceAnd t)
unary_tree reduce_or W w t = fit W 1 (ReduceOr t)
unary_tree reduce_xor W w t = fit W 1 (ReduceXor t)
unary_tree reduce_nand W w t = fit W 1 (Not (ReduceAnd t))
unary_tree reduce_nor W w t = fit W 1 (Not (ReduceOr t))
unary_tree reduce_xnor W w t = fit W 1 (Not (ReduceXor t))

abbrev pub binary_tree : BinaryOp → (W m n : ℕ) → Tree → Tree → Tree
-- a flat design has these three in numbers alone
binary_tree times W m n a b = Const W 0
binary_tree divided W m n a b = Const W 0
binary_tree remainder W m n a b = Const W 0
binary_tree plus W m n a b = Add a b
binary_tree minus W m n a b = Sub a b
binary_tree shift_left W m n a b = Shl a b
binary_tree shift_right W m n a b = Shr a b
binary_tree is_less W m n a b = fit W 1 (Lt a b)
binary_tree is_at_most W m n a b = fit W 1 (Not (Lt b a))
binary_tree is_greater W m n a b = fit W 1 (Lt b a)
binary_tree is_at_least W m n a b = fit W 1 (Not (Lt a b))
binary_tree is_equal W m n a b = fit W 1 (Eq a b)
binary_tree is_unequal W m n a b = fit W 1 (Not (Eq a b))
binary_tree bitwise_and W m n a b = And a b
binary_tree bitwise_or W m n a b = Or a b
binary_tree bitwise_xor W m n a b = Xor a b
binary_tree bitwise_xnor W m n a b = Not (Xor a b)
binary_tree logical_and W m n a b = fit W 1 (And (truth m a) (truth n b))
binary_tree logical_or W m n a b = fit W 1 (Or (truth m a) (truth n b))

-- the tree of one signal is another one
abbrev pub change_tree : ℕ → Tree → Trees → Trees
change_tree s t ts x = cond (x == s) t (ts x)

-- an old tree of n bits, in which w bits from a place on are new
abbrev pub part_tree : (n at w : ℕ) → Tree → Tree → Tree
part_tree n at w new old = glue (n - (at + w)) (Slice old (at + w) (n - (at + w))) (w + at) (glue w new at (Slice old 0 at))

-- the lowest k bits; those that the index can name are chosen by it
abbrev pub picked : (index : Tree) (m : ℕ) → Tree → Tree → ℕ → Tree
picked index m new old zero = Const 0 0
picked index m new old (suc k) = glue 1 (cond (nat_lt k (2 ^ m)) (Mux (Eq index (Const m k)) new (Slice old k 1)) (Slice old k 1)) k (picked index m new old k)

-- what either branch assigns is chosen, all else stays
abbrev pub merge : (ℕ → Bool) → Tree → Trees → Trees → Trees → Trees
merge assigned c ts us old x = cond (assigned x) (Mux c (ts x) (us x)) (old x)

module _ (wid : ℕ → ℕ) where
  -- an expression at a size
  abbrev mutual
    pub tree : Selects → Expr → ℕ → Tree
    tree sel (Number w n) W = fit W w (Const w n)
    tree sel (Read s at w) W = fit W w (sel s at w)
    tree sel (At s e) W = fit W 1 (Slice (Shr (sel s 0 (wid s)) (tree sel e (size e))) 0 1)
    tree sel (Unary op a) W = let w = unary_at op W (size a) in unary_tree op W w (tree sel a w)
    tree sel (Binary op a b) W = let m = left_at op W (size a) (size b) in let n = right_at op W (size a) (size b) in binary_tree op W m n (tree sel a m) (tree sel b n)
    tree sel (Choose c x y) W = Mux (truth (size c) (tree sel c (size c))) (tree sel x W) (tree sel y W)
    tree sel (Gate op es) W = gate_tree sel op W es
    tree sel (Join es) W = fit W (sizes es) (joined_tree sel es)
    tree sel (Repeat n es) W = fit W (n * sizes es) (copies_tree n (sizes es) (joined_tree sel es))

    -- from the highest
    pub joined_tree : Selects → Exprs → Tree
    joined_tree sel no_exprs = Const 0 0
    joined_tree sel (expr e es) = glue (size e) (tree sel e (size e)) (sizes es) (joined_tree sel es)

    pub gate_tree : Selects → BinaryOp → ℕ → Exprs → Tree
    gate_tree sel op W no_exprs = Const W 0
    gate_tree sel op W (expr e es) = gate_on sel op W (tree sel e W) es

    pub gate_on : Selects → BinaryOp → ℕ → Tree → Exprs → Tree
    gate_on sel op W t no_exprs = t
    gate_on sel op W t (expr e es) = gate_on sel op W (binary_tree op W W W t (tree sel e W)) es

  abbrev pub truth_of : Selects → Expr → Tree
  truth_of sel e = truth (size e) (tree sel e (size e))

  -- an assigned value, cut to its target's size
  abbrev pub value_tree : Selects → Target → Expr → Tree
  value_tree sel t e = cut (value_size wid t e) 0 (target_size wid t) (tree sel e (value_size wid t e))

  module _ (sel : Selects) where
    -- whether the subject equals one of the labels, from the left
    abbrev pub any_label : ℕ → Tree → Tree → Exprs → Tree
    any_label w subject so_far no_exprs = so_far
    any_label w subject so_far (expr e es) = any_label w subject (Or so_far (Eq subject (tree sel e w))) es

    abbrev pub label_tree : ℕ → Tree → Exprs → Tree
    label_tree w subject no_exprs = Const 1 0
    label_tree w subject (expr e es) = any_label w subject (Eq subject (tree sel e w)) es

    -- an assignment: each part of a concatenation has a slice of the value, the first one the highest
    abbrev mutual
      pub put_tree : Target → Tree → Trees → Trees
      put_tree (Whole s) t ts = change_tree s t ts
      put_tree (Part s at w) t ts = change_tree s (part_tree (wid s) at w t (ts s)) ts
      put_tree (Pick s e) t ts = change_tree s (picked (tree sel e (size e)) (size e) t (ts s) (wid s)) ts
      put_tree (Group gs) t ts = put_trees gs t ts

      pub put_trees : Targets → Tree → Trees → Trees
      put_trees no_targets t ts = ts
      put_trees (target g gs) t ts = put_trees gs t (put_tree g (Slice t (target_sizes wid gs) (target_size wid g)) ts)

  -- statements: `look` tells, of the present trees, what expressions read
  module _ (look : Trees → Selects) where
    abbrev mutual
      pub after : Stmt → Trees → Trees
      after Null ts = ts
      after (Set b g e) ts = put_tree (look ts) g (value_tree (look ts) g e) ts
      after (If c x y) ts = merge (λ z. assigns x z || assigns y z) (truth_of (look ts) c) (after x ts) (after y ts) ts
      after (Case e is) ts = after_case (is_full (case_size e is) is) (case_size e is) (tree (look ts) e (case_size e is)) ts is ts
      after (Block ss) ts = after_all ss ts

      -- `otherwise` is what no item's label leaves; in a full case it is what the last item leaves
      pub after_case : (full : Bool) → ℕ → Tree → (otherwise : Trees) → Items → Trees → Trees
      after_case full w subject otherwise no_items ts = otherwise
      after_case full w subject otherwise (default_item body) ts = after body ts
      after_case full w subject otherwise (item ls body rest) ts =
          merge (λ z. assigns body z || case_assigns rest z) (label_tree (look ts) w subject ls) (after body ts)
          (after_case full w subject (cond full (after body ts) otherwise) rest ts) ts

      pub after_all : Stmts → Trees → Trees
      after_all no_stmts ts = ts
      after_all (stmt s ss) ts = after_all ss (after s ts)
