-- Statements of processes with their names resolved, and the rules that they break.
use Rattle.std.specs.Prelude.{ℕ, zero, suc, ◌-◌, ◌^◌, max, Bool, true, false, cond, ◌&&◌, List, [], ◌∷◌, ◌++◌, map, flat_map}
use Rattle.verilog_reading.specs.ExprTree.{TargetTree}
use Rattle.cell_graph.specs.Tree.{number}
use Rattle.verilog_reading.specs.StmtTree.{StmtTree, null, set, when, either, switch, switch_else, block, StmtTrees, no_rows, and_rows, LabelTree, by_value, by_mask, ArmTrees, no_arms, and_arms}
use Rattle.flat_meaning.specs.Flat.{Expr, Number, Binary, is_equal, bitwise_and, logical_or, size, Join, no_exprs, expr, case_size, Group, no_targets, Stmt, Null, Set, If, Case, Block, Items, no_items, default_item, item, Stmts, no_stmts, stmt}
use Rattle.flat_meaning.specs.Full.{is_full, nothing}
use Rattle.flat_meaning.specs.Meaning.{value}
use Rattle.flat_unfolding.specs.Outcome.{Broken, breaks_if}
use Rattle.flat_unfolding.specs.Names.{Look}
use Rattle.flat_unfolding.specs.Expressions.{Term, is_sound, all_broken, all_sound, all_constant, joined, constant, as_constant, read}
use Rattle.flat_unfolding.specs.Targets.{Goal, fixed, a_word, goal, first_name}
use Rattle.flat_unfolding.specs.Memories.{memory_write}

-- the process that a statement stands in: of wires, clocked, or neither
pub data Kind : Type 0 where
  of_wires clocked neither : Kind

-- E313: a blocking assignment in a clocked process
abbrev pub is_stray : Kind → (blocking : Bool) → Bool
is_stray clocked blocking = blocking
is_stray kind blocking = false

-- a statement as it was read
pub record Done : Type 0 where
  pub stmt : Stmt
  pub broken : List Broken

pub record Rows : Type 0 where
  pub stmts : Stmts
  pub broken : List Broken

-- the items of a `case`: whether no label breaks a rule, and whether each is a constant
pub record Arms : Type 0 where
  pub items : Items
  pub is_sound : Bool
  pub is_constant : Bool
  pub broken : List Broken

-- an assignment that breaks a rule reads, and assigns nothing
abbrev pub unassigned : (i value : Expr) → Stmt
unassigned i value = Set true (Group no_targets) (Join (expr i (expr value no_exprs)))

-- E319: a blocking assignment to a word that a variable index chooses; a nonblocking one is a write of each word
abbrev pub word_set : Bool → Goal → Expr → Stmt
word_set blocking (fixed a) value = Set blocking a.target value
word_set true (a_word m i bs) value = unassigned i value
word_set false (a_word m i bs) value = memory_write m i value

abbrev pub goal_broken : Goal → List Broken
goal_broken (fixed a) = a.broken
goal_broken (a_word m i bs) = bs

abbrev pub is_word : Goal → Bool
is_word (fixed a) = false
is_word (a_word m i bs) = true

-- the items with their last: a `case` without `default` has an empty one, unless its labels are constants that take every value of its size
abbrev pub with_last : Items → Items → Items
with_last no_items last = last
with_last (default_item s) last = default_item s
with_last (item ls s rest) last = item ls s (with_last rest last)

abbrev pub missing_last : Term → Arms → Items
missing_last e arms = cond (is_sound e && arms.is_sound && arms.is_constant && is_full (case_size e.expr arms.items) arms.items) no_items (default_item Null)

-- ---- `casez`, which stands for a chain of `if`s

-- a label: what the subject is compared with, and the bits that are left open
pub record Mask : Type 0 where
  pub term : Term
  pub opened : ℕ

-- an item: its labels, and its body
pub record Way : Type 0 where
  pub masks : List Mask
  pub body : Done

abbrev pub masks_broken : List Mask → List Broken
masks_broken ms = flat_map (λ (m : Mask). m.term.broken) ms

abbrev pub ways_broken : List Way → List Broken
ways_broken ws = flat_map (λ (w : Way). masks_broken w.masks ++ w.body.broken) ws

-- the largest size of the subject and all labels
abbrev pub masks_size : ℕ → List Mask → ℕ
masks_size n [] = n
masks_size n (m ∷ ms) = masks_size (max n (size m.term.expr)) ms

abbrev pub ways_size : ℕ → List Way → ℕ
ways_size n [] = n
ways_size n (w ∷ ws) = ways_size (masks_size n w.masks) ws

-- `s`, or `s & c` with c 0 exactly at the open bits
abbrev pub without_open : (w : ℕ) → Expr → (opened : ℕ) → Expr
without_open w s zero = s
without_open w s (suc n) = Binary bitwise_and s (Number w (2 ^ w - 1 - suc n))

-- a label's condition at the size w: what isn't open equals the label's value
abbrev pub mask_test : (w : ℕ) → Expr → Mask → Expr
mask_test w s m = Binary is_equal (without_open w s m.opened) (Number w (number (value nothing m.term.expr w) w))

abbrev pub also_tests : (w : ℕ) → (s before : Expr) → List Mask → Expr
also_tests w s e [] = e
also_tests w s e (m ∷ ms) = also_tests w s (Binary logical_or e (mask_test w s m)) ms

-- an item's condition, the `||` of those of its labels; an item has one at least
abbrev pub way_test : (w : ℕ) → Expr → List Mask → Expr
way_test w s [] = Number 1 0
way_test w s (m ∷ ms) = also_tests w s (mask_test w s m) ms

abbrev pub chain : (w : ℕ) → Expr → List Way → (last : Stmt) → Stmt
chain w s [] last = last
chain w s (a ∷ rest) last = If (way_test w s a.masks) a.body.stmt (chain w s rest last)

abbrev pub chained : Term → List Way → (last : Done) → Done
chained k ws d = record { stmt = chain (ways_size (size k.expr) ws) k.expr ws d.stmt; broken = k.broken ++ ways_broken ws ++ d.broken }

abbrev pub nothing_done : Done
nothing_done = record { stmt = Null; broken = [] }

module _ (look : Look) (kind : Kind) where
  abbrev pub set_done : (blocking : Bool) → TargetTree → Goal → Term → Done
  set_done blocking t g v = record {
    stmt = word_set blocking g v.expr;
    broken = goal_broken g ++ v.broken ++ breaks_if (is_stray kind blocking) 313 (first_name t) ++ breaks_if (blocking && is_word g) 319 (first_name t);
  }

  -- a mask compares as its value
  abbrev pub label_term : LabelTree → Term
  label_term (by_value e) = read look e
  label_term (by_mask v opened w) = constant (Number w v)

  abbrev pub read_list : List LabelTree → List Term
  read_list ls = map label_term ls

  -- E307: a label of `casez` is a mask or a constant
  abbrev pub mask_of : LabelTree → Mask
  mask_of (by_value e) = record { term = as_constant (read look e); opened = 0 }
  mask_of (by_mask v opened w) = record { term = constant (Number w v); opened = opened }

  abbrev mutual
    pub done : StmtTree → Done
    done null = record { stmt = Null; broken = [] }
    done (set blocking delay t e) = set_done blocking t (goal look t) (read look e)
    done (when c s) = let k = read look c in let a = done s in record { stmt = If k.expr a.stmt Null; broken = k.broken ++ a.broken }
    done (either c s z) = let k = read look c in let a = done s in let b = done z in record { stmt = If k.expr a.stmt b.stmt; broken = k.broken ++ a.broken ++ b.broken }
    done (switch c rows) = cond c.masks (chained (read look c.value) (ways rows) nothing_done) (let k = read look c.value in let a = arms rows in
        record { stmt = Case k.expr (with_last a.items (missing_last k a)); broken = k.broken ++ a.broken })
    done (switch_else c rows d) = cond c.masks (chained (read look c.value) (ways rows) (done d)) (let k = read look c.value in let a = arms rows in let b = done d in
        record { stmt = Case k.expr (with_last a.items (default_item b.stmt)); broken = k.broken ++ a.broken ++ b.broken })
    done (block rows) = let all = done_all rows in record { stmt = Block all.stmts; broken = all.broken }

    pub done_all : StmtTrees → Rows
    done_all no_rows = record { stmts = no_stmts; broken = [] }
    done_all (and_rows s rest) = let a = done s in let b = done_all rest in record { stmts = stmt a.stmt b.stmts; broken = a.broken ++ b.broken }

    pub arms : ArmTrees → Arms
    arms no_arms = record { items = no_items; is_sound = true; is_constant = true; broken = [] }
    arms (and_arms labels s rest) = let ls = read_list labels in let a = done s in let b = arms rest in record {
      items = item (joined ls) a.stmt b.items;
      is_sound = all_sound ls && b.is_sound;
      is_constant = all_constant ls && b.is_constant;
      broken = all_broken ls ++ a.broken ++ b.broken;
    }

    pub ways : ArmTrees → List Way
    ways no_arms = []
    ways (and_arms labels s rest) = record { masks = map mask_of labels; body = done s } ∷ ways rest
