-- What it is to move a part of a flat design: each signal k numbers further, each printed name behind a prefix.
use Rattle.std.specs.Prelude.{ℕ, ◌+◌, ◌++◌, map, option_map, Option}
use Rattle.flat_meaning.specs.Flat.{Expr, Number, Read, At, Unary, Binary, Choose, Gate, Join, Repeat, Exprs, no_exprs, expr, Target, Whole, Part, Pick, Group, Targets, no_targets, target, Stmt, Null, Set, If, Case, Block, Items, no_items, default_item, item, Stmts, no_stmts, stmt}
use Rattle.flat_unfolding.specs.Outcome.{Text}
use Rattle.flat_unfolding.specs.Names.{Meaning, a_param, a_signal, a_memory, no_value, Names, Entry}
use Rattle.flat_unfolding.specs.Design.{Start, Given}

module _ (k : ℕ) where
  abbrev mutual
    pub moved_expr : Expr → Expr
    moved_expr (Number w n) = Number w n
    moved_expr (Read s at w) = Read (k + s) at w
    moved_expr (At s e) = At (k + s) (moved_expr e)
    moved_expr (Unary op a) = Unary op (moved_expr a)
    moved_expr (Binary op a b) = Binary op (moved_expr a) (moved_expr b)
    moved_expr (Choose c x y) = Choose (moved_expr c) (moved_expr x) (moved_expr y)
    moved_expr (Gate op es) = Gate op (moved_exprs es)
    moved_expr (Join es) = Join (moved_exprs es)
    moved_expr (Repeat n es) = Repeat n (moved_exprs es)

    pub moved_exprs : Exprs → Exprs
    moved_exprs no_exprs = no_exprs
    moved_exprs (expr e es) = expr (moved_expr e) (moved_exprs es)

  abbrev mutual
    pub moved_target : Target → Target
    moved_target (Whole s) = Whole (k + s)
    moved_target (Part s at w) = Part (k + s) at w
    moved_target (Pick s e) = Pick (k + s) (moved_expr e)
    moved_target (Group ts) = Group (moved_targets ts)

    pub moved_targets : Targets → Targets
    moved_targets no_targets = no_targets
    moved_targets (target t ts) = target (moved_target t) (moved_targets ts)

  abbrev mutual
    pub moved_stmt : Stmt → Stmt
    moved_stmt Null = Null
    moved_stmt (Set b t e) = Set b (moved_target t) (moved_expr e)
    moved_stmt (If c x y) = If (moved_expr c) (moved_stmt x) (moved_stmt y)
    moved_stmt (Case e is) = Case (moved_expr e) (moved_items is)
    moved_stmt (Block ss) = Block (moved_stmts ss)

    pub moved_items : Items → Items
    moved_items no_items = no_items
    moved_items (default_item s) = default_item (moved_stmt s)
    moved_items (item ls s rest) = item (moved_exprs ls) (moved_stmt s) (moved_items rest)

    pub moved_stmts : Stmts → Stmts
    moved_stmts no_stmts = no_stmts
    moved_stmts (stmt s ss) = stmt (moved_stmt s) (moved_stmts ss)

  -- what a name stands for
  abbrev pub moved_meaning : Meaning → Meaning
  moved_meaning (a_param p) = a_param p
  moved_meaning (a_signal s) = a_signal (k + s)
  moved_meaning (a_memory m) = a_memory (record { first = k + m.first; words = m.words })
  moved_meaning no_value = no_value

  abbrev pub moved_name : Text × Meaning → Text × Meaning
  moved_name p = (p.0, moved_meaning p.1)

  abbrev pub moved_names : Names → Names
  moved_names names = map moved_name names

  abbrev pub moved_assign : Target × Expr → Target × Expr
  moved_assign a = (moved_target a.0, moved_expr a.1)

  -- a clocked process, and its reset
  abbrev pub moved_clocked : ℕ × Stmt → ℕ × Stmt
  moved_clocked p = (k + p.0, moved_stmt p.1)

  abbrev pub moved_reset : Option ℕ × Stmt → Option ℕ × Stmt
  moved_reset r = (option_map (λ s. k + s) r.0, moved_stmt r.1)

  abbrev pub moved_start : Start → Start
  moved_start a = record { sig = k + a.sig; value = a.value }

  abbrev pub moved_given : Given → Given
  moved_given g = record { sig = k + g.sig; at = g.at; bits = g.bits; value = g.value }

abbrev pub moved_entry : (prefix : Text) → Entry → Entry
moved_entry prefix e = record e { printed = prefix ++ e.printed }
