-- Assignments of wires.
use Rattle.std.specs.Prelude.{◌≡◌, true, cond, ◌&&◌, List, [], None}
use Rattle.verilog_ast.specs.declared.GateKind.{GateKind}
use Rattle.flat_meaning.specs.Flat.{complement, Target, Expr, Unary, Gate, Exprs}
use Rattle.flat_form.specs.View.{target_of, expr_of}
use Rattle.flat_form.specs.declared.flat.FExpr.{FExpr}
use Rattle.flat_form.specs.declared.flat.FlatAssign.{FlatAssign}
use Rattle.flat_unfolding.specs.Outcome.{Broken}
use Rattle.flat_unfolding.specs.Wires.{gate_op, is_inverted}
use Rattle.flat_unfolding.specs.Widths.{keeps_sizes, target_keeps_sizes}
use Rattle.flat_names.specs.Noting.{Noted}
use Rattle.flat_names.specs.declared.fault.Order.TheVariants as k

-- an item of which no rule is broken so far
abbrev pub fresh : Noted
fresh = record { order = k.Other; found = None }

-- an assignment, where none of these rules is broken
pub record IsAssign (t : Target) (e : Expr) (bs : List Broken) (x : FlatAssign) : Type 0 where
  pub target : bs ≡ [] → target_of x.target ≡ t
  pub value : bs ≡ [] → expr_of x.value ≡ e
  pub sizes : bs ≡ [] → (target_keeps_sizes x.target && keeps_sizes x.value) ≡ true

-- an expression, where none of these rules is broken
pub record IsValue (e : Expr) (bs : List Broken) (x : FExpr) : Type 0 where
  pub value : bs ≡ [] → expr_of x ≡ e
  pub sizes : bs ≡ [] → keeps_sizes x ≡ true

-- a gate over its inputs
abbrev pub gate_over : GateKind → Exprs → Expr
gate_over kind inputs = let folded = Gate (gate_op kind) inputs in cond (is_inverted kind) (Unary complement folded) folded
