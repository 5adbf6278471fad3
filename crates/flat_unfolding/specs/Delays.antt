-- Delays of nonblocking assignments: on one path a name has one.
use Rattle.std.specs.Prelude.{Bool, true, false, cond, ◌==◌, List, [], ◌∷◌, Option, Some, None, bytes_eq}
use Rattle.std.specs.Option.{option_or}
use Rattle.verilog_ast.specs.declared.Delay.{Delay}
use Rattle.verilog_ast.specs.declared.Delay.TheVariants as delay
use Rattle.verilog_reading.specs.StmtTree.{StmtTree, null, set, when, either, switch, switch_else, block, StmtTrees, no_rows, and_rows, ArmTrees, no_arms, and_arms}
use Rattle.flat_unfolding.specs.Outcome.{Text}
use Rattle.flat_unfolding.specs.Mentions.{aimed_names}

-- as numbers, as names, or none: what stands in them counts
abbrev pub same_delay : Option Delay → Option Delay → Bool
same_delay None None = true
same_delay (Some (delay.Number m)) (Some (delay.Number n)) = m == n
same_delay (Some (delay.Name x)) (Some (delay.Name y)) = bytes_eq x y
same_delay d e = false

-- the delays with which a name is assigned on the paths so far
pub data Delays : Type 0 where
  none_yet : Delays
  always : Option Delay → Delays
  several : Delays

abbrev pub joined : Delays → Delays → Delays
joined none_yet w = w
joined w none_yet = w
joined (always d) (always e) = cond (same_delay d e) (always d) several
joined v w = several

-- another delay than d is among them
abbrev pub differ : Option Delay → Delays → Bool
differ d none_yet = false
differ d (always e) = cond (same_delay d e) false true
differ d several = true

-- what stands behind a statement, and the first name that is assigned with two delays on one path
pub record Walked : Type 0 where
  pub after : Text → Delays
  pub clash : Option Text

abbrev pub on_both : (Text → Delays) → (Text → Delays) → Text → Delays
on_both f g x = joined (f x) (g x)

abbrev pub with_delay : Text → Option Delay → (Text → Delays) → Text → Delays
with_delay x d before y = cond (bytes_eq x y) (joined (before y) (always d)) (before y)

abbrev pub assigned_with : Option Delay → (Text → Delays) → List Text → Walked
assigned_with d before [] = record { after = before; clash = None }
assigned_with d before (x ∷ xs) = let rest = assigned_with d (with_delay x d before) xs in record { after = rest.after; clash = cond (differ d (before x)) (Some x) rest.clash }

-- the branches of an `if` or a `case` are on paths of their own, and so is that of none
abbrev mutual
  pub walked : (Text → Delays) → StmtTree → Walked
  walked before null = record { after = before; clash = None }
  walked before (set true d t e) = record { after = before; clash = None }
  walked before (set false d t e) = assigned_with d before (aimed_names t)
  walked before (when c s) = let a = walked before s in record { after = on_both a.after before; clash = a.clash }
  walked before (either c s z) = let a = walked before s in let b = walked before z in record { after = on_both a.after b.after; clash = option_or a.clash b.clash }
  walked before (switch c rows) = let a = walked_arms before rows in record { after = on_both a.after before; clash = a.clash }
  walked before (switch_else c rows d) = let a = walked_arms before rows in let b = walked before d in record { after = on_both a.after b.after; clash = option_or a.clash b.clash }
  walked before (block rows) = walked_all before rows

  pub walked_all : (Text → Delays) → StmtTrees → Walked
  walked_all before no_rows = record { after = before; clash = None }
  walked_all before (and_rows s rest) = let a = walked before s in let b = walked_all a.after rest in record { after = b.after; clash = option_or a.clash b.clash }

  pub walked_arms : (Text → Delays) → ArmTrees → Walked
  walked_arms before no_arms = record { after = λ x. none_yet; clash = None }
  walked_arms before (and_arms labels s rest) = let a = walked before s in let b = walked_arms before rest in record { after = on_both a.after b.after; clash = option_or a.clash b.clash }

abbrev pub first_clash : StmtTree → Option Text
first_clash body = (walked (λ x. none_yet) body).clash
