-- The names that expressions and statements mention.
use Rattle.std.specs.Prelude.{Bool, true, cond, not, ◌||◌, List, [], ◌∷◌, ◌++◌, filter, flat_map, Option, Some, None, is_some}
use Rattle.cdc_base.specs.Words.{is_in}
use Rattle.verilog_ast.specs.declared.Delay.{Delay}
use Rattle.verilog_reading.specs.ExprTree.{ExprTree, number, name, index, part, unary, binary, choice, join, repeat, paren, ExprTrees, no_trees, and_trees, TargetTree, whole, index_of, part_of, join_of, TargetTrees, no_parts, and_parts}
use Rattle.verilog_reading.specs.StmtTree.{StmtTree, null, set, when, either, switch, switch_else, block, StmtTrees, no_rows, and_rows, LabelTree, by_value, by_mask, ArmTrees, no_arms, and_arms}
use Rattle.flat_unfolding.specs.Outcome.{Text}

abbrev mutual
  pub names_in : ExprTree → List Text
  names_in (number v w spelt) = []
  names_in (name x) = x ∷ []
  names_in (index x i) = x ∷ names_in i
  names_in (part x kind l r) = x ∷ names_in l ++ names_in r
  names_in (unary op a) = names_in a
  names_in (binary op a b) = names_in a ++ names_in b
  names_in (choice c a b) = names_in c ++ names_in a ++ names_in b
  names_in (join parts) = all_names_in parts
  names_in (repeat count parts) = names_in count ++ all_names_in parts
  names_in (paren a) = names_in a

  pub all_names_in : ExprTrees → List Text
  all_names_in no_trees = []
  all_names_in (and_trees a rest) = names_in a ++ all_names_in rest

-- those in a target's indices and bounds, and those of what it assigns, from the left
abbrev mutual
  pub index_names : TargetTree → List Text
  index_names (whole x) = []
  index_names (index_of x i) = names_in i
  index_names (part_of x kind l r) = names_in l ++ names_in r
  index_names (join_of parts) = all_index_names parts

  pub all_index_names : TargetTrees → List Text
  all_index_names no_parts = []
  all_index_names (and_parts t rest) = index_names t ++ all_index_names rest

abbrev mutual
  pub aimed_names : TargetTree → List Text
  aimed_names (whole x) = x ∷ []
  aimed_names (index_of x i) = x ∷ []
  aimed_names (part_of x kind l r) = x ∷ []
  aimed_names (join_of parts) = all_aimed_names parts

  pub all_aimed_names : TargetTrees → List Text
  all_aimed_names no_parts = []
  all_aimed_names (and_parts t rest) = aimed_names t ++ all_aimed_names rest

abbrev pub label_names : LabelTree → List Text
label_names (by_value e) = names_in e
label_names (by_mask v opened w) = []

-- the names in a statement's expressions
abbrev mutual
  pub read_names : StmtTree → List Text
  read_names null = []
  read_names (set blocking delay t e) = index_names t ++ names_in e
  read_names (when c s) = names_in c ++ read_names s
  read_names (either c s z) = names_in c ++ read_names s ++ read_names z
  read_names (switch c rows) = names_in c.value ++ arm_read_names rows
  read_names (switch_else c rows d) = names_in c.value ++ arm_read_names rows ++ read_names d
  read_names (block rows) = all_read_names rows

  pub all_read_names : StmtTrees → List Text
  all_read_names no_rows = []
  all_read_names (and_rows s rest) = read_names s ++ all_read_names rest

  pub arm_read_names : ArmTrees → List Text
  arm_read_names no_arms = []
  arm_read_names (and_arms labels s rest) = flat_map label_names labels ++ read_names s ++ arm_read_names rest

-- the names that are assigned, by the assignments of which the test holds, in textual order
abbrev mutual
  pub assigned_names : ((blocking : Bool) → Option Delay → Bool) → StmtTree → List Text
  assigned_names p null = []
  assigned_names p (set blocking delay t e) = cond (p blocking delay) (aimed_names t) []
  assigned_names p (when c s) = assigned_names p s
  assigned_names p (either c s z) = assigned_names p s ++ assigned_names p z
  assigned_names p (switch c rows) = arm_assigned_names p rows
  assigned_names p (switch_else c rows d) = arm_assigned_names p rows ++ assigned_names p d
  assigned_names p (block rows) = all_assigned_names p rows

  pub all_assigned_names : ((blocking : Bool) → Option Delay → Bool) → StmtTrees → List Text
  all_assigned_names p no_rows = []
  all_assigned_names p (and_rows s rest) = assigned_names p s ++ all_assigned_names p rest

  pub arm_assigned_names : ((blocking : Bool) → Option Delay → Bool) → ArmTrees → List Text
  arm_assigned_names p no_arms = []
  arm_assigned_names p (and_arms labels s rest) = assigned_names p s ++ arm_assigned_names p rest

abbrev pub target_names : StmtTree → List Text
target_names = assigned_names (λ b d. true)

-- by `=`, by `<=`, and with a delay
abbrev pub blocking_names : StmtTree → List Text
blocking_names = assigned_names (λ b d. b)

abbrev pub later_names : StmtTree → List Text
later_names = assigned_names (λ b d. not b)

abbrev pub delayed_names : StmtTree → List Text
delayed_names = assigned_names (λ b d. is_some d)

-- the names that are read, without those of targets and those in a list
abbrev pub unlisted : List Text → StmtTree → List Text
unlisted listed s = filter (λ x. not (is_in listed x || is_in (target_names s) x)) (read_names s)

-- a name that is assigned by `<=`, and that is also read, or assigned by `=`, or assigned with a delay
abbrev pub is_mixed : StmtTree → Text → Bool
is_mixed s x = is_in (read_names s) x || is_in (blocking_names s) x || is_in (delayed_names s) x

abbrev pub first_named : (Text → Bool) → List Text → Option Text
first_named p [] = None
first_named p (x ∷ xs) = cond (p x) (Some x) (first_named p xs)

abbrev pub first_mixed : StmtTree → Option Text
first_mixed s = first_named (is_mixed s) (later_names s)
