-- Resets of clocked processes: the form `if (reset) constants else rest`, or `if (reset || clear) constants else rest`, also written as a `casez`.
use Rattle.std.specs.Prelude.{ℕ, ◌^◌, ◌/◌, ◌%◌, Bool, true, false, cond, not, ◌&&◌, ◌||◌, ◌==◌, List, [], ◌∷◌, ◌++◌, map, flat_map, Option, Some, None, is_some, is_none, option_map}
use Rattle.std.specs.Option.{option_map_or, option_or}
use Rattle.std.specs.List.{list_all, list_any}
use Rattle.cdc_base.specs.declared.signal.ResetPin.{ResetPin}
use Rattle.verilog_ast.specs.declared.BinaryOp.{BinaryOp}
use Rattle.verilog_ast.specs.declared.BinaryOp.TheVariants as op
use Rattle.verilog_ast.specs.declared.Edge.{Edge}
use Rattle.verilog_ast.specs.declared.EdgeKind.{EdgeKind}
use Rattle.verilog_ast.specs.declared.EdgeKind.TheVariants as edge
use Rattle.verilog_reading.specs.ExprTree.{ExprTree, binary, paren, TargetTree, whole, index_of, part_of, join_of, TargetTrees, no_parts, and_parts}
use Rattle.verilog_reading.specs.StmtTree.{StmtTree, set, when, either, Subject, switch, switch_else, block, StmtTrees, no_rows, and_rows, ArmTrees, no_arms, and_arms}
use Rattle.flat_meaning.specs.Flat.{Expr, size, Target, Whole, Part, Pick, Group, Targets, no_targets, target, target_sizes, Stmt, If}
use Rattle.flat_unfolding.specs.Outcome.{Text, Broken, breaks_if}
use Rattle.flat_unfolding.specs.Names.{Meaning, a_param, a_signal, Look, meaning, width_at, reset_at}
use Rattle.flat_unfolding.specs.Constants.{own_value, assigned_value, both}
use Rattle.flat_unfolding.specs.Expressions.{Term, is_empty, is_sound, read}
use Rattle.flat_unfolding.specs.Targets.{of_registers, aim}
use Rattle.flat_unfolding.specs.Statements.{clocked, Mask, Way, masks_broken, ways_size, mask_test, done, ways}
use Rattle.flat_unfolding.specs.Design.{Given}
use Rattle.flat_unfolding.specs.Mentions.{names_in, read_names}

-- a statement without the blocks of one statement around it
abbrev mutual
  pub peeled : StmtTree → StmtTree
  peeled (block rows) = peeled_rows rows
  peeled s = s

  pub peeled_rows : StmtTrees → StmtTree
  peeled_rows (and_rows s no_rows) = peeled s
  peeled_rows rows = block rows

-- ---- the labels of a `casez`

-- the rules that the labels of items break
abbrev pub labels_broken : List Way → List Broken
labels_broken ws = flat_map (λ (w : Way). masks_broken w.masks) ws

-- whether a constant meets a label at a size
abbrev pub is_met : (size : ℕ) → Expr → Mask → Bool
is_met n e m = not (own_value (mask_test n e m) == 0)

-- which labels of the first item it meets, at the size of all; nothing where it or a label breaks a rule
abbrev pub met_in : Term → List Way → Option (List Bool)
met_in k [] = None
met_in k (w ∷ ws) = cond (is_empty (k.broken ++ labels_broken (w ∷ ws))) (Some (map (is_met (ways_size (size k.expr) (w ∷ ws)) k.expr) w.masks)) None

abbrev pub labels_met : Look → ExprTree → ArmTrees → Option (List Bool)
labels_met look e rows = met_in (read look e) (ways look clocked rows)

-- some label is met at the active levels alone, by what is met at the inactive levels and at the active ones
abbrev pub tests_one : (inactive active : List Bool) → Bool
tests_one (x ∷ xs) (y ∷ ys) = (not x && y) || tests_one xs ys
tests_one xs ys = false

-- the `||` of all labels is
abbrev pub tests_all : (inactive active : List Bool) → Bool
tests_all xs ys = not (list_any (λ x. x) xs) && list_any (λ y. y) ys

-- ---- conditions

-- what a condition tests: the signals of its resets, and whether it tests these alone
pub record Tested : Type 0 where
  pub signals : List ℕ
  pub alone : Bool

module _ (look : Look) where
  -- the signals among some names, parameters left out; none where another name is among them
  abbrev pub signals_among : List Text → Option (List ℕ)
  signals_among [] = Some []
  signals_among (x ∷ rest) = go (meaning look x) (signals_among rest)
    where
      go : Option Meaning → Option (List ℕ) → Option (List ℕ)
      go (Some (a_param p)) o = o
      go (Some (a_signal s)) o = option_map (λ ss. s ∷ ss) o
      go m o = None

  abbrev pub is_reset : ℕ → Bool
  is_reset s = is_some (reset_at look.entries s)

  -- one signal or more, each of which resolves to a reset
  abbrev pub are_resets : List ℕ → Bool
  are_resets [] = false
  are_resets (s ∷ rest) = is_reset s && list_all is_reset rest

  -- the value of a condition while its resets are at one of their levels
  abbrev pub at_level : Bool → ExprTree → Option ℕ
  at_level active c = let t = read (record look { active = active }) c in cond (is_sound t) (Some (own_value t.expr)) None

  abbrev pub is_test : Option ℕ → Option ℕ → Bool
  is_test (Some inactive) (Some active) = (inactive == 0) && not (active == 0)
  is_test m n = false

  -- the signals of a condition that names resets alone, is false at their inactive levels and true at their active ones
  abbrev pub reset_signals : ExprTree → Option (List ℕ)
  reset_signals c = go (signals_among (names_in c))
    where
      go : Option (List ℕ) → Option (List ℕ)
      go None = None
      go (Some ss) = cond (are_resets ss && is_test (at_level false c) (at_level true c)) (Some ss) None

  -- an expression that breaks no rule and has one bit
  abbrev pub is_one_bit : ExprTree → Bool
  is_one_bit a = let t = read look a in is_sound t && (size t.expr == 1)

  -- `||`, and `|` of two bits
  abbrev pub is_or : BinaryOp → (a b : ExprTree) → Bool
  is_or op.LogicOr a b = true
  is_or op.Or a b = is_one_bit a && is_one_bit b
  is_or o a b = false

  abbrev pub both_signals : Option (List ℕ) → Option (List ℕ) → Option (List ℕ)
  both_signals None m = m
  both_signals (Some ss) None = Some ss
  both_signals (Some ss) (Some ts) = Some (ss ++ ts)

  -- the signals of the greatest such conditions that a condition is made of by these operators; nothing where there is none
  abbrev pub tested_signals : ExprTree → Option (List ℕ)
  tested_signals (binary o a b) = option_or (reset_signals (binary o a b)) (cond (is_or o a b) (both_signals (tested_signals a) (tested_signals b)) None)
  tested_signals (paren a) = tested_signals a
  tested_signals c = reset_signals c

  -- what the condition of an `if` tests
  abbrev pub tested : ExprTree → Option Tested
  tested c = option_map (λ ss. record { signals = ss; alone = is_some (reset_signals c) }) (tested_signals c)

  -- the signals of an expression that names resets alone
  abbrev pub resets_in : ExprTree → Option (List ℕ)
  resets_in e = go (signals_among (names_in e))
    where
      go : Option (List ℕ) → Option (List ℕ)
      go None = None
      go (Some ss) = cond (are_resets ss) (Some ss) None

  abbrev pub tested_with : Option (List ℕ) → (inactive active : Option (List Bool)) → Option Tested
  tested_with (Some ss) (Some xs) (Some ys) = cond (tests_one xs ys) (Some (record { signals = ss; alone = tests_all xs ys })) None
  tested_with o m n = None

  -- what the condition of the first item of a `casez` tests, the `||` of those of its labels: these are constants, so all of them read the subject alone
  abbrev pub item_tested : ExprTree → ArmTrees → Option Tested
  item_tested e rows = tested_with (resets_in e) (labels_met (record look { active = false }) e rows) (labels_met (record look { active = true }) e rows)

  -- ---- the first branch

  abbrev mutual
    pub has_variable_index : TargetTree → Bool
    has_variable_index (whole x) = false
    has_variable_index (index_of x i) = not (read look i).is_constant
    has_variable_index (part_of x kind l r) = false
    has_variable_index (join_of parts) = has_variable_index_in parts

    pub has_variable_index_in : TargetTrees → Bool
    has_variable_index_in no_parts = false
    has_variable_index_in (and_parts t rest) = has_variable_index t || has_variable_index_in rest

  -- what an assignment of a number gives the bits of its target, whose first part is the highest
  abbrev mutual
    pub given_to : Target → ℕ → List Given
    given_to (Whole s) n = let w = width_at look.entries s in record { sig = s; at = 0; bits = w; value = n % 2 ^ w } ∷ []
    given_to (Part s at w) n = record { sig = s; at = at; bits = w; value = n % 2 ^ w } ∷ []
    given_to (Pick s e) n = []
    given_to (Group ts) n = given_to_all ts n

    pub given_to_all : Targets → ℕ → List Given
    given_to_all no_targets n = []
    given_to_all (target t ts) n = given_to t (n / 2 ^ target_sizes (width_at look.entries) ts) ++ given_to_all ts n

  -- a nonblocking assignment of a constant, without a variable index
  abbrev pub row_given : StmtTree → Option (List Given)
  row_given (set false delay t e) = let v = read look e in let a = aim look of_registers t in
      cond (v.is_constant && not (has_variable_index t)) (Some (go v a.bits a.target)) None
    where
      go : Term → Option ℕ → Target → List Given
      go v None t = []
      go v (Some w) t = cond (is_sound v) (given_to t (assigned_value v.expr w)) []
  row_given s = None

  abbrev pub rows_given : StmtTrees → Option (List Given)
  rows_given no_rows = Some []
  rows_given (and_rows s rest) = both (λ g h. g ++ h) (row_given s) (rows_given rest)

  -- one of these, or a block of these
  abbrev pub branch_given : StmtTree → Option (List Given)
  branch_given (block rows) = rows_given rows
  branch_given s = row_given s

-- a process in reset form: the signals of its resets, the names that it reads (none is a signal's in a first branch that has its form), its first branch, what
-- that gives where it has its form, and what is left of it
pub record ResetForm : Type 0 where
  pub signals : List ℕ
  pub reads : List Text
  pub branch : StmtTree
  pub given : Option (List Given)
  pub rest : Stmt

-- what stands behind the first condition
abbrev pub other_branch : Stmt → Stmt
other_branch (If c x y) = y
other_branch s = s

-- the other branch is left where the condition tests resets alone, and all of the `if` where it tests something beside them
abbrev pub left : (alone : Bool) → Stmt → Stmt
left true s = other_branch s
left false s = s

abbrev pub form_with : Look → Option Tested → (branch all : StmtTree) → Option ResetForm
form_with look o s all = option_map (λ (t : Tested). record { signals = t.signals; reads = read_names all; branch = s; given = branch_given look s; rest = left t.alone (done look clocked all).stmt }) o

-- a `casez` is a chain of `if`s by then, and a `case` isn't one
abbrev pub items_form : Look → Subject → ArmTrees → (all : StmtTree) → Option ResetForm
items_form look c no_arms all = None
items_form look c (and_arms labels s rest) all = cond c.masks (form_with look (item_tested look c.value (and_arms labels s rest)) s all) None

abbrev pub form_in : Look → StmtTree → Option ResetForm
form_in look (when c s) = form_with look (tested look c) s (when c s)
form_in look (either c s z) = form_with look (tested look c) s (either c s z)
form_in look (switch c rows) = items_form look c rows (switch c rows)
form_in look (switch_else c rows d) = items_form look c rows (switch_else c rows d)
form_in look s = None

abbrev pub reset_form : Look → StmtTree → Option ResetForm
reset_form look body = form_in look (peeled body)

-- the edge at which a reset becomes active
abbrev pub is_active_edge : EdgeKind → ResetPin → Bool
is_active_edge edge.Pos r = r.high
is_active_edge edge.Neg r = not r.high
is_active_edge edge.Level r = false

-- the edge is that of the very signal which the resets' conditions name
abbrev pub is_edge_of : Look → List ℕ → Edge → Bool
is_edge_of look signals e = go (meaning look e.name)
  where
    go : Option Meaning → Bool
    go (Some (a_signal s)) = option_map_or (is_active_edge e.kind) (reset_at look.entries s) false && list_all (λ t. t == s) signals
    go m = false

-- one of the names is that of a reset beside these signals
abbrev pub reads_other : Look → (signals : List ℕ) → (reads : List Text) → Bool
reads_other look signals reads = list_any (λ x. go (meaning look x)) reads
  where
    go : Option Meaning → Bool
    go (Some (a_signal s)) = is_reset look s && not (list_any (λ t. t == s) signals)
    go m = false

-- the first branch hasn't its form, or another reset is read beside it
abbrev pub is_malformed : Look → ResetForm → Bool
is_malformed look f = is_none f.given || reads_other look f.signals f.reads

-- E317: a reset's edge wants reset form for its signal, and reset form wants a first branch of constants and no other reset beside its own
abbrev pub reset_rules : Look → (first : Text) → Option Edge → Option ResetForm → List Broken
reset_rules look first None None = []
reset_rules look first (Some e) None = breaks_if true 317 first
reset_rules look first None (Some f) = breaks_if (is_malformed look f) 317 first
reset_rules look first (Some e) (Some f) = breaks_if (not (is_edge_of look f.signals e) || is_malformed look f) 317 first
