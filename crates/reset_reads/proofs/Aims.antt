-- Targets as they are read spare the resets among the signals of their module.
use Rattle.std.proofs.Common.{◌≡◌, ℕ, ◌^◌, ◌<◌, Bool, true, false, cond, not, nat_le, List, [], length, map, Option, Some, None}
use Rattle.verilog_ast.specs.declared.PartKind.{PartKind}
use Rattle.verilog_reading.specs.ExprTree.{ExprTree, TargetTree, whole, index_of, part_of, join_of, TargetTrees, no_parts, and_parts}
use Rattle.flat_meaning.specs.Flat.{size, Pick}
use Rattle.flat_form.specs.View.{targets_of}
use Rattle.flat_unfolding.specs.Outcome.{Text, Broken, breaks, breaks_if}
use Rattle.flat_unfolding.specs.Names.{Range, Memory, Meaning, a_param, a_signal, a_memory, no_value, Look, meaning, range_at, reset_at}
use Rattle.flat_unfolding.specs.Constants.{own_value}
use Rattle.flat_unfolding.specs.Expressions.{Term, is_sound, as_bound, as_second, range_of, Select, bit_select, kind_select, may_index, word_of, read}
use Rattle.flat_unfolding.specs.Targets.{Aim, nowhere, Use, of_wires, of_registers, Goal, fixed, a_word, meant_whole, select_aim, signal_aim, word_aim, memory_goal, after, meant_goal, index_goal, as_fixed, meant_range, aim, aims, goal, wire_aim, as_target, driven_at, driven}
use Rattle.reset_reads.proofs.Spares.{Spares, TargetSpares, TargetsSpare}
use Rattle.reset_reads.proofs.Terms.{IsHeldIf, read_spares}

module _ (may : ℕ → Bool) (look : Look) (free : (s : ℕ) → s < length look.entries → reset_at look.entries s ≡ None → may s ≡ true) (known : (x : Text) → IsHeldIf (length look.entries) (meaning look x)) where
  abbrev pub IsAimSpare : Aim → Type 0
  IsAimSpare a = TargetSpares may a.target

  abbrev pub IsGoalSpare : Goal → Type 0
  IsGoalSpare (fixed a) = IsAimSpare a
  IsGoalSpare (a_word m i bs) = Spares may i

  index_spare : (i : ExprTree) → Spares may (read look i).expr
  index_spare = read_spares may look free known

  module _ (use_ : Use) where
    meant_whole_spares : (x : Text) (o : Option Meaning) → IsAimSpare (meant_whole look use_ x o)
    meant_whole_spares x None = tt
    meant_whole_spares x (Some (a_param p)) = tt
    meant_whole_spares x (Some (a_signal s)) = tt
    meant_whole_spares x (Some (a_memory m)) = tt
    meant_whole_spares x (Some no_value) = tt

    select_spares : (x : Text) (s : ℕ) (o : Option Select) → IsAimSpare (select_aim look use_ x s o)
    select_spares x s None = tt
    select_spares x s (Some q) = tt

    signal_aim_spares : (x : Text) (s : ℕ) (i : Term) → Spares may i.expr → IsAimSpare (signal_aim look use_ x s i)
    signal_aim_spares x s i h = go i.is_constant
      where
        go : (b : Bool) → IsAimSpare (cond b (select_aim look use_ x s (bit_select (range_at look.entries s) (own_value i.expr)))
            (record { target = Pick s i.expr; bits = Some 1; broken = breaks_if (not (may_index (range_at look.entries s) (size i.expr))) 315 x }))
        go true = select_spares x s (bit_select (range_at look.entries s) (own_value i.expr))
        go false = h

    memory_goal_spares : (x : Text) (m : Memory) (i : Term) → Spares may i.expr → IsGoalSpare (memory_goal look use_ x m i)
    memory_goal_spares x m i h = go i.is_constant (nat_le (2 ^ size i.expr) m.words)
      where
        word_spares : (o : Option ℕ) → IsAimSpare (word_aim look use_ x o)
        word_spares None = tt
        word_spares (Some s) = tt

        go : (b c : Bool) → IsGoalSpare (cond b (fixed (word_aim look use_ x (word_of m (own_value i.expr)))) (cond c (a_word m i.expr []) (fixed (nowhere (breaks 315 x)))))
        go true c = word_spares (word_of m (own_value i.expr))
        go false true = h
        go false false = tt

    meant_goal_spares : (x : Text) (i : Term) (o : Option Meaning) → Spares may i.expr → IsGoalSpare (meant_goal look use_ x i o)
    meant_goal_spares x i None h = tt
    meant_goal_spares x i (Some (a_param p)) h = tt
    meant_goal_spares x i (Some (a_signal s)) h = signal_aim_spares x s i h
    meant_goal_spares x i (Some (a_memory m)) h = memory_goal_spares x m i h
    meant_goal_spares x i (Some no_value) h = tt

    after_spares : (bs : List Broken) (g : Goal) → IsGoalSpare g → IsGoalSpare (after look use_ bs g)
    after_spares bs (fixed a) h = h
    after_spares bs (a_word m i cs) h = h

    index_goal_spares : (x : Text) (i : Term) → Spares may i.expr → IsGoalSpare (index_goal look use_ x i)
    index_goal_spares x i h = after_spares _ (cond (is_sound i) (meant_goal look use_ x i (meaning look x)) (fixed (nowhere []))) (go (is_sound i))
      where
        go : (b : Bool) → IsGoalSpare (cond b (meant_goal look use_ x i (meaning look x)) (fixed (nowhere [])))
        go true = meant_goal_spares x i (meaning look x) h
        go false = tt

    as_fixed_spares : (x : Text) (g : Goal) → IsGoalSpare g → IsAimSpare (as_fixed look use_ x g)
    as_fixed_spares x (fixed a) h = h
    as_fixed_spares x (a_word m i bs) h = tt

    meant_range_spares : (x : Text) (kind : PartKind) (r : Option Range) (o : Option Meaning) → IsAimSpare (meant_range look use_ x kind r o)
    meant_range_spares x kind None None = tt
    meant_range_spares x kind (Some q) None = tt
    meant_range_spares x kind None (Some (a_param p)) = tt
    meant_range_spares x kind (Some q) (Some (a_param p)) = tt
    meant_range_spares x kind None (Some (a_signal s)) = tt
    meant_range_spares x kind (Some q) (Some (a_signal s)) = select_spares x s (kind_select (range_at look.entries s) kind q)
    meant_range_spares x kind None (Some (a_memory m)) = tt
    meant_range_spares x kind (Some q) (Some (a_memory m)) = tt
    meant_range_spares x kind None (Some no_value) = tt
    meant_range_spares x kind (Some q) (Some no_value) = tt

    mutual
      pub aim_spares : (t : TargetTree) → IsAimSpare (aim look use_ t)
      aim_spares (whole x) = meant_whole_spares x (meaning look x)
      aim_spares (index_of x i) = as_fixed_spares x (index_goal look use_ x (read look i)) (index_goal_spares x (read look i) (index_spare i))
      aim_spares (part_of x kind l r) = meant_range_spares x kind (range_of (as_bound (read look l)) (as_second kind (read look r))) (meaning look x)
      aim_spares (join_of parts) = aims_spare parts

      aims_spare : (ts : TargetTrees) → TargetsSpare may (targets_of (map (λ (a : Aim). a.target) (aims look use_ ts)))
      aims_spare no_parts = tt
      aims_spare (and_parts t ts) = (aim_spares t, aims_spare ts)

  pub goal_spares : (t : TargetTree) → IsGoalSpare (goal look t)
  goal_spares (index_of x i) = index_goal_spares of_registers x (read look i) (index_spare i)
  goal_spares (whole x) = aim_spares of_registers (whole x)
  goal_spares (part_of x kind l r) = aim_spares of_registers (part_of x kind l r)
  goal_spares (join_of parts) = aim_spares of_registers (join_of parts)

  pub wire_spares : (t : TargetTree) → IsAimSpare (wire_aim look t)
  wire_spares t = aim_spares of_wires t

  pub driven_spares : (e : ExprTree) → IsAimSpare (driven look e)
  driven_spares e = go (as_target e)
    where
      go : (o : Option TargetTree) → IsAimSpare (driven_at look o (read look e))
      go None = tt
      go (Some t) = wire_spares t
