-- Statements as the definition reads them assign no bit that a signal doesn't have, whatever rules they break.
use Rattle.std.proofs.Common.{◌≡◌, ℕ, zero, suc, ◌+◌, ◌^◌, ◌<◌, ◌≤◌, Bool, true, false, cond, not, ◌&&◌, ◌||◌, ◌==◌, nat_lt, nat_le, List, [], ◌∷◌, ◌++◌, map, Option, Some, None, refl, arith, rules, ltb-true, eqb-true}
use Rattle.std.proofs.lemmas.Bool.{and_parts, or_left, or_right}
use Rattle.verilog_ast.specs.declared.PartKind.{PartKind}
use Rattle.verilog_reading.specs.ExprTree.{TargetTree, whole, index_of, part_of, join_of, TargetTrees, no_parts, and_parts as more_parts}
use Rattle.verilog_reading.specs.StmtTree.{StmtTree, null, set, when, either, switch, switch_else, block, StmtTrees, no_rows, and_rows, ArmTrees, no_arms, and_arms}
use Rattle.flat_meaning.specs.Flat.{Expr, size, case_size, Target, Whole, Pick, Group, no_targets, Stmt, Null, Items, no_items, default_item, item}
use Rattle.flat_meaning.specs.Full.{is_full}
use Rattle.flat_meaning.specs.Assigned.{is_within, reaches, may_assign, may_assign_in, any_may_assign}
use Rattle.flat_form.specs.View.{targets_of}
use Rattle.flat_unfolding.specs.Outcome.{Text, Broken, breaks, breaks_if}
use Rattle.flat_unfolding.specs.Names.{Range, Memory, Meaning, a_param, a_signal, a_memory, no_value, Look, meaning, width_at, range_at}
use Rattle.flat_unfolding.specs.Constants.{own_value}
use Rattle.flat_unfolding.specs.Expressions.{Term, is_sound, as_bound, as_second, range_of, Select, bit_select, kind_select, may_index, word_of, read}
use Rattle.flat_unfolding.specs.Targets.{Aim, nowhere, Use, of_registers, Goal, fixed, a_word, meant_whole, select_aim, signal_aim, word_aim, memory_goal, after, meant_goal, index_goal, name_rules, as_fixed, meant_range, aim, aims, goal}
use Rattle.flat_unfolding.specs.Memories.{writes_from}
use Rattle.flat_unfolding.specs.Statements.{Kind, Arms, word_set, with_last, missing_last, Way, Done, chain, done, done_all, arms, ways}
use Rattle.flat_unfolding.proofs.Selects.{IsInside, spans_at, bit_inside, kind_inside}

either-true : {A : Type 0} (a b : Bool) → (a ≡ true → A) → (b ≡ true → A) → (a || b) ≡ true → A
either-true true b f g h = f refl
either-true false b f g h = g h

module _ (look : Look) where
  abbrev wid : ℕ → ℕ
  wid = width_at look.entries

  -- ---- targets

  abbrev StaysIn : Target → Type 0
  StaysIn t = (s i : ℕ) → reaches wid t s i ≡ true → i < wid s

  span-in : (z at w : ℕ) → at + w ≤ wid z → (s i : ℕ) → ((s == z) && is_within at w i) ≡ true → i < wid s
  span-in z at w l s i h =
      let p = and_parts (s == z) (is_within at w i) h in let q = and_parts (not (nat_lt i at)) (nat_lt i (at + w)) p.1 in
      let k = ltb-true i (at + w) q.1 in rw (eqb-true s z p.0) (omega arith)

  whole-in : (z : ℕ) → StaysIn (Whole z)
  whole-in z = span-in z 0 (wid z) (let l : 0 + wid z ≤ wid z = omega arith in l)

  no-bits : StaysIn (Group no_targets)
  no-bits s i h = absurd (search (rules, h))

  abbrev GoalIn : Goal → Type 0
  GoalIn (fixed a) = StaysIn a.target
  GoalIn (a_word m i bs) = Unit {0}

  module _ (use_ : Use) where
    meant_whole-in : (x : Text) (o : Option Meaning) → StaysIn (meant_whole look use_ x o).target
    meant_whole-in x None = no-bits
    meant_whole-in x (Some (a_param p)) = no-bits
    meant_whole-in x (Some (a_signal s)) = whole-in s
    meant_whole-in x (Some (a_memory m)) = no-bits
    meant_whole-in x (Some no_value) = no-bits

    select-in : (x : Text) (z : ℕ) (o : Option Select) → ((q : Select) → o ≡ Some q → IsInside (wid z) q) → StaysIn (select_aim look use_ x z o).target
    select-in x z None h = no-bits
    select-in x z (Some q) h = span-in z q.at q.bits (h q refl).1

    signal-in : (x : Text) (z : ℕ) (i : Term) → StaysIn (signal_aim look use_ x z i).target
    signal-in x z i = go i.is_constant
      where
        picked : Aim
        picked = record { target = Pick z i.expr; bits = Some 1; broken = breaks_if (not (may_index (range_at look.entries z) (size i.expr))) 315 x }

        go : (b : Bool) → StaysIn (cond b (select_aim look use_ x z (bit_select (range_at look.entries z) (own_value i.expr))) picked).target
        go true = select-in x z (bit_select (range_at look.entries z) (own_value i.expr)) (λ q. bit_inside (range_at look.entries z) (wid z) (own_value i.expr) q (spans_at look.entries z))
        go false = whole-in z

    word-in : (x : Text) (o : Option ℕ) → StaysIn (word_aim look use_ x o).target
    word-in x None = no-bits
    word-in x (Some s) = whole-in s

    memory-in : (x : Text) (m : Memory) (i : Term) → GoalIn (memory_goal look use_ x m i)
    memory-in x m i = go i.is_constant (nat_le (2 ^ size i.expr) m.words)
      where
        go : (b c : Bool) → GoalIn (cond b (fixed (word_aim look use_ x (word_of m (own_value i.expr)))) (cond c (a_word m i.expr []) (fixed (nowhere (breaks 315 x)))))
        go true c = word-in x (word_of m (own_value i.expr))
        go false true = tt
        go false false = no-bits

    meant_goal-in : (x : Text) (i : Term) (o : Option Meaning) → GoalIn (meant_goal look use_ x i o)
    meant_goal-in x i None = no-bits
    meant_goal-in x i (Some (a_param p)) = no-bits
    meant_goal-in x i (Some (a_signal s)) = signal-in x s i
    meant_goal-in x i (Some (a_memory m)) = memory-in x m i
    meant_goal-in x i (Some no_value) = no-bits

    after-in : (bs : List Broken) (g : Goal) → GoalIn g → GoalIn (after look use_ bs g)
    after-in bs (fixed a) h = h
    after-in bs (a_word m i cs) h = tt

    index-in : (x : Text) (i : Term) → GoalIn (index_goal look use_ x i)
    index-in x i = after-in (name_rules look use_ x ++ i.broken) (cond (is_sound i) (meant_goal look use_ x i (meaning look x)) (fixed (nowhere []))) (go (is_sound i))
      where
        go : (b : Bool) → GoalIn (cond b (meant_goal look use_ x i (meaning look x)) (fixed (nowhere [])))
        go true = meant_goal-in x i (meaning look x)
        go false = no-bits

    as_fixed-in : (x : Text) (g : Goal) → GoalIn g → StaysIn (as_fixed look use_ x g).target
    as_fixed-in x (fixed a) h = h
    as_fixed-in x (a_word m i bs) h = no-bits

    range-in : (x : Text) (kind : PartKind) (r : Option Range) (o : Option Meaning) → StaysIn (meant_range look use_ x kind r o).target
    range-in x kind None None = no-bits
    range-in x kind (Some q) None = no-bits
    range-in x kind None (Some (a_param p)) = no-bits
    range-in x kind (Some q) (Some (a_param p)) = no-bits
    range-in x kind None (Some (a_signal s)) = no-bits
    range-in x kind (Some q) (Some (a_signal s)) = select-in x s (kind_select (range_at look.entries s) kind q) (λ c. kind_inside (range_at look.entries s) (wid s) kind q c (spans_at look.entries s))
    range-in x kind None (Some (a_memory m)) = no-bits
    range-in x kind (Some q) (Some (a_memory m)) = no-bits
    range-in x kind None (Some no_value) = no-bits
    range-in x kind (Some q) (Some no_value) = no-bits

    mutual
      aim-in : (t : TargetTree) → StaysIn (aim look use_ t).target
      aim-in (whole x) = meant_whole-in x (meaning look x)
      aim-in (index_of x i) = as_fixed-in x (index_goal look use_ x (read look i)) (index-in x (read look i))
      aim-in (part_of x kind l r) = range-in x kind (range_of (as_bound (read look l)) (as_second kind (read look r))) (meaning look x)
      aim-in (join_of parts) = aims-in parts

      aims-in : (ts : TargetTrees) → StaysIn (Group (targets_of (map (λ (a : Aim). a.target) (aims look use_ ts))))
      aims-in no_parts = no-bits
      aims-in (more_parts t ts) = λ s i h.
          either-true (reaches wid (aim look use_ t).target s i) (reaches wid (Group (targets_of (map (λ (a : Aim). a.target) (aims look use_ ts)))) s i) (aim-in t s i) (aims-in ts s i) h

  goal-in : (t : TargetTree) → GoalIn (goal look t)
  goal-in (whole x) = aim-in of_registers (whole x)
  goal-in (index_of x i) = index-in of_registers x (read look i)
  goal-in (part_of x kind l r) = aim-in of_registers (part_of x kind l r)
  goal-in (join_of parts) = aim-in of_registers (join_of parts)

  -- ---- statements

  abbrev StmtIn : Stmt → Type 0
  StmtIn x = (s i : ℕ) → may_assign wid x s i ≡ true → i < wid s

  abbrev ItemsIn : Items → Type 0
  ItemsIn is = (s i : ℕ) → may_assign_in wid is s i ≡ true → i < wid s

  writes-in : (m : Memory) (i v : Expr) (n more : ℕ) (s k : ℕ) → any_may_assign wid (writes_from m i v n more) s k ≡ true → k < wid s
  writes-in m i v n zero s k h = absurd (search (rules, h))
  writes-in m i v n (suc more) s k h =
      either-true (reaches wid (Whole (m.first + n)) s k || false) (any_may_assign wid (writes_from m i v (suc n) more) s k)
      (either-true (reaches wid (Whole (m.first + n)) s k) false (whole-in (m.first + n) s k) (λ e. absurd (search (rules, e)))) (writes-in m i v (suc n) more s k) h

  word_set-in : (blocking : Bool) (g : Goal) (v : Expr) → GoalIn g → StmtIn (word_set blocking g v)
  word_set-in blocking (fixed a) v h = h
  word_set-in true (a_word m i bs) v h = no-bits
  word_set-in false (a_word m i bs) v h = writes-in m i v 0 (2 ^ size i)

  last-in : (is last : Items) → ItemsIn is → ItemsIn last → ItemsIn (with_last is last)
  last-in no_items last h g = g
  last-in (default_item x) last h g = h
  last-in (item ls x is) last h g = λ s i e.
      either-true (may_assign wid x s i) (may_assign_in wid (with_last is last) s i) (λ t. h s i (or_left (may_assign wid x s i) (may_assign_in wid is s i) t))
      (last-in is last (λ z j t. h z j (or_right (may_assign wid x z j) (may_assign_in wid is z j) t)) g s i) e

  missing-in : (e : Term) (rows : Arms) → ItemsIn (missing_last e rows)
  missing-in e rows = go (is_sound e && rows.is_sound && rows.is_constant && is_full (case_size e.expr rows.items) rows.items)
    where
      go : (b : Bool) → ItemsIn (cond b no_items (default_item Null))
      go true = no-bits
      go false = no-bits

  -- ---- a chain of `if`s

  abbrev BodiesIn : List Way → Type 0
  BodiesIn [] = Unit {0}
  BodiesIn (a ∷ ws) = StmtIn a.body.stmt × BodiesIn ws

  chain-in : (w : ℕ) (e : Expr) (ws : List Way) (last : Stmt) → BodiesIn ws → StmtIn last → StmtIn (chain w e ws last)
  chain-in w e [] last h g = g
  chain-in w e (a ∷ ws) last h g = λ s i t. either-true (may_assign wid a.body.stmt s i) (may_assign wid (chain w e ws last) s i) (h.0 s i) (chain-in w e ws last h.1 g s i) t

  done_by : (masks : Bool) (a b : Done) → StmtIn a.stmt → StmtIn b.stmt → StmtIn (cond masks a b).stmt
  done_by true a b h g = h
  done_by false a b h g = g

  module _ (kind : Kind) where
    mutual
      pub done-in : (t : StmtTree) → StmtIn (done look kind t).stmt
      done-in null = no-bits
      done-in (set blocking delay t v) = word_set-in blocking (goal look t) (read look v).expr (goal-in t)
      done-in (when c x) = λ s i h. either-true (may_assign wid (done look kind x).stmt s i) false (done-in x s i) (λ e. absurd (search (rules, e))) h
      done-in (either c x y) = λ s i h. either-true (may_assign wid (done look kind x).stmt s i) (may_assign wid (done look kind y).stmt s i) (done-in x s i) (done-in y s i) h
      done-in (switch v rows) = let k = read look v.value in let a = arms look kind rows in
          done_by v.masks _ _ (chain-in _ k.expr (ways look kind rows) Null (ways-in rows) no-bits) (last-in a.items (missing_last k a) (arms-in rows) (missing-in k a))
      done-in (switch_else v rows x) = let k = read look v.value in let a = arms look kind rows in let d = (done look kind x).stmt in
          done_by v.masks _ _ (chain-in _ k.expr (ways look kind rows) d (ways-in rows) (done-in x)) (last-in a.items (default_item d) (arms-in rows) (done-in x))
      done-in (block rows) = rows-in rows

      rows-in : (ts : StmtTrees) → (s i : ℕ) → any_may_assign wid (done_all look kind ts).stmts s i ≡ true → i < wid s
      rows-in no_rows = no-bits
      rows-in (and_rows t ts) = λ s i h. either-true (may_assign wid (done look kind t).stmt s i) (any_may_assign wid (done_all look kind ts).stmts s i) (done-in t s i) (rows-in ts s i) h

      ways-in : (ts : ArmTrees) → BodiesIn (ways look kind ts)
      ways-in no_arms = tt
      ways-in (and_arms labels t ts) = (done-in t, ways-in ts)

      arms-in : (ts : ArmTrees) → ItemsIn (arms look kind ts).items
      arms-in no_arms = no-bits
      arms-in (and_arms labels t ts) = λ s i h. either-true (may_assign wid (done look kind t).stmt s i) (may_assign_in wid (arms look kind ts).items s i) (done-in t s i) (arms-in ts s i) h
