-- Targets without a variable index: their signals are declared, and they have as many bits as they tell.
use Rattle.std.proofs.Common.{◌≡◌, ℕ, ◌+◌, ◌<◌, ◌≤◌, Bool, true, false, cond, not, nat_lt, List, [], ◌∷◌, ◌++◌, length, map, Option, Some, None, refl, sym, ap₂, subst, ◌∙◌, arith, ltb-false}
use Rattle.std.specs.Option.{option_map_or}
use Rattle.std.proofs.lemmas.Bool.{false≢true, or_parts}
use Rattle.verilog_ast.specs.declared.PartKind.{PartKind}
use Rattle.verilog_reading.specs.ExprTree.{TargetTree, whole, index_of, part_of, join_of, TargetTrees, no_parts, and_parts}
use Rattle.flat_meaning.specs.Flat.{Whole, Part, target_sizes}
use Rattle.flat_form.specs.View.{targets_of}
use Rattle.flat_form.proofs.Sized.{word_width}
use Rattle.flat_unfolding.specs.Outcome.{Text, Broken}
use Rattle.flat_unfolding.specs.Names.{Range, Memory, Meaning, a_param, a_signal, a_memory, no_value, Look, meaning, width_at, range_at}
use Rattle.flat_unfolding.specs.Constants.{own_value, both}
use Rattle.flat_unfolding.specs.Expressions.{Term, is_sound, as_bound, as_second, range_of, Select, one_bit, bit_select, kind_select, word_of, read}
use Rattle.flat_unfolding.specs.Targets.{Aim, nowhere, aim_at, behind, of_registers, total, group_of, Goal, fixed, a_word, name_rules, meant_whole, select_aim, signal_aim, word_aim, memory_goal, after, meant_goal, index_goal, as_fixed, meant_range, aim, aims}
use Rattle.flat_unfolding.specs.Resets.{has_variable_index, has_variable_index_in}
use Rattle.flat_names.specs.Looks.{IsFit}
use Rattle.flat_names.proofs.Options.{none-some, some-same}
use Rattle.flat_names.proofs.Named.{signal-word}
use Rattle.flat_names.proofs.Selected.{kind-word}
use Rattle.flat_targets.proofs.Aimed.{range-small}
use Rattle.flat_targets.proofs.AimedWords.{word-there}
use Rattle.flat_process.specs.Resets.{ArePlain, IsPlainAim}

is-true : (b : Bool) → not b ≡ false → b ≡ true
is-true true e = refl
is-true false e = absurd (false≢true (sym e))

module _ (l : Look) (fit : IsFit l) where
  abbrev wid : ℕ → ℕ
  wid = width_at l.entries

  plain-nowhere : (bs : List Broken) → IsPlainAim l (nowhere bs)
  plain-nowhere bs = record { plain = tt; size = λ w e. none-some w e }

  plain-behind : (bs : List Broken) (a : Aim) → IsPlainAim l a → IsPlainAim l (behind bs a)
  plain-behind bs a h = record { plain = h.plain; size = h.size }

  plain-whole : (s : ℕ) → s < length l.entries → IsPlainAim l (aim_at (Whole s) (wid s))
  plain-whole s h = record { plain = h; size = λ w e. (some-same (wid s) w e, subst (λ k. k ≤ 64) (some-same (wid s) w e) (word_width (wid s) (signal-word l s fit h)).most) }

  plain-part : (s at n : ℕ) → s < length l.entries → n ≤ 64 → IsPlainAim l (aim_at (Part s at n) n)
  plain-part s at n h m = record { plain = h; size = λ w e. (some-same n w e, subst (λ k. k ≤ 64) (some-same n w e) m) }

  plain-select : (x : Text) (s : ℕ) (o : Option Select) → s < length l.entries → ((p : Select) → o ≡ Some p → p.bits ≤ 64) → IsPlainAim l (select_aim l of_registers x s o)
  plain-select x s None h m = plain-nowhere _
  plain-select x s (Some p) h m = plain-part s p.at p.bits h (m p refl)

  one-small : (o : Option ℕ) (p : Select) → one_bit o ≡ Some p → p.bits ≤ 64
  one-small None p e = none-some p e
  one-small (Some at) p e = subst (λ (q : Select). q.bits ≤ 64) (some-same (record { at = at; bits = 1 }) p e) (let k : 1 ≤ 64 = omega arith in k)

  part-small : (s : ℕ) (kind : PartKind) (r : Range) (p : Select) → kind_select (range_at l.entries s) kind r ≡ Some p → p.bits ≤ 64
  part-small s kind r p e = (word_width p.bits (kind-word (range_at l.entries s) kind r p (range-small l fit s) e)).most

  -- ---- names

  plain-meant : (x : Text) (m : Option Meaning) → meaning l x ≡ m → IsPlainAim l (meant_whole l of_registers x m)
  plain-meant x None e = plain-nowhere []
  plain-meant x (Some (a_param p)) e = plain-nowhere []
  plain-meant x (Some (a_signal s)) e = plain-whole s (fit.signals x s e)
  plain-meant x (Some (a_memory m)) e = plain-nowhere _
  plain-meant x (Some no_value) e = plain-nowhere []

  -- ---- constant indices

  abbrev IsPlainGoal : Goal → Type 0
  IsPlainGoal (fixed a) = IsPlainAim l a
  IsPlainGoal (a_word m i bs) = Unit {0}

  plain-signal : (x : Text) (s : ℕ) (i : Term) → s < length l.entries → i.is_constant ≡ true → IsPlainAim l (signal_aim l of_registers x s i)
  plain-signal x s i h c = go i.is_constant c
    where
      go : (b : Bool) → b ≡ true → IsPlainAim l (signal_aim l of_registers x s (record i { is_constant = b }))
      go true e = plain-select x s (bit_select (range_at l.entries s) (own_value i.expr)) h (λ p k. one-small _ p k)
      go false e = absurd (false≢true e)

  plain-word : (x : Text) (m : Memory) (k : ℕ) (o : Option ℕ) → word_of m k ≡ o → m.first + m.words ≤ length l.entries → IsPlainAim l (word_aim l of_registers x o)
  plain-word x m k None e h = plain-nowhere _
  plain-word x m k (Some s) e h = plain-whole s (word-there m k s (length l.entries) e h)

  plain-memory : (x : Text) (m : Memory) (i : Term) → m.first + m.words ≤ length l.entries → i.is_constant ≡ true → IsPlainGoal (memory_goal l of_registers x m i)
  plain-memory x m i h c = go i.is_constant c
    where
      go : (b : Bool) → b ≡ true → IsPlainGoal (memory_goal l of_registers x m (record i { is_constant = b }))
      go true e = plain-word x m (own_value i.expr) (word_of m (own_value i.expr)) refl h
      go false e = absurd (false≢true e)

  plain-goal : (x : Text) (i : Term) (m : Option Meaning) → meaning l x ≡ m → i.is_constant ≡ true → IsPlainGoal (meant_goal l of_registers x i m)
  plain-goal x i None e c = plain-nowhere []
  plain-goal x i (Some (a_param p)) e c = plain-nowhere []
  plain-goal x i (Some (a_signal s)) e c = plain-signal x s i (fit.signals x s e) c
  plain-goal x i (Some (a_memory m)) e c = plain-memory x m i (fit.memories x m e).1 c
  plain-goal x i (Some no_value) e c = plain-nowhere []

  plain-after : (bs : List Broken) (g : Goal) → IsPlainGoal g → IsPlainGoal (after l of_registers bs g)
  plain-after bs (fixed a) h = plain-behind bs a h
  plain-after bs (a_word m i cs) h = tt

  plain-chosen : (b : Bool) (g : Goal) → IsPlainGoal g → IsPlainGoal (cond b g (fixed (nowhere [])))
  plain-chosen true g h = h
  plain-chosen false g h = plain-nowhere []

  plain-fixed : (x : Text) (g : Goal) → IsPlainGoal g → IsPlainAim l (as_fixed l of_registers x g)
  plain-fixed x (fixed a) h = h
  plain-fixed x (a_word m i bs) h = plain-nowhere _

  plain-index : (x : Text) (i : Term) → i.is_constant ≡ true → IsPlainGoal (index_goal l of_registers x i)
  plain-index x i c = plain-after (name_rules l of_registers x ++ i.broken) (cond (is_sound i) (meant_goal l of_registers x i (meaning l x)) (fixed (nowhere [])))
      (plain-chosen (is_sound i) (meant_goal l of_registers x i (meaning l x)) (plain-goal x i (meaning l x) refl c))

  -- ---- parts

  plain-range : (x : Text) (kind : PartKind) (o : Option Range) (m : Option Meaning) → meaning l x ≡ m → IsPlainAim l (meant_range l of_registers x kind o m)
  plain-range x kind (Some p) (Some (a_signal s)) e = plain-select x s (kind_select (range_at l.entries s) kind p) (fit.signals x s e) (part-small s kind p)
  plain-range x kind None (Some (a_signal s)) e = plain-nowhere []
  plain-range x kind None (Some (a_memory m)) e = plain-nowhere _
  plain-range x kind (Some p) (Some (a_memory m)) e = plain-nowhere _
  plain-range x kind None None e = plain-nowhere []
  plain-range x kind (Some p) None e = plain-nowhere []
  plain-range x kind None (Some (a_param p)) e = plain-nowhere []
  plain-range x kind (Some q) (Some (a_param p)) e = plain-nowhere []
  plain-range x kind None (Some no_value) e = plain-nowhere []
  plain-range x kind (Some p) (Some no_value) e = plain-nowhere []

  -- ---- concatenations

  abbrev ArePlainAims : List Aim → Type 0
  ArePlainAims [] = Unit {0}
  ArePlainAims (a ∷ rest) = IsPlainAim l a × ArePlainAims rest

  plain-targets : (xs : List Aim) → ArePlainAims xs → ArePlain (length l.entries) (targets_of (map (λ (a : Aim). a.target) xs))
  plain-targets [] h = tt
  plain-targets (a ∷ xs) h = (h.0.plain, plain-targets xs h.1)

  total-sizes : (xs : List Aim) → ArePlainAims xs → (w : ℕ) → total xs ≡ Some w → target_sizes wid (targets_of (map (λ (a : Aim). a.target) xs)) ≡ w
  total-sizes [] h w e = some-same 0 w e
  total-sizes (a ∷ xs) h w e = go a.bits (total xs) refl refl e (total-sizes xs h.1)
    where
      go : (m n : Option ℕ) → a.bits ≡ m → total xs ≡ n → both (λ i j. i + j) m n ≡ Some w
          → ((v : ℕ) → total xs ≡ Some v → target_sizes wid (targets_of (map (λ (b : Aim). b.target) xs)) ≡ v) → target_sizes wid (targets_of (map (λ (b : Aim). b.target) (a ∷ xs))) ≡ w
      go (Some m) (Some n) i j k f = ap₂ (λ x y. x + y) (h.0.size m i).0 (f n j) ∙ some-same (m + n) w k
      go (Some m) None i j k f = none-some w k
      go None n i j k f = none-some w k

  plain-group : (xs : List Aim) → ArePlainAims xs → IsPlainAim l (group_of xs (total xs))
  plain-group xs h = record { plain = plain-targets xs h; size = λ w e. go (total xs) refl w e }
    where
      by_width : (k : ℕ) → total xs ≡ Some k → (b : Bool) → nat_lt 64 k ≡ b → (w : ℕ) → cond b None (Some k) ≡ Some w → (target_sizes wid (targets_of (map (λ (a : Aim). a.target) xs)) ≡ w) × (w ≤ 64)
      by_width k e true t w i = none-some w i
      by_width k e false t w i = let same = some-same k w i in (total-sizes xs h k e ∙ same, subst (λ v. v ≤ 64) same (ltb-false 64 k t))

      go : (n : Option ℕ) → total xs ≡ n → (w : ℕ) → cond (option_map_or (nat_lt 64) n false) None n ≡ Some w → (target_sizes wid (targets_of (map (λ (a : Aim). a.target) xs)) ≡ w) × (w ≤ 64)
      go None e w i = none-some w i
      go (Some k) e w i = by_width k e (nat_lt 64 k) refl w i

  mutual
    pub plain-aim : (t : TargetTree) → has_variable_index l t ≡ false → IsPlainAim l (aim l of_registers t)
    plain-aim (whole x) h = plain-behind (name_rules l of_registers x) (meant_whole l of_registers x (meaning l x)) (plain-meant x (meaning l x) refl)
    plain-aim (index_of x i) h = plain-fixed x (index_goal l of_registers x (read l i)) (plain-index x (read l i) (is-true (read l i).is_constant h))
    plain-aim (part_of x kind i j) h =
        let a = as_bound (read l i) in let b = as_second kind (read l j) in
        plain-behind (name_rules l of_registers x ++ a.broken ++ b.broken) (meant_range l of_registers x kind (range_of a b) (meaning l x)) (plain-range x kind (range_of a b) (meaning l x) refl)
    plain-aim (join_of parts) h = plain-group (aims l of_registers parts) (plain-aims parts h)

    plain-aims : (ts : TargetTrees) → has_variable_index_in l ts ≡ false → ArePlainAims (aims l of_registers ts)
    plain-aims no_parts h = tt
    plain-aims (and_parts t ts) h = let p = or_parts (has_variable_index l t) (has_variable_index_in l ts) h in (plain-aim t p.0, plain-aims ts p.1)
