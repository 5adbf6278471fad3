-- Targets that break no rule are well sized.
use Rattle.std.proofs.Common.{◌≡◌, ℕ, ◌+◌, ◌^◌, ◌≤◌, Bool, true, false, cond, not, ◌&&◌, nat_lt, nat_le, List, [], ◌∷◌, ◌++◌, map, Option, Some, None, refl, sym, ap, ap₂, subst, ◌∙◌, arith, rules, ltb-true, ltb-false, leb-true}
use Rattle.std.specs.Prelude.{◌≢◌, slice_get, is_none, flat_map, option_map}
use Rattle.std.specs.Option.{option_map_or}
use Rattle.verilog_ast.specs.declared.PartKind.{PartKind}
use Rattle.verilog_reading.specs.ExprTree.{ExprTree, name, index, part, join, ExprTrees, no_trees, and_trees, TargetTree, whole, index_of, part_of, join_of, TargetTrees, no_parts, and_parts}
use Rattle.flat_meaning.specs.Flat.{size, Target, Whole, Part, Pick, Group, target_size, target_sizes}
use Rattle.flat_meaning.specs.Law.{AreWords}
use Rattle.flat_form.specs.View.{targets_of}
use Rattle.flat_unfolding.specs.Outcome.{Text, Broken, breaks, breaks_if}
use Rattle.flat_unfolding.specs.Names.{Range, Memory, Meaning, a_param, a_signal, a_memory, no_value, Look, meaning, width_at, range_at, unknown}
use Rattle.flat_unfolding.specs.Constants.{own_value, both}
use Rattle.flat_unfolding.specs.Expressions.{Term, is_sound, as_bound, as_second, range_of, Select, bit_select, kind_select, may_index, word_of, read}
use Rattle.flat_unfolding.specs.Targets.{Aim, nowhere, behind, Use, of_wires, of_registers, takes, is_assignable, total, group_of, Goal, fixed, a_word, name_rules, meant_whole, select_aim, signal_aim, word_aim, memory_goal, after, meant_goal, index_goal, as_fixed, meant_range, part_aim, aim, aims, piece_rules, with_piece_rules, goal, first_pick, picked_rule, pick_rule, wire_aim, as_target, as_targets, driven_at, driven}
use Rattle.flat_unfolding.specs.Formed.{IsFormed, AreFormed, AreSome, IsTargetFormed, AreTargetsFormed, AreSomeParts}
use Rattle.flat_unfolding.specs.Sized.{IsSized, IsTargetSized, AreTargetsSized}
use Rattle.flat_unfolding.proofs.Steps.{not_broken, none_of_both, some_is}
use Rattle.flat_unfolding.proofs.Selects.{IsInside, spans_at, bit_inside, kind_inside, index_inside}
use Rattle.flat_unfolding.proofs.Known.{reg_at, Stands, StandsIf}
use Rattle.flat_unfolding.proofs.Terms.{IsTermSized, sound_is, sized}

pub not_true : (b : Bool) → not b ≡ false → b ≡ true
not_true true e = refl
not_true false e = absurd (search (rules, e))

module _ (look : Look) (words : AreWords (width_at look.entries)) (known : (x : Text) → StandsIf look.entries (meaning look x)) where
  abbrev wid : ℕ → ℕ
  wid = width_at look.entries

  -- a target that breaks no rule is well sized, and so many bits
  module _ (use_ : Use) (may : ℕ → Bool) where
    abbrev pub IsAimSized : Aim → Type 0
    IsAimSized a = a.broken ≡ [] → IsTargetSized wid may a.target × (a.bits ≡ Some (target_size wid a.target))

    -- what a name's rules allow
    abbrev pub Allows : Type 0
    Allows = (s : ℕ) → option_map_or (takes use_) (slice_get look.entries s) false ≡ true → may s ≡ true

    -- a goal: its words are registers
    abbrev pub IsGoalSized : Goal → Type 0
    IsGoalSized (fixed a) = IsAimSized a
    IsGoalSized (a_word m i bs) = bs ≡ [] → (2 ^ size i ≤ m.words) × IsSized wid i × Stands look.entries (a_memory m) × (use_ ≡ of_registers)

    behind_sized : (bs : List Broken) (a : Aim) → (bs ≡ [] → IsAimSized a) → IsAimSized (behind bs a)
    behind_sized bs a h e = let p = none_of_both bs a.broken e in h p.0 p.1

    module _ (allows : Allows) where
      -- a name whose rules are kept
      record IsAllowed (o : Option Meaning) : Type 0 where
        pub is_some : is_none o ≡ false
        pub is_assignable : is_assignable use_ look.entries o ≡ true
        pub stands : StandsIf look.entries o

      allowed : (x : Text) → name_rules look use_ x ≡ [] → IsAllowed (meaning look x)
      allowed x e =
          let p = none_of_both (unknown look x) (breaks_if (not (is_assignable use_ look.entries (meaning look x))) 313 x) e in
          record {
            is_some = not_broken (is_none (meaning look x)) 305 x p.0;
            is_assignable = not_true (is_assignable use_ look.entries (meaning look x)) (not_broken (not (is_assignable use_ look.entries (meaning look x))) 313 x p.1);
            stands = known x;
          }

      meant_whole_sized : (x : Text) (o : Option Meaning) → IsAllowed o → IsAimSized (meant_whole look use_ x o)
      meant_whole_sized x None h e = let k = h.is_some in absurd (search (rules, k))
      meant_whole_sized x (Some (a_param p)) h e = let k = h.is_assignable in absurd (search (rules, k))
      meant_whole_sized x (Some (a_signal s)) h e = ((allows s h.is_assignable, h.stands), refl)
      meant_whole_sized x (Some (a_memory m)) h e = absurd (search (rules, e))
      meant_whole_sized x (Some no_value) h e = absurd h.stands

      select_sized : (x : Text) (s : ℕ) (o : Option Select) → may s ≡ true → ((q : Select) → o ≡ Some q → IsInside (wid s) q) → IsAimSized (select_aim look use_ x s o)
      select_sized x s None h i e = absurd (search (rules, e))
      select_sized x s (Some q) h i e = let l = i q refl in ((h, l.0, l.1), refl)

      signal_sized : (x : Text) (s : ℕ) (i : Term) → may s ≡ true → IsSized wid i.expr → IsAimSized (signal_aim look use_ x s i)
      signal_sized x s i h k = go i.is_constant
        where
          go : (b : Bool) → IsAimSized (cond b (select_aim look use_ x s (bit_select (range_at look.entries s) (own_value i.expr)))
              (record { target = Pick s i.expr; bits = Some 1; broken = breaks_if (not (may_index (range_at look.entries s) (size i.expr))) 315 x }))
          go true e = select_sized x s (bit_select (range_at look.entries s) (own_value i.expr)) h (λ q. bit_inside (range_at look.entries s) (wid s) (own_value i.expr) q (spans_at look.entries s)) e
          go false e =
              let m = may_index (range_at look.entries s) (size i.expr) in
              ((h, index_inside (range_at look.entries s) (wid s) (size i.expr) (spans_at look.entries s) (not_true m (not_broken (not m) 315 x e)), k), refl)

      -- only processes assign words
      is_registers : (u : Use) (m : Memory) → is_assignable u look.entries (Some (a_memory m)) ≡ true → u ≡ of_registers
      is_registers of_wires m e = absurd (search (rules, e))
      is_registers of_registers m e = refl

      module _ (own : (u : use_ ≡ of_registers) (s : ℕ) → reg_at look.entries s ≡ true → may s ≡ true) where
        memory_goal_sized : (x : Text) (m : Memory) (i : Term) → IsAllowed (Some (a_memory m)) → IsSized wid i.expr → IsGoalSized (memory_goal look use_ x m i)
        memory_goal_sized x m i h k = go i.is_constant (nat_le (2 ^ size i.expr) m.words) refl
          where
            n : ℕ
            n = own_value i.expr

            word_sized : (b : Bool) → nat_lt n m.words ≡ b → IsAimSized (word_aim look use_ x (cond b (Some (m.first + n)) None))
            word_sized true l e = let w = h.stands.1 n (ltb-true n m.words l) in ((own (is_registers use_ m h.is_assignable) (m.first + n) w.1, w.0), refl)
            word_sized false l e = absurd (search (rules, e))

            go : (b c : Bool) → nat_le (2 ^ size i.expr) m.words ≡ c
                → IsGoalSized (cond b (fixed (word_aim look use_ x (word_of m n))) (cond c (a_word m i.expr []) (fixed (nowhere (breaks 315 x)))))
            go true c l = word_sized (nat_lt n m.words) refl
            go false true l = λ e. (leb-true (2 ^ size i.expr) m.words l, k, h.stands, is_registers use_ m h.is_assignable)
            go false false l = λ e. absurd (search (rules, e))

        meant_goal_sized : (x : Text) (i : Term) (o : Option Meaning) → IsAllowed o → IsSized wid i.expr → IsGoalSized (meant_goal look use_ x i o)
        meant_goal_sized x i None h k = let s = h.is_some in absurd (search (rules, s))
        meant_goal_sized x i (Some (a_param p)) h k = let s = h.is_assignable in absurd (search (rules, s))
        meant_goal_sized x i (Some (a_signal s)) h k = signal_sized x s i (allows s h.is_assignable) k
        meant_goal_sized x i (Some (a_memory m)) h k = memory_goal_sized x m i h k
        meant_goal_sized x i (Some no_value) h k = absurd h.stands

        after_sized : (bs : List Broken) (g : Goal) → (bs ≡ [] → IsGoalSized g) → IsGoalSized (after look use_ bs g)
        after_sized bs (fixed a) h = behind_sized bs a h
        after_sized bs (a_word m i cs) h = λ e. let p = none_of_both bs cs e in h p.0 p.1

        index_goal_sized : (x : Text) (i : Term) → IsTermSized look words i → IsGoalSized (index_goal look use_ x i)
        index_goal_sized x i k = after_sized (name_rules look use_ x ++ i.broken) (cond (is_sound i) (meant_goal look use_ x i (meaning look x)) (fixed (nowhere [])))
            (λ e. let p = none_of_both (name_rules look use_ x) i.broken e in go (is_sound i) (sound_is i p.1) (allowed x p.0) (k p.1))
          where
            go : (b : Bool) → b ≡ true → IsAllowed (meaning look x) → IsSized wid i.expr → IsGoalSized (cond b (meant_goal look use_ x i (meaning look x)) (fixed (nowhere [])))
            go true e a s = meant_goal_sized x i (meaning look x) a s
            go false e a s = absurd (search (rules, e))

        as_fixed_sized : (x : Text) (g : Goal) → IsGoalSized g → IsAimSized (as_fixed look use_ x g)
        as_fixed_sized x (fixed a) h e = h e
        as_fixed_sized x (a_word m i bs) h e = let p = none_of_both bs (breaks 319 x) e in let q = p.1 in absurd (search (rules, q))

        meant_range_sized : (x : Text) (kind : PartKind) (r : Option Range) (o : Option Meaning) → r ≢ None → IsAllowed o → IsAimSized (meant_range look use_ x kind r o)
        meant_range_sized x kind r None s h e = let k = h.is_some in absurd (search (rules, k))
        meant_range_sized x kind None (Some (a_param p)) s h e = absurd (s refl)
        meant_range_sized x kind (Some q) (Some (a_param p)) s h e = let k = h.is_assignable in absurd (search (rules, k))
        meant_range_sized x kind None (Some (a_signal n)) s h e = absurd (s refl)
        meant_range_sized x kind (Some q) (Some (a_signal n)) s h e = select_sized x n (kind_select (range_at look.entries n) kind q) (allows n h.is_assignable)
            (λ c. kind_inside (range_at look.entries n) (wid n) kind q c (spans_at look.entries n)) e
        meant_range_sized x kind r (Some (a_memory m)) s h e = absurd (search (rules, e))
        meant_range_sized x kind r (Some no_value) s h e = absurd h.stands

        -- bounds that break no rule make a range
        ranged : (l r : Term) → l.broken ≡ [] → r.broken ≡ [] → range_of l r ≢ None
        ranged l r h k = go (is_sound l) (is_sound r) (sound_is l h) (sound_is r k)
          where
            go : (a b : Bool) → a ≡ true → b ≡ true → cond {A = Option Range} (a && b) (Some (record { left = own_value l.expr; right = own_value r.expr })) None ≢ None
            go true true h k e = absurd (search (rules, e))
            go true false h k e = absurd (search (rules, k))
            go false b h k e = absurd (search (rules, h))

        part_aim_sized : (x : Text) (kind : PartKind) (l r : Term) → IsAimSized (part_aim look use_ x kind l r)
        part_aim_sized x kind l r =
            let a = as_bound l in let b = as_second kind r in
            behind_sized (name_rules look use_ x ++ a.broken ++ b.broken) (meant_range look use_ x kind (range_of a b) (meaning look x)) (λ e.
            let p = none_of_both (name_rules look use_ x ++ a.broken) b.broken e in
            let q = none_of_both (name_rules look use_ x) a.broken p.0 in
            meant_range_sized x kind (range_of a b) (meaning look x) (ranged a b q.1 p.1) (allowed x q.0))

        -- ---- concatenations

        abbrev AreAimsSized : List Aim → Type 0
        AreAimsSized vs = flat_map (λ (a : Aim). a.broken) vs ≡ []
            → AreTargetsSized wid may (targets_of (map (λ (a : Aim). a.target) vs)) × (total vs ≡ Some (target_sizes wid (targets_of (map (λ (a : Aim). a.target) vs))))

        two_aims : (a : Aim) (vs : List Aim) → IsAimSized a → AreAimsSized vs → AreAimsSized (a ∷ vs)
        two_aims a vs h k e =
            let p = none_of_both a.broken (flat_map (λ (x : Aim). x.broken) vs) e in
            let i = h p.0 in let j = k p.1 in
            ((i.0, j.0), ap₂ (both (λ m n. m + n)) i.1 j.1)

        -- one at least
        abbrev HasAims : List Aim → Type 0
        HasAims [] = ⊥
        HasAims (a ∷ vs) = Unit {0}

        target_some : (t : Target) → IsTargetSized wid may t → 1 ≤ target_size wid t
        target_some (Whole s) h = h.1
        target_some (Part s at w) h = h.1
        target_some (Pick s e) h = let l : 1 ≤ 1 = omega arith in l
        target_some (Group ts) h = h.0

        targets_some : (vs : List Aim) → HasAims vs → AreTargetsSized wid may (targets_of (map (λ (a : Aim). a.target) vs)) → 1 ≤ target_sizes wid (targets_of (map (λ (a : Aim). a.target) vs))
        targets_some [] h k = absurd h
        targets_some (a ∷ vs) h k = let l = target_some a.target k.0 in omega arith

        group_sized : (vs : List Aim) → HasAims vs → AreAimsSized vs → IsAimSized (group_of vs (total vs))
        group_sized vs s h e =
            let is_wide = option_map_or (nat_lt 64) (total vs) false in
            let p = none_of_both (flat_map (λ (a : Aim). a.broken) vs) (breaks_if is_wide 308 []) e in
            let k = h p.0 in
            let narrow = not_broken is_wide 308 [] p.1 in
            let n = target_sizes wid (targets_of (map (λ (a : Aim). a.target) vs)) in
            let small : nat_lt 64 n ≡ false = sym (ap (λ o. option_map_or (nat_lt 64) o false) k.1) ∙ narrow in
            ((targets_some vs s k.0, ltb-false 64 n small, k.0), ap (λ b. cond b None (total vs)) narrow ∙ k.1)

        some_aims : (ts : TargetTrees) → AreSomeParts ts → HasAims (aims look use_ ts)
        some_aims no_parts h = absurd h
        some_aims (and_parts t ts) h = tt

        mutual
          pub aim_sized : (t : TargetTree) → IsTargetFormed t → IsAimSized (aim look use_ t)
          aim_sized (whole x) h = behind_sized (name_rules look use_ x) (meant_whole look use_ x (meaning look x)) (λ e. meant_whole_sized x (meaning look x) (allowed x e))
          aim_sized (index_of x i) h = as_fixed_sized x (index_goal look use_ x (read look i)) (index_goal_sized x (read look i) (sized look words known i h))
          aim_sized (part_of x kind l r) h = part_aim_sized x kind (read look l) (read look r)
          aim_sized (join_of parts) h = group_sized (aims look use_ parts) (some_aims parts h.0) (aims_sized parts h.1)

          pub aims_sized : (ts : TargetTrees) → AreTargetsFormed ts → AreAimsSized (aims look use_ ts)
          aims_sized no_parts h e = (tt, refl)
          aims_sized (and_parts t ts) h e = two_aims (aim look use_ t) (aims look use_ ts) (aim_sized t h.0) (aims_sized ts h.1) e

        -- the rules of its parts change no target
        pub ruled_sized : (t : TargetTree) → IsTargetFormed t → IsAimSized (with_piece_rules look use_ t)
        ruled_sized t h e = aim_sized t h (none_of_both (aim look use_ t).broken (piece_rules look use_ t) e).0

  -- ---- the target of a process

  abbrev is_reg : ℕ → Bool
  is_reg = reg_at look.entries

  pub goal_sized : (t : TargetTree) → IsTargetFormed t → IsGoalSized of_registers is_reg (goal look t)
  goal_sized (whole x) h = ruled_sized of_registers is_reg (λ s e. e) (λ u s e. e) (whole x) h
  goal_sized (index_of x i) h = index_goal_sized of_registers is_reg (λ s e. e) (λ u s e. e) x (read look i) (sized look words known i h)
  goal_sized (part_of x kind l r) h = ruled_sized of_registers is_reg (λ s e. e) (λ u s e. e) (part_of x kind l r) h
  goal_sized (join_of parts) h = ruled_sized of_registers is_reg (λ s e. e) (λ u s e. e) (join_of parts) h

  -- ---- what `assign`, a gate or an output drives

  module _ (may : ℕ → Bool) (allows : (s : ℕ) → option_map_or (takes of_wires) (slice_get look.entries s) false ≡ true → may s ≡ true) where
    -- no variable index
    abbrev pub IsWireAim : Aim → Type 0
    IsWireAim a = a.broken ≡ [] → IsTargetSized wid may a.target × (first_pick a.target ≡ None)

    none_picked : (o : Option ℕ) → picked_rule look o ≡ [] → o ≡ None
    none_picked None e = refl
    none_picked (Some s) e = absurd (search (rules, e))

    wires_differ : {A : Type 0} → of_wires ≡ of_registers → A
    wires_differ e = absurd (search (rules, e))

    pub wire_sized : (t : TargetTree) → IsTargetFormed t → IsWireAim (wire_aim look t)
    wire_sized t h e =
        let a = with_piece_rules look of_wires t in
        let p = none_of_both a.broken (pick_rule look a.target) e in
        ((ruled_sized of_wires may allows (λ u. wires_differ u) t h p.0).0, none_picked (first_pick a.target) p.1)

    mutual
      formed_target : (e : ExprTree) (t : TargetTree) → IsFormed e → as_target e ≡ Some t → IsTargetFormed t
      formed_target (name x) t h k = subst IsTargetFormed (some_is (whole x) t k) tt
      formed_target (index x i) t h k = subst IsTargetFormed (some_is (index_of x i) t k) h
      formed_target (part x kind l r) t h k = subst IsTargetFormed (some_is (part_of x kind l r) t k) h
      formed_target (join parts) t h k = go (as_targets parts) (λ ts e. (some_target parts ts h.0 e, formed_targets parts ts h.1 e)) k
        where
          go : (o : Option TargetTrees) → ((ts : TargetTrees) → o ≡ Some ts → AreSomeParts ts × AreTargetsFormed ts) → option_map join_of o ≡ Some t → IsTargetFormed t
          go None f k = absurd (search (rules, k))
          go (Some ts) f k = subst IsTargetFormed (some_is (join_of ts) t k) (f ts refl)
      formed_target e t h k = absurd (search (rules, k))

      formed_targets : (es : ExprTrees) (ts : TargetTrees) → AreFormed es → as_targets es ≡ Some ts → AreTargetsFormed ts
      formed_targets no_trees ts h k = subst AreTargetsFormed (some_is no_parts ts k) tt
      formed_targets (and_trees e es) ts h k = go (as_target e) (as_targets es) (λ t i. formed_target e t h.0 i) (λ us j. formed_targets es us h.1 j) k
        where
          go : (o : Option TargetTree) (p : Option TargetTrees) → ((t : TargetTree) → o ≡ Some t → IsTargetFormed t) → ((us : TargetTrees) → p ≡ Some us → AreTargetsFormed us)
              → both and_parts o p ≡ Some ts → AreTargetsFormed ts
          go (Some t) (Some us) i j k = subst AreTargetsFormed (some_is (and_parts t us) ts k) (i t refl, j us refl)
          go None p i j k = absurd (search (rules, k))
          go (Some t) None i j k = absurd (search (rules, k))

      some_target : (es : ExprTrees) (ts : TargetTrees) → AreSome es → as_targets es ≡ Some ts → AreSomeParts ts
      some_target no_trees ts h k = absurd h
      some_target (and_trees e es) no_parts h k = go (as_target e) (as_targets es) k
        where
          go : (o : Option TargetTree) (p : Option TargetTrees) → both and_parts o p ≡ Some no_parts → ⊥
          go (Some t) (Some us) k = search (rules, k)
          go None p k = search (rules, k)
          go (Some t) None k = search (rules, k)
      some_target (and_trees e es) (and_parts t ts) h k = tt

    pub driven_sized : (e : ExprTree) → IsFormed e → IsWireAim (driven look e)
    driven_sized e h = go (as_target e) (read look e) refl
      where
        go : (o : Option TargetTree) (r : Term) → as_target e ≡ o → IsWireAim (driven_at look o r)
        go (Some t) r k b = wire_sized t (formed_target e t h k) b
        go None r k e = let p = none_of_both r.broken (breaks 313 []) e in let q = p.1 in absurd (search (rules, q))
