-- Targets of an instance are read as those of its module, and moved.
use Rattle.std.proofs.Common.{◌≡◌, ℕ, zero, suc, ◌+◌, ◌^◌, ◌<◌, nat_lt, nat_le, Bool, true, false, cond, not, ◌&&◌, ◌||◌, List, [], ◌∷◌, ◌++◌, length, map, Option, Some, None, refl, sym, ap, ap₂, ◌∙◌}
use Rattle.std.specs.Prelude.{flat_map, option_map}
use Rattle.std.specs.Option.{option_map_or, option_or}
use Rattle.std.specs.List.{list_any}
use Rattle.std.proofs.lemmas.List.{map_push, map-append}
use mathlib.Core.Path.{fun_ext}
use Rattle.verilog_ast.specs.declared.PartKind.{PartKind}
use Rattle.verilog_reading.specs.ExprTree.{ExprTree, TargetTree, whole, index_of, part_of, join_of, TargetTrees, no_parts, and_parts}
use Rattle.cell_graph.specs.Tree.{any_below}
use Rattle.flat_meaning.specs.Assigned.{reaches}
use Rattle.flat_meaning.specs.Flat.{size, Target, Whole, Part, Pick, Group, Targets, no_targets, target}
use Rattle.flat_form.specs.View.{targets_of}
use Rattle.flat_unfolding.specs.Outcome.{Text, Broken, breaks, breaks_if}
use Rattle.flat_unfolding.specs.Names.{Range, Memory, Meaning, a_param, a_signal, a_memory, no_value, Entry, Look, meaning, width_at, range_at}
use Rattle.flat_unfolding.specs.Constants.{own_value, both}
use Rattle.flat_unfolding.specs.Expressions.{Term, is_sound, as_bound, as_second, range_of, Select, bit_select, kind_select, may_index, word_of, read}
use Rattle.flat_unfolding.specs.Targets.{Aim, nowhere, aim_at, behind as aim_behind, Use, of_wires, of_registers, takes, is_assignable, total, group_of, Goal, fixed, a_word, Piece, some_bit, assigns_bits_of, reads_what_is_assigned, in_some_signal, meets, meeting, name_rules, meant_whole, select_aim, signal_aim, word_aim, memory_goal, after, meant_goal, index_goal, as_fixed, meant_range, part_aim, aim, aims, pieces, pieces_in, piece_rules, with_piece_rules, goal, first_pick, first_pick_in, picked_rule, pick_rule, wire_aim, as_target, driven_at, driven}
use Rattle.instance_laws.specs.Moved.{moved_expr, moved_target, moved_targets, moved_entry}
use Rattle.instance_laws.proofs.Looks.{moved_if, count, behind, far, width_moved, range_moved, told_moved, unknown_moved}
use Rattle.instance_laws.proofs.Terms.{moved_term, size_moved, own_moved, bound_moved, second_moved, range_of_moved, read_moved, known, first_moved}
use Rattle.instance_laws.proofs.Bits.{any_moved, reaches_moved, reaches_low, target_reads_moved, target_reads_low, length_moved}

module _ (k : ℕ) where
  abbrev pub moved_aim : Aim → Aim
  moved_aim a = record { target = moved_target k a.target; bits = a.bits; broken = a.broken }

  abbrev pub moved_goal : Goal → Goal
  moved_goal (fixed a) = fixed (moved_aim a)
  moved_goal (a_word m i bs) = a_word (record { first = k + m.first; words = m.words }) (moved_expr k i) bs

  abbrev moved_piece : Piece → Piece
  moved_piece p = record { name = p.name; target = moved_target k p.target }

  -- ---- target concatenations

  total_moved : (ts : List Aim) → total (map moved_aim ts) ≡ total ts
  total_moved [] = refl
  total_moved (a ∷ ts) = ap (both (λ m n. m + n) a.bits) (total_moved ts)

  group_targets : (ts : List Aim) → targets_of (map (λ (a : Aim). a.target) (map moved_aim ts)) ≡ moved_targets k (targets_of (map (λ (a : Aim). a.target) ts))
  group_targets [] = refl
  group_targets (a ∷ ts) = ap (target (moved_target k a.target)) (group_targets ts)

  group_broken : (ts : List Aim) → flat_map (λ (a : Aim). a.broken) (map moved_aim ts) ≡ flat_map (λ (a : Aim). a.broken) ts
  group_broken [] = refl
  group_broken (a ∷ ts) = ap (λ bs. a.broken ++ bs) (group_broken ts)

  group_moved : (ts : List Aim) (n : Option ℕ) → group_of (map moved_aim ts) n ≡ moved_aim (group_of ts n)
  group_moved ts n = let is_wide = option_map_or (nat_lt 64) n false in
      ap₂ (λ ts bs. with_parts ts (cond is_wide None n) (bs ++ breaks_if is_wide 308 [])) (group_targets ts) (group_broken ts)
    where
      with_parts : Targets → Option ℕ → List Broken → Aim
      with_parts ts m bs = record { target = Group ts; bits = m; broken = bs }

  -- the first signal of which an index chooses a bit
  mutual
    pick_moved : (t : Target) → first_pick (moved_target k t) ≡ option_map (λ s. k + s) (first_pick t)
    pick_moved (Whole s) = refl
    pick_moved (Part s at w) = refl
    pick_moved (Pick s e) = refl
    pick_moved (Group ts) = pick_in_moved ts

    pick_in_moved : (ts : Targets) → first_pick_in (moved_targets k ts) ≡ option_map (λ s. k + s) (first_pick_in ts)
    pick_in_moved no_targets = refl
    pick_in_moved (target t ts) = ap₂ option_or (pick_moved t) (pick_in_moved ts) ∙ go (first_pick t)
      where
        go : (o : Option ℕ) → option_or (option_map (λ s. k + s) o) (option_map (λ s. k + s) (first_pick_in ts)) ≡ option_map (λ s. k + s) (option_or o (first_pick_in ts))
        go None = refl
        go (Some s) = refl

-- what passes a test after a change
pub any_mapped : {A B : Type 0} (f : B → Bool) (g : A → B) (h : A → Bool) → ((a : A) → f (g a) ≡ h a) → (xs : List A) → list_any f (map g xs) ≡ list_any h xs
any_mapped f g h e [] = refl
any_mapped f g h e (x ∷ xs) = ap₂ (λ p q. p || q) (e x) (any_mapped f g h e xs)

none_any : (f : ℕ → Bool) → ((i : ℕ) → f i ≡ false) → (w : ℕ) → any_below f w ≡ false
none_any f h zero = refl
none_any f h (suc w) = ap₂ (λ p q. p || q) (none_any f h w) (h w)

module _ (prefix : Text) (base : List Entry) (es : List Entry) where
  abbrev k : ℕ
  k = count prefix base

  abbrev there : List Entry
  there = behind prefix base es

  same : (s : ℕ) → width_at there (k + s) ≡ width_at es s
  same s = width_moved prefix base es s

  in_some : (f g : ℕ → Bool) → ((x : ℕ) → x < k → f x ≡ false) → ((x : ℕ) → f (k + x) ≡ g x) → in_some_signal there f ≡ in_some_signal es g
  in_some f g low high = ap (any_below f) (length_moved prefix base es) ∙ any_moved k f g low high (length es)

  some_bit_moved : (f g : ℕ → Bool) → ((i : ℕ) → f i ≡ g i) → (s : ℕ) → some_bit there f (k + s) ≡ some_bit es g s
  some_bit_moved f g h s = ap₂ any_below (fun_ext h) (same s)

  bits_assigned : (t g : Target) → in_some_signal there (assigns_bits_of there (moved_target k t) (moved_target k g)) ≡ in_some_signal es (assigns_bits_of es t g)
  bits_assigned t g = in_some (assigns_bits_of there (moved_target k t) (moved_target k g)) (assigns_bits_of es t g)
      (λ x l. none_any _ (λ i. ap (λ b. b && reaches (width_at there) (moved_target k g) x i) (reaches_low k (width_at there) (width_at es) same t x i l)) (width_at there x))
      (λ x. some_bit_moved _ _ (λ i. ap₂ (λ p q. p && q) (reaches_moved k (width_at there) (width_at es) same t x i) (reaches_moved k (width_at there) (width_at es) same g x i)) x)

  bits_read_assigned : (t g : Target) → in_some_signal there (reads_what_is_assigned there (moved_target k t) (moved_target k g))
      ≡ in_some_signal es (reads_what_is_assigned es t g)
  bits_read_assigned t g = in_some (reads_what_is_assigned there (moved_target k t) (moved_target k g)) (reads_what_is_assigned es t g)
      (λ x l. ap (λ b. b && some_bit there (reaches (width_at there) (moved_target k g) x) x)
      (none_any _ (λ i. target_reads_low k (width_at there) (width_at es) same t x i l) (width_at there x)))
      (λ x. ap₂ (λ p q. p && q) (some_bit_moved _ _ (λ i. target_reads_moved k (width_at there) (width_at es) same t x i) x)
      (some_bit_moved _ _ (λ i. reaches_moved k (width_at there) (width_at es) same g x i) x))

  meets_moved : (all before : List Piece) (p : Piece) → meets there (map (moved_piece k) all) (map (moved_piece k) before) (moved_piece k p) ≡ meets es all before p
  meets_moved all before p =
      ap₂ (λ a b. a || b)
      (any_mapped (λ (q : Piece). in_some_signal there (assigns_bits_of there (moved_target k p.target) q.target)) (moved_piece k)
      (λ (q : Piece). in_some_signal es (assigns_bits_of es p.target q.target)) (λ q. bits_assigned p.target q.target) before)
      (any_mapped (λ (q : Piece). in_some_signal there (reads_what_is_assigned there (moved_target k p.target) q.target)) (moved_piece k)
      (λ (q : Piece). in_some_signal es (reads_what_is_assigned es p.target q.target)) (λ q. bits_read_assigned p.target q.target) all)

  meeting_moved : (all before rest : List Piece) → meeting there (map (moved_piece k) all) (map (moved_piece k) before) (map (moved_piece k) rest) ≡ meeting es all before rest
  meeting_moved all before [] = refl
  meeting_moved all before (p ∷ rest) =
      ap₂ (λ b bs. breaks_if b 313 p.name ++ bs) (meets_moved all before p)
      (ap (λ ps. meeting there (map (moved_piece k) all) ps (map (moved_piece k) rest)) (sym (map_push (moved_piece k) before p)) ∙ meeting_moved all (before ++ p ∷ []) rest)

module _ (prefix : Text) (base : List Entry) (look : Look) where
  abbrev n : ℕ
  n = count prefix base

  abbrev far_look : Look
  far_look = far prefix base look

  known_name : (x : Text) → meaning far_look x ≡ moved_if n (meaning look x)
  known_name = known prefix base look

  module _ (use_ : Use) where
    assignable_moved : (o : Option Meaning) → is_assignable use_ (behind prefix base look.entries) (moved_if n o) ≡ is_assignable use_ look.entries o
    assignable_moved None = go use_
      where
        go : (u : Use) → is_assignable u (behind prefix base look.entries) None ≡ is_assignable u look.entries None
        go of_wires = refl
        go of_registers = refl
    assignable_moved (Some (a_signal s)) = told_moved prefix base look.entries s (takes use_) false (λ e. go use_ e)
      where
        go : (u : Use) (e : Entry) → takes u (moved_entry prefix e) ≡ takes u e
        go of_wires e = refl
        go of_registers e = refl
    assignable_moved (Some (a_memory m)) = go use_
      where
        go : (u : Use) → is_assignable u (behind prefix base look.entries) (Some (a_memory (record { first = n + m.first; words = m.words })))
            ≡ is_assignable u look.entries (Some (a_memory m))
        go of_wires = refl
        go of_registers = refl
    assignable_moved (Some (a_param p)) = go use_
      where
        go : (u : Use) → is_assignable u (behind prefix base look.entries) (Some (a_param p)) ≡ is_assignable u look.entries (Some (a_param p))
        go of_wires = refl
        go of_registers = refl
    assignable_moved (Some no_value) = go use_
      where
        go : (u : Use) → is_assignable u (behind prefix base look.entries) (Some no_value) ≡ is_assignable u look.entries (Some no_value)
        go of_wires = refl
        go of_registers = refl

    name_rules_moved : (x : Text) → name_rules far_look use_ x ≡ name_rules look use_ x
    name_rules_moved x =
        ap₂ (λ u b. u ++ breaks_if (not b) 313 x) (unknown_moved prefix base look x)
        (ap (is_assignable use_ (behind prefix base look.entries)) (known_name x) ∙ assignable_moved (meaning look x))

    meant_whole_moved : (x : Text) (o : Option Meaning) → meant_whole far_look use_ x (moved_if n o) ≡ moved_aim n (meant_whole look use_ x o)
    meant_whole_moved x None = refl
    meant_whole_moved x (Some (a_param p)) = refl
    meant_whole_moved x (Some (a_signal s)) = ap (aim_at (Whole (n + s))) (width_moved prefix base look.entries s)
    meant_whole_moved x (Some (a_memory m)) = refl
    meant_whole_moved x (Some no_value) = refl

    select_moved : (x : Text) (s : ℕ) (o : Option Select) → select_aim far_look use_ x (n + s) o ≡ moved_aim n (select_aim look use_ x s o)
    select_moved x s None = refl
    select_moved x s (Some p) = refl

    signal_aim_moved : (x : Text) (s : ℕ) (i : Term) → signal_aim far_look use_ x (n + s) (moved_term n i) ≡ moved_aim n (signal_aim look use_ x s i)
    signal_aim_moved x s i = rw (range_moved prefix base look.entries s, own_moved n i.expr, size_moved n i.expr) (go i.is_constant)
      where
        rules_of : List Broken
        rules_of = breaks_if (not (may_index (range_at look.entries s) (size i.expr))) 315 x

        go : (b : Bool) → cond b (select_aim far_look use_ x (n + s) (bit_select (range_at look.entries s) (own_value i.expr)))
            (record { target = Pick (n + s) (moved_expr n i.expr); bits = Some 1; broken = rules_of })
            ≡ moved_aim n (cond b (select_aim look use_ x s (bit_select (range_at look.entries s) (own_value i.expr)))
            (record { target = Pick s i.expr; bits = Some 1; broken = rules_of }))
        go true = select_moved x s (bit_select (range_at look.entries s) (own_value i.expr))
        go false = refl

    memory_goal_moved : (x : Text) (m : Memory) (i : Term) → memory_goal far_look use_ x (record { first = n + m.first; words = m.words }) (moved_term n i)
        ≡ moved_goal n (memory_goal look use_ x m i)
    memory_goal_moved x m i = rw (own_moved n i.expr, size_moved n i.expr) (go i.is_constant (nat_le (2 ^ size i.expr) m.words))
      where
        far_memory : Memory
        far_memory = record { first = n + m.first; words = m.words }

        word_moved : (b : Bool) → word_aim far_look use_ x (cond b (Some (n + m.first + own_value i.expr)) None)
            ≡ moved_aim n (word_aim look use_ x (cond b (Some (m.first + own_value i.expr)) None))
        word_moved true =
            ap (λ s. word_aim far_look use_ x (Some s)) (first_moved prefix base look m.first (own_value i.expr))
            ∙ ap (aim_at (Whole (n + (m.first + own_value i.expr)))) (width_moved prefix base look.entries (m.first + own_value i.expr))
        word_moved false = refl

        go : (b c : Bool) → cond b (fixed (word_aim far_look use_ x (word_of far_memory (own_value i.expr))))
            (cond c (a_word far_memory (moved_expr n i.expr) []) (fixed (nowhere (breaks 315 x))))
            ≡ moved_goal n (cond b (fixed (word_aim look use_ x (word_of m (own_value i.expr)))) (cond c (a_word m i.expr []) (fixed (nowhere (breaks 315 x)))))
        go true c = ap fixed (word_moved (nat_lt (own_value i.expr) m.words))
        go false true = refl
        go false false = refl

    after_moved : (bs : List Broken) (g : Goal) → after far_look use_ bs (moved_goal n g) ≡ moved_goal n (after look use_ bs g)
    after_moved bs (fixed a) = refl
    after_moved bs (a_word m i cs) = refl

    meant_goal_moved : (x : Text) (i : Term) (o : Option Meaning) → meant_goal far_look use_ x (moved_term n i) (moved_if n o) ≡ moved_goal n (meant_goal look use_ x i o)
    meant_goal_moved x i None = refl
    meant_goal_moved x i (Some (a_param p)) = refl
    meant_goal_moved x i (Some (a_signal s)) = ap fixed (signal_aim_moved x s i)
    meant_goal_moved x i (Some (a_memory m)) = memory_goal_moved x m i
    meant_goal_moved x i (Some no_value) = refl

    index_goal_moved : (x : Text) (i : Term) → index_goal far_look use_ x (moved_term n i) ≡ moved_goal n (index_goal look use_ x i)
    index_goal_moved x i =
        ap₂ (λ bs o. after far_look use_ (bs ++ i.broken) (cond (is_sound i) (meant_goal far_look use_ x (moved_term n i) o) (fixed (nowhere [])))) (name_rules_moved x)
        (known_name x)
        ∙ ap (after far_look use_ (name_rules look use_ x ++ i.broken)) (go (is_sound i))
        ∙ after_moved (name_rules look use_ x ++ i.broken) (cond (is_sound i) (meant_goal look use_ x i (meaning look x)) (fixed (nowhere [])))
      where
        go : (b : Bool) → cond b (meant_goal far_look use_ x (moved_term n i) (moved_if n (meaning look x))) (fixed (nowhere []))
            ≡ moved_goal n (cond b (meant_goal look use_ x i (meaning look x)) (fixed (nowhere [])))
        go true = meant_goal_moved x i (meaning look x)
        go false = refl

    as_fixed_moved : (x : Text) (g : Goal) → as_fixed far_look use_ x (moved_goal n g) ≡ moved_aim n (as_fixed look use_ x g)
    as_fixed_moved x (fixed a) = refl
    as_fixed_moved x (a_word m i bs) = refl

    meant_range_moved : (x : Text) (kind : PartKind) (r : Option Range) (o : Option Meaning)
        → meant_range far_look use_ x kind r (moved_if n o) ≡ moved_aim n (meant_range look use_ x kind r o)
    meant_range_moved x kind None None = refl
    meant_range_moved x kind (Some q) None = refl
    meant_range_moved x kind None (Some (a_param p)) = refl
    meant_range_moved x kind (Some q) (Some (a_param p)) = refl
    meant_range_moved x kind None (Some (a_signal s)) = refl
    meant_range_moved x kind (Some q) (Some (a_signal s)) = rw (range_moved prefix base look.entries s) (select_moved x s (kind_select (range_at look.entries s) kind q))
    meant_range_moved x kind None (Some (a_memory m)) = refl
    meant_range_moved x kind (Some q) (Some (a_memory m)) = refl
    meant_range_moved x kind None (Some no_value) = refl
    meant_range_moved x kind (Some q) (Some no_value) = refl

    -- the bounds were judged
    abbrev parted : Look → List Broken → Text → PartKind → (l r : Term) → Option Meaning → Aim
    parted a bs x kind l r o = aim_behind (bs ++ l.broken ++ r.broken) (meant_range a use_ x kind (range_of l r) o)

    part_aim_moved : (x : Text) (kind : PartKind) (l r : Term) → part_aim far_look use_ x kind (moved_term n l) (moved_term n r) ≡ moved_aim n (part_aim look use_ x kind l r)
    part_aim_moved x kind l r =
        ap₂ (λ bs o. parted far_look bs x kind (as_bound (moved_term n l)) (as_second kind (moved_term n r)) o) (name_rules_moved x) (known_name x)
        ∙ ap₂ (λ a b. parted far_look (name_rules look use_ x) x kind a b (moved_if n (meaning look x))) (bound_moved n l) (second_moved n kind r)
        ∙ go (as_bound l) (as_second kind r)
      where
        go : (a b : Term) → parted far_look (name_rules look use_ x) x kind (moved_term n a) (moved_term n b) (moved_if n (meaning look x))
            ≡ moved_aim n (parted look (name_rules look use_ x) x kind a b (meaning look x))
        go a b =
            ap (λ q. aim_behind (name_rules look use_ x ++ a.broken ++ b.broken) (meant_range far_look use_ x kind q (moved_if n (meaning look x)))) (range_of_moved n a b)
            ∙ ap (aim_behind (name_rules look use_ x ++ a.broken ++ b.broken)) (meant_range_moved x kind (range_of a b) (meaning look x))

    mutual
      pub aim_moved : (t : TargetTree) → aim far_look use_ t ≡ moved_aim n (aim look use_ t)
      aim_moved (whole x) = ap₂ aim_behind (name_rules_moved x) (ap (meant_whole far_look use_ x) (known_name x) ∙ meant_whole_moved x (meaning look x))
      aim_moved (index_of x i) =
          ap (as_fixed far_look use_ x) (ap (index_goal far_look use_ x) (read_moved prefix base look i) ∙ index_goal_moved x (read look i))
          ∙ as_fixed_moved x (index_goal look use_ x (read look i))
      aim_moved (part_of x kind l r) =
          ap₂ (part_aim far_look use_ x kind) (read_moved prefix base look l) (read_moved prefix base look r) ∙ part_aim_moved x kind (read look l) (read look r)
      aim_moved (join_of parts) =
          ap₂ group_of (aims_moved parts) (ap total (aims_moved parts) ∙ total_moved n (aims look use_ parts)) ∙ group_moved n (aims look use_ parts) (total (aims look use_ parts))

      aims_moved : (ts : TargetTrees) → aims far_look use_ ts ≡ map (moved_aim n) (aims look use_ ts)
      aims_moved no_parts = refl
      aims_moved (and_parts t ts) = ap₂ (λ a ts. a ∷ ts) (aim_moved t) (aims_moved ts)

    abbrev one_piece : Text → Target → List Piece
    one_piece x t = record { name = x; target = t } ∷ []

    mutual
      pieces_moved : (t : TargetTree) → pieces far_look use_ t ≡ map (moved_piece n) (pieces look use_ t)
      pieces_moved (whole x) = ap (λ (a : Aim). one_piece x a.target) (aim_moved (whole x))
      pieces_moved (index_of x i) = ap (λ (a : Aim). one_piece x a.target) (aim_moved (index_of x i))
      pieces_moved (part_of x kind l r) = ap (λ (a : Aim). one_piece x a.target) (aim_moved (part_of x kind l r))
      pieces_moved (join_of parts) = pieces_in_moved parts

      pieces_in_moved : (ts : TargetTrees) → pieces_in far_look use_ ts ≡ map (moved_piece n) (pieces_in look use_ ts)
      pieces_in_moved no_parts = refl
      pieces_in_moved (and_parts t ts) =
          ap₂ (λ a ts. a ++ ts) (pieces_moved t) (pieces_in_moved ts) ∙ sym (map-append (moved_piece n) (pieces look use_ t) (pieces_in look use_ ts))

    piece_rules_moved : (t : TargetTree) → piece_rules far_look use_ t ≡ piece_rules look use_ t
    piece_rules_moved (whole x) = refl
    piece_rules_moved (index_of x i) = refl
    piece_rules_moved (part_of x kind l r) = refl
    piece_rules_moved (join_of parts) =
        ap (λ ps. meeting (behind prefix base look.entries) ps [] ps) (pieces_in_moved parts)
        ∙ meeting_moved prefix base look.entries (pieces_in look use_ parts) [] (pieces_in look use_ parts)

    with_rules_moved : (t : TargetTree) → with_piece_rules far_look use_ t ≡ moved_aim n (with_piece_rules look use_ t)
    with_rules_moved t = ap₂ (λ (a : Aim) bs. record a { broken = a.broken ++ bs }) (aim_moved t) (piece_rules_moved t)

  pub goal_moved : (t : TargetTree) → goal far_look t ≡ moved_goal n (goal look t)
  goal_moved (index_of x i) = ap (index_goal far_look of_registers x) (read_moved prefix base look i) ∙ index_goal_moved of_registers x (read look i)
  goal_moved (whole x) = ap fixed (with_rules_moved of_registers (whole x))
  goal_moved (part_of x kind l r) = ap fixed (with_rules_moved of_registers (part_of x kind l r))
  goal_moved (join_of parts) = ap fixed (with_rules_moved of_registers (join_of parts))

  pick_rule_moved : (t : Target) → pick_rule far_look (moved_target n t) ≡ pick_rule look t
  pick_rule_moved t = ap (picked_rule far_look) (pick_moved n t) ∙ go (first_pick t)
    where
      go : (o : Option ℕ) → picked_rule far_look (option_map (λ s. n + s) o) ≡ picked_rule look o
      go None = refl
      go (Some s) = ap (breaks 313) (told_moved prefix base look.entries s (λ (e : Entry). e.own) [] (λ e. refl))

  abbrev wired : Look → Aim → Aim
  wired l a = record a { broken = a.broken ++ pick_rule l a.target }

  pub wire_moved : (t : TargetTree) → wire_aim far_look t ≡ moved_aim n (wire_aim look t)
  wire_moved t = ap (wired far_look) (with_rules_moved of_wires t) ∙ go (with_piece_rules look of_wires t)
    where
      go : (a : Aim) → wired far_look (moved_aim n a) ≡ moved_aim n (wired look a)
      go a = ap (λ bs. record (moved_aim n a) { broken = a.broken ++ bs }) (pick_rule_moved a.target)

  pub driven_moved : (e : ExprTree) → driven far_look e ≡ moved_aim n (driven look e)
  driven_moved e = ap (driven_at far_look (as_target e)) (read_moved prefix base look e) ∙ go (as_target e) (read look e)
    where
      go : (o : Option TargetTree) (t : Term) → driven_at far_look o (moved_term n t) ≡ moved_aim n (driven_at look o t)
      go None t = rw (size_moved n t.expr)
      go (Some a) t = wire_moved a
