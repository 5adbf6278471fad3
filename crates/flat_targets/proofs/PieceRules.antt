-- The rule of target concatenations: their parts as the text has them, and as they are resolved.
use Rattle.std.proofs.Common.{rules, ◌≡◌, true≢false, inl, inr, ℕ, zero, suc, ◌+◌, ◌^◌, ◌<◌, ◌≤◌, Bool, true, false, cond, not, ◌||◌, nat_lt, nat_le, List, [], ◌∷◌, ◌++◌, length, map, Option, Some, None, refl, sym, ap, ap₂, subst, ◌∙◌, arith, append_assoc}
use Rattle.std.specs.Prelude.{option_map, slice_get, Result, IfOk}
use Rattle.std.specs.Option.{option_map_or}
use Rattle.std.specs.List.{list_any}
use Rattle.std.proofs.lemmas.Bool.{and_parts as both_true}
use Rattle.std.proofs.lemmas.Option.{slice_get_cases}
use Rattle.std.proofs.lemmas.List.{map-append, length-map, append-nil}
use Rattle.std.proofs.lemmas.Result.{IfOk-weaker}
use Rattle.cdc_base.specs.declared.fault.Place.{Place}
use Rattle.verilog_ast.specs.declared.PartKind.{PartKind}
use Rattle.verilog_reading.specs.ExprTree.{ExprTree, ExprTrees, no_trees, and_trees, TargetTree, whole, index_of, part_of, join_of, TargetTrees, no_parts, and_parts}
use Rattle.flat_meaning.specs.Flat as m
use Rattle.flat_meaning.proofs.Words.{by_lt}
use Rattle.flat_form.specs.View.{targets_of}
use Rattle.flat_form.specs.Sizes.{is_word}
use Rattle.flat_form.proofs.Sized.{word_width}
use Rattle.flat_unfolding.specs.Outcome as o
use Rattle.flat_unfolding.specs.Outcome.{Text, Broken, breaks, breaks_if}
use Rattle.flat_unfolding.specs.Names as n
use Rattle.flat_unfolding.specs.Names.{Range, width_of, width_at, range_at, meaning}
use Rattle.flat_unfolding.specs.Expressions.{Term, Select, bit_select, may_index, word_of, is_sound, read}
use Rattle.flat_unfolding.specs.Constants.{own_value}
use Rattle.flat_unfolding.specs.Targets as t
use Rattle.flat_unfolding.specs.Targets.{Aim, Use, of_registers, as_target, as_targets, Goal, fixed, a_word, Piece, meets, meeting, pieces, pieces_in, piece_rules}
use Rattle.flat_unfolding.specs.Formed.{IsTargetFormed, AreTargetsFormed, AreSomeParts}
use Rattle.flat_names.specs.declared.scope.Look.{Look}
use Rattle.flat_names.specs.declared.design.Entry.{Entry}
use Rattle.flat_names.specs.Noting.{order_of, Noted, first_of, noted, all_noted}
use Rattle.flat_names.specs.Looks.{Seen, seen, shown, Shows, IsFit}
use Rattle.flat_names.proofs.Looked.{entry-is}
use Rattle.flat_targets.specs.Parts.{parts, parts_in, IsPart, width_among, AreWidths, shares, reads_from, is_met, first_met}
use Rattle.flat_targets.specs.Pieces.{part_names, part_names_in, first_noted}
use Rattle.flat_targets.specs.declared.target.Fixed.{Fixed}
use Rattle.flat_targets.specs.declared.target.Aim.TheVariants as a
use Rattle.flat_targets.specs.Aims.{IsAim, IsGoal, broken_in}
use Rattle.flat_names.proofs.Options.{some-same}
use Rattle.flat_targets.proofs.Aimed.{then-noted}
use Rattle.flat_targets.proofs.AimedParts.{are-both}
use Rattle.flat_targets.proofs.Shared.{alone}

abbrev name_of : Piece → Text
name_of p = p.name

abbrev target_in : Piece → m.Target
target_in p = p.target

-- ---- what is no concatenation of parts is one part

module _ (l : n.Look) (u : Use) (x : Text) where
  whole-part : (v : Option n.Meaning) → IsPart (t.meant_whole l u x v).target
  whole-part None = tt
  whole-part (Some (n.a_param p)) = tt
  whole-part (Some (n.a_signal s)) = tt
  whole-part (Some (n.a_memory a)) = tt
  whole-part (Some n.no_value) = tt

  select-part : (s : ℕ) (p : Option Select) → IsPart (t.select_aim l u x s p).target
  select-part s None = tt
  select-part s (Some p) = tt

  range-part : (kind : PartKind) (p : Option Range) (v : Option n.Meaning) → IsPart (t.meant_range l u x kind p v).target
  range-part kind None None = tt
  range-part kind None (Some (n.a_param q)) = tt
  range-part kind None (Some (n.a_signal s)) = tt
  range-part kind None (Some (n.a_memory a)) = tt
  range-part kind None (Some n.no_value) = tt
  range-part kind (Some p) None = tt
  range-part kind (Some p) (Some (n.a_param q)) = tt
  range-part kind (Some p) (Some (n.a_signal s)) = select-part s _
  range-part kind (Some p) (Some (n.a_memory a)) = tt
  range-part kind (Some p) (Some n.no_value) = tt

  abbrev IsPartGoal : Goal → Type 0
  IsPartGoal g = IsPart (t.as_fixed l u x g).target

  by-cond : (P : Goal → Type 0) (b : Bool) (g h : Goal) → P g → P h → P (cond b g h)
  by-cond P true g h p q = p
  by-cond P false g h p q = q

  word-part : (w : Option ℕ) → IsPart (t.word_aim l u x w).target
  word-part None = tt
  word-part (Some s) = tt

  by-aim : (b : Bool) (p q : Aim) → IsPart p.target → IsPart q.target → IsPart (cond b p q).target
  by-aim true p q h k = h
  by-aim false p q h k = k

  signal-part : (s : ℕ) (i : Term) → IsPart (t.signal_aim l u x s i).target
  signal-part s i = by-aim i.is_constant (t.select_aim l u x s (bit_select (range_at l.entries s) (own_value i.expr)))
      (record { target = m.Pick s i.expr; bits = Some 1; broken = breaks_if (not (may_index (range_at l.entries s) (m.size i.expr))) 315 x })
      (select-part s (bit_select (range_at l.entries s) (own_value i.expr))) tt

  goal-part : (i : Term) (v : Option n.Meaning) → IsPartGoal (t.meant_goal l u x i v)
  goal-part i None = tt
  goal-part i (Some (n.a_param p)) = tt
  goal-part i (Some (n.a_signal s)) = signal-part s i
  goal-part i (Some (n.a_memory a)) = let miss = t.nowhere (breaks 315 x) in
      by-cond IsPartGoal i.is_constant (fixed (t.word_aim l u x (word_of a (own_value i.expr)))) (cond (nat_le (2 ^ m.size i.expr) a.words) (a_word a i.expr []) (fixed miss))
      (word-part (word_of a (own_value i.expr))) (by-cond IsPartGoal (nat_le (2 ^ m.size i.expr) a.words) (a_word a i.expr []) (fixed miss) tt tt)
  goal-part i (Some n.no_value) = tt

  after-part : (bs : List Broken) (g : Goal) → IsPartGoal g → IsPartGoal (t.after l u bs g)
  after-part bs (fixed a) h = h
  after-part bs (a_word a e cs) h = tt

  index-part : (i : Term) → IsPart (t.as_fixed l u x (t.index_goal l u x i)).target
  index-part i = after-part (t.name_rules l u x ++ i.broken) (cond (is_sound i) (t.meant_goal l u x i (meaning l x)) (fixed (t.nowhere [])))
      (by-cond IsPartGoal (is_sound i) (t.meant_goal l u x i (meaning l x)) (fixed (t.nowhere [])) (goal-part i (meaning l x)) tt)

-- ---- pieces

module _ (l : n.Look) (u : Use) where
  mutual
    names-of : (tree : TargetTree) → map name_of (pieces l u tree) ≡ part_names tree
    names-of (whole x) = refl
    names-of (index_of x i) = refl
    names-of (part_of x kind y z) = refl
    names-of (join_of ts) = names-in ts

    pub names-in : (ts : TargetTrees) → map name_of (pieces_in l u ts) ≡ part_names_in ts
    names-in no_parts = refl
    names-in (and_parts tree rest) = map-append name_of (pieces l u tree) (pieces_in l u rest) ∙ ap₂ (λ xs ys. xs ++ ys) (names-of tree) (names-in rest)

  mutual
    targets-of : (tree : TargetTree) → IsTargetFormed tree → map target_in (pieces l u tree) ≡ parts (t.aim l u tree).target
    targets-of (whole x) h = sym (alone _ (whole-part l u x (meaning l x)))
    targets-of (index_of x i) h = sym (alone _ (index-part l u x (read l i)))
    targets-of (part_of x kind y z) h = sym (alone _ (range-part l u x kind _ (meaning l x)))
    targets-of (join_of no_parts) h = absurd h.0
    targets-of (join_of (and_parts tree rest)) h = targets-in (and_parts tree rest) h.1

    targets-in : (ts : TargetTrees) → AreTargetsFormed ts → map target_in (pieces_in l u ts) ≡ parts_in (targets_of (map (λ (a : Aim). a.target) (t.aims l u ts)))
    targets-in no_parts h = refl
    targets-in (and_parts tree rest) h = map-append target_in (pieces l u tree) (pieces_in l u rest) ∙ ap₂ (λ xs ys. xs ++ ys) (targets-of tree h.0) (targets-in rest h.1)

-- ---- the first that is met

any-map : {A B : Type 0} (p : B → Bool) (f : A → B) (xs : List A) → list_any (λ x. p (f x)) xs ≡ list_any p (map f xs)
any-map p f [] = refl
any-map p f (x ∷ xs) = ap (λ b. p (f x) || b) (any-map p f xs)

-- breaks of one rule behind another one of it
late : (order : o.Order) (k : Option Broken) (b c : Broken) → c.number ≡ b.number → first_of order (Some (first_of order k b)) c ≡ first_of order k b
late order None b c e = by_lt (λ z. cond z c b ≡ b) (order c.number) (order b.number) (λ l. absurd (let d = ap order e in omega arith)) (λ l. refl)
late order (Some a) b c e = by_lt (λ z. cond (nat_lt (order c.number) (order (cond z b a).number)) c (cond z b a) ≡ cond z b a) (order b.number) (order a.number)
    (λ l. by_lt (λ z. cond z c b ≡ b) (order c.number) (order b.number) (λ g. absurd (let d = ap order e in omega arith)) (λ g. refl))
    (λ l. by_lt (λ z. cond z c a ≡ a) (order c.number) (order a.number) (λ g. absurd (let d = ap order e in omega arith)) (λ g. refl))

same-rule : (f : Noted) (x : Text) (b : Bool) (y : Text) (cs : List Broken) → all_noted (all_noted f (breaks 313 x)) cs ≡ all_noted f (breaks 313 x)
    → all_noted (all_noted f (breaks 313 x)) (breaks_if b 313 y ++ cs) ≡ all_noted f (breaks 313 x)
same-rule f x false y cs h = h
same-rule f x true y cs h = ap (λ (k : Option Broken). all_noted (record { order = f.order; found = k }) cs) (ap Some (late (order_of f.order) f.found (record { number = 313; name = x; place = None }) (record { number = 313; name = y; place = None }) refl)) ∙ h

module _ (es : List n.Entry) (all : List Piece) where
  meets-is : (before : List Piece) (p : Piece) → meets es all before p ≡ is_met (width_at es) (length es) (map target_in all) (map target_in before) p.target
  meets-is before p = ap₂ (λ a b. a || b) (any-map (shares (width_at es) (length es) p.target) target_in before) (any-map (reads_from (width_at es) (length es) p.target) target_in all)

  rest-late : (f : Noted) (x : Text) (before rest : List Piece) → all_noted (all_noted f (breaks 313 x)) (meeting es all before rest) ≡ all_noted f (breaks 313 x)
  rest-late f x before [] = refl
  rest-late f x before (p ∷ rest) = same-rule f x (meets es all before p) p.name (meeting es all (before ++ p ∷ []) rest) (rest-late f x (before ++ p ∷ []) rest)

  at-end : (xs : List Text) (y : Text) (ys : List Text) → slice_get (xs ++ y ∷ ys) (length xs) ≡ Some y
  at-end [] y ys = refl
  at-end (x ∷ xs) y ys = at-end xs y ys

  pub first-noted : (f : Noted) (before rest : List Piece)
      → all_noted f (meeting es all before rest) ≡ first_noted f (map name_of (before ++ rest)) (first_met (width_at es) (length es) (map target_in all) (map target_in before) (map target_in rest))
  first-noted f before [] = refl
  first-noted f before (p ∷ rest) =
      ap (λ b. all_noted f (breaks_if b 313 p.name ++ meeting es all (before ++ p ∷ []) rest)) (meets-is before p)
      ∙ go (first-noted f (before ++ p ∷ []) rest) (is_met (width_at es) (length es) (map target_in all) (map target_in before) p.target)
    where
      place : slice_get (map name_of (before ++ p ∷ rest)) (length (map target_in before)) ≡ Some p.name
      place = ap₂ (λ xs k. slice_get xs k) (map-append name_of before (p ∷ rest)) (length-map before target_in ∙ sym (length-map before name_of)) ∙ at-end (map name_of before) p.name (map name_of rest)

      go : all_noted f (meeting es all (before ++ p ∷ []) rest)
          ≡ first_noted f (map name_of ((before ++ p ∷ []) ++ rest)) (first_met (width_at es) (length es) (map target_in all) (map target_in (before ++ p ∷ [])) (map target_in rest))
          → (b : Bool) → all_noted f (breaks_if b 313 p.name ++ meeting es all (before ++ p ∷ []) rest)
          ≡ first_noted f (map name_of (before ++ p ∷ rest)) (cond b (Some (length (map target_in before))) (first_met (width_at es) (length es) (map target_in all) (map target_in before ++ p.target ∷ []) (map target_in rest)))
      go later true = rest-late f p.name (before ++ p ∷ []) rest ∙ ap (λ q. option_map_or (λ x. all_noted f (breaks 313 x)) q f) (sym place)
      go later false = later
          ∙ ap₂ (λ ns ts. first_noted f ns (first_met (width_at es) (length es) (map target_in all) ts (map target_in rest))) (ap (map name_of) (append_assoc before (p ∷ []) rest)) (map-append target_in before (p ∷ []))

-- what a target concatenation breaks, by the first part of it that is met
pub rule-noted : (l : n.Look) (u : Use) (ts : TargetTrees) (f : Noted) → IsTargetFormed (join_of ts) → (target : m.Target) → target ≡ (t.aim l u (join_of ts)).target
    → first_noted f (part_names_in ts) (first_met (width_at l.entries) (length l.entries) (parts target) [] (parts target)) ≡ all_noted f (piece_rules l u (join_of ts))
rule-noted l u ts f h target e =
    ap₂ (λ ns ps. first_noted f ns (first_met (width_at l.entries) (length l.entries) ps [] ps)) (sym (names-in l u ts)) (ap parts e ∙ sym (targets-of l u (join_of ts) h))
    ∙ sym (first-noted l.entries (pieces_in l u ts) f [] (pieces_in l u ts))

-- ---- widths

width-same : (x : Option Entry) (y : Option n.Entry) → option_map seen x ≡ option_map shown y → option_map_or (λ (e : Entry). e.width) x 0 ≡ option_map_or (λ (e : n.Entry). width_of e.range) y 0
width-same x y e = over seen x ∙ ap (λ o. option_map_or (λ (z : Seen). z.width) o 0) e ∙ sym (over shown y)
  where
    over : {A : Type 0} (g : A → Seen) (o : Option A) → option_map_or (λ a. (g a).width) o 0 ≡ option_map_or (λ (z : Seen). z.width) (option_map g o) 0
    over g None = refl
    over g (Some a) = refl

pub widths-same : (k : Look) (l : n.Look) → Shows k l → width_among k.entries.now ≡ width_at l.entries
widths-same k l h = λ j s. width-same (slice_get k.entries.now s) (slice_get l.entries s) (entry-is k l h s) j

pub are-widths : (l : n.Look) → IsFit l → AreWidths (width_at l.entries) (length l.entries)
are-widths l h = record { words = λ s. small s (slice_get l.entries s) refl; none = λ s g. beyond s g (slice_get l.entries s) refl }
  where
    small : (s : ℕ) (e : Option n.Entry) → slice_get l.entries s ≡ e → option_map_or (λ (e : n.Entry). width_of e.range) e 0 ≤ 64
    small s None d = omega arith
    small s (Some e) d = (word_width (width_of e.range) (h.entries s e d)).most

    beyond : (s : ℕ) → length l.entries ≤ s → (e : Option n.Entry) → slice_get l.entries s ≡ e → option_map_or (λ (e : n.Entry). width_of e.range) e 0 ≡ 0
    beyond s g None d = refl
    beyond s g (Some e) d = elim (slice_get_cases l.entries s).1 [ inl c ↦ absurd (let z = c.1 in omega arith) | inr c ↦ absurd (search (rules, sym d, c)) ]

pub met-in : (k : Look) (l : n.Look) → Shows k l → IsFit l → (o : Option ℕ) (ps : List m.Target) → ((n : ℕ) → AreWidths (width_among k.entries.now) n → o ≡ first_met (width_among k.entries.now) n ps [] ps)
    → o ≡ first_met (width_at l.entries) (length l.entries) ps [] ps
met-in k l h fit o ps f = f (length l.entries) (subst (λ (wid : ℕ → ℕ). AreWidths wid (length l.entries)) (sym (widths-same k l h)) (are-widths l fit))
    ∙ ap (λ (wid : ℕ → ℕ). first_met wid (length l.entries) ps [] ps) (widths-same k l h)

-- ---- targets with this rule

module _ (l : n.Look) (u : Use) (tree : TargetTree) (fixed_ : Fixed) where
  pub with-pieces : (f f1 f2 : Noted) → IsAim (t.aim l u tree) fixed_ × (f1 ≡ all_noted f (t.aim l u tree).broken) → f2 ≡ all_noted f1 (piece_rules l u tree)
      → IsAim (t.with_piece_rules l u tree) fixed_ × (f2 ≡ all_noted f (t.with_piece_rules l u tree).broken)
  with-pieces f f1 f2 h e =
      (record { sound = h.0.sound; width = h.0.width; target = h.0.target; sized = h.0.sized }, then-noted f f1 f2 (t.aim l u tree).broken (piece_rules l u tree) h.1 e)

abbrev pub is_index : TargetTree → Bool
is_index (whole x) = false
is_index (index_of x i) = true
is_index (part_of x kind y z) = false
is_index (join_of ts) = false

pub process-goal : (l : n.Look) (tree : TargetTree) → is_index tree ≡ false → (r : Fixed) (f g : Noted) → IsAim (t.with_piece_rules l of_registers tree) r × (g ≡ all_noted f (t.with_piece_rules l of_registers tree).broken)
    → IsGoal (t.goal l tree) (a.Fixed r) × (g ≡ all_noted f (broken_in (t.goal l tree)))
process-goal l (whole x) e r f g h = h
process-goal l (index_of x i) e r f g h = absurd (true≢false e)
process-goal l (part_of x kind y z) e r f g h = h
process-goal l (join_of ts) e r f g h = h

-- ---- names in an expression that is taken as a target

pub record NamesLeft (all rest : ExprTrees) (ts : TargetTrees) (old now : List Text) : Type 0 where
  pub left : TargetTrees
  pub reads : as_targets rest ≡ Some left
  pub names : old ++ part_names_in ts ≡ now ++ part_names_in left

pub names-more : (all : ExprTrees) (x : ExprTree) (rest : ExprTrees) (ts : TargetTrees) (old now next : List Text) → NamesLeft all (and_trees x rest) ts old now
    → ((v : TargetTree) → as_target x ≡ Some v → next ≡ now ++ part_names v) → NamesLeft all rest ts old next
names-more all x rest ts old now next h f =
    let two = are-both and_parts (as_target x) (as_targets rest) h.left h.reads in
    record {
      left = two.right;
      reads = two.right_is;
      names = h.names ∙ ap (λ z. now ++ part_names_in z) (sym two.is) ∙ sym (append_assoc now (part_names two.left) (part_names_in two.right)) ∙ ap (λ z. z ++ part_names_in two.right) (sym (f two.left two.left_is));
    }

pub names-end : (all : ExprTrees) (ts : TargetTrees) (old now : List Text) → NamesLeft all no_trees ts old now → now ≡ old ++ part_names_in ts
names-end all ts old now h = sym (h.names ∙ ap (λ z. now ++ part_names_in z) (sym (some-same no_parts h.left h.reads)) ∙ append-nil now)

-- ---- what is noted by names

pub names-noted : (l : n.Look) (u : Use) (ts : TargetTrees) (tree : TargetTree) → tree ≡ join_of ts → (f g : Noted) → IsTargetFormed tree → (target : m.Target) → target ≡ (t.aim l u tree).target
    → (names : List Text) → names ≡ part_names_in ts → g ≡ first_noted f names (first_met (width_at l.entries) (length l.entries) (parts target) [] (parts target)) → g ≡ all_noted f (piece_rules l u tree)
names-noted l u ts tree e f g formed target is names named told =
    told ∙ ap (λ ns. first_noted f ns (first_met (width_at l.entries) (length l.entries) (parts target) [] (parts target))) named
    ∙ rule-noted l u ts f (subst IsTargetFormed e formed) target (is ∙ ap (λ z. (t.aim l u z).target) e) ∙ ap (λ z. all_noted f (piece_rules l u z)) (sym e)
