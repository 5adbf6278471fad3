-- Parameters and declarations of an instance are those of its module, moved.
use Rattle.std.proofs.Common.{◌≡◌, ℕ, zero, suc, ◌+◌, ◌-◌, ◌^◌, ◌≤◌, ◌==◌, nat_lt, nat_le, Bool, true, false, cond, not, ◌&&◌, ◌||◌, List, [], ◌∷◌, ◌++◌, length, map, Option, Some, None, refl, sym, ap, ap₂, subst, ◌∙◌, arith, append_assoc, bytes_eq, max, ltb-true, ltb-false}
use Rattle.std.specs.Prelude.{slice_get, is_some, is_none, option_map, filter}
use Rattle.std.specs.Option.{option_map_or}
use Rattle.std.proofs.lemmas.List.{map_push, map-append}
use Rattle.std.proofs.lemmas.List.Elements.{All-cons, All-head, All-nil, All-tail, All-append}
use mathlib.Core.Path.{fun_ext}
use Rattle.cdc_base.specs.declared.fault.Place.{Place}
use Rattle.cdc_base.specs.declared.signal.ResetPin.{ResetPin}
use Rattle.cdc_base.specs.Words.{found_in}
use Rattle.verilog_ast.specs.declared.DeclKind.{DeclKind}
use Rattle.verilog_reading.specs.SourceTree.{Bounds, ParamTree, DeclTree, ModuleTree}
use Rattle.cell_graph.specs.Tree.{number as number_of_bits}
use Rattle.flat_meaning.specs.Flat.{Expr, size}
use Rattle.flat_meaning.specs.Full.{nothing}
use Rattle.flat_meaning.specs.Meaning.{value}
use Rattle.flat_unfolding.specs.Outcome.{Text, Broken, breaks_if, Outcome, good, then_, each, refused_if, judged}
use Rattle.flat_unfolding.specs.Names.{Range, span, Param, Meaning, a_param, a_signal, a_memory, no_value, Names, is_declared, Entry, Look, meaning, printed_part}
use Rattle.flat_unfolding.specs.Constants.{own_value, assigned_value}
use Rattle.flat_unfolding.specs.Expressions.{Term, is_empty, as_constant, as_bound, range_of, read}
use Rattle.flat_unfolding.specs.Memories.{words_of, word_names, taken}
use Rattle.flat_unfolding.specs.Parameters.{Ranged, is_wide, bounds_read, range_read, Override, Overrides, held, parameter_order, Valued, value_of, sign_rule, override_of, parameter, params_of, parameters}
use Rattle.flat_unfolding.specs.Declarations.{direction_of, is_inner, may_be_again, is_plain_port, same_range, declaration_order, Site, if_open, again, breaks_form, range_rule, Words, count_rules, array_read, declaration_rules, entry, added, taken_names, add_signal, add_memory, declared_again, add_declared, declaration, header_of, header_decls, item_decls, sites, header_twice, has_direction, directed, declarations}
use Rattle.flat_unfolding.specs.Design.{Design, Stage, look_of, with_design, change_entry, change_from}
use Rattle.flat_unfolding.specs.Unfolding.{declared_reset, with_resets}
use Rattle.flat_unfolding.proofs.Steps.{good_then, not_refused}
use Rattle.flat_unfolding.proofs.Entries.{from_keeps}
use Rattle.instance_laws.specs.Moved.{moved_expr, moved_meaning, moved_name, moved_names, moved_entry}
use Rattle.instance_laws.proofs.Looks.{moved_if, declared_moved, is_counted_moved, signed_moved, behind, range_moved, told_moved}
use Rattle.instance_laws.proofs.Terms.{ap₃, size_moved, value_moved, moved_term, bound_moved, range_of_moved, read_moved, known}
use Rattle.instance_laws.proofs.Bits.{length_moved}
use Rattle.instance_laws.proofs.Follows.{over, Follows, good_follows, same_follows, then_follows, bind_follows, each_follows}
use Rattle.instance_laws.proofs.Unreset.{same_both}
use Rattle.instance_laws.proofs.Processes.{IsUnreset, AreUnreset}

-- ---- expressions of the same size and value as constants

pub record Alike (e f : Expr) : Type 0 where
  pub size_same : size e ≡ size f
  pub value_same : (w : ℕ) → value nothing e w ≡ value nothing f w

abbrev pub KeepsValues : (Expr → Expr) → Type 0
KeepsValues f = (e : Expr) → Alike (f e) e

pub alike_itself : (e : Expr) → Alike e e
alike_itself e = record { size_same = refl; value_same = λ w. refl }

pub moved_alike : (k : ℕ) (e : Expr) → Alike (moved_expr k e) e
moved_alike k e = record { size_same = size_moved k e; value_same = value_moved k e }

assigned_alike : (e f : Expr) → Alike e f → (v w : ℕ) → v ≡ w → assigned_value e v ≡ assigned_value f w
assigned_alike e f h v w i =
    ap₂ (λ n m. number_of_bits (value nothing e (max n m)) n) i h.size_same ∙ ap (λ g. number_of_bits g w) (h.value_same (max w (size f)))

own_alike : (e f : Expr) → Alike e f → own_value e ≡ own_value f
own_alike e f h = ap (λ n. number_of_bits (value nothing e n) n) h.size_same ∙ ap (λ g. number_of_bits g (size f)) (h.value_same (size f))

held_alike : (r : Option Range) (e f : Expr) → Alike e f → (counted signed : Bool) → held r e counted signed ≡ held r f counted signed
held_alike None e f h counted signed = ap₂ valued (assigned_alike e f h (size e) (size f) h.size_same) h.size_same
  where
    valued : ℕ → ℕ → Param
    valued v w = record { value = v; width = w; is_counted = counted; is_signed = signed; range = None }
held_alike (Some r) e f h counted signed = ap valued (assigned_alike e f h (span r) (span r) refl)
  where
    valued : ℕ → Param
    valued v = record { value = v; width = span r; is_counted = false; is_signed = false; range = Some r }

-- ---- overrides after a change of their values

abbrev pub give : (Expr → Expr) → Override → Override
give f o = record { value = f o.value; is_counted = o.is_counted; is_signed = o.is_signed }

abbrev pub given : (Expr → Expr) → Overrides → Overrides
given f overrides = map (λ (p : Text × Override). (p.0, give f p.1)) overrides

given_found : (f : Expr → Expr) (overrides : Overrides) (x : Text) → found_in (given f overrides) x ≡ option_map (give f) (found_in overrides x)
given_found f [] x = refl
given_found f (p ∷ overrides) x = go (bytes_eq p.0 x) (given_found f overrides x)
  where
    go : (c : Bool) → found_in (given f overrides) x ≡ option_map (give f) (found_in overrides x)
        → cond c (Some (give f p.1)) (found_in (given f overrides) x) ≡ option_map (give f) (cond c (Some p.1) (found_in overrides x))
    go true e = refl
    go false e = e

given_of : (f : Expr → Expr) (overrides : Overrides) (p : ParamTree) → override_of (given f overrides) p ≡ option_map (give f) (override_of overrides p)
given_of f overrides p = ap (cond p.local None) (given_found f overrides p.name) ∙ go p.local
  where
    go : (c : Bool) → cond c None (option_map (give f) (found_in overrides p.name)) ≡ option_map (give f) (cond c None (found_in overrides p.name))
    go true = refl
    go false = refl

-- ---- steps over what is changed before

map_twice : {A B C : Type 0} (f : B → C) (g : A → B) (xs : List A) → map f (map g xs) ≡ map (λ x. f (g x)) xs
map_twice f g [] = refl
map_twice f g (x ∷ xs) = ap (λ ys. f (g x) ∷ ys) (map_twice f g xs)

each_mapped : {A B S : Type 0} (f : S → B → Outcome S) (g : A → B) (s : S) (xs : List A) → each f s (map g xs) ≡ each (λ t x. f t (g x)) s xs
each_mapped f g s [] = refl
each_mapped f g s (x ∷ xs) = ap (then_ (f s (g x))) (fun_ext (λ t. each_mapped f g t xs))

-- ---- changes of one entry

-- a change that a printed name has nothing to do with
abbrev pub Commutes : Text → (Entry → Entry) → Type 0
Commutes prefix f = (e : Entry) → f (moved_entry prefix e) ≡ moved_entry prefix (f e)

pub change_moved : (prefix : Text) (f : Entry → Entry) → Commutes prefix f → (base es : List Entry) (s : ℕ)
    → change_entry f (length base + s) (behind prefix base es) ≡ behind prefix base (change_entry f s es)
change_moved prefix f h [] es s = ap (λ n. change_entry f n (map (moved_entry prefix) es)) (let z : 0 + s ≡ s = omega arith in z) ∙ go es s
  where
    go : (es : List Entry) (s : ℕ) → change_entry f s (map (moved_entry prefix) es) ≡ map (moved_entry prefix) (change_entry f s es)
    go [] s = refl
    go (e ∷ es) zero = ap (λ x. x ∷ map (moved_entry prefix) es) (h e)
    go (e ∷ es) (suc s) = ap (λ xs. moved_entry prefix e ∷ xs) (go es s)
change_moved prefix f h (b ∷ base) es s =
    ap (λ n. change_entry f n (b ∷ behind prefix base es)) (let z : length (b ∷ base) + s ≡ suc (length base + s) = omega arith in z)
    ∙ ap (λ xs. b ∷ xs) (change_moved prefix f h base es s)

from_moved : (prefix : Text) (f : Entry → Entry) → Commutes prefix f → (base : List Entry) (s more : ℕ) (es : List Entry)
    → change_from f (length base + s) more (behind prefix base es) ≡ behind prefix base (change_from f s more es)
from_moved prefix f h base s zero es = refl
from_moved prefix f h base s (suc more) es =
    ap₂ (λ n xs. change_from f n more xs) (let z : suc (length base + s) ≡ length base + suc s = omega arith in z) (change_moved prefix f h base es s)
    ∙ from_moved prefix f h base (suc s) more (change_entry f s es)

pub unreset_change : (f : Entry → Entry) → ((e : Entry) → e.reset ≡ None → (f e).reset ≡ None) → (s : ℕ) (es : List Entry) → AreUnreset es → AreUnreset (change_entry f s es)
unreset_change f h s [] p = p
unreset_change f h zero (e ∷ es) p = All-cons IsUnreset (f e) es (h e (All-head IsUnreset e es p)) (All-tail IsUnreset e es p)
unreset_change f h (suc s) (e ∷ es) p = All-cons IsUnreset e (change_entry f s es) (All-head IsUnreset e es p) (unreset_change f h s es (All-tail IsUnreset e es p))

-- a module without declared resets
pub record IsPlain (s : Stage) : Type 0 where
  pub pins : s.design.pins ≡ []
  pub unreset : AreUnreset s.design.entries

module _ (prefix : Text) (b : Design) where
  abbrev k : ℕ
  k = length b.entries

  abbrev above : Stage → Stage
  above s = over prefix b s

  abbrev Next : Outcome Stage → Stage → Type 0
  Next o t = Follows prefix b IsPlain o t

  abbrev there : Stage → Look
  there s = look_of (above s)

  -- ---- ranges

  abbrev bounded : Term → Term → Ranged
  bounded l r = record { range = range_of l r; broken = l.broken ++ r.broken }

  bounds_moved : (s : Stage) (x : Bounds) → bounds_read (there s) x ≡ bounds_read (look_of s) x
  bounds_moved s x =
      ap₂ bounded (ap as_bound (read_moved prefix b.entries (look_of s) x.left) ∙ bound_moved k (read (look_of s) x.left))
      (ap as_bound (read_moved prefix b.entries (look_of s) x.right) ∙ bound_moved k (read (look_of s) x.right))
      ∙ go (as_bound (read (look_of s) x.left)) (as_bound (read (look_of s) x.right))
    where
      go : (l r : Term) → bounded (moved_term k l) (moved_term k r) ≡ bounded l r
      go l r = ap ranged (range_of_moved k l r)
        where
          ranged : Option Range → Ranged
          ranged o = record { range = o; broken = l.broken ++ r.broken }

  range_read_moved : (s : Stage) (x : Text) (o : Option Bounds) → range_read (there s) x o ≡ range_read (look_of s) x o
  range_read_moved s x None = refl
  range_read_moved s x (Some r) = ap (λ (a : Ranged). record a { broken = a.broken ++ breaks_if (is_wide a.range) 308 x }) (bounds_moved s r)

  -- ---- parameters

  module _ (f : Expr → Expr) (keeps : KeepsValues f) where
    abbrev valued : Expr → Valued → Valued
    valued e v = record { value = e; is_counted = v.is_counted; is_signed = v.is_signed; broken = v.broken }

    value_of_moved : (s : Stage) (p : ParamTree) (o : Option Override)
        → (e : Expr) × (value_of (there s) p (option_map (give f) o) ≡ valued e (value_of (look_of s) p o)) × Alike e (value_of (look_of s) p o).value
    value_of_moved s p (Some o) = (f o.value, refl, keeps o.value)
    value_of_moved s p None =
        let own = look_of s in let v = as_constant (read own p.value) in (
          moved_expr k v.expr,
          ap₃ constant_of (read_moved prefix b.entries own p.value) (is_counted_moved k own.names p.value) (signed_moved k own.names p.value),
          moved_alike k v.expr,
        )
      where
        constant_of : Term → Bool → Bool → Valued
        constant_of t c g = let v = as_constant t in record { value = v.expr; is_counted = c; is_signed = g; broken = v.broken }

    sign_moved : (r : Option Bounds) (e : Expr) (v : Valued) → Alike e v.value → sign_rule r (valued e v) ≡ sign_rule r v
    sign_moved r e v h = ap (λ n. breaks_if (is_none r && v.is_signed && is_empty v.broken && nat_le (2 ^ 31) n) 307 []) (own_alike e v.value h)

    abbrev param_rules : Bool → ParamTree → Ranged → Valued → List Broken
    param_rules d p r v = breaks_if d 304 p.name ++ r.broken ++ v.broken ++ sign_rule p.range v

    abbrev with_name : Stage → Text → Meaning → Stage
    with_name s x m = record s { names = s.names ++ ((x, m) ∷ []) }

    name_over : (s : Stage) (x : Text) (m : Meaning) → with_name (above s) x (moved_meaning k m) ≡ above (with_name s x m)
    name_over s x m = ap (λ ns. record (above s) { names = ns }) (sym (map_push (moved_name k) s.names (x, m)))

    parameter_follows : (overrides : Overrides) (s : Stage) (q : Place × ParamTree) (t : Stage) → IsPlain s → parameter (given f overrides) (above s) q ≡ good t
        → Next (parameter overrides s q) t
    parameter_follows overrides s q t h =
        let p = q.1 in let own = look_of s in let o = override_of overrides p in
        let r = range_read own p.name p.range in let v = value_of own p o in let w = value_of_moved s p o in
        let value_same = ap (value_of (there s) p) (given_of f overrides p) ∙ w.1 in
        let range_same = range_read_moved s p.name p.range in
        same_follows prefix b IsPlain parameter_order q.0 _ _ (with_name s p.name (a_param (held r.range v.value v.is_counted v.is_signed))) _ t
        (ap₃ (λ d x y. param_rules d p x y) (declared_moved k s.names p.name) range_same value_same
        ∙ ap (λ bs. breaks_if (is_declared s.names p.name) 304 p.name ++ r.broken ++ v.broken ++ bs) (sign_moved p.range w.0 v w.2))
        (ap₂ (λ (x : Ranged) (y : Valued). with_name (above s) p.name (a_param (held x.range y.value y.is_counted y.is_signed))) range_same value_same
        ∙ ap (λ m. with_name (above s) p.name (a_param m)) (held_alike r.range w.0 v.value w.2 v.is_counted v.is_signed)
        ∙ name_over s p.name (a_param (held r.range v.value v.is_counted v.is_signed)))
        (record { pins = h.pins; unreset = h.unreset })

    pub parameters_follow : (overrides : Overrides) (m : ModuleTree) (s t : Stage) → IsPlain s → parameters (given f overrides) m (above s) ≡ good t
        → Next (parameters overrides m s) t
    parameters_follow overrides m s t h =
        each_follows prefix b IsPlain (parameter (given f overrides)) (parameter overrides) (λ s q t. parameter_follows overrides s q t) s (params_of m) t h

  -- ---- the rules of a declaration

  abbrev moved_site : Site → Site
  moved_site at = record { prefix = prefix ++ at.prefix; header = at.header; in_header = at.in_header; place = at.place }

  again_moved : (s : Stage) (d : DeclTree) → again (there s) d ≡ option_map (λ n. k + n) (again (look_of s) d)
  again_moved s d =
      ap (λ o. cond inside (if_open d.kind (there s).entries o) None) (known prefix b.entries (look_of s) d.name)
      ∙ ap (λ o. cond inside o None) (opened (meaning (look_of s) d.name)) ∙ go inside (if_open d.kind s.design.entries (meaning (look_of s) d.name))
    where
      inside : Bool
      inside = is_inner (direction_of d.kind) && is_none d.array

      chosen : (c : Bool) (n : ℕ) → cond c (Some (k + n)) None ≡ option_map (λ n. k + n) (cond c (Some n) None)
      chosen true n = refl
      chosen false n = refl

      opened : (o : Option Meaning) → if_open d.kind (there s).entries (moved_if k o) ≡ option_map (λ n. k + n) (if_open d.kind s.design.entries o)
      opened None = refl
      opened (Some (a_param p)) = refl
      opened (Some (a_signal n)) =
          ap (λ c. cond c (Some (k + n)) None) (told_moved prefix b.entries s.design.entries n (may_be_again d.kind) false (λ e. refl))
          ∙ chosen (option_map_or (may_be_again d.kind) (slice_get s.design.entries n) false) n
      opened (Some (a_memory m)) = refl
      opened (Some no_value) = refl

      go : (c : Bool) (o : Option ℕ) → cond c (option_map (λ n. k + n) o) None ≡ option_map (λ n. k + n) (cond c o None)
      go true o = refl
      go false o = refl

  range_rule_moved : (s : Stage) (d : DeclTree) (r : Option Range) (o : Option ℕ) → range_rule (there s) d r (option_map (λ n. k + n) o) ≡ range_rule (look_of s) d r o
  range_rule_moved s d r None = refl
  range_rule_moved s d r (Some n) = ap (λ q. breaks_if (not (same_range q r) || (is_some d.range && is_none r)) 306 d.name) (range_moved prefix b.entries s.design.entries n)

  taken_moved : (names : Names) (xs : List Text) → taken (moved_names k names) xs ≡ taken names xs
  taken_moved names [] = refl
  taken_moved names (x ∷ xs) = ap₂ (λ c bs. breaks_if c 304 x ++ bs) (declared_moved k names x) (taken_moved names xs)

  count_rules_moved : (s : Stage) (d : DeclTree) (n : Option ℕ) → count_rules (there s) d n ≡ count_rules (look_of s) d n
  count_rules_moved s d None = refl
  count_rules_moved s d (Some n) = taken_moved s.names (word_names d.name 0 n)

  array_moved : (s : Stage) (d : DeclTree) (o : Option Bounds) → array_read (there s) d o ≡ array_read (look_of s) d o
  array_moved s d None = refl
  array_moved s d (Some x) =
      ap (counted_words (there s)) (bounds_moved s x) ∙ ap (words_with (bounds_read (look_of s) x)) (count_rules_moved s d (words_of d.kind (bounds_read (look_of s) x).range))
    where
      words_with : Ranged → List Broken → Words
      words_with a bs = record { count = words_of d.kind a.range; broken = filter (λ (y : Broken). y.number == 305) a.broken ++ bs }

      counted_words : Look → Ranged → Words
      counted_words look a = words_with a (count_rules look d (words_of d.kind a.range))

  rules_moved : (s : Stage) (at : Site) (d : DeclTree) → declaration_rules (there s) (moved_site at) d ≡ declaration_rules (look_of s) at d
  rules_moved s at d =
      ap₂ (λ o c. rules_with (there s) o c (range_read (there s) d.name d.range) (array_read (there s) d d.array)) (again_moved s d) (declared_moved k s.names d.name)
      ∙ ap₂ (λ r a. rules_with (there s) (option_map (λ n. k + n) (again (look_of s) d)) (is_declared s.names d.name) r a) (range_read_moved s d.name d.range)
      (array_moved s d d.array)
      ∙ ap₂ (λ c bs. breaks_if (c && is_declared s.names d.name) 304 d.name ++ breaks_if (breaks_form at d) 306 d.name ++ (range_read (look_of s) d.name d.range).broken ++ bs
      ++ (array_read (look_of s) d d.array).broken)
      (none_moved (again (look_of s) d)) (range_rule_moved s d (range_read (look_of s) d.name d.range).range (again (look_of s) d))
    where
      rules_with : Look → Option ℕ → Bool → Ranged → Words → List Broken
      rules_with look o c r a = breaks_if (is_none o && c) 304 d.name ++ breaks_if (breaks_form at d) 306 d.name ++ r.broken ++ range_rule look d r.range o ++ a.broken

      none_moved : (o : Option ℕ) → is_none (option_map (λ n. k + n) o) ≡ is_none o
      none_moved None = refl
      none_moved (Some n) = refl

  -- ---- what a declaration adds

  unreset_added : (s : Stage) (fs : List Entry) (names : Names) → IsPlain s → AreUnreset fs
      → IsPlain (record { names = s.names ++ names; design = record s.design { entries = s.design.entries ++ fs } })
  unreset_added s fs names h p = record { pins = h.pins; unreset = All-append IsUnreset s.design.entries fs h.unreset p }

  added_follows : (s : Stage) (fs gs : List Entry) (names more : Names) (t : Stage) → IsPlain s → AreUnreset fs → gs ≡ map (moved_entry prefix) fs → more ≡ moved_names k names
      → added (above s) gs more ≡ good t → Next (added s fs names) t
  added_follows s fs gs names more t h p i j e =
      let es = s.design.entries in
      let g = good_then (refused_if (nat_lt 1048576 (length (above s).design.entries + length gs)) 601 None []) _ t e in
      let l = ltb-false 1048576 (length (above s).design.entries + length gs) (not_refused _ 601 None [] g.0 g.1) in
      let lm = length_moved prefix b.entries es in
      let lf = ap length i ∙ mapped fs in
      let next : Stage = record { names = s.names ++ names; design = record s.design { entries = es ++ fs } } in
      let none = few (length es + length fs) (let m : length es + length fs ≤ 1048576 = omega (arith, l, lm, lf) in m) in
      let r = good_follows prefix b IsPlain next t (unreset_added s fs names h p) (ap good (sym (stage_same es fs gs i names more j)) ∙ g.2) in
      record {
        own = r.own;
        is = ap (λ c. then_ (refused_if c 601 None []) (λ u. good next)) none ∙ r.is;
        over_it = r.over_it;
        holds = r.holds;
      }
    where
      mapped : (fs : List Entry) → length (map (moved_entry prefix) fs) ≡ length fs
      mapped [] = refl
      mapped (f ∷ fs) = ap suc (mapped fs)

      few : (n : ℕ) → n ≤ 1048576 → nat_lt 1048576 n ≡ false
      few n l = go (nat_lt 1048576 n) refl
        where
          go : (c : Bool) → nat_lt 1048576 n ≡ c → c ≡ false
          go true e = let m = ltb-true 1048576 n e in absurd (omega (arith, l, m))
          go false e = refl

      with_both : Names → List Entry → Stage
      with_both ns es = record { names = ns; design = record (above s).design { entries = es } }

      stage_same : (es fs gs : List Entry) → gs ≡ map (moved_entry prefix) fs → (names more : Names) → more ≡ moved_names k names
          → with_both (moved_names k s.names ++ more) (behind prefix b.entries es ++ gs) ≡ with_both (moved_names k (s.names ++ names)) (behind prefix b.entries (es ++ fs))
      stage_same es fs gs i names more j =
          ap₂ with_both (ap (λ ns. moved_names k s.names ++ ns) j ∙ sym (map-append (moved_name k) s.names names))
          (ap (λ xs. behind prefix b.entries es ++ xs) i ∙ append_assoc b.entries (map (moved_entry prefix) es) (map (moved_entry prefix) fs)
          ∙ ap (λ xs. b.entries ++ xs) (sym (map-append (moved_entry prefix) es fs)))

  entry_moved : (at : Site) (kind : DeclKind) (r : Option Range) (is_open : Bool) (x : Text)
      → entry (moved_site at) kind r is_open x ≡ moved_entry prefix (entry at kind r is_open x)
  entry_moved at kind r is_open x = ap (λ p. record (entry at kind r is_open x) { printed = p }) (append_assoc prefix at.prefix (printed_part x))

  entries_moved : (at : Site) (kind : DeclKind) (r : Option Range) (xs : List Text)
      → map (entry (moved_site at) kind r false) xs ≡ map (moved_entry prefix) (map (entry at kind r false) xs)
  entries_moved at kind r [] = refl
  entries_moved at kind r (x ∷ xs) = ap₂ (λ e es. e ∷ es) (entry_moved at kind r false x) (entries_moved at kind r xs)

  words_unreset : (at : Site) (kind : DeclKind) (r : Option Range) (xs : List Text) → AreUnreset (map (entry at kind r false) xs)
  words_unreset at kind r [] = All-nil IsUnreset
  words_unreset at kind r (x ∷ xs) = All-cons IsUnreset (entry at kind r false x) (map (entry at kind r false) xs) refl (words_unreset at kind r xs)

  taken_names_moved : (xs : List Text) → taken_names xs ≡ moved_names k (taken_names xs)
  taken_names_moved [] = refl
  taken_names_moved (x ∷ xs) = ap (λ ns. (x, no_value) ∷ ns) (taken_names_moved xs)

  signal_follows : (s : Stage) (at : Site) (d : DeclTree) (r : Option Range) (t : Stage) → IsPlain s → add_signal (above s) (moved_site at) d r ≡ good t
      → Next (add_signal s at d r) t
  signal_follows s at d r t h =
      let f = entry at d.kind r (is_plain_port d.kind && not at.in_header) d.name in
      added_follows s (f ∷ []) _ ((d.name, a_signal (length s.design.entries)) ∷ []) _ t h (All-cons IsUnreset f [] refl (All-nil IsUnreset))
      (ap (λ e. e ∷ []) (entry_moved at d.kind r (is_plain_port d.kind && not at.in_header) d.name))
      (ap (λ n. (d.name, a_signal n) ∷ []) (length_moved prefix b.entries s.design.entries))

  memory_follows : (s : Stage) (at : Site) (d : DeclTree) (r : Option Range) (n : ℕ) (t : Stage) → IsPlain s → add_memory (above s) (moved_site at) d r n ≡ good t
      → Next (add_memory s at d r n) t
  memory_follows s at d r n t h =
      let xs = word_names d.name 0 n in let m : Meaning = a_memory (record { first = length s.design.entries; words = n }) in
      added_follows s (map (entry at d.kind r false) xs) _ (taken_names xs ++ ((d.name, m) ∷ [])) _ t h (words_unreset at d.kind r xs) (entries_moved at d.kind r xs)
      (ap₂ (λ ns i. ns ++ ((d.name, memory_at i) ∷ [])) (taken_names_moved xs) (length_moved prefix b.entries s.design.entries)
      ∙ sym (map_push (moved_name k) (taken_names xs) (d.name, m)))
    where
      memory_at : ℕ → Meaning
      memory_at i = a_memory (record { first = i; words = n })

  change_over : (f : Entry → Entry) → Commutes prefix f → (s : Stage) (n : ℕ)
      → with_design (above s) (record (above s).design { entries = change_entry f (k + n) (above s).design.entries })
      ≡ above (with_design s (record s.design { entries = change_entry f n s.design.entries }))
  change_over f h s n = ap (λ es. with_design (above s) (record (above s).design { entries = es })) (change_moved prefix f h b.entries s.design.entries n)

  adds_follow : (s : Stage) (at : Site) (d : DeclTree) (r : Option Range) (o n : Option ℕ) (t : Stage) → IsPlain s
      → add_declared (above s) (moved_site at) d r (option_map (λ n. k + n) o) n ≡ good t → Next (add_declared s at d r o n) t
  adds_follow s at d r (Some i) n t h e =
      let f = declared_again d.kind in
      good_follows prefix b IsPlain (with_design s (record s.design { entries = change_entry f i s.design.entries })) t
      (record { pins = h.pins; unreset = unreset_change f (λ e p. p) i s.design.entries h.unreset })
      (ap good (sym (change_over f (λ e. refl) s i)) ∙ e)
  adds_follow s at d r None (Some n) t h e = memory_follows s at d r n t h e
  adds_follow s at d r None None t h e = signal_follows s at d r t h e

  declaration_follows : (s : Stage) (q : Site × DeclTree) (t : Stage) → IsPlain s → declaration (above s) (moved_site q.0, q.1) ≡ good t → Next (declaration s q) t
  declaration_follows s q t h e =
      let at = q.0 in let d = q.1 in let own = look_of s in
      subst (λ bs. Next (then_ (judged declaration_order at.place bs (tt {0}))
      (λ u. add_declared s at d (range_read own d.name d.range).range (again own d) (array_read own d d.array).count)) t) (rules_moved s at d)
      (then_follows prefix b IsPlain (judged declaration_order at.place (declaration_rules (there s) (moved_site at) d) (tt {0})) _ _ t
      (λ u i j. adds_follow s at d (range_read own d.name d.range).range (again own d) (array_read own d d.array).count t h
      (ap₃ (λ (r : Ranged) o (a : Words). add_declared (above s) (moved_site at) d r.range o a.count) (sym (range_read_moved s d.name d.range)) (sym (again_moved s d))
      (sym (array_moved s d d.array)) ∙ j)) e)

  -- ---- all declarations

  abbrev directs : List Entry → Option Meaning → Bool
  directs es (Some (a_signal n)) = option_map_or (λ (e : Entry). not (is_inner e.direction)) (slice_get es n) false
  directs es m = false

  direction_moved : (s : Stage) (x : Text) → has_direction (there s) x ≡ has_direction (look_of s) x
  direction_moved s x = ap (directs (there s).entries) (known prefix b.entries (look_of s) x) ∙ go (meaning (look_of s) x)
    where
      go : (o : Option Meaning) → directs (there s).entries (moved_if k o) ≡ directs s.design.entries o
      go None = refl
      go (Some (a_param p)) = refl
      go (Some (a_signal n)) = told_moved prefix b.entries s.design.entries n (λ (e : Entry). not (is_inner e.direction)) false (λ e. refl)
      go (Some (a_memory m)) = refl
      go (Some no_value) = refl

  directed_follows : (m : ModuleTree) (s : Stage) (x : Text) (t : Stage) → IsPlain s → directed m (above s) x ≡ good t → Next (directed m s x) t
  directed_follows m s x t h e =
      subst (λ c. Next (then_ (refused_if (not c) 306 (Some m.place) x) (λ u. good s)) t) (direction_moved s x)
      (then_follows prefix b IsPlain (refused_if (not (has_direction (there s) x)) 306 (Some m.place) x) _ _ t (λ u i j. good_follows prefix b IsPlain s t h j) e)

  sites_moved : (inner : Text) (m : ModuleTree) → sites (prefix ++ inner) m ≡ map (λ (q : Site × DeclTree). (moved_site q.0, q.1)) (sites inner m)
  sites_moved inner m =
      sym (map-append _ _ _ ∙ ap₂ (λ xs ys. xs ++ ys) (map_twice (λ (q : Site × DeclTree). (moved_site q.0, q.1)) (λ (d : DeclTree). in_head d) (header_decls m))
      (map_twice (λ (q : Site × DeclTree). (moved_site q.0, q.1)) (λ (q : Place × DeclTree). in_body q) (item_decls m)))
    where
      in_head : DeclTree → Site × DeclTree
      in_head d = (record { prefix = inner; header = header_of m; in_header = true; place = m.place }, d)

      in_body : Place × DeclTree → Site × DeclTree
      in_body q = (record { prefix = inner; header = header_of m; in_header = false; place = q.0 }, q.1)

  pub declarations_follow : (inner : Text) (m : ModuleTree) (s t : Stage) → IsPlain s → declarations (prefix ++ inner) m (above s) ≡ good t → Next (declarations inner m s) t
  declarations_follow inner m s t h e =
      then_follows prefix b IsPlain (header_twice m) (λ u. then_ (each declaration (above s) (sites (prefix ++ inner) m)) direct)
      (λ u. then_ (each declaration s (sites inner m)) direct) t
      (λ u i j. bind_follows prefix b IsPlain IsPlain (each declaration (above s) (sites (prefix ++ inner) m)) (each declaration s (sites inner m)) direct direct t declared
      (λ u c q e. each_follows prefix b IsPlain (directed m) (directed m) (λ s x t. directed_follows m s x t) u (header_of m) t q e) j) e
    where
      direct : Stage → Outcome Stage
      direct u = each (directed m) u (header_of m)

      move : Site × DeclTree → Site × DeclTree
      move q = (moved_site q.0, q.1)

      declared : (u : Stage) → each declaration (above s) (sites (prefix ++ inner) m) ≡ good u → Next (each declaration s (sites inner m)) u
      declared u e = each_follows prefix b IsPlain (λ u q. declaration u (move q)) declaration (λ s q t. declaration_follows s q t) s (sites inner m) u h
          (sym (each_mapped declaration move (above s) (sites inner m)) ∙ ap (each declaration (above s)) (sym (sites_moved inner m)) ∙ e)

  -- ---- the declared resets

  abbrev reset_with : List ResetPin → ℕ → Stage → Stage
  reset_with ps n s = with_design s (record s.design { entries = change_from (declared_reset ps) n (length s.design.entries - n) s.design.entries })

  -- none are
  pub resets_over : b.pins ≡ [] → (n : ℕ) (s : Stage) → IsPlain s → with_resets (k + n) (above s) ≡ above (with_resets n s)
  resets_over none n s h =
      let es = s.design.entries in let l = length_moved prefix b.entries es in
      ap (λ ps. reset_with ps (k + n) (above s)) none
      ∙ ap (λ xs. with_design (above s) (record (above s).design { entries = xs }))
      (ap (λ more. change_from (declared_reset []) (k + n) more (behind prefix b.entries es))
      (let z : length (behind prefix b.entries es) - (k + n) ≡ length es - n = omega (arith, l) in z)
      ∙ from_moved prefix (declared_reset []) (λ e. refl) b.entries n (length es - n) es)
      ∙ ap (λ ps. above (reset_with ps n s)) (sym h.pins)

  pub resets_plain : (n : ℕ) (s : Stage) → IsPlain s → IsPlain (with_resets n s)
  resets_plain n s h = record {
    pins = h.pins;
    unreset = subst (λ ps. AreUnreset (change_from (declared_reset ps) n (length s.design.entries - n) s.design.entries)) (sym h.pins)
        (from_keeps AreUnreset (declared_reset []) (λ i es. unreset_change (declared_reset []) (λ e p. same_both _ None) i es) n
        (length s.design.entries - n) s.design.entries h.unreset);
  }
