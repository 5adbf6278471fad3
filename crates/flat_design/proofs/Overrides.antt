-- Overrides so far, and one more: of two for one name the first counts.
use Rattle.std.proofs.Common.{◌≡◌, ◌==◌, Bool, true, false, cond, List, [], ◌∷◌, ◌++◌, map, Option, Some, None, refl, sym, ap, ap₂, subst, ◌∙◌, rules, append-nil}
use Rattle.std.specs.Prelude.{is_some, filter_map, option_map, bytes_eq}
use Rattle.std.specs.Cmp.Lexicographic.{pointwise}
use Rattle.std.specs.List.{cons_option}
use Rattle.std.specs.Map.{lookup}
use Rattle.std.proofs.lemmas.List.Elements.{filter_map-append}
use Rattle.std.proofs.lemmas.Slice.Eq.{bytes_eq-Decides}
use Rattle.indexmap.specs.IndexMap.{IndexMap}
use Rattle.cdc_base.specs.Words.{found_in}
use Rattle.verilog_reading.specs.ExprTree.{ExprTree}
use Rattle.verilog_reading.specs.SourceTree.{ConnsTree, ModuleTree}
use Rattle.flat_form.specs.Sizes.{is_sized}
use Rattle.flat_unfolding.specs.Outcome.{Text}
use Rattle.flat_unfolding.specs.Names.{Look}
use Rattle.flat_unfolding.specs.Constants.{is_counted}
use Rattle.flat_unfolding.specs.Signs.{leans}
use Rattle.flat_unfolding.specs.Expressions.{as_constant, read}
use Rattle.flat_unfolding.specs.Parameters as p
use Rattle.flat_unfolding.specs.Parameters.{overridable}
use Rattle.flat_unfolding.specs.Instances.{Leaning, Joint, joints, joint_rules, override_rules, override, leaning_joint}
use Rattle.flat_unfolding.proofs.Steps.{none_of_both}
use Rattle.flat_unfolding.proofs.Terms.{sound_is}
use Rattle.flat_names.specs.declared.resolved.Resolved.{Resolved}
use Rattle.flat_names.specs.Noting.{Noted, all_noted}
use Rattle.flat_names.specs.Pieces.{IsRead}
use Rattle.flat_names.specs.Signs.{signs_of}
use Rattle.flat_names.proofs.Notes.{then-noted}
use Rattle.flat_declarations.specs.declared.parameter.Override.{Override}
use Rattle.flat_declarations.specs.Declaring.{override_of, given_in, IsGivenSized, ShowsOverrides}
use Rattle.flat_design.specs.Visiting.{leaning_in, leaning_if, override_by, joint_if, constants_of, GivesOverrides, AreOverridden}
use Rattle.flat_design.specs.declared.instance.Overridden.{Overridden}
use Rattle.flat_design.proofs.Joints.{flat-both}
use Rattle.flat_design.proofs.Leaning.{override-is, leaning-is}

-- ---- a list of names with one more

found-still : {A : Type 0} (xs ys : List (Text × A)) (y : Text) (z : A) → found_in xs y ≡ Some z → found_in (xs ++ ys) y ≡ Some z
found-still [] ys y z e = absurd (search (rules, e))
found-still {A} (x ∷ xs) ys y z e = go (bytes_eq x.0 y) e (found-still xs ys y z)
  where
    go : (b : Bool) → cond b (Some x.1) (found_in xs y) ≡ Some z → (found_in xs y ≡ Some z → found_in (xs ++ ys) y ≡ Some z) → cond b (Some x.1) (found_in (xs ++ ys) y) ≡ Some z
    go true e h = e
    go false e h = h e

found-other : {A : Type 0} (xs : List (Text × A)) (x y : Text) (q : A) → bytes_eq x y ≡ false → found_in (xs ++ (x, q) ∷ []) y ≡ found_in xs y
found-other [] x y q e = ap (λ b. cond b (Some q) None) e
found-other {A} (w ∷ xs) x y q e = ap (λ o. cond (bytes_eq w.0 y) (Some w.1) o) (found-other xs x y q e)

found-last : {A : Type 0} (xs : List (Text × A)) (x y : Text) (q : A) → found_in xs y ≡ None → bytes_eq x y ≡ true → found_in (xs ++ (x, q) ∷ []) y ≡ Some q
found-last [] x y q n e = ap (λ b. cond b (Some q) None) e
found-last {A} (w ∷ xs) x y q n e = go (bytes_eq w.0 y) n (λ k. found-last xs x y q k e)
  where
    go : (b : Bool) → cond b (Some w.1) (found_in xs y) ≡ None → (found_in xs y ≡ None → found_in (xs ++ (x, q) ∷ []) y ≡ Some q) → cond b (Some w.1) (found_in (xs ++ (x, q) ∷ []) y) ≡ Some q
    go true n h = absurd (search (rules, n))
    go false n h = h n

-- ---- a table with one more

module _ {S : Type 0} (old new : IndexMap Text Override S) (xs : List (Text × p.Override)) (x : Text) (o : Override)
    (set : (y : Text) → given_in new y ≡ cond (is_some (given_in old x)) (given_in old y) (cond (pointwise ◌==◌ x y) (Some o) (given_in old y))) (h : ShowsOverrides old xs) (sized : is_sized o.value ≡ true) where
  abbrev q : p.Override
  q = override_of o

  found-more : (y : Text) → option_map override_of (given_in new y) ≡ found_in (xs ++ (x, q) ∷ []) y
  found-more y = ap (option_map override_of) (set y) ∙ first (given_in old x) refl (h.found x)
    where
      first : (g : Option Override) → given_in old x ≡ g → option_map override_of g ≡ found_in xs x
          → option_map override_of (cond (is_some (given_in old x)) (given_in old y) (cond (bytes_eq x y) (Some o) (given_in old y))) ≡ found_in (xs ++ (x, q) ∷ []) y
      first None e f = ap (λ z. option_map override_of (cond (is_some z) (given_in old y) (cond (bytes_eq x y) (Some o) (given_in old y)))) e ∙ go (bytes_eq x y) refl
        where
          go : (b : Bool) → bytes_eq x y ≡ b → option_map override_of (cond b (Some o) (given_in old y)) ≡ found_in (xs ++ (x, q) ∷ []) y
          go true k = sym (found-last xs x y q (ap (found_in xs) (sym ((bytes_eq-Decides x y).0 k)) ∙ sym f) k)
          go false k = h.found y ∙ sym (found-other xs x y q k)
      first (Some w) e f = ap (λ z. option_map override_of (cond (is_some z) (given_in old y) (cond (bytes_eq x y) (Some o) (given_in old y)))) e ∙ go (bytes_eq x y) refl
        where
          go : (b : Bool) → bytes_eq x y ≡ b → option_map override_of (given_in old y) ≡ found_in (xs ++ (x, q) ∷ []) y
          go true k =
              let same : found_in xs y ≡ Some (override_of w) = ap (found_in xs) (sym ((bytes_eq-Decides x y).0 k)) ∙ sym f in
              h.found y ∙ same ∙ sym (found-still xs ((x, q) ∷ []) y (override_of w) same)
          go false k = h.found y ∙ sym (found-other xs x y q k)

  sized-more : (y : Text) → IsGivenSized (given_in new y)
  sized-more y = subst IsGivenSized (sym (set y)) (go (is_some (given_in old x)) (bytes_eq x y))
    where
      go : (a b : Bool) → IsGivenSized (cond a (given_in old y) (cond b (Some o) (given_in old y)))
      go true b = h.sized y
      go false true = sized
      go false false = h.sized y

  pub shows-more : ShowsOverrides new (xs ++ (x, q) ∷ [])
  shows-more = record { found = found-more; sized = sized-more }

module _ (l : Look) (js : List Joint) (old : Overridden) (h : AreOverridden l js old) where
  parts-of : (j : Joint) → constants_of l (js ++ j ∷ []) ≡ [] → (constants_of l js ≡ []) × (constants_of l (j ∷ []) ≡ [])
  parts-of j b = none_of_both (constants_of l js) (constants_of l (j ∷ [])) (sym (flat-both (λ (i : Joint). (as_constant (read l i.value)).broken) js (j ∷ [])) ∙ b)

  -- an override for no name
  pub override-unnamed : (v : ExprTree) → AreOverridden l (js ++ (record { name = None; value = v }) ∷ []) old
  override-unnamed v b =
      let j : Joint = record { name = None; value = v } in let now = h (parts-of j b).0 in (
        subst (ShowsOverrides old.overrides) (sym (filter_map-append (override l) js (j ∷ []) ∙ append-nil (filter_map (override l) js))) now.0,
        now.1 ∙ sym (filter_map-append (leaning_joint l) js (j ∷ []) ∙ ap (λ o. filter_map (leaning_joint l) js ++ cons_option o []) (unnamed (leans l.names v)) ∙ append-nil (filter_map (leaning_joint l) js)),
      )
    where
      unnamed : (b : Bool) → cond {A = Option Leaning} b None None ≡ None
      unnamed true = refl
      unnamed false = refl

  pub override-more : (new : Overridden) (x : Text) (v : ExprTree) (r : Resolved)
      → ((y : Text) → given_in new.overrides y ≡ cond (is_some (given_in old.overrides x)) (given_in old.overrides y) (cond (pointwise ◌==◌ x y) (Some (override_by r)) (given_in old.overrides y)))
      → map leaning_in new.leaning.items ≡ map leaning_in old.leaning.items ++ leaning_if r x
      → IsRead (as_constant (read l v)) r → is_some r.count ≡ is_counted l.names v → r.signs ≡ signs_of l.names v → AreOverridden l (js ++ (record { name = Some x; value = v }) ∷ []) new
  override-more new x v r set leaning is counted signs b =
      let j : Joint = record { name = Some x; value = v } in
      let ps = parts-of j b in
      let none : (as_constant (read l v)).broken ≡ [] = sym (append-nil (as_constant (read l v)).broken) ∙ ps.1 in
      let sound : r.is_sound ≡ true = is.sound ∙ sound_is (as_constant (read l v)) none in
      let now = h ps.0 in (
        subst (ShowsOverrides new.overrides) (ap (λ (q : p.Override). filter_map (override l) js ++ (x, q) ∷ []) (override-is l v r is counted signs sound) ∙ sym (filter_map-append (override l) js (j ∷ [])))
            (shows-more old.overrides new.overrides (filter_map (override l) js) x (override_by r) set now.0 (is.sized sound)),
        leaning ∙ ap₂ (λ a c. a ++ c) now.1 (leaning-is l v r x (is.expr sound) (is.sized sound) signs) ∙ sym (filter_map-append (leaning_joint l) js (j ∷ [])),
      )

-- no override
pub overrides-none : (l : Look) (o : Overridden) → o.overrides.entries ≡ [] → o.leaning.items ≡ [] → AreOverridden l [] o
overrides-none l o e d b = (
  record {
    found = λ x. ap (λ es. option_map override_of (lookup (pointwise ◌==◌ x) es)) e;
    sized = λ x. subst (λ es. IsGivenSized (lookup (pointwise ◌==◌ x) es)) (sym e) tt;
  },
  ap (map leaning_in) d,
)

-- ---- one override more, with what is noted

module _ (l : Look) (js : List Joint) (new : Overridden) (f g : Noted) where
  -- a table with what is given to a name, where there is a value, and the rules that it breaks
  abbrev pub IsGiven : Option Text → Option ExprTree → Type 0
  IsGiven x v = AreOverridden l (js ++ joint_if x v) new × (g ≡ all_noted f (constants_of l (joint_if x v)))

  pub is-given : (x y : Option Text) (v w : Option ExprTree) → x ≡ y → v ≡ w → IsGiven y w → IsGiven x v
  is-given x y v w d e h = subst (λ z. IsGiven z v) (sym d) (subst (IsGiven y) (sym e) h)

  pub given-value : (x : Option Text) (v : ExprTree) → AreOverridden l (js ++ (record { name = x; value = v }) ∷ []) new → g ≡ all_noted f (as_constant (read l v)).broken → IsGiven x (Some v)
  given-value x v h e = (h, e ∙ ap (all_noted f) (sym (append-nil (as_constant (read l v)).broken)))

-- ---- all overrides

module _ (l : Look) (m : ModuleTree) (o : Overridden) (f0 f1 f2 : Noted) where
  -- what overrides are, and what is noted of them
  abbrev pub AreAllGiven : List Text → ConnsTree → Type 0
  AreAllGiven names given = let bs = joint_rules m.name names given ++ constants_of l (joints names given) in (f2 ≡ all_noted f0 bs) × (bs ≡ [] → GivesOverrides l (joints names given) o)

  pub overrides-are : (names : List Text) (given kept : ConnsTree) → names ≡ overridable m → given ≡ kept → f1 ≡ all_noted f0 (joint_rules m.name names kept)
      → AreOverridden l (joints names kept) o × (f2 ≡ all_noted f1 (constants_of l (joints names kept))) → (f2 ≡ all_noted f0 (override_rules l m given)) × (override_rules l m given ≡ [] → GivesOverrides l (joints (overridable m) given) o)
  overrides-are names given kept d same e h =
      let rules_ = joint_rules m.name names kept in
      let constants = constants_of l (joints names kept) in
      subst (λ xs. AreAllGiven xs given) d (subst (AreAllGiven names) (sym same) (then-noted f0 f1 f2 rules_ constants e h.1, λ none. h.0 (none_of_both rules_ constants none).1))
