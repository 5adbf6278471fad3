-- The names of a header, as they are walked.
use Rattle.std.proofs.Common.{◌≡◌, ℕ, ◌+◌, ◌<◌, ◌≤◌, Bool, true, false, cond, not, ◌||◌, ◌==◌, List, [], ◌∷◌, length, map, drop, get_or, Some, Result, Ok, Err, refl, sym, ap, ◌∙◌, bytes_eq}
use Rattle.std.specs.Cmp.Lexicographic.{pointwise}
use Rattle.std.proofs.lemmas.List.{at_drop_more, at_drop_all}
use Rattle.indexmap.specs.IndexMap.{IndexMap}
use Rattle.indexmap.specs.IndexSet.{IndexSet, contains_by}
use Rattle.cdc_base.specs.declared.signal.ResetPin.{ResetPin}
use Rattle.cdc_base.specs.declared.fault.Stop.{Stop}
use Rattle.cdc_base.specs.declared.fault.Stop.TheVariants.{Refused, Memory}
use Rattle.cdc_base.specs.Words.{is_in}
use Rattle.verilog_ast.specs.declared.Port.{Port}
use Rattle.verilog_ast.specs.declared.Module.{Module}
use Rattle.verilog_reading.specs.SourceTree.{port_of, PortTree, module_of}
use Rattle.flat_unfolding.specs.Outcome.{Text, Outcome, good, bad, then_, each, refused_if}
use Rattle.flat_unfolding.specs.Declarations.{header_of, twice_among, has_direction, directed}
use Rattle.flat_unfolding.specs.Design.{Stage, look_of}
use Rattle.flat_names.specs.declared.scope.Meaning.{Meaning}
use Rattle.flat_names.specs.declared.design.Design.{Design}
use Rattle.flat_names.specs.Noting.{Refuses}
use Rattle.flat_names.specs.Designs.{ShowsStage, Meets}
use Rattle.flat_declarations.specs.Declaring.{ShowsHeader}

abbrev pub names_left : Module → ℕ → List Text
names_left m i = map (λ (p : PortTree). p.name) (map port_of (drop i m.ports))

names-next : (m : Module) (i : ℕ) (x : Port) → i < length m.ports → x ≡ get_or m.ports i x → names_left m i ≡ x.name ∷ names_left m (i + 1)
names-next m i x l e = at_drop_more (λ ps. map (λ (p : PortTree). p.name) (map port_of ps)) m.ports i x l ∙ ap (λ (y : Port). y.name ∷ names_left m (i + 1)) (sym e)

names-done : (m : Module) (i : ℕ) → length m.ports ≤ i → names_left m i ≡ []
names-done m i l = at_drop_all (λ ps. map (λ (p : PortTree). p.name) (map port_of ps)) m.ports i l

-- ---- each name but once

-- the names before the i-th are in the set, and none of them stands twice where that is asked
pub record IsHeaded {S : Type 0} (m : Module) (i : ℕ) (table : IndexSet Text S) : Type 0 where
  pub before : List Text
  pub shown : ShowsHeader table before
  pub all : (y : Text) → is_in (header_of (module_of m)) y ≡ (is_in before y || is_in (names_left m i) y)
  pub twice : m.ansi ≡ false → twice_among [] (header_of (module_of m)) ≡ twice_among before (names_left m i)

turned : (a b c : Bool) → (a || cond b true c) ≡ (cond b true a || c)
turned a true c = with_true a
  where
    with_true : (a : Bool) → (a || true) ≡ true
    with_true true = refl
    with_true false = refl
turned a false c = refl

pub more-header : {S : Type 0} (m : Module) (i : ℕ) (x : Port) (old new : IndexSet Text S) → i < length m.ports → x ≡ get_or m.ports i x → IsHeaded m i old
    → (m.ansi ≡ false → contains_by (pointwise ◌==◌ x.name) old ≡ false)
    → ((y : Text) → contains_by (pointwise ◌==◌ y) new ≡ cond (pointwise ◌==◌ x.name y) true (contains_by (pointwise ◌==◌ y) old)) → IsHeaded m (i + 1) new
more-header m i x old new l e h free put = record {
  before = x.name ∷ h.before;
  shown = λ y. put y ∙ ap (λ b. cond (bytes_eq x.name y) true b) (h.shown y);
  all = λ y. h.all y ∙ ap (λ ns. is_in h.before y || is_in ns y) (names-next m i x l e) ∙ turned (is_in h.before y) (bytes_eq x.name y) (is_in (names_left m (i + 1)) y);
  twice = λ a. h.twice a ∙ ap (twice_among h.before) (names-next m i x l e) ∙ ap (λ b. cond b (Some x.name) (twice_among (x.name ∷ h.before) (names_left m (i + 1)))) (sym (h.shown x.name) ∙ free a);
}

-- ---- each name has a direction

module _ {S : Type 0} (pins : List ResetPin) (table : IndexMap Text Meaning S) (d : Design) (m : Module) (s : Stage) (i : ℕ) (x : Port) (l : i < length m.ports) (e : x ≡ get_or m.ports i x) where
  abbrev judged_by : Bool → Outcome Stage
  judged_by b = then_ (then_ (refused_if (not b) 306 (Some m.place) x.name) (λ u. good s)) (λ t. each (directed (module_of m)) t (names_left m (i + 1)))

  pub directed-next : has_direction (look_of s) x.name ≡ true → each (directed (module_of m)) s (names_left m i) ≡ each (directed (module_of m)) s (names_left m (i + 1))
  directed-next h = ap (each (directed (module_of m)) s) (names-next m i x l e) ∙ ap judged_by h

  pub directed-refused : (o : Outcome Stage) (r : Result (Unit {0}) Stop) → o ≡ each (directed (module_of m)) s (names_left m i) → has_direction (look_of s) x.name ≡ false
      → Refuses (record { number = 306; place = Some m.place; name = x.name }) r → Meets pins table o r d
  directed-refused o (Ok u) k h r = absurd r
  directed-refused o (Err (Refused f)) k h r = k ∙ ap (each (directed (module_of m)) s) (names-next m i x l e) ∙ ap judged_by h ∙ ap bad (sym r)
  directed-refused o (Err Memory) k h r = tt

pub directed-done : {S : Type 0} (pins : List ResetPin) (table : IndexMap Text Meaning S) (d : Design) (m : Module) (s : Stage) (i : ℕ) (u : Unit {0}) → length m.ports ≤ i → ShowsStage pins table d s
    → each (directed (module_of m)) s (header_of (module_of m)) ≡ each (directed (module_of m)) s (names_left m i) → Meets pins table (each (directed (module_of m)) s (header_of (module_of m))) (Ok u) d
directed-done pins table d m s i u l h k = (s, k ∙ ap (each (directed (module_of m)) s) (names-done m i l), h)
