-- What visits make of a design that spares what is declared a reset.
use Rattle.std.proofs.Common.{◌≡◌, ℕ, zero, suc, ◌≤◌, Bool, List, [], ◌∷◌, ◌++◌, length, map, Option, Some, None, refl, ap, subst, arith, rules}
use Rattle.std.specs.Prelude.{codes}
use Rattle.std.specs.List.{list_any}
use Rattle.std.proofs.lemmas.List.Elements.{All-nil, All-push}
use Rattle.cdc_base.specs.declared.fault.Place.{Place}
use Rattle.cdc_base.specs.declared.signal.ResetPin.{ResetPin}
use Rattle.cdc_base.specs.Words.{is_in}
use Rattle.verilog_reading.specs.SourceTree.{DeclTree, ConnsTree, BodyTree, param, decl, assign, gate, instance, always, initial, ItemTree, ModuleTree}
use Rattle.flat_unfolding.specs.Outcome.{Text, good, refused_if, by_number, judged}
use Rattle.flat_unfolding.specs.Names.{Meaning, no_value, is_declared, Entry, printed_part}
use Rattle.flat_unfolding.specs.Parameters.{Overrides, parameter, params_of, parameters}
use Rattle.flat_unfolding.specs.Declarations.{header_decls, declarations}
use Rattle.flat_unfolding.specs.Instances.{override_rules, overrides_of, connection_rules, links_of, connected, leaning_of, is_short}
use Rattle.flat_unfolding.specs.Design.{Design, Stage, look_of}
use Rattle.flat_unfolding.specs.Starts.{initial_starts, so_far}
use Rattle.flat_unfolding.specs.Unfolding.{module_named, declared_value, instance_of, instance_item, item_of, item, header_values, with_resets, visit}
use Rattle.flat_unfolding.specs.Laws.{kept, StandsBehind}
use Rattle.flat_unfolding.proofs.Steps.{good_is, good_then, each_keeps}
use Rattle.flat_unfolding.proofs.Entries.{length_of_both}
use Rattle.flat_unfolding.proofs.Visits.{numbers_law}
use Rattle.reset_reads.proofs.Terms.{IsHeld}
use Rattle.reset_reads.proofs.Stages.{IsSpareDesign, IsSpareStage, assign_next, gate_next, always_next, starts_next, value_next}
use Rattle.reset_reads.proofs.Declared.{are_held_on, IsBegun, parameter_begins, declarations_begin, resets_ready}
use Rattle.reset_reads.proofs.Ports.{OpensSparely, links_spare, connected_opens}

pub kept_count : (gs : List Entry) → length (map kept gs) ≡ length gs
kept_count [] = refl
kept_count (g ∷ gs) = ap suc (kept_count gs)

-- signals that stand behind others are as many at least
pub behind_longer : (es fs : List Entry) → StandsBehind es fs → length es ≤ length fs
behind_longer es fs h =
    let e : length (map kept fs) ≡ length (map kept es ++ h.0) = ap length h.1 in
    let a = kept_count es in let b = kept_count fs in let c = length_of_both (map kept es) h.0 in omega (arith, a, b, c, e)

module _ (resets : List ResetPin) (may : ℕ → Bool) (modules : List ModuleTree) where
  -- a visit keeps designs that spare resets, whatever keeps them is done to its ports
  abbrev pub KeepsSparing : ℕ → Type 0
  KeepsSparing n = (prefix : Text) (visiting : List Text) (m : ModuleTree) (overrides : Overrides) (ports : Stage → Stage) (d : Design) (e : Stage) → visit modules n prefix visiting m overrides ports d ≡ good e
      → OpensSparely resets may d ports → IsSpareDesign resets may d → IsSpareDesign resets may e.design

  module _ (n : ℕ) (keeps : KeepsSparing n) (visiting : List Text) (prefix : Text) where
    instance_next : (s : Stage) → IsSpareStage resets may s → (p : Place) (m : ModuleTree) (params : ConnsTree) (x : Text) (ports : ConnsTree) (t : Stage)
        → instance_of modules visiting prefix (visit modules n) s p m params x ports ≡ good t → IsSpareStage resets may t
    instance_next s h p m params x ports t e =
        let look = look_of s in let links = links_of look m ports in
        let a = good_then (refused_if (is_in visiting m.name) 303 (Some p) m.name) _ t e in
        let b = good_then (refused_if (is_declared s.names x) 304 (Some p) x) _ t a.2 in
        let c = good_then (judged by_number p (override_rules look m params ++ connection_rules look m ports) (tt {0})) _ t b.2 in
        let inside = prefix ++ printed_part x ++ codes "." in let overrides = overrides_of look m params in
        let d = good_then (visit modules n inside (m.name ∷ visiting) m overrides (connected links) s.design) _ t c.2 in
        let l = good_then (refused_if (list_any (is_short d.0) (leaning_of look m params ports)) 306 (Some p) m.name) _ t d.2 in
        let k = keeps inside (m.name ∷ visiting) m overrides (connected links) s.design d.0 d.1 (connected_opens resets may s.design links (λ i. links_spare resets may s h i m ports)) h.design in
        let count = length d.0.design.entries in
        let longer = behind_longer s.design.entries d.0.design.entries (numbers_law modules n inside (m.name ∷ visiting) m overrides links s.design d.0 d.1) in
        subst (IsSpareStage resets may) (good_is _ t l.2) record {
          names = All-push (λ (q : Text × Meaning). IsHeld count q.1) s.names (x, no_value) (are_held_on (length s.design.entries) count longer s.names h.names) tt;
          design = k;
        }

    item_next : (s : Stage) → IsSpareStage resets may s → (p : Place) (body : BodyTree) (t : Stage) → item_of modules visiting prefix (visit modules n) s p body ≡ good t → IsSpareStage resets may t
    item_next s h p (param q) t e = subst (IsSpareStage resets may) (good_is s t e) h
    item_next s h p (decl d) t e = value_next resets may s h p d.name d.init d.kind t e
    item_next s h p (assign x w) t e = assign_next resets may s h p x w t e
    item_next s h p (gate kind es) t e = gate_next resets may s h p kind es t e
    item_next s h p (instance child params x ports) t e = go (module_named child modules) e
      where
        go : (o : Option ModuleTree) → instance_item modules visiting prefix (visit modules n) s p o child params x ports ≡ good t → IsSpareStage resets may t
        go None e = absurd (search (rules, e))
        go (Some m) e = instance_next s h p m params x ports t e
    item_next s h p (always event body) t e = always_next resets may s h p event body t e
    item_next s h p (initial body) t e = starts_next resets may s h p (initial_starts (look_of s) (so_far s) body) t e

  pub visit_spares : (n : ℕ) → KeepsSparing n
  visit_spares zero prefix visiting m overrides ports d e q k h = absurd (search (rules, q))
  visit_spares (suc n) prefix visiting m overrides ports d e q k h =
      let first : Stage = record { names = []; design = d } in
      let a = good_then (parameters overrides m first) _ e q in
      let b = good_then (declarations prefix m a.0) _ e a.2 in
      let r = with_resets (length d.entries) b.0 in
      let c = good_then (header_values m (ports r)) _ e b.2 in
      let begun : IsBegun resets may d first = record { same = refl; longer = (let l : length d.entries ≤ length d.entries = omega arith in l); before = λ i l. h.settled i; allows = λ i. i; names = All-nil _ } in
      let fa = each_keeps (IsBegun resets may d) (parameter overrides) (parameter_begins resets may d overrides) first (params_of m) a.0 a.1 begun in
      let ready = resets_ready resets may d b.0 h (declarations_begin resets may d prefix m a.0 b.0 b.1 fa) in
      let fc = each_keeps (IsSpareStage resets may) (λ s (x : DeclTree). declared_value s m.place x) (λ s x t w y. value_next resets may s y m.place x.name x.init x.kind t w)
      (ports r) (header_decls m) c.0 c.1 (k r ready.stage ready.allows) in
      (each_keeps (IsSpareStage resets may) (item modules visiting prefix (visit modules n)) (λ s (x : ItemTree) t w y. item_next n (visit_spares n) visiting prefix s y x.place x.body t w) c.0 m.items e c.2 fc).design
