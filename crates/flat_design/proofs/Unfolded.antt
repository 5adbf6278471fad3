-- The unfolding of a source, up to the trial of its drivers.
use Rattle.std.proofs.Common.{◌≡◌, ℕ, suc, Bool, true, false, List, [], ◌∷◌, length, map, Some, None, Result, Ok, Err, refl, sym, ap, ◌∙◌, rules}
use Rattle.cdc_base.specs.declared.fault.Stop.{Stop}
use Rattle.cdc_base.specs.declared.fault.Stop.TheVariants.{Refused, Memory}
use Rattle.cdc_base.specs.declared.signal.ResetPin.{ResetPin}
use Rattle.verilog_ast.specs.declared.Module.{Module}
use Rattle.verilog_reading.specs.SourceTree.{ModuleTree, module_of}
use Rattle.flat_meaning.specs.Design as meaning
use Rattle.flat_form.specs.declared.flat.Flat.{Flat}
use Rattle.flat_unfolding.specs.Outcome.{Text, Outcome, good, bad, then_}
use Rattle.flat_unfolding.specs.Declarations.{header_of}
use Rattle.flat_unfolding.specs.Design.{Design, Stage, no_design}
use Rattle.flat_unfolding.specs.Unfolding as law
use Rattle.flat_unfolding.specs.Unfolding.{module_named, visit, top_ports, modules_differ, from_top, unfolded, IsUnfolding}
use Rattle.flat_names.specs.Noting.{Refuses}
use Rattle.flat_names.specs.declared.design.Design as table
use Rattle.flat_names.specs.Designs.{Ends}
use Rattle.flat_design.specs.Chosen.{chosen_visit, wires_from, wires_of}
use Rattle.flat_design.specs.Visiting.{Lists, IsGrown, AreWires}
use Rattle.flat_design.proofs.Chosen.{all-chosen}
use Rattle.flat_design.proofs.Visits.{then-then}

as-many : (modules : List Module) → length (map module_of modules) ≡ length modules
as-many [] = refl
as-many (m ∷ modules) = ap suc (as-many modules)

module _ (modules : List Module) (top : Text) (resets : List ResetPin) (named : List Text) where
  abbrev pub unfolding_of : Outcome meaning.Flat
  unfolding_of = unfolded (map module_of modules) top resets named

  -- two modules of one name
  pub not-listed : (e : Stop) → Lists modules (Err e) → IsUnfolding unfolding_of (Err e)
  not-listed (Refused f) h = ap (λ (o : Outcome (Unit {0})). then_ o (λ u. from_top (map module_of modules) resets named top (module_named top (map module_of modules)))) h
  not-listed Memory h = tt

  module _ (differ : modules_differ (map module_of modules) ≡ good tt) where
    goes-on : unfolding_of ≡ from_top (map module_of modules) resets named top (module_named top (map module_of modules))
    goes-on = ap (λ (o : Outcome (Unit {0})). then_ o (λ u. from_top (map module_of modules) resets named top (module_named top (map module_of modules)))) differ

    -- no top
    pub no-top : module_named top (map module_of modules) ≡ None → (r : Result Flat Stop) → Refuses (record { number = 301; place = None; name = top }) r → IsUnfolding unfolding_of r
    no-top none (Ok f) h = absurd h
    no-top none (Err (Refused f)) h = goes-on ∙ ap (from_top (map module_of modules) resets named top) none ∙ ap bad (sym h)
    no-top none (Err Memory) h = tt

    module _ (m : Module) (is-top : module_named top (map module_of modules) ≡ Some (module_of m)) where
      abbrev pub visit_of : Outcome Design
      visit_of = then_ (visit (map module_of modules) (length modules) [] (m.name ∷ []) (module_of m) [] (top_ports (header_of (module_of m))) (no_design resets)) (λ (s : Stage). good s.design)

      visits : unfolding_of ≡ then_ visit_of (law.finished named)
      visits = goes-on ∙ ap (from_top (map module_of modules) resets named top) is-top
          ∙ ap (λ (k : ℕ). then_ (visit (map module_of modules) k [] (m.name ∷ []) (module_of m) [] (top_ports (header_of (module_of m))) (no_design resets)) (λ (s : Stage). law.finished named s.design)) (as-many modules)
          ∙ sym (then-then (visit (map module_of modules) (length modules) [] (m.name ∷ []) (module_of m) [] (top_ports (header_of (module_of m))) (no_design resets)) (λ (s : Stage). good s.design) (law.finished named))

      -- the visit with all items is that of the source
      pub whole-visit : (wires_only : Bool) → wires_only ≡ false
          → then_ (chosen_visit wires_only (map module_of modules) (length modules) [] (m.name ∷ []) (module_of m) [] (top_ports (header_of (module_of m))) (no_design resets)) (λ (s : Stage). good s.design) ≡ visit_of
      whole-visit true e = absurd (search (rules, e))
      whole-visit false e = ap (λ (o : Outcome Stage). then_ o (λ (s : Stage). good s.design))
          (all-chosen (map module_of modules) (length modules) [] (m.name ∷ []) (module_of m) [] (top_ports (header_of (module_of m))) (no_design resets))

      -- the visit is refused
      pub not-visited : (e : Stop) (P : Design → Type 0) → Ends P visit_of (Err e) → IsUnfolding unfolding_of (Err e)
      not-visited (Refused f) P h = visits ∙ ap (λ (o : Outcome Design). then_ o (law.finished named)) h
      not-visited Memory P h = tt

      pub visited-is : (d : Design) → visit_of ≡ good d → unfolding_of ≡ law.finished named d
      visited-is d h = visits ∙ ap (λ (o : Outcome Design). then_ o (law.finished named)) h

-- ---- the wires alone

module _ (modules : List Module) (top : Text) where
  abbrev trees : List ModuleTree
  trees = map module_of modules

  pub no-wires : (e : Stop) → Lists modules (Err e) → AreWires (wires_of trees top) (Err e)
  no-wires (Refused f) h = ap (λ (o : Outcome (Unit {0})). then_ o (λ u. wires_from trees top (module_named top trees))) h
  no-wires Memory h = tt

  module _ (differ : modules_differ trees ≡ good tt) where
    wires-are : wires_of trees top ≡ wires_from trees top (module_named top trees)
    wires-are = ap (λ (o : Outcome (Unit {0})). then_ o (λ u. wires_from trees top (module_named top trees))) differ

    pub wires-of-none : module_named top trees ≡ None → (r : Result table.Design Stop) → Refuses (record { number = 301; place = None; name = top }) r → AreWires (wires_of trees top) r
    wires-of-none none (Ok k) h = absurd h
    wires-of-none none (Err (Refused f)) h = wires-are ∙ ap (wires_from trees top) none ∙ ap bad (sym h)
    wires-of-none none (Err Memory) h = tt

    module _ (m : Module) (is-top : module_named top trees ≡ Some (module_of m)) where
      abbrev pub wires_visit : Outcome Design
      wires_visit = then_ (chosen_visit true trees (length modules) [] (m.name ∷ []) (module_of m) [] (top_ports (header_of (module_of m))) (no_design [])) (λ (s : Stage). good s.design)

      wires-visited : wires_of trees top ≡ wires_visit
      wires-visited = wires-are ∙ ap (wires_from trees top) is-top
          ∙ ap (λ (k : ℕ). then_ (chosen_visit true trees k [] (m.name ∷ []) (module_of m) [] (top_ports (header_of (module_of m))) (no_design [])) (λ (s : Stage). good s.design)) (as-many modules)

      pub wires-refused : (e : Stop) (P : Design → Type 0) → Ends P wires_visit (Err e) → AreWires (wires_of trees top) (Err e)
      wires-refused (Refused f) P h = wires-visited ∙ h
      wires-refused Memory P h = tt

      pub wires-found : (kept : table.Design) → Ends (IsGrown [] kept) wires_visit (Ok tt) → AreWires (wires_of trees top) (Ok kept)
      wires-found kept h = (h.0, wires-visited ∙ h.1, h.2)

      -- the visit that leaves processes out is that of the wires
      pub wires-visit : (wires_only : Bool) → wires_only ≡ true
          → then_ (chosen_visit wires_only trees (length modules) [] (m.name ∷ []) (module_of m) [] (top_ports (header_of (module_of m))) (no_design [])) (λ (s : Stage). good s.design) ≡ wires_visit
      wires-visit false e = absurd (search (rules, e))
      wires-visit true e = refl
