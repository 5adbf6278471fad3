-- What visits make, of the items that are wanted, of a design that is well sized.
use Rattle.std.proofs.Common.{◌≡◌, ℕ, zero, suc, ◌≤◌, Bool, true, false, cond, List, [], ◌∷◌, ◌++◌, length, map, Option, Some, None, Result, Ok, Err, IfOk, ◌&&◌, refl, sym, ap₂, subst, rules, find, bytes_eq}
use Rattle.std.specs.Prelude.{All, codes, flat_map, filter_map}
use Rattle.std.specs.List.{cons_option, list_all, list_any}
use Rattle.std.proofs.lemmas.Bool.{and_parts}
use Rattle.std.proofs.lemmas.List.Elements.{All-head, All-cons, All-nil, All-tail, All-push, All-append}
use Rattle.cdc_base.specs.declared.fault.Place.{Place}
use Rattle.cdc_base.specs.declared.fault.Stop.{Stop}
use Rattle.cdc_base.specs.declared.signal.ResetPin.{ResetPin}
use Rattle.cdc_base.specs.Words.{is_in}
use Rattle.verilog_reading.specs.SourceTree.{ParamTree, DeclTree, PortTree, ConnsTree, BodyTree, param, decl, assign, gate, instance, always, initial, ItemTree, ModuleTree}
use Rattle.flat_meaning.specs.Flat.{Expr, size, Target}
use Rattle.flat_meaning.specs.Law.{AreWords}
use Rattle.flat_form.specs.declared.flat.FlatAssign.{FlatAssign}
use Rattle.flat_form.specs.Sizes.{is_sized}
use Rattle.flat_form.specs.View.{expr_of, target_of}
use Rattle.flat_unfolding.specs.Outcome.{Text, Outcome, good, each, refused_if, by_number, judged}
use Rattle.flat_unfolding.specs.Names.{no_value, Meaning, is_declared, Entry, width_at, printed_part}
use Rattle.flat_unfolding.specs.Parameters.{Override, Overrides, parameter, param_in, params_of, parameters}
use Rattle.flat_unfolding.specs.Declarations.{header_of, header_decls, declarations}
use Rattle.flat_unfolding.specs.Instances.{override_rules, overrides_of, connection_rules, links_of, connected, leaning_of, is_short}
use Rattle.flat_unfolding.specs.Design.{Design, no_design, Stage, look_of}
use Rattle.flat_unfolding.specs.Starts.{initial_starts, so_far}
use Rattle.flat_unfolding.specs.Unfolding.{module_named, declared_value, Visit, instance_of, instance_item, item_of, header_values, with_resets, top_ports, modules_differ}
use Rattle.flat_unfolding.specs.Formed.{IsParamFormed, IsDeclFormed, IsPortFormed, IsBodyFormed, IsModuleFormed, IsSourceFormed}
use Rattle.flat_unfolding.specs.Widths.{keeps_sizes, target_keeps_sizes}
use Rattle.flat_unfolding.proofs.Steps.{good_is, good_then, judged_is, none_of_both, some_is}
use Rattle.flat_unfolding.proofs.Terms.{IsWide}
use Rattle.flat_unfolding.proofs.Known.{top_at, IsNamed}
use Rattle.flat_unfolding.proofs.Grown.{told_none, Grows, grows_itself, grows_on, names_on}
use Rattle.flat_unfolding.proofs.Stages.{words_of, IsAssignIn, IsDesign, IsStage, IsNext, stays, assign_next, gate_next, always_next, starts_next, value_next}
use Rattle.flat_unfolding.proofs.Declared.{IsDeclaring, AreWide, parameter_declares, declarations_declare}
use Rattle.flat_unfolding.proofs.Directed.{declarations_know_ports}
use Rattle.flat_unfolding.proofs.Ports.{links_fine, overrides_fine, OpensPorts, resets_declare, connected_opens, top_opens}
use Rattle.flat_unfolding.proofs.Formed.{found_formed}
use Rattle.flat_unfolding.proofs.Visited.{KeepsSizes, item_next, level_sizes, no_design_is}
use Rattle.flat_unfolding.proofs.Widths.{sized_right}
use Rattle.flat_names.specs.declared.design.Design as table
use Rattle.flat_design.specs.Chosen.{chosen_item_of, chosen_item, chosen_visit, wires_from, wires_of}
use Rattle.flat_design.specs.Visiting.{AreWires}

module _ (wires_only : Bool) (modules : List ModuleTree) (formed : IsSourceFormed modules) where
  module _ (visiting : List Text) (prefix : Text) (v : Visit) (keeps : KeepsSizes v) where
    -- nothing is done of a process where wires alone are wanted
    chosen_next : (s : Stage) → IsStage s → (p : Place) (body : BodyTree) → IsBodyFormed body → (t : Stage) → chosen_item_of wires_only modules visiting prefix v s p body ≡ good t → IsNext s t
    chosen_next s h p body f t e = go body wires_only f e
      where
        go : (b : BodyTree) (w : Bool) → IsBodyFormed b → chosen_item_of w modules visiting prefix v s p b ≡ good t → IsNext s t
        go (param q) w f e = item_next modules formed visiting prefix v keeps s h p (param q) f t e
        go (decl d) w f e = item_next modules formed visiting prefix v keeps s h p (decl d) f t e
        go (assign x y) w f e = item_next modules formed visiting prefix v keeps s h p (assign x y) f t e
        go (gate kind es) w f e = item_next modules formed visiting prefix v keeps s h p (gate kind es) f t e
        go (instance child params x ports) w f e = item_next modules formed visiting prefix v keeps s h p (instance child params x ports) f t e
        go (always event body) true f e = subst (IsNext s) (good_is s t e) (stays s h)
        go (always event body) false f e = item_next modules formed visiting prefix v keeps s h p (always event body) f t e
        go (initial body) w f e = item_next modules formed visiting prefix v keeps s h p (initial body) f t e

  visit_sizes : (n : ℕ) → KeepsSizes (chosen_visit wires_only modules n)
  visit_sizes zero prefix visiting m overrides ports d e q f o k h = absurd (search (rules, q))
  visit_sizes (suc n) prefix visiting m overrides ports d e q f o k h =
      level_sizes (chosen_item wires_only modules visiting prefix (chosen_visit wires_only modules n))
      (λ s x t w z y. chosen_next visiting prefix (chosen_visit wires_only modules n) (visit_sizes n) s y x.place x.body w t z) prefix m overrides ports d e q f o k h

-- the wires of a source are well sized
pub wires_sized : (modules : List ModuleTree) → IsSourceFormed modules → (top : Text) (d : Design) → wires_of modules top ≡ good d → IsDesign d
wires_sized modules formed top d e =
    let g = good_then (modules_differ modules) (λ u. wires_from modules top (module_named top modules)) d e in
    go (module_named top modules) (found_formed top modules formed) g.2
  where
    go : (o : Option ModuleTree) → ((m : ModuleTree) → o ≡ Some m → IsModuleFormed m) → wires_from modules top o ≡ good d → IsDesign d
    go None k e = absurd (search (rules, e))
    go (Some m) k e =
        let g = good_then (chosen_visit true modules (length modules) [] (m.name ∷ []) m [] (top_ports (header_of m)) (no_design [])) (λ (s : Stage). good s.design) d e in
        let v = visit_sizes true modules formed (length modules) [] (m.name ∷ []) m [] (top_ports (header_of m)) (no_design []) g.0 g.1 (k m refl) (All-nil (λ (q : Text × Override). IsWide (size q.1.value))) (top_opens m [] (header_of m)) (no_design_is []) in
        subst IsDesign (good_is g.0.design d g.2) v.0

-- an assignment as the definition has it
abbrev pair_of : FlatAssign → Target × Expr
pair_of a = (target_of a.target, expr_of a.value)

values_right : (es : List Entry) → AreWords (width_at es) → (given : List FlatAssign) → list_all (λ (a : FlatAssign). target_keeps_sizes a.target && keeps_sizes a.value) given ≡ true
    → All (IsAssignIn es) (map pair_of given) → list_all (λ (a : FlatAssign). is_sized a.value) given ≡ true
values_right es words [] h k = refl
values_right es words (a ∷ given) h k =
    let p = and_parts (target_keeps_sizes a.target && keeps_sizes a.value) (list_all (λ (b : FlatAssign). target_keeps_sizes b.target && keeps_sizes b.value) given) h in
    let q = and_parts (target_keeps_sizes a.target) (keeps_sizes a.value) p.0 in
    ap₂ (λ x y. x && y) (sized_right (width_at es) words a.value q.1 (All-head (IsAssignIn es) (pair_of a) (map pair_of given) k).2)
    (values_right es words given p.1 (All-tail (IsAssignIn es) (pair_of a) (map pair_of given) k))

-- so are the values that the tables show of them
pub values_sized : (modules : List ModuleTree) → IsSourceFormed modules → (top : Text) (r : Result table.Design Stop) → AreWires (wires_of modules top) r
    → IfOk r (λ (k : table.Design). list_all (λ (a : FlatAssign). is_sized a.value) k.assigns.items ≡ true)
values_sized modules formed top (Err e) h = tt
values_sized modules formed top (Ok k) h =
    let sized = wires_sized modules formed top h.0 h.1 in
    values_right h.0.entries (words_of h.0.entries sized.entries) k.assigns.items h.2.0.sizes.assigns (subst (All (IsAssignIn h.0.entries)) (sym h.2.0.assigns) sized.assigns)
