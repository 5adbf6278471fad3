-- The visit of modules with all their items, or with all but their processes: with what makes wires alone.
use Rattle.std.specs.Prelude.{◌≡◌, ℕ, zero, suc, Bool, true, List, [], ◌∷◌, length, Option, Some, None, Result, Ok, Err}
use Rattle.cdc_base.specs.declared.fault.Place.{Place}
use Rattle.cdc_base.specs.declared.fault.Stop.{Stop}
use Rattle.cdc_base.specs.declared.fault.Stop.TheVariants.{Refused, Memory}
use Rattle.verilog_reading.specs.SourceTree.{BodyTree, always, ItemTree, ModuleTree}
use Rattle.flat_unfolding.specs.Outcome.{Text, Outcome, good, bad, then_, each, refused}
use Rattle.flat_unfolding.specs.Declarations.{header_of, declarations}
use Rattle.flat_unfolding.specs.Design.{Design, no_design, Stage}
use Rattle.flat_unfolding.specs.Parameters.{parameters}
use Rattle.flat_unfolding.specs.Unfolding.{Visit, item_of, header_values, with_resets, top_ports, modules_differ, module_named}

-- what is done of an item: nothing of a process where wires alone are wanted
abbrev pub chosen : BodyTree → (wires_only : Bool) → (whole : Outcome Stage) → Stage → Outcome Stage
chosen (always event body) true o s = good s
chosen b wires_only o s = o

module _ (wires_only : Bool) where
  module _ (modules : List ModuleTree) (visiting : List Text) (prefix : Text) (inside : Visit) where
    abbrev pub chosen_item_of : Stage → Place → BodyTree → Outcome Stage
    chosen_item_of s p b = chosen b wires_only (item_of modules visiting prefix inside s p b) s

    abbrev pub chosen_item : Stage → ItemTree → Outcome Stage
    chosen_item s i = chosen_item_of s i.place i.body

  -- as the visit of a module, with the items that are wanted
  abbrev pub chosen_visit : List ModuleTree → ℕ → Visit
  chosen_visit modules zero prefix visiting m overrides ports d = refused 303 (Some m.place) m.name
  chosen_visit modules (suc n) prefix visiting m overrides ports d =
      then_ (parameters overrides m (record { names = []; design = d })) (λ s.
      then_ (declarations prefix m s) (λ t.
      then_ (header_values m (ports (with_resets (length d.entries) t))) (λ u.
      each (chosen_item modules visiting prefix (chosen_visit modules n)) u m.items)))

-- the wires of a source, with no signal read as a reset: the design that its visit makes without its processes, its drivers untried
abbrev pub wires_from : List ModuleTree → (top : Text) → Option ModuleTree → Outcome Design
wires_from modules top None = refused 301 None top
wires_from modules top (Some m) = then_ (chosen_visit true modules (length modules) [] (m.name ∷ []) m [] (top_ports (header_of m)) (no_design [])) (λ s. good s.design)

abbrev pub wires_of : List ModuleTree → (top : Text) → Outcome Design
wires_of modules top = then_ (modules_differ modules) (λ u. wires_from modules top (module_named top modules))
