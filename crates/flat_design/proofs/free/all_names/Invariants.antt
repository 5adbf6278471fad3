use Rattle.std.proofs.Common.{◌≡◌, ◌==◌, ◌||◌, drop}
use Rattle.std.specs.Prelude.{bytes_eq}
use Rattle.std.specs.List.{list_any}
use Rattle.std.specs.Cmp.Lexicographic.{pointwise}
use Rattle.indexmap.specs.IndexSet.{contains_by}
use Rattle.cdc_base.specs.declared.signal.ResetPin.{ResetPin}
use Rattle.flat_unfolding.specs.Outcome.{Text}
use Rattle.flat_design.specs.Freeing.{are_named}
use Rattle.flat_design.proofs.free.all_names.Given as goal

abbrev pub invariant-loop-pin : goal.invariant-loop-pin
invariant-loop-pin l = (x : Text) → (contains_by (pointwise ◌==◌ x) l.names || list_any (λ (r : ResetPin). bytes_eq r.name x)
    (drop l.pin-index l.pins)) ≡ are_named l.named l.pins x
