use Rattle.std.proofs.Common.{◌≡◌, map, drop}
use Rattle.std.specs.Prelude.{flat_map}
use Rattle.cdc_base.specs.declared.fault.Place.{Place}
use Rattle.verilog_reading.specs.SourceTree.{DeclTree, item_of}
use Rattle.flat_unfolding.specs.Outcome.{Text}
use Rattle.flat_unfolding.specs.Declarations.{decl_in}
use Rattle.flat_design.specs.Visiting.{port_in, sides_with}
use Rattle.flat_design.proofs.instance.note_item_directions.Given as goal

abbrev pub invariant-loop-item : goal.invariant-loop-item
invariant-loop-item l = (x : Text) → sides_with (map (λ (q : Place × DeclTree). q.1) (flat_map decl_in (map item_of (drop l.item-index l.items)))) x (port_in l.ports x)
    ≡ sides_with (map (λ (q : Place × DeclTree). q.1) (flat_map decl_in (map item_of l.items))) x (port_in l.initial.ports x)
