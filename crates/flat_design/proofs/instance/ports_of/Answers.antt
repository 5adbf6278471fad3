-- A header's names, then the directions of its declarations, then those of the items.
use Rattle.std.proofs.Common.{ap, cond, map, ◌∙◌, Some, None}
use Rattle.std.specs.Prelude.{filter_map, flat_map}
use Rattle.cdc_base.specs.declared.fault.Place.{Place}
use Rattle.cdc_base.specs.Words.{is_in}
use Rattle.verilog_reading.specs.SourceTree.{DeclTree, PortTree, port_of, item_of, module_of}
use Rattle.flat_unfolding.specs.Declarations.{decl_in}
use Rattle.flat_design.specs.Visiting.{port_in, sides_with}
use Rattle.flat_design.proofs.Sides.{ports-are}
use Rattle.flat_design.proofs.instance.ports_of.Goals as goal

pub returns : goal.returns
returns c = record {
  kept = λ x. ports-are (module_of c.args.module.now) x _ _ _
      (c.in_ok-ports.ensures x ∙ ap (λ ps. cond (is_in (map (λ (p : PortTree). p.name) (map port_of ps)) x) (Some None) None) c.as_slice.ensures)
      (c.in_ok-note_header_directions.ensures x ∙ ap (λ ps. sides_with (filter_map (λ (p : PortTree). p.decl) (map port_of ps)) x (port_in c.in_ok-ports.ports x)) c.as_slice-2.ensures)
      (c.in_ok-note_item_directions.ensures x ∙ ap (λ is. sides_with (map (λ (q : Place × DeclTree). q.1) (flat_map decl_in (map item_of is))) x (port_in c.note_header_directions.new.ports x)) c.as_slice-3.ensures);
}
