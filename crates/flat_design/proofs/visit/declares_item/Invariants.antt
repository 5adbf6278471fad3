use Rattle.std.proofs.Common.{◌≡◌, map, drop}
use Rattle.std.specs.List.{list_any}
use Rattle.verilog_reading.specs.SourceTree.{ItemTree, item_of}
use Rattle.flat_design.specs.Visiting.{is_declaration}
use Rattle.flat_design.proofs.visit.declares_item.Given as goal

abbrev pub invariant-loop-item : goal.invariant-loop-item
invariant-loop-item l = list_any (λ (i : ItemTree). is_declaration i.body) (map item_of l.items) ≡ list_any (λ (i : ItemTree). is_declaration i.body) (map item_of (drop l.item-index l.items))
