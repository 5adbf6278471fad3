use Rattle.std.proofs.Common.{map, drop}
use Rattle.verilog_parse.specs.Texts.{printed_item}
use Rattle.verilog_parse.proofs.TextSteps.{Rows}
use Rattle.verilog_parse.proofs.text.module.put_items.Given as goal

abbrev pub invariant-loop-item : goal.invariant-loop-item
invariant-loop-item l = Rows l.initial.out.items l.out.items (map printed_item l.items) (map printed_item (drop l.item-index l.items))
