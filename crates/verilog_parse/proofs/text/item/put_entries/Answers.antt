use Rattle.verilog_parse.proofs.TextSteps.{ok_as}
use Rattle.verilog_parse.proofs.ItemTexts as Text
use Rattle.verilog_parse.proofs.text.item.put_entries.Goals as goal

pub returns-in-Ordered : goal.returns-in-Ordered
returns-in-Ordered c = ok_as _ _ _ _ _ (Text.ordered_printed _ _ _ c.in-Ordered.is c.as_slice.ensures) c.put_values.ensures

pub returns-in-Named : goal.returns-in-Named
returns-in-Named c = ok_as _ _ _ _ _ (Text.named_printed _ _ _ c.in-Named.is c.as_slice-in-Named.ensures) c.put_named.ensures
