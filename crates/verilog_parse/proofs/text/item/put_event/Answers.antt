use Rattle.verilog_parse.proofs.TextSteps.{ok_behind, ok_as}
use Rattle.verilog_parse.proofs.ItemTexts as Text
use Rattle.verilog_parse.proofs.text.item.put_event.Goals as goal

pub returns-in_ok-put_edges-in-Edges : goal.returns-in_ok-put_edges-in-Edges
returns-in_ok-put_edges-in-Edges c = ok_as _ _ _ _ _ (Text.edges_printed _ _ _ c.in-Edges.is c.as_slice.ensures)
    (ok_behind _ _ _ _ _ _ c.in_ok-put_mark.ensures (ok_behind _ _ _ _ _ _ c.in_ok-put_mark-in-Edges.ensures (ok_behind _ _ _ _ _ _ c.in_ok-put_edges-in-Edges.ensures c.put_mark-in-Edges-2.ensures)))
