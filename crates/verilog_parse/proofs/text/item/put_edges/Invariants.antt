use Rattle.std.proofs.Common.{map, drop}
use Rattle.cdc_base.specs.declared.words.Keyword.TheVariants.{Or}
use Rattle.verilog_parse.specs.Printed.{word}
use Rattle.verilog_parse.specs.Pieces.{edge_pieces}
use Rattle.verilog_parse.proofs.TextSteps.{Lists}
use Rattle.verilog_parse.proofs.text.item.put_edges.Given as goal

abbrev pub invariant-loop-at : goal.invariant-loop-at
invariant-loop-at l = Lists l.initial.out.items l.out.items (word Or) (map edge_pieces l.edges) l.at (map edge_pieces (drop l.at l.edges))
