-- The words so far come first, and the node of the others chooses among them.
use Rattle.std.proofs.Common.{[], Some, option_map}
use Rattle.cell_graph.specs.Unfolded.{IsNodeOf, bit_of}
use Rattle.domains.specs.declared.Domains.{Domains}
use Rattle.cdc_model.specs.Nets.{design_of}
use Rattle.cdc_model.specs.Tables.{ShowsNet}
use Rattle.fifo_laws.specs.Sides.{Side}
use Rattle.gray_pointer.specs.Words.{IsPlain, IsIn}
use Rattle.fifo_ways.specs.Steps.{AreConditions, IsIndexOf}
use Rattle.fifo_ways.proofs.Choices.{AreFirst}
use Rattle.fifo_ways.proofs.choice.chosen.Given as goal

abbrev pub invariant-loop-place : goal.invariant-loop-place
invariant-loop-place l =
    (domains : Domains) (side : Side) → IsPlain l.net.graph → ShowsNet l.net [] l.table → IsNodeOf l.net.graph l.fn.node
    → IsIndexOf (design_of l.net domains) side l.index → AreConditions l.net.graph (design_of l.net domains) side l.initial.conditions
    → IsIn l.net.graph l.rest × AreConditions l.net.graph (design_of l.net domains) side l.conditions
    × AreFirst (design_of l.net domains) side (Some (bit_of l.net.graph l.fn.node)) l.place l.words
    (option_map (bit_of l.net.graph) l.rest)
