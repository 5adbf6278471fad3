-- What is looked for on ways, by sets.
use Rattle.std.specs.Prelude.{Bool}
use Rattle.std.specs.HashSet as set
use Rattle.cdc_base.specs.contracts.bit.BitPartialEq.TheImpl as bits
use Rattle.cdc_base.specs.declared.bit.Bit.{Bit}
use Rattle.cell_graph.specs.contracts.cell.NodePartialEq.TheImpl as nodes
use Rattle.cell_graph.specs.declared.cell.Node.{Node}
use Rattle.fifo_ways.specs.contracts.sought.GuardPartialEq.TheImpl as guards
use Rattle.fifo_ways.specs.declared.marked.Marked.{Marked}
use Rattle.fifo_ways.specs.declared.sought.Guard.{Guard}
use Rattle.fifo_ways.specs.Judged.{Found}

-- the two are one
abbrev pub same_bit : Bit → Bit → Bool
same_bit = bits.ghosts.eq

abbrev pub same_node : Node → Node → Bool
same_node = nodes.ghosts.eq

abbrev pub same_guard : Guard → Guard → Bool
same_guard = guards.ghosts.eq

-- whether each is in its set
abbrev pub found_by : Marked → Found
found_by m = record {
  word = λ b. set.contains same_bit m.words b;
  read = λ n. set.contains same_node m.reads n;
  test = λ p. set.contains same_guard m.tests p;
}
