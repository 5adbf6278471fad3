use Rattle.std.proofs.Common.{◌∷◌, []}
use Rattle.cell_graph.specs.declared.cell.CellId.{CellId}
use Rattle.cell_graph.specs.Below.{IsBelow}
use Rattle.cell_graph.specs.Reading.{Cube}
use Rattle.cell_graph.specs.Unfolded.{IsWellFormed, IsNodeOf}
use Rattle.cofactor.specs.Shown.{Shows}
use Rattle.cofactor.proofs.Rounds.{IsUnderWay}
use Rattle.cofactor.proofs.table.Table.walk.Given as goal

abbrev pub invariant-loop-turn : goal.invariant-loop-turn
invariant-loop-turn l = (cube : Cube) → IsWellFormed l.graph → IsNodeOf l.graph l.fn.node
    → ((id : CellId) → IsBelow l.graph (l.fn.node.cell ∷ []) id → Shows l.graph cube l.self id) → IsUnderWay l.graph cube l.self l.fn.marks l.fn.node l.turn l.walk
