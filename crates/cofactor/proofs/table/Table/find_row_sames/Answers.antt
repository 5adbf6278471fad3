use Rattle.std.proofs.Common.{◌+◌, sym, length, slice_get}
use Rattle.cell_graph.specs.Unfolded.{tree_of}
use Rattle.cell_graph.specs.Cofactor.{same}
use Rattle.cofactor.proofs.SamePush.{none-told}
use Rattle.cofactor.proofs.SameRows.{none-same}
use Rattle.cofactor.proofs.table.Table.find_row_sames.Goals as goal

pub returns-else-may_have_same-clause-found : goal.returns-else-may_have_same-clause-found
returns-else-may_have_same-clause-found c = λ cube well lt shown sames masks i l.
    none-told (same cube (tree_of c.args.graph.now c.args.id) i) (slice_get c.args.self.now.sames (length c.args.self.now.sames + i)) i
    (none-same c.args.graph.now well cube c.args.self.now c.args.id lt i l shown sames c.cell.result (sym c.cell.ensures) (c.may_have_same.ensures c.if-may_have_same.false))
