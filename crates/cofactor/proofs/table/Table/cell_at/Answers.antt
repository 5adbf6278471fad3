use Rattle.std.proofs.Common.{◌≡◌, ◌∙◌, sym, ap, subst, arith, Option, Some, None, option_map, List}
use Rattle.cell_graph.specs.declared.cell.CellId.{CellId}
use Rattle.cofactor.specs.Shown.{Shown, place_in}
use Rattle.cofactor.proofs.Places.{same-cell}
use Rattle.cofactor.proofs.table.Table.cell_at.Goals as goal

pub returns-in-None : goal.returns-in-None
returns-in-None c = λ id lt h.
    let all : c.args.self.now.cells ≡ None = ap (λ (s : Shown). s.cells) (sym c.self.view_is) ∙ ap (option_map (λ v. v.items)) c.in-None.is in
    let at : Some id.0 ≡ Some c.args.place = subst (λ (o : Option (List CellId)). place_in o id ≡ Some c.args.place) all h in
    let is : id.0 ≡ c.args.place = cc in
    let n = c.cell_count.ensures in
    same-cell c.nth_cell.result id (c.nth_cell.ensures (omega arith) ∙ sym is)
