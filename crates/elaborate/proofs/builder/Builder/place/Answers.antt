use Rattle.std.proofs.Common.{sym, subst, length}
use Rattle.std.proofs.lemmas.Option.{slice_get_within}
use Rattle.cell_graph.specs.Cells.{Cells}
use Rattle.cell_graph.specs.Unfolded.{IsCellOf}
use Rattle.cell_graph.proofs.Grown.{added-well, width-cell}
use Rattle.elaborate.specs.Grown.{Grows}
use Rattle.elaborate.proofs.Grown.{added-grows}
use Rattle.elaborate.proofs.Shared.{added-shared}
use Rattle.elaborate.proofs.builder.Builder.place.Goals as goal

pub invariant_of-self-2 : goal.invariant_of-self-2
invariant_of-self-2 c = (
  added-well c.self.inside.graph c.add.new.self c.args.cell c.self.invariant.0
      (subst (λ (g : Cells). IsCellOf g (length g.cells) c.args.cell) (sym c.self.view_is) c.requires) c.add.ensures.signals c.in-Ok.ensures.cells,
  added-shared c.self.inside.graph c.add.new.self c.args.cell c.self.invariant.1 c.in-Ok.ensures.cells,
)

pub returns-clause-grown : goal.returns-clause-grown
returns-clause-grown c =
    subst (λ (g : Cells). Grows g c.add.new.self) c.self.view_is (added-grows c.self.inside.graph c.add.new.self c.args.cell c.add.ensures.signals c.in-Ok.ensures.cells)

pub returns-clause-word : goal.returns-clause-word
returns-clause-word c =
    let well = added-well c.self.inside.graph c.add.new.self c.args.cell c.self.invariant.0
    (subst (λ (g : Cells). IsCellOf g (length g.cells) c.args.cell) (sym c.self.view_is) c.requires) c.add.ensures.signals c.in-Ok.ensures.cells in (
      slice_get_within c.add.new.self.cells c.in-Ok.id.0 c.args.cell c.in-Ok.ensures.found,
      width-cell c.add.new.self well c.in-Ok.id c.args.cell c.in-Ok.ensures.found,
    )
