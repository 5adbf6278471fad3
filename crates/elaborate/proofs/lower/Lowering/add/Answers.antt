use Rattle.std.proofs.lemmas.Option.{slice_get_within}
use Rattle.cell_graph.proofs.Grown.{width-cell}
use Rattle.cell_graph.proofs.Trees.{tree_of-cell}
use Rattle.elaborate.proofs.lower.Lowering.add.Goals as goal

pub returns-clause-made : goal.returns-clause-made
returns-clause-made c = λ fits.
    let g = c.add.new.self in
    let at = c.in_ok-id.ensures.found fits in record {
      there = slice_get_within g.cells c.in_ok-id.id.0 c.args.cell at;
      wide = width-cell g c.fits.ensures c.in_ok-id.id c.args.cell at;
      tree = tree_of-cell g c.fits.ensures c.in_ok-id.id c.args.cell at;
    }
