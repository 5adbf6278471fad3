use Rattle.std.proofs.Common.{◌∙◌, ap, arith, length, length-append, option_map, Option, List, [], ◌∷◌, Vec, Global}
use Rattle.cell_graph.specs.declared.cell.CellId.{CellId}
use Rattle.cofactor.specs.Cubes.{cube_of}
use Rattle.cofactor.proofs.Places.{masks-more, sames-more}
use Rattle.cofactor.proofs.table.Table.of_cells.Goals as goal

pub loop-place-preserved : goal.loop-place-preserved
loop-place-preserved c =
    let cells : Option (List CellId) = option_map (λ (v : Vec CellId Global). v.items) c.args.cells in
    let row = c.in_ok-push.ensures.row in
    record {
      cells = c.in_ok-push.ensures.cells ∙ c.loop-place.invariant.cells;
      counted = ap length row.1 ∙ (let l = length-append c.loop-place.table.rows (row.0 ∷ []) in let n = c.loop-place.invariant.counted in omega arith);
      known = λ well complete.
          masks-more c.args.graph.now well (cube_of c.args.cube.now) cells c.args.count c.loop-place.place c.loop-place.table c.push.new.self row.0 c.cell_at-cell.result
          c.loop-place-test.true complete c.loop-place.invariant.cells c.in_ok-push.ensures.cells c.loop-place.invariant.counted row.1 c.cell_at-cell.ensures
          (c.loop-place.invariant.known well complete) (row.2 well);
      same = λ well complete.
          sames-more c.args.graph.now well (cube_of c.args.cube.now) cells c.args.count c.loop-place.place c.loop-place.table c.push.new.self row.0 c.cell_at-cell.result
          c.loop-place-test.true complete c.loop-place.invariant.cells c.in_ok-push.ensures.cells c.loop-place.invariant.counted row.1 c.cell_at-cell.ensures
          c.in_ok-push.ensures.kept (c.loop-place.invariant.known well complete) (c.loop-place.invariant.same well complete) (row.3 well);
    }
