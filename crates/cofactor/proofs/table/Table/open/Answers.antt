use Rattle.std.proofs.Common.{◌<◌, ap, sym, subst, refl, arith, None}
use Rattle.cofactor.specs.Shown.{place_in, IsComplete}
use Rattle.cofactor.proofs.Places.{if_ok, three_if, complete-all}
use Rattle.cofactor.specs.Cubes.{cube_of}
use Rattle.cofactor.proofs.SameRows.{same-shown}
use Rattle.cofactor.proofs.table.Table.open.Goals as goal

pub returns : goal.returns
returns c = record {
  known = if_ok c.of_cells.result (λ t f well id lt.
      f well (subst (IsComplete c.args.net.now.graph None) (sym c.cell_count-count.ensures) (complete-all c.args.net.now.graph well)) id.0 id
      (let e = c.cell_count-count.ensures in omega arith) refl) c.of_cells.ensures.known;
  same = if_ok c.of_cells.result (λ t f well id lt i small. same-shown c.args.net.now.graph (cube_of c.args.cube.now) t id
      (f well (subst (IsComplete c.args.net.now.graph None) (sym c.cell_count-count.ensures) (complete-all c.args.net.now.graph well)) id.0 id
      (let e = c.cell_count-count.ensures in omega arith) refl) i small) c.of_cells.ensures.same;
  shown = three_if c.of_cells.result (λ t cells f h well id lt.
      let complete = subst (IsComplete c.args.net.now.graph None) (sym c.cell_count-count.ensures) (complete-all c.args.net.now.graph well) in
      let within : id.0 < c.cell_count-count.result = (let e = c.cell_count-count.ensures in omega arith) in
      record { place = (id.0, ap (λ cs. place_in cs id) cells); masks = f well complete id.0 id within refl; sames = h well complete id.0 id within refl }) c.of_cells.ensures.cells c.of_cells.ensures.known c.of_cells.ensures.same;
}
