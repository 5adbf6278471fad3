use Rattle.std.proofs.Common.{◌≡◌, ◌∙◌, ◌<◌, ap, sym, subst, arith, length, Some}
use Rattle.cell_graph.proofs.Cones.{get_contains}
use Rattle.cofactor.specs.Shown.{place_in, IsComplete}
use Rattle.cofactor.proofs.Places.{if_ok, three_if, complete-below, below-listed, get-among}
use Rattle.cofactor.specs.Cubes.{cube_of}
use Rattle.cofactor.proofs.SameRows.{same-shown}
use Rattle.cofactor.proofs.table.Table.open_below.Goals as goal

pub returns : goal.returns
returns c = record {
  known = if_ok c.of_cells.result (λ t f well within id below.
      let g = c.args.net.now.graph in
      let cells = c.in_ok-cells.cells.items in
      let up = c.in_ok-cells.ensures.ascending in
      let closed = c.in_ok-cells.ensures.closed in
      let k = get_contains cells id (below-listed g c.args.roots.now cells c.in_ok-cells.ensures.roots closed id below) in
      let e : c.len-count.result ≡ length c.in_ok-cells.cells.items = (let n = c.len-count.ensures in let o = c.in_ok-cells.cells.ok in omega arith) in
      f well (subst (IsComplete g (Some cells)) (sym e) (complete-below g cells well (c.in_ok-cells.ensures.within well within) closed up)) k.0 id
      (let l = k.1 in omega arith) (get-among cells id k.0 up k.2)) c.of_cells.ensures.known;
  same = if_ok c.of_cells.result (λ t f well within id below i small.
      let g = c.args.net.now.graph in
      let cells = c.in_ok-cells.cells.items in
      let up = c.in_ok-cells.ensures.ascending in
      let closed = c.in_ok-cells.ensures.closed in
      let k = get_contains cells id (below-listed g c.args.roots.now cells c.in_ok-cells.ensures.roots closed id below) in
      let e : c.len-count.result ≡ length c.in_ok-cells.cells.items = (let n = c.len-count.ensures in let o = c.in_ok-cells.cells.ok in omega arith) in
      same-shown g (cube_of c.args.cube.now) t id (f well (subst (IsComplete g (Some cells)) (sym e) (complete-below g cells well (c.in_ok-cells.ensures.within well within) closed up)) k.0 id
      (let l = k.1 in omega arith) (get-among cells id k.0 up k.2)) i small) c.of_cells.ensures.same;
  shown = three_if c.of_cells.result (λ t own f h well within id below.
      let g = c.args.net.now.graph in
      let cells = c.in_ok-cells.cells.items in
      let up = c.in_ok-cells.ensures.ascending in
      let closed = c.in_ok-cells.ensures.closed in
      let k = get_contains cells id (below-listed g c.args.roots.now cells c.in_ok-cells.ensures.roots closed id below) in
      let e : c.len-count.result ≡ length c.in_ok-cells.cells.items = (let n = c.len-count.ensures in let o = c.in_ok-cells.cells.ok in omega arith) in
      let complete = subst (IsComplete g (Some cells)) (sym e) (complete-below g cells well (c.in_ok-cells.ensures.within well within) closed up) in
      let small : k.0 < c.len-count.result = (let l = k.1 in omega arith) in
      let at = get-among cells id k.0 up k.2 in
      record { place = (k.0, ap (λ cs. place_in cs id) own ∙ at); masks = f well complete k.0 id small at; sames = h well complete k.0 id small at }) c.of_cells.ensures.cells c.of_cells.ensures.known c.of_cells.ensures.same;
}
