use Rattle.std.proofs.Common.{◌≡◌, ◌∙◌, ◌+◌, sym, ap, ap₂, subst, arith, ◌++◌, ◌∷◌, [], length, slice_get}
use Rattle.cell_graph.specs.Tree.{bit_at}
use Rattle.cell_graph.specs.Unfolded.{tree_of}
use Rattle.cell_graph.specs.Cofactor.{same}
use Rattle.cell_graph.proofs.Cones.{on_ok}
use Rattle.cofactor.specs.declared.table.Row.{Row}
use Rattle.cofactor.specs.Cubes.{cube_of}
use Rattle.cofactor.specs.Shown.{Shown, IsSame}
use Rattle.cofactor.proofs.SamePush.{both_ok, keep-to}
use Rattle.cofactor.proofs.table.Table.push.Goals as goal

pub returns-clause-row : goal.returns-clause-row
returns-clause-row c =
    let row : Row = record { masks = c.known_bits-masks.result; same = c.in_ok-same.same; start = c.len-start.result } in
    let start : c.len-start.result ≡ length c.args.self.now.sames =
    (let l = c.len-start.ensures in let o = c.self.inside.sames.ok in let v = ap (λ (t : Shown). length t.sames) c.self.view_is in omega arith) in
    both_ok c.add_row.result (λ e f. (
      row,
      e ∙ ap (λ rs. rs ++ row ∷ []) c.in_ok-same.ensures.rows,
      c.known_bits-masks.ensures,
      λ well lt shown sames i l. subst (λ b. IsSame (bit_at c.in_ok-same.same i) b (same (cube_of c.args.cube.now) (tree_of c.args.graph.now c.args.id) i))
          (sym (ap₂ (λ bs n. slice_get bs (n + i)) f start))
          (c.in_ok-same.ensures.found (cube_of c.args.cube.now) well lt shown sames (c.known_bits-masks.ensures well lt shown) i l),
    )) c.add_row.ensures.rows c.add_row.ensures.sames

pub returns-clause-kept : goal.returns-clause-kept
returns-clause-kept c = on_ok c.add_row.result (λ e. keep-to c.args.self.now.sames c.find_row_sames.new.self.sames c.add_row.new.self.sames c.in_ok-same.ensures.kept e) c.add_row.ensures.sames
