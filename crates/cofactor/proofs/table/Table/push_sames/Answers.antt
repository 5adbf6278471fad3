use Rattle.std.proofs.Common.{◌≡◌, ◌∙◌, ◌<◌, arith, ap, length, Option, is_some, unwrap_or, ◌++◌, ◌∷◌, []}
use Rattle.cdc_base.specs.declared.bit.Bit.{Bit}
use Rattle.cell_graph.specs.declared.cell.CellId.{CellId}
use Rattle.cell_graph.specs.Cells.{cell_width}
use Rattle.cell_graph.specs.Unfolded.{tree_of}
use Rattle.cell_graph.specs.Cofactor.{same}
use Rattle.cell_graph.proofs.CellValues.{width-64}
use Rattle.cell_graph.proofs.Trees.{width-tree_of}
use Rattle.cofactor.specs.Cubes.{bit}
use Rattle.cofactor.proofs.SamePush.{keep-more, length-more, there-more, found-more, all-told, same-row, masks-stay, sames-stay}
use Rattle.cofactor.proofs.table.Table.push_sames.Goals as goal

pub loop-at-preserved : goal.loop-at-preserved
loop-at-preserved c =
    let g = c.args.graph.now in
    let id = c.args.id in
    let old = c.args.self.now in
    let mid = c.loop-at.self in
    let new = c.add_same.new.self in
    let at = c.loop-at.at in
    let inv = c.loop-at.invariant in
    let add = c.in_ok-add_same.ensures in
    let x = unwrap_or c.same_of-same.result (bit 0 0) in
    record {
      cells = add.cells ∙ inv.cells;
      rows = add.rows ∙ inv.rows;
      kept = keep-more old.sames mid.sames new.sames x inv.kept add.sames;
      counted = ap length add.sames ∙ length-more mid.sames x ∙ (let n = inv.counted in omega arith);
      told = λ cube well lt shown sames masks.
          let before = inv.told cube well lt shown sames masks in
          let stays = λ (a : CellId). same-row old mid inv.cells inv.rows a in
          let inside : at < cell_width g id = (let l = c.loop-at-test.true in let e = c.width-at-end.ensures in omega arith) in
          let small : at < 64 = (let w = width-64 g well id in let e = width-tree_of g id in omega arith) in
          let is : c.same_of-same.result ≡ same cube (tree_of g id) at = c.same_of-same.ensures cube well (lt, inside)
          (λ a op. masks-stay g cube old mid a (stays a) (shown a op)) (λ a op. sames-stay g cube old mid a (stays a) inv.kept (sames a op)) masks in (
            found-more (same cube (tree_of g id)) at c.with_bit-found.result
                (c.with_bit-found.ensures (λ i. is_some (same cube (tree_of g id) i)) small before.0 (c.is_some.ensures ∙ ap is_some is)),
            there-more (same cube (tree_of g id)) (length old.sames) at mid.sames new.sames inv.counted
                (add.sames ∙ ap (λ (o : Option Bit). mid.sames ++ unwrap_or o (bit 0 0) ∷ []) is) before.1,
          );
    }

pub returns-clause-found : goal.returns-clause-found
returns-clause-found c = λ cube well lt shown sames masks i l.
    let told = c.loop-at.invariant.told cube well lt shown sames masks in
    let e = c.width-at-end.ensures in
    let f = c.loop-at-test.false in
    all-told (same cube (tree_of c.args.graph.now c.args.id)) c.loop-at.at (length c.args.self.now.sames) c.loop-at.found c.loop-at.self.sames told.0 told.1 i (omega arith)
