-- Bits that are there are a slice.
use Rattle.std.proofs.Common.{◌≡◌, ◌≤◌, cond, refl, sym, ap, ◌∙◌, arith, ne_eqb}
use Rattle.cell_graph.specs.Tree.{Const, Slice}
use Rattle.driver_trees.specs.Drafts.{tree_in}
use Rattle.driver_trees.proofs.target.part_of.Goals as goal

pub returns : goal.returns
returns c = record {
  part = λ wid n drafts word room.
      let w = c.args.width in
      let b = c.in_ok-part.ensures.built wid w drafts (refl, word.0, (omega (arith, c.if-width-eq0.false)), (omega (arith, room, word.1))) in
      record {
        grows = b.grows;
        place = (b.place.0, refl);
        bits = b.place.1;
        tree = λ sel. b.tree sel ∙ sym (ap (λ b. cond b (Const 0 0) (Slice (tree_in sel c.args.drafts.now c.args.word) c.args.at w)) (ne_eqb w 0 c.if-width-eq0.false));
      };
}
