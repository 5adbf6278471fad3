-- Zero, or the signal itself.
use Rattle.std.proofs.Common.{◌≡◌, ◌≤◌, ◌<◌, cond, sym, ap, ◌∙◌, arith, pow_pos}
use Rattle.cell_graph.specs.Tree.{Const, Var}
use Rattle.driver_trees.specs.Sketched.{begin_tree}
use Rattle.driver_trees.proofs.Growing.{ok-map}
use Rattle.driver_trees.proofs.sketch.first_tree.Goals as goal

pub returns-then-blocking : goal.returns-then-blocking
returns-then-blocking c = record {
  first = λ wid target drafts some is most mine. ok-map c.constant.result
      (λ id b. record {
        grows = b.grows;
        place = (b.place.0, b.place.1 ∙ is);
        tree = λ sel. b.tree sel ∙ ap (λ n. Const n 0) is ∙ sym (ap (λ b. begin_tree b target wid sel c.args.sig) c.if-blocking.true);
      })
      (c.constant.ensures.built wid drafts some (omega (arith, is, most)) (pow_pos c.args.width));
}

pub returns-else-blocking : goal.returns-else-blocking
returns-else-blocking c = record {
  first = λ wid target drafts some is most mine. ok-map c.read.result
      (λ id b. record {
        grows = b.grows;
        place = (b.place.0, b.place.1 ∙ is);
        tree = λ sel. b.tree sel ∙ ap (λ n. sel c.args.sig 0 n) is
            ∙ sym (ap (λ b. begin_tree b target wid sel c.args.sig) c.if-blocking.false ∙ ap (λ b. cond b (sel c.args.sig 0 (wid c.args.sig)) (Var c.args.sig (wid c.args.sig))) mine);
      })
      (c.read.ensures.built wid drafts some (omega (arith, is)) most);
}
