-- What is narrower is extended.
use Rattle.std.proofs.Common.{◌≡◌, ◌<◌, cond, refl, sym, ap, subst, ◌∙◌, lt-ltb}
use Rattle.cell_graph.specs.Tree.{Tree, Extend}
use Rattle.flat_meaning.specs.Trees.{Selects, fit}
use Rattle.driver_trees.specs.Drafts.{tree_in}
use Rattle.driver_trees.proofs.Growing.{built-as, ok-map}
use Rattle.driver_trees.proofs.draft.Drafts.fitted.Goals as goal

pub returns-then-width : goal.returns-then-width
returns-then-width c = record {
  built = λ wid w are is narrow word.
      let t : Selects → Tree = λ sel. tree_in sel c.args.self.now c.args.a in
      let less : w < c.args.width = subst (λ n. n < c.args.width) (c.width.ensures ∙ is.1) c.if-width.true in
      ok-map c.add.result
      (λ id b. built-as (λ sel. fit c.args.width w (t sel)) b (λ sel. sym (ap (λ v. cond v (Extend (t sel) c.args.width) (t sel)) (lt-ltb w c.args.width less))))
      (c.add.ensures.built wid c.args.width are (refl, is.0, subst (λ n. n < c.args.width) (sym is.1) less, word));
}
