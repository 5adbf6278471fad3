-- More bits than one are reduced.
use Rattle.std.proofs.Common.{◌≡◌, cond, refl, sym, ap, ◌∙◌, ne_eqb}
use Rattle.cell_graph.specs.Tree.{Tree, ReduceOr}
use Rattle.flat_meaning.specs.Trees.{Selects, truth}
use Rattle.driver_trees.specs.Drafts.{tree_in}
use Rattle.driver_trees.proofs.Growing.{built-as, ok-map}
use Rattle.driver_trees.proofs.draft.Drafts.truth.Goals as goal

pub returns-else-width-eq1 : goal.returns-else-width-eq1
returns-else-width-eq1 c = record {
  built = λ wid w are is.
      let t : Selects → Tree = λ sel. tree_in sel c.args.self.now c.args.a in
      let e : c.width.result ≡ w = c.width.ensures ∙ is.1 in
      ok-map c.add.result
      (λ id b. built-as (λ sel. truth w (t sel)) b (λ sel. sym (ap (λ v. cond v (t sel) (ReduceOr (t sel))) (ne_eqb w 1 (λ same. c.if-width-eq1.false (e ∙ same))))))
      (c.add.ensures.built wid 1 are (refl, is.0));
}
