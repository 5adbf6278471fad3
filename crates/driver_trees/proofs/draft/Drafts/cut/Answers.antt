-- Fewer bits than all are cut out.
use Rattle.std.proofs.Common.{◌≡◌, ◌≤◌, ◌+◌, cond, refl, sym, ap, subst, ◌∙◌, ne_eqb}
use Rattle.cell_graph.specs.Tree.{Tree, Slice}
use Rattle.flat_meaning.specs.Trees.{Selects, cut}
use Rattle.driver_trees.specs.Drafts.{tree_in}
use Rattle.driver_trees.proofs.Growing.{built-as, ok-map}
use Rattle.driver_trees.proofs.draft.Drafts.cut.Goals as goal

pub returns-else-width : goal.returns-else-width
returns-else-width c = record {
  built = λ wid w are is some within.
      let t : Selects → Tree = λ sel. tree_in sel c.args.self.now c.args.a in
      let e : c.width.result ≡ w = c.width.ensures ∙ is.1 in
      ok-map c.add.result
      (λ id b. built-as (λ sel. cut w c.args.at c.args.width (t sel)) b
      (λ sel. sym (ap (λ v. cond v (t sel) (Slice (t sel) c.args.at c.args.width)) (ne_eqb w c.args.width (λ same. c.if-width.false (e ∙ same))))))
      (c.add.ensures.built wid c.args.width are (refl, is.0, some, subst (λ n. c.args.at + c.args.width ≤ n) (sym is.1) within));
}
