use Rattle.std.proofs.Common.{refl, sym, ap₂, ◌∙◌}
use Rattle.cell_graph.specs.Tree.{Eq}
use Rattle.flat_form.specs.View.{expr_of}
use Rattle.flat_meaning.specs.Trees.{tree}
use Rattle.driver_trees.proofs.Growing.{ok-map, built-as, built-after}
use Rattle.driver_trees.proofs.Cases.{word_later}
use Rattle.driver_trees.proofs.process.equals.Goals as goal

pub returns : goal.returns
returns c = record {
  built = λ wid look t are sees read l most word.
      let ds = c.args.drafts.now in
      let es = c.tree.new.drafts in
      let one = c.in_ok-label.ensures.built wid look are sees read l most in
      let w = word_later ds es c.args.word c.args.size t one.grows.longer word in
      ok-map c.add.result
      (λ id b. built-as (λ sel. Eq (t sel) (tree wid (look sel) (expr_of c.args.label.now) c.args.size)) (built-after one.grows b) (λ sel. ap₂ Eq (w.tree sel) (one.tree sel)))
      (c.add.ensures.built wid 1 one.grows.drafts (refl, (w.place.0, one.place.0, w.place.1 ∙ sym one.place.1)));
}
