-- Both words have bits.
use Rattle.std.proofs.Common.{ℕ, ◌+◌, ◌≤◌, Option, IfOk, refl, sym, ap, subst, ◌∙◌}
use Rattle.cell_graph.specs.declared.cell.CellId.{CellId}
use Rattle.flat_meaning.specs.Trees.{glue}
use Rattle.driver_trees.specs.Drafts.{tree_in, width_at}
use Rattle.driver_trees.specs.Growth.{IsBuilt, optional_bits, optional_tree, IsOptionalDraft}
use Rattle.driver_trees.proofs.Growing.{built-as, glue-both, ok-map, some-bits}
use Rattle.driver_trees.proofs.draft.Drafts.above.Goals as goal

pub returns-in-Some : goal.returns-in-Some
returns-in-Some c = record {
  built = λ wid m are high.
      let old = c.args.self.now in
      let low = c.in-Some.low in
      let n = width_at old low in
      subst (λ (o : Option CellId). IsOptionalDraft old o → m + optional_bits old o ≤ 64
      → IfOk c.add.result (λ id. IsBuilt wid old c.add.new.self id (m + optional_bits old o) (λ sel. glue m (tree_in sel old c.args.high) (optional_bits old o) (optional_tree sel old o))))
      (sym c.in-Some.is)
      (λ is fits. ok-map c.add.result
      (λ id b. built-as (λ sel. glue m (tree_in sel old c.args.high) n (tree_in sel old low)) b
      (λ sel. glue-both m n (tree_in sel old c.args.high) (tree_in sel old low) (some-bits wid old c.args.high m are high) (some-bits wid old low n are is)))
      (c.add.ensures.built wid (m + n) are (ap (λ k. k + n) (sym high.1), high.0, is.0, fits)));
}
