-- The lowest bit of the word shifted down.
use Rattle.std.proofs.Common.{◌≤◌, refl, sym, subst, arith}
use Rattle.cell_graph.specs.Tree.{Slice}
use Rattle.driver_trees.proofs.Growing.{built-of, ok-map, some-bits}
use Rattle.driver_trees.proofs.expr.chosen_bit.Goals as goal

pub returns : goal.returns
returns c = record {
  built = λ wid m are word by_is.
      let old = c.args.drafts.now in
      let shifted = c.in_ok-a.ensures.built wid m are (sym word.1, word.0, by_is) in
      ok-map c.add-2.result (λ id b. built-of (λ t. Slice t 0 1) shifted b)
      (c.add-2.ensures.built wid 1 shifted.grows.drafts (refl, shifted.place.0, (omega arith), subst (λ n. 1 ≤ n) (sym shifted.place.1) (some-bits wid old c.args.word m are word)));
}
