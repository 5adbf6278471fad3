-- A word goes to its place.
use Rattle.std.proofs.Common.{◌≡◌, IfOk, sym, subst, ◌∙◌}
use Rattle.driver_trees.specs.declared.target.Spot.{Spot}
use Rattle.driver_trees.specs.Drafts.{tree_in, width_at}
use Rattle.driver_trees.specs.Growth.{IsBuilt}
use Rattle.driver_trees.specs.Shares.{FitsPlace, placed_tree, place_of}
use Rattle.driver_trees.proofs.target.placed.Goals as goal

pub returns-in-Part : goal.returns-in-Part
returns-in-Part c = record {
  built = λ wid n w drafts old most word.
      let ds = c.args.drafts.now in
      subst (λ (s : Spot). FitsPlace n ds s w → IfOk c.with_part.result (λ id. IsBuilt wid ds c.with_part.new.drafts id n (λ sel. placed_tree n (place_of sel ds s) (tree_in sel ds c.args.word) (tree_in sel ds c.args.old))))
      (sym c.in-Part.is) (λ fits. c.with_part.ensures.built wid n drafts old most (word.0, word.1 ∙ fits.0) fits.1 fits.2);
}

pub returns-in-Chosen : goal.returns-in-Chosen
returns-in-Chosen c = record {
  built = λ wid n w drafts old most word.
      let ds = c.args.drafts.now in
      subst (λ (s : Spot). FitsPlace n ds s w → IfOk c.with_bit.result (λ id. IsBuilt wid ds c.with_bit.new.drafts id n (λ sel. placed_tree n (place_of sel ds s) (tree_in sel ds c.args.word) (tree_in sel ds c.args.old))))
      (sym c.in-Chosen.is) (λ fits. c.with_bit.ensures.built wid n (width_at ds c.in-Chosen.index) drafts old fits.4 most fits.1 fits.2 fits.3 (word.0, word.1 ∙ fits.0));
}
