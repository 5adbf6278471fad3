-- The words of the target's parts are pieces.
use Rattle.std.proofs.Common.{◌≡◌, ◌++◌, sym, ap, subst}
use Rattle.flat_form.specs.View.{target_of, expr_of}
use Rattle.flat_meaning.specs.Trees.{value_tree}
use Rattle.flat_meaning.specs.Pieces.{pieces as target_pieces}
use Rattle.driver_trees.specs.Shares.{shares, ArePuts}
use Rattle.driver_trees.proofs.Growing.{ok-map}
use Rattle.driver_trees.proofs.Drafted.{pieces_as, pieces_grow, idle_sees, shares_pieces}
use Rattle.driver_trees.proofs.sketch.add_assign.Goals as goal

pub returns : goal.returns
returns c = record {
  adds = λ wid before drafts idle read pieces.
      let ds = c.args.drafts.now in let es = c.puts.new.drafts in let T = target_of c.args.assign.now.target in let E = expr_of c.args.assign.now.value in
      let made = c.in_ok-puts.ensures.shares wid (λ sel. sel) drafts (idle_sees wid ds c.args.present.now idle) read.target read.value in
      ok-map c.add_puts.result
      (λ u h. (made.0, pieces_as (λ sel x. before sel x ++ target_pieces wid x T (value_tree wid sel T E)) h (λ sel x. ap (λ ms. before sel x ++ ms) (shares_pieces wid x sel T (value_tree wid sel T E)))))
      (c.add_puts.ensures.adds wid es (λ sel. shares wid sel T (value_tree wid sel T E)) before idle.widths (subst (λ ps. ArePuts wid es ps (λ sel. shares wid sel T (value_tree wid sel T E))) (sym c.as_slice.ensures.value) made.1)
      (pieces_grow wid ds es made.0 c.args.pieces.now.items before pieces));
}
