-- The process's last trees are wires' drivers.
use Rattle.std.proofs.Common.{◌≡◌, ℕ, true, ◌++◌}
use Rattle.flat_form.specs.View.{stmt_of}
use Rattle.flat_meaning.specs.Flat.{assigns}
use Rattle.flat_meaning.specs.Trees.{Selects, Trees, after}
use Rattle.flat_meaning.specs.Assigned.{may_assign}
use Rattle.flat_meaning.proofs.Drivers.{not_assigned}
use Rattle.driver_trees.specs.Presents.{IsWithin}
use Rattle.driver_trees.specs.Changes.{look_of}
use Rattle.driver_trees.specs.Sketched.{begin_tree}
use Rattle.driver_trees.proofs.Growing.{ok-map}
use Rattle.driver_trees.proofs.Drafted.{pieces_grow, may_within}
use Rattle.driver_trees.proofs.sketch.add_comb.Goals as goal

pub returns : goal.returns
returns c = record {
  adds = λ wid before drafts idle read pieces.
      let B = stmt_of c.args.process.now.body in let es = c.execute.new.drafts in
      let e = c.in_ok-assigned.ensures.executes wid drafts idle read in
      let ts : Selects → Trees = λ sel. after wid (look_of wid true (assigns B) sel) B (begin_tree true (assigns B) wid sel) in
      ok-map c.add_wires.result (λ u h. (e.0, h.0, h.1))
      (c.add_wires.ensures.adds wid es (assigns B) ts (may_assign wid B) before e.1 e.2 e.3 (λ x i. may_within wid (λ d. IsWithin wid) x i read.done B read.fits) (λ x i. not_assigned wid x B i)
      (pieces_grow wid c.args.drafts.now es e.0 c.args.pieces.now.items before pieces));
}
