use Rattle.std.proofs.Common.{◌≡◌, ◌∙◌, refl, sym, ap, subst, arith, length, slice_get, Some}
use Rattle.std.proofs.lemmas.Option.{slice_get_within}
use Rattle.driver_trees.specs.Drafts.{tree_in, width_at}
use Rattle.driver_trees.specs.Sketches.{IsPieceIn}
use Rattle.elaborate.specs.Lowered.{LeadsTo}
use Rattle.elaborate.proofs.Vertices.{all-at, found-at, not-found}
use Rattle.elaborate.proofs.lower.Lowering.made_for.Goals as goal

pub returns-in_ok-tree-in-Some-clause-tree : goal.returns-in_ok-tree-in-Some-clause-tree
returns-in_ok-tree-in-Some-clause-tree c = λ f sel can ends.
    let ds = c.args.sketch.now.drafts in let v = c.args.vertex in let d = c.in-Some.draft.now in
    let here : slice_get ds v ≡ Some d = ap (λ xs. slice_get xs v) (sym c.as_slice-drafts.ensures) ∙ found-at c.as_slice-drafts.result.now v d c.in-Some.ensures.lookup.0 c.in-Some.ensures.lookup.1 in
    record {
      draft = λ id at l. c.in_ok-tree-in-Some.ensures.lowered f sel id can (ap (slice_get ds) at ∙ here) (λ e leads. ends e (LeadsTo.draft d here leads));
      piece = λ i p at there. absurd (let l = slice_get_within ds v d here in omega arith);
    }

pub returns-in-None-clause-tree : goal.returns-in-None-clause-tree
returns-in-None-clause-tree c = λ f sel can ends.
    let ds = c.args.sketch.now.drafts in let ps = c.args.sketch.now.pieces.items in
    let past = not-found c.as_slice-drafts.result.now c.args.vertex c.in-None.ensures.lookup.0 in
    let count = ap length c.as_slice-drafts.ensures in
    record {
      draft = λ id at l. absurd (omega (arith, past, count, l));
      piece = λ i p at here.
          let stands = (all-at (IsPieceIn ds) ps i p can.sketch.stand here).0.0 in
          c.behind.ensures i p at here (tree_in sel ds p.tree) (width_at ds p.tree) ((ends p.tree.0 (LeadsTo.piece i p at here refl)).draft p.tree refl stands);
    }
