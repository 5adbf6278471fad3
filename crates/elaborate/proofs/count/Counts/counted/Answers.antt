use Rattle.std.proofs.Common.{◌≡◌, ◌∙◌, refl, sym, ap, arith, length, slice_get, Some}
use Rattle.std.proofs.lemmas.Option.{slice_get_within}
use Rattle.driver_trees.specs.Sketches.{IsPieceIn}
use Rattle.elaborate.specs.Lowered.{LeadsTo}
use Rattle.elaborate.proofs.Vertices.{all-at, found-at, not-found}
use Rattle.elaborate.proofs.count.Counts.counted.Goals as goal

pub returns-in-Some : goal.returns-in-Some
returns-in-Some c = λ f sel can ends.
    let ds = c.args.sketch.now.drafts in let v = c.args.vertex in let d = c.in-Some.draft.now in
    let here : slice_get ds v ≡ Some d = ap (λ xs. slice_get xs v) (sym c.as_slice.ensures) ∙ found-at c.as_slice.result.now v d c.in-Some.ensures.lookup.0 c.in-Some.ensures.lookup.1 in
    record {
      draft = λ id at l. c.drafted.ensures f sel id can (ap (slice_get ds) at ∙ here) (λ e leads. ends e (LeadsTo.draft d here leads));
      piece = λ i p at there. absurd (let l = slice_get_within ds v d here in omega arith);
    }

pub returns-in-None : goal.returns-in-None
returns-in-None c = λ f sel can ends.
    let ds = c.args.sketch.now.drafts in let ps = c.args.sketch.now.pieces.items in
    let past = not-found c.as_slice.result.now c.args.vertex c.in-None.ensures.lookup.0 in
    let count = ap length c.as_slice.ensures in
    record {
      draft = λ id at l. absurd (omega (arith, past, count, l));
      piece = λ i p at here.
          let stands = (all-at (IsPieceIn ds) ps i p can.sketch.stand here).0.0 in
          c.behind.ensures i p at here ∙ (ends p.tree.0 (LeadsTo.piece i p at here refl)).draft p.tree refl stands;
    }
