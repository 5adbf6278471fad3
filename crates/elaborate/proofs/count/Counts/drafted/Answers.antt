use Rattle.std.proofs.Common.{◌≡◌, ◌∙◌, ◌+◌, refl, sym, ap, subst, arith, length}
use Rattle.std.proofs.lemmas.Option.{slice_get_within}
use Rattle.flat_meaning.specs.Design.{size_in}
use Rattle.driver_trees.specs.Drafts.{IsDraftAt}
use Rattle.elaborate.specs.Counts.{capped, cells_in}
use Rattle.elaborate.specs.Lowered.{FormLeadsTo}
use Rattle.elaborate.proofs.Vertices.{made-tree, operand-before, read-tree}
use Rattle.elaborate.proofs.count.Counts.drafted.Goals as goal

pub returns-in-Made : goal.returns-in-Made
returns-in-Made c = λ f sel id can at ends.
    let ds = c.args.sketch.now.drafts in let ps = c.args.sketch.now.pieces.items in let w = c.args.draft.width in let cell = c.in-Made.cell in
    let is = subst (λ x. IsDraftAt (size_in f) ds id.0 w x) c.in-Made.is (can.sketch.drafts id.0 c.args.draft at) in
    c.made.ensures ds sel id.0 w is (λ a operand.
    (ends a.0 (subst (λ x. FormLeadsTo f (length ds) ps w x a.0) (sym c.in-Made.is) (a, operand, refl))).draft a refl
    (let l = operand-before id.0 a ds w cell is operand in let m = slice_get_within ds id.0 c.args.draft at in omega arith))
    ∙ ap (λ t. capped (cells_in t)) (sym (made-tree sel ds id w cell c.args.draft at c.in-Made.is is))

pub returns-in-Read : goal.returns-in-Read
returns-in-Read c = λ f sel id can at ends.
    let ds = c.args.sketch.now.drafts in let ps = c.args.sketch.now.pieces.items in let w = c.args.draft.width in
    let is = subst (λ x. IsDraftAt (size_in f) ds id.0 w x) c.in-Read.is (can.sketch.drafts id.0 c.args.draft at) in
    c.read.ensures f sel can (λ wire. record {
      stand = can.sketch.stand;
      ordered = can.sketch.ordered;
      some = is.0;
      room = omega (arith, is.1, is.2);
      known = λ i p here own meets.
          (ends (length ds + i) (subst (λ x. FormLeadsTo f (length ds) ps w x (length ds + i)) (sym c.in-Read.is) (wire, (i, p, here, own, meets, refl)))).piece i p refl here;
    })
    ∙ ap (λ t. capped (cells_in t)) (sym (read-tree sel ds id w c.in-Read.sig c.in-Read.at c.args.draft at c.in-Read.is refl))
