-- Each assignment is drafted.
use Rattle.std.proofs.Common.{◌≡◌, ℕ, ◌+◌, ◌<◌, ◌≤◌, List, [], ◌∷◌, ◌++◌, map, drop, length, sym, ap, subst, ◌∙◌, arith}
use Rattle.std.specs.List.{AllByRecursion as Each}
use Rattle.std.proofs.lemmas.List.{drop_more, drop_all}
use Rattle.flat_form.specs.View.{target_of, expr_of}
use Rattle.flat_meaning.specs.Trees.{value_tree}
use Rattle.flat_meaning.specs.Pieces.{pieces as target_pieces, assigned_pieces}
use Rattle.driver_trees.specs.Sketches.{pieces_in}
use Rattle.driver_trees.specs.Sketched.{IsAssignRead, assign_of}
use Rattle.driver_trees.proofs.Growing.{still-grows}
use Rattle.driver_trees.proofs.Stays.{grows_not}
use Rattle.driver_trees.proofs.Drafted.{as_they_are, with_all, with_more, with_none}
use Rattle.driver_trees.proofs.sketch.add_assigns.Goals as goal

pub loop-assign-init : goal.loop-assign-init
loop-assign-init c = λ wid before drafts idle read pieces. (grows_not wid c.args.drafts.now drafts, read, with_all (λ sel x. assigned_pieces wid sel x (map assign_of c.args.assigns.now)) pieces)

pub loop-assign-preserved : goal.loop-assign-preserved
loop-assign-preserved c = λ wid before drafts idle read pieces.
    let i = c.loop-assign.invariant wid before drafts idle read pieces in
    let xs = c.args.assigns.now in let k = c.loop-assign.assign-index in let a = c.assign-item.result in let rest = drop (k + 1) xs in
    let ds = c.loop-assign.drafts in let es = c.add_assign.new.drafts in let T = target_of a.target in let E = expr_of a.value in
    let next : drop k xs ≡ a ∷ rest = drop_more xs k a (omega (arith, c.loop-assign-test.true, c.loop-assign.auto.assign-index-end)) ∙ ap (λ y. y ∷ rest) (sym c.assign-item.is) in
    let both = subst (Each (IsAssignRead wid)) next i.1 in
    let r = c.in_ok-add_assign.ensures.adds wid (λ sel x. pieces_in sel ds c.loop-assign.pieces.items x) i.0.drafts idle both.0 (as_they_are i.2.stand) in (
      still-grows wid c.args.drafts.now ds es i.0 r.0,
      both.1,
      with_more es c.add_assign.new.pieces.items (λ sel x. target_pieces wid x T (value_tree wid sel T E)) (λ sel x. assigned_pieces wid sel x (map assign_of rest)) i.2 r.1 (λ sel x. ap (λ l. assigned_pieces wid sel x (map assign_of l)) (sym next)),
    )

pub returns : goal.returns
returns c = record {
  adds = λ wid before drafts idle read pieces.
      let i = c.loop-assign.invariant wid before drafts idle read pieces in let xs = c.args.assigns.now in
      let none : drop c.loop-assign.assign-index xs ≡ [] = drop_all c.loop-assign.assign-index xs (omega (arith, c.loop-assign-test.false)) in
      (i.0, with_none i.2 (λ sel x. ap (λ l. assigned_pieces wid sel x (map assign_of l)) none));
}
