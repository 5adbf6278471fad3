-- Each process is drafted.
use Rattle.std.proofs.Common.{◌≡◌, ℕ, ◌+◌, ◌<◌, ◌≤◌, List, [], ◌∷◌, ◌++◌, map, drop, length, sym, ap, subst, ◌∙◌, arith}
use Rattle.std.specs.List.{AllByRecursion as Each}
use Rattle.std.proofs.lemmas.List.{drop_more, drop_all}
use Rattle.flat_form.specs.declared.flat.FlatComb.{FlatComb}
use Rattle.flat_form.specs.View.{stmt_of}
use Rattle.flat_meaning.specs.Pieces.{comb_pieces, all_comb_pieces}
use Rattle.driver_trees.specs.Statements.{IsStmtRead}
use Rattle.driver_trees.specs.Sketches.{pieces_in}
use Rattle.driver_trees.proofs.Growing.{still-grows}
use Rattle.driver_trees.proofs.Stays.{grows_not}
use Rattle.driver_trees.proofs.Drafted.{as_they_are, with_all, with_more, with_none}
use Rattle.driver_trees.proofs.sketch.add_combs.Goals as goal

pub loop-process-init : goal.loop-process-init
loop-process-init c = λ wid before drafts idle read pieces. (
  grows_not wid c.args.drafts.now drafts,
  idle,
  read,
  with_all (λ sel x. all_comb_pieces wid sel x (map (λ (p : FlatComb). stmt_of p.body) c.args.processes.now)) pieces,
)

pub loop-process-preserved : goal.loop-process-preserved
loop-process-preserved c = λ wid before drafts idle read pieces.
    let i = c.loop-process.invariant wid before drafts idle read pieces in
    let xs = c.args.processes.now in let k = c.loop-process.process-index in let a = c.process-item.result in let rest = drop (k + 1) xs in
    let ds = c.loop-process.drafts in let es = c.add_comb.new.drafts in
    let next : drop k xs ≡ a ∷ rest = drop_more xs k a (omega (arith, c.loop-process-test.true, c.loop-process.auto.process-index-end)) ∙ ap (λ y. y ∷ rest) (sym c.process-item.is) in
    let both = subst (Each (λ (p : FlatComb). IsStmtRead wid p.body)) next i.2 in
    let r = c.in_ok-add_comb.ensures.adds wid (λ sel x. pieces_in sel ds c.loop-process.pieces.items x) i.0.drafts i.1 both.0 (as_they_are i.3.stand) in (
      still-grows wid c.args.drafts.now ds es i.0 r.0,
      r.1,
      both.1,
      with_more es c.add_comb.new.pieces.items (λ sel x. comb_pieces wid sel x (stmt_of a.body)) (λ sel x. all_comb_pieces wid sel x (map (λ (p : FlatComb). stmt_of p.body) rest)) i.3 r.2
          (λ sel x. ap (λ l. all_comb_pieces wid sel x (map (λ (p : FlatComb). stmt_of p.body) l)) (sym next)),
    )

pub returns : goal.returns
returns c = record {
  adds = λ wid before drafts idle read pieces.
      let i = c.loop-process.invariant wid before drafts idle read pieces in let xs = c.args.processes.now in
      let none : drop c.loop-process.process-index xs ≡ [] = drop_all c.loop-process.process-index xs (omega (arith, c.loop-process-test.false)) in
      (i.0, i.1, with_none i.3 (λ sel x. ap (λ l. all_comb_pieces wid sel x (map (λ (p : FlatComb). stmt_of p.body) l)) none));
}
