-- The bits are gone over from the lowest.
use Rattle.std.proofs.Common.{◌≡◌, suc, ◌+◌, refl, sym, ap, subst, ◌∙◌, arith}
use Rattle.flat_meaning.specs.SignalTrees.{with_run}
use Rattle.driver_trees.specs.Givers.{IsOpen, low_tree}
use Rattle.driver_trees.proofs.Givers.{given_grows, runs_begin}
use Rattle.driver_trees.proofs.Growing.{still-grows, ok-map}
use Rattle.driver_trees.proofs.Stays.{grows_not}
use Rattle.driver_trees.proofs.shared.joined.Goals as goal

pub loop-at-init : goal.loop-at-init
loop-at-init c = λ wid words giver drafts is some most given. (
  grows_not wid c.args.drafts.now drafts,
  record { some = (omega arith); place = tt; below = refl },
  λ sel n e. runs_begin (wid c.args.sig) (words sel) giver n c.giver_of.result (c.giver_of.ensures ∙ given.givers 0 (omega arith)) e,
)

pub loop-at-preserved : goal.loop-at-preserved
loop-at-preserved c = λ wid words giver drafts is some most given.
    let i = c.loop-at.invariant wid words giver drafts is some most given in
    let ds = c.args.drafts.now in let es = c.loop-at.drafts in let at = c.loop-at.at in
    let r = c.in_ok-run.ensures.goes_on wid words giver i.0.drafts is some most (given_grows wid ds es i.0 c.args.sig c.args.givers.now words giver given) i.1 (omega (arith, c.loop-at-test.true)) in
    (still-grows wid ds es c.go_on.new.drafts i.0 r.0, r.1, λ sel n e. r.2 sel n ∙ i.2 sel (suc n) (let z : suc n + at ≡ wid c.args.sig = omega (arith, e) in z))

pub returns : goal.returns
returns c = record {
  built = λ wid words giver drafts is some most given.
      let i = c.loop-at.invariant wid words giver drafts is some most given in
      let ds = c.args.drafts.now in let es = c.loop-at.drafts in let run = c.loop-at.run in let w = wid c.args.sig in
      let end : c.loop-at.at ≡ c.args.width = omega (arith, c.loop-at-test.false, c.loop-at.auto.at-end, some) in
      ok-map c.with_run.result (λ id b. record {
        grows = still-grows wid ds es c.with_run.new.drafts i.0 b.grows;
        place = (b.place.0, b.place.1 ∙ is);
        tree = λ sel. b.tree sel ∙ ap (λ m. with_run w (words sel) giver run.from m run.giver (low_tree sel es run)) (sym end) ∙ i.2 sel 0 (let z : 0 + c.loop-at.at ≡ w = omega (arith, end, is) in z);
      }) (c.with_run.ensures.built wid words giver i.0.drafts is some most (given_grows wid ds es i.0 c.args.sig c.args.givers.now words giver given) (subst (IsOpen es run) end i.1) (omega arith));
}
