-- A root more adds what it leads to.
use Rattle.std.proofs.Common.{◌≡◌, ◌∙◌, sym, ap, subst, [], ◌∷◌, ◌++◌, ◌+◌, append_assoc, append-nil, take, get_or}
use Rattle.std.proofs.lemmas.List.{take_all, take_more}
use Rattle.driver_loops.specs.Walks.{HasWalked}
use Rattle.driver_loops.proofs.Fronts.{more_reached}
use Rattle.driver_loops.proofs.walk.Walk.go_all.Goals as goal

pub loop-root-init : goal.loop-root-init
loop-root-init c = record {
  walked = λ before h. subst (λ rs. HasWalked c.args.links.now rs c.args.self.now) (sym (append-nil before)) h;
  longer = λ before h. ([], sym (append-nil c.args.self.now.order.items));
}

pub loop-root-preserved : goal.loop-root-preserved
loop-root-preserved c =
    let ls = c.args.links.now in
    let roots = c.args.roots.now in
    let i = c.loop-root.root-index in
    let is = c.loop-root.invariant in
    let r = get_or roots i 0 in
    record {
      walked = λ before h.
          let w = is.walked before h in
          let more : (before ++ take i roots) ++ r ∷ [] ≡ before ++ take (i + 1) roots = append_assoc before (take i roots) (r ∷ []) ∙ ap (λ rs. before ++ rs) (sym (take_more roots i 0 c.loop-root-test.true)) in
          subst (λ rs. HasWalked ls rs c.go.new.self) more record {
            way = c.in_ok-go.ensures.way;
            done = c.in_ok-go.ensures.done w.way w.done;
            reached = more_reached ls (before ++ take i roots) r c.loop-root.self.order.items c.go.new.self.order.items w.reached (c.in_ok-go.ensures.reached w.way w.done);
          };
      longer = λ before h.
          let w = is.walked before h in
          let old = is.longer before h in
          let new = c.in_ok-go.ensures.longer w.way w.done in
          (old.0 ++ new.0, new.1 ∙ ap (λ xs. xs ++ new.0) old.1 ∙ append_assoc c.args.self.now.order.items old.0 new.0);
    }

pub returns-clause-walked : goal.returns-clause-walked
returns-clause-walked c = λ before h.
    subst (λ rs. HasWalked c.args.links.now (before ++ rs) c.loop-root.self) (take_all c.loop-root.root-index c.args.roots.now c.loop-root-test.false) (c.loop-root.invariant.walked before h)
