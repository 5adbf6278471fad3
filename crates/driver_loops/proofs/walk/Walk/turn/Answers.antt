-- A link more was followed, or the last vertex is done.
use Rattle.std.proofs.Common.{◌≡◌, ◌∙◌, ◌≤◌, sym, ap, subst, length, get_or, Some, slice_get}
use Rattle.std.proofs.lemmas.Option.{slice_get-get_or}
use Rattle.std.proofs.lemmas.Result.{on_ok_weaker}
use Rattle.driver_loops.specs.Links.{ends_of}
use Rattle.driver_loops.specs.Walks.{IsWalk}
use Rattle.driver_loops.proofs.Members.{on_both}
use Rattle.driver_loops.proofs.Steps.{turned, turned_back}
use Rattle.driver_loops.proofs.walk.Walk.turn.Goals as goal

pub returns-in_ok-push : goal.returns-in_ok-push
returns-in_ok-push c =
    let n = c.args.step.followed in
    let ends = c.from-ends.result.now in
    let at : slice_get (ends_of c.args.links.now c.args.step.vertex) n ≡ Some (get_or ends n 0) =
    ap (λ xs. slice_get xs n) (sym c.from-ends.ensures) ∙ slice_get-get_or ends n 0 c.if-step-ends.true in
    on_both c.enter.result
    (λ marks way base root is.
    subst (IsWalk c.args.links.now base root c.enter.new.self.entered.items c.enter.new.self.way.items) (sym c.enter.ensures.order)
    (turned c.args.links.now base root c.args.self.now.entered.items c.args.self.now.way.items c.args.step c.args.self.now.order.items (get_or ends n 0) is
    at c.enter.new.self.entered.items c.push.new.items.items c.enter.new.self.way.items marks c.in_ok-push.ensures way))
    c.enter.ensures.entered c.enter.ensures.way

pub returns-else-step-ends : goal.returns-else-step-ends
returns-else-step-ends c =
    on_ok_weaker c.push-else-step-ends.result
    (λ more base root is.
    subst (IsWalk c.args.links.now base root c.args.self.now.entered.items c.args.self.now.way.items) (sym more)
    (turned_back c.args.links.now base root c.args.self.now.entered.items c.args.self.now.way.items c.args.step c.args.self.now.order.items is
    (subst (λ xs. length xs ≤ c.args.step.followed) c.from-ends.ensures c.if-step-ends.false)))
    c.push-else-step-ends.ensures
