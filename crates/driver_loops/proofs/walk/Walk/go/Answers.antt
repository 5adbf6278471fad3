-- The root is entered, each turn keeps what the walk has, and in the end all is done.
use Rattle.std.proofs.Common.{◌≡◌, ◌∙◌, sym, ap, subst, rules, [], ◌∷◌, ◌++◌, cond}
use Rattle.driver_loops.specs.Walks.{IsWalk, is_unmarked, first_step}
use Rattle.driver_loops.proofs.Steps.{begun, all_done, all_reached}
use Rattle.driver_loops.proofs.walk.Walk.go.Goals as goal

pub loop-init : goal.loop-init
loop-init c = λ empty done.
    subst (IsWalk c.args.links.now c.args.self.now.order.items c.args.root c.enter.new.self.entered.items c.enter.new.self.way.items) (sym c.enter.ensures.order)
    (begun c.args.links.now c.args.self.now.entered.items c.args.self.now.order.items c.args.root done c.enter.new.self.entered.items c.enter.new.self.way.items
    c.in_ok-enter.ensures.entered
    (c.in_ok-enter.ensures.way ∙ ap (λ ys. cond (is_unmarked c.args.self.now.entered.items c.args.root) (ys ++ first_step c.args.root ∷ []) ys) empty))

pub loop-preserved : goal.loop-preserved
loop-preserved c = λ empty done.
    c.in_ok-turn-in-Some.ensures c.args.self.now.order.items c.args.root
    (subst (λ way. IsWalk c.args.links.now c.args.self.now.order.items c.args.root c.loop.self.entered.items way c.loop.self.order.items)
    c.in-Some.ensures.items (c.loop.invariant empty done))

pub returns-in-None-clause-done : goal.returns-in-None-clause-done
returns-in-None-clause-done c = λ empty done.
    let none : c.loop.self.way.items ≡ [] = search rules in
    all_done c.args.links.now c.args.self.now.order.items c.args.root c.loop.self.entered.items c.loop.self.order.items
    (subst (λ way. IsWalk c.args.links.now c.args.self.now.order.items c.args.root c.loop.self.entered.items way c.loop.self.order.items) none (c.loop.invariant empty done))

pub returns-in-None-clause-reached : goal.returns-in-None-clause-reached
returns-in-None-clause-reached c = λ empty done.
    let none : c.loop.self.way.items ≡ [] = search rules in
    all_reached c.args.links.now c.args.self.now.order.items c.args.root c.loop.self.entered.items c.loop.self.order.items
    (subst (λ way. IsWalk c.args.links.now c.args.self.now.order.items c.args.root c.loop.self.entered.items way c.loop.self.order.items) none (c.loop.invariant empty done))
