-- The last tree is what the process gives.
use Rattle.std.proofs.Common.{◌≡◌, cond, ◌==◌, [], ◌++◌, Some, None, option_map, sym, ap, ◌∙◌}
use Rattle.std.specs.Option.{option_or}
use Rattle.driver_trees.specs.Presents.{present_of}
use Rattle.driver_trees.specs.Sketched.{givers_in, clock_at, given_by}
use Rattle.driver_trees.proofs.Growing.{ok-map}
use Rattle.driver_trees.proofs.Begun.{nothing_given, no_clock}
use Rattle.driver_trees.proofs.sketch.add_next.Goals as goal

pub returns-in-Some-clause-givers : goal.returns-in-Some-clause-givers
returns-in-Some-clause-givers c =
    let here : present_of c.args.present.now c.args.sig ≡ Some c.in-Some.tree = sym c.finish.ensures.last ∙ c.in-Some.is in
    ok-map c.add_giver.result (λ u h. λ x. h x ∙ sym (ap (λ o. givers_in c.args.nexts.now x ++ cond (x == c.args.sig) (given_by o c.args.bits) []) here)) c.add_giver.ensures.givers

pub returns-in-Some-clause-clocks : goal.returns-in-Some-clause-clocks
returns-in-Some-clause-clocks c =
    let here : present_of c.args.present.now c.args.sig ≡ Some c.in-Some.tree = sym c.finish.ensures.last ∙ c.in-Some.is in
    ok-map c.add_giver.result (λ u h. λ x. h x ∙ sym (ap (λ o. option_or (clock_at c.args.nexts.now x) (cond (x == c.args.sig) (option_map (λ id. c.args.clock) o) None)) here)) c.add_giver.ensures.clocks

pub returns-in-None-clause-givers : goal.returns-in-None-clause-givers
returns-in-None-clause-givers c =
    let here : present_of c.args.present.now c.args.sig ≡ None = sym c.finish.ensures.last ∙ c.in-None.is in
    λ x. nothing_given (givers_in c.args.nexts.now x) (x == c.args.sig) ∙ sym (ap (λ o. givers_in c.args.nexts.now x ++ cond (x == c.args.sig) (given_by o c.args.bits) []) here)

pub returns-in-None-clause-clocks : goal.returns-in-None-clause-clocks
returns-in-None-clause-clocks c =
    let here : present_of c.args.present.now c.args.sig ≡ None = sym c.finish.ensures.last ∙ c.in-None.is in
    λ x. no_clock (clock_at c.args.nexts.now x) (x == c.args.sig) ∙ sym (ap (λ o. option_or (clock_at c.args.nexts.now x) (cond (x == c.args.sig) (option_map (λ id. c.args.clock) o) None)) here)
