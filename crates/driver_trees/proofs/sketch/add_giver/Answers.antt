-- One register gets a giver, and its first one's clock.
use Rattle.std.proofs.Common.{◌∷◌, [], ◌++◌, ap, ◌∙◌}
use Rattle.driver_trees.proofs.Growing.{ok-map}
use Rattle.driver_trees.proofs.Begun.{giver_added, clock_added}
use Rattle.driver_trees.proofs.sketch.add_giver.Goals as goal

pub returns-clause-givers : goal.returns-clause-givers
returns-clause-givers c =
    ok-map c.insert.result (λ u w. giver_added c.args.sig c.args.giver c.args.clock c.args.nexts.now c.take_next-next.new.nexts c.insert.new.entries _ c.take_next-next.ensures.others w.0
    (c.in_ok-push.ensures ∙ ap (λ gs. gs ++ c.args.giver ∷ []) c.take_next-next.ensures.givers)) c.insert.ensures

pub returns-clause-clocks : goal.returns-clause-clocks
returns-clause-clocks c =
    ok-map c.insert.result (λ u w. clock_added c.args.sig c.args.giver c.args.clock c.args.nexts.now c.take_next-next.new.nexts c.insert.new.entries _ c.take_next-next.ensures.others w.0 c.take_next-next.ensures.clock) c.insert.ensures
