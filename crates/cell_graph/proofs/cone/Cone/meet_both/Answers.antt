use Rattle.cell_graph.proofs.Cones.{on_ok, met_in_turn}
use Rattle.cell_graph.proofs.cone.Cone.meet_both.Goals as goal

pub returns-clause-only : goal.returns-clause-only
returns-clause-only c = on_ok c.meet-2.result (λ f x h. met_in_turn (c.in_ok-meet.ensures.only x) (f x h)) c.meet-2.ensures.only
