use Rattle.std.proofs.Common.{◌≡◌, ◌+◌, drop}
use Rattle.driver_trees.specs.Sketches.{AreOrdered}
use Rattle.driver_loops.specs.Leads.{meeting_places}
use Rattle.driver_loops.specs.Links.{extended}
use Rattle.driver_loops.proofs.links.Links.add_pieces.Given as goal

abbrev pub invariant-loop-place : goal.invariant-loop-place
invariant-loop-place l =
    AreOrdered l.pieces → extended l.self (meeting_places (l.first + l.place) (drop l.place l.pieces) l.sig l.at l.width) ≡ extended l.initial.self (meeting_places l.first l.pieces l.sig l.at l.width)
