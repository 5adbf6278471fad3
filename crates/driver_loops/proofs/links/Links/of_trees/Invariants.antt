use Rattle.std.proofs.Common.{◌≡◌, ◌++◌, drop, map, length}
use Rattle.driver_trees.specs.Sketches.{AreOrdered}
use Rattle.driver_loops.specs.Leads.{draft_ends, piece_ends, links_of}
use Rattle.driver_loops.proofs.links.Links.of_trees.Given as goal

abbrev pub invariant-loop-draft : goal.invariant-loop-draft
invariant-loop-draft l =
    AreOrdered l.pieces → l.links ++ map (draft_ends l.signals (length l.drafts) l.pieces) (drop l.draft-index l.drafts) ≡ map (draft_ends l.signals (length l.drafts) l.pieces) l.drafts

abbrev pub invariant-loop-piece : goal.invariant-loop-piece
invariant-loop-piece l =
    AreOrdered l.pieces → l.links ++ map piece_ends (drop l.piece-index l.pieces) ≡ links_of l.signals l.drafts l.pieces
