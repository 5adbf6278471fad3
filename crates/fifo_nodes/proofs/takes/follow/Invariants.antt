-- The conditions of the choices so far, and the node that is reached.
use Rattle.std.proofs.Common.{◌≡◌, []}
use Rattle.cell_graph.specs.Unfolded.{IsNodeOf, tree_of}
use Rattle.fifo_terms.specs.Takes.{taken}
use Rattle.gray_pointer.specs.Words.{IsPlain}
use Rattle.fifo_nodes.proofs.Choices.{IsSoFar}
use Rattle.fifo_nodes.proofs.takes.follow.Given as goal

abbrev pub invariant-loop : goal.invariant-loop
invariant-loop l = IsPlain l.net.graph → IsNodeOf l.net.graph l.fn.next → l.initial.conditions ≡ []
    → IsSoFar l.net.graph l.bit (taken l.bit (tree_of l.net.graph l.fn.next.cell) l.fn.next.at) l.reached l.conditions
