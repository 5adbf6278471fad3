use Rattle.std.proofs.Common.{ℕ, ◌<◌, false}
use Rattle.std.specs.Prelude.{All}
use Rattle.cell_graph.specs.Feeds.{node}
use Rattle.domains.proofs.register.reads_pin.Given as goal

abbrev pub invariant-loop-at : goal.invariant-loop-at
invariant-loop-at g l = (i : ℕ) → i < l.at → All (λ b. g.C.Cofactors.reads l.net.graph (node l.reg.next i) b false) l.pins.bits.items
