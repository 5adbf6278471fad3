-- The sides are those of the registers so far, whose names were met.
use Rattle.std.proofs.Common.{◌≡◌, true, take}
use Rattle.std.specs.HashSet as set
use Rattle.fifo_scheme.specs.contracts.index.NamesPartialEq.TheImpl as names
use Rattle.fifo_scheme.specs.declared.index.Names.{Names}
use Rattle.fifo_parts.specs.Tellers.{IsShown}
use Rattle.fifo_scheme.proofs.SidesFound.{AreSidesBelow, IsMetIn}
use Rattle.fifo_scheme.proofs.index.sides.Given as goal

abbrev pub invariant-loop-gray : goal.invariant-loop-gray
invariant-loop-gray l = (IsShown l.net l.table → AreSidesBelow l.net l.domains l.grays l.gray-index l.sides.items)
    × ((n : Names) → set.contains names.ghosts.eq l.met n ≡ true → IsMetIn (take l.gray-index l.grays) n.gray n.count)
