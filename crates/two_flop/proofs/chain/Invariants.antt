-- The whole chain is the flops so far and those behind the last of them.
use Rattle.std.proofs.Common.{◌≡◌, ◌-◌, [], ◌∷◌, ◌++◌}
use Rattle.domains.specs.Nets.{IsNet}
use Rattle.cdc_model.specs.Nets.{HasNextCells}
use Rattle.cdc_model.specs.Syncs.{flops_behind}
use Rattle.cdc_model.specs.Tables.{ShowsNet}
use Rattle.two_flop.specs.Flops.{AreKept}
use Rattle.two_flop.proofs.chain.Given as goal

abbrev pub invariant-loop : goal.invariant-loop
invariant-loop l = IsNet l.net → HasNextCells l.net → ShowsNet l.net [] l.table → AreKept l.net l.domains l.readers 3 l.fn.first
    → AreKept l.net l.domains l.readers (3 - l.counter) l.last
    × (l.fn.first ∷ flops_behind l.net l.domains 3 l.fn.first ≡ l.flops ++ flops_behind l.net l.domains (3 - l.counter) l.last)
