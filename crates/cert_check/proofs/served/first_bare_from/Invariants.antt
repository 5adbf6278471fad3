-- All crossings are those walked over, which are served, and those from the bits to come.
use Rattle.std.proofs.Common.{drop}
use Rattle.std.specs.List.Sorted.{IsSorted}
use Rattle.cdc_model.specs.Found.{crossings_from}
use Rattle.cert_check.specs.contracts.served.PassageOrd.TheImpl as passage_order
use Rattle.cert_check.specs.Served.{AreWalked}
use Rattle.cert_check.proofs.served.first_bare_from.Given as goal

abbrev pub invariant-loop-from : goal.invariant-loop-from
invariant-loop-from l = IsSorted passage_order.ghosts.cmp l.served
    → AreWalked l.served (crossings_from l.domains l.to l.reads) (crossings_from l.domains l.to (drop l.from-index l.reads)) l.count
