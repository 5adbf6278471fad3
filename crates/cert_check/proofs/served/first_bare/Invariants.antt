-- All crossings are those walked over, which are served, and those into the bits to come.
use Rattle.std.proofs.Common.{◌≡◌, [], drop}
use Rattle.std.specs.List.Sorted.{IsSorted}
use Rattle.domains.specs.Fit.{Fit}
use Rattle.domains.specs.Nets.{IsNet}
use Rattle.cdc_model.specs.Found.{crossings_of, crossings_among}
use Rattle.cdc_model.specs.Nets.{HasNextCells}
use Rattle.cdc_model.specs.Tables.{ShowsNet}
use Rattle.cert_check.specs.contracts.served.PassageOrd.TheImpl as passage_order
use Rattle.cert_check.specs.Served.{AreWalked}
use Rattle.cert_check.proofs.served.first_bare.Given as goal

abbrev pub invariant-loop-to : goal.invariant-loop-to
invariant-loop-to l = record {
  same : l.plain ≡ l.initial.plain;
  walked : IsNet l.net → HasNextCells l.net → Fit l.net l.domains → ShowsNet l.net [] l.initial.plain → IsSorted passage_order.ghosts.cmp l.served
      → AreWalked l.served (crossings_of l.net l.domains) (crossings_among l.net l.domains (drop l.to-index l.to-items)) l.count;
}
