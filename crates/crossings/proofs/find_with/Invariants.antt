-- All crossings are those that are there and those into the bits to come.
use Rattle.std.proofs.Common.{◌≡◌, [], ◌++◌, ◌≤◌, ◌^◌, length, drop}
use Rattle.domains.specs.Fit.{Fit}
use Rattle.domains.specs.Nets.{IsNet}
use Rattle.cdc_model.specs.Found.{crossings_of, crossings_among}
use Rattle.cdc_model.specs.Nets.{HasNextCells}
use Rattle.cdc_model.specs.Tables.{ShowsNet}
use Rattle.crossings.proofs.find_with.Given as goal

abbrev pub invariant-loop-to : goal.invariant-loop-to
invariant-loop-to l = record {
  few : length l.crossings ≤ 2 ^ 22;
  same : l.plain ≡ l.initial.plain;
  all : IsNet l.net → HasNextCells l.net → Fit l.net l.domains → ShowsNet l.net [] l.initial.plain
      → crossings_of l.net l.domains ≡ l.crossings ++ crossings_among l.net l.domains (drop l.to-index l.to-items);
}
