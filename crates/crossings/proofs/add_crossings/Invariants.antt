-- All crossings into the bit are those that are there and those from the bits to come.
use Rattle.std.proofs.Common.{◌≡◌, ◌++◌, ◌≤◌, ◌^◌, length, drop}
use Rattle.cdc_model.specs.Found.{crossings_from}
use Rattle.crossings.proofs.add_crossings.Given as goal

abbrev pub invariant-loop-from : goal.invariant-loop-from
invariant-loop-from l = record {
  all : l.initial.crossings ++ crossings_from l.domains l.to l.reads ≡ l.crossings ++ crossings_from l.domains l.to (drop l.from-index l.reads);
  few : length l.initial.crossings ≤ 2 ^ 22 → length l.crossings ≤ 2 ^ 22;
}
