use Rattle.std.proofs.Common.{◌≡◌, ◌+◌, ℕ, List, length, Some}
use Rattle.std.specs.Prelude.{slice_get}
use Rattle.campaign.specs.declared.run.Run.{Run}
use Rattle.campaign.specs.Run.{CanRun, IsRunAfter}
use Rattle.campaign.proofs.runs.open_runs.Given as goal

abbrev pub invariant-loop-index : goal.invariant-loop-index
invariant-loop-index l = record {
  counted : length l.runs.items ≡ l.index;
  opened : CanRun l.net l.domains → (named : List ℕ) (i : ℕ) (r : Run) → slice_get l.runs.items i ≡ Some r → IsRunAfter l.net l.domains named (l.seed + i) 0 r;
}
