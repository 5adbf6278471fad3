use Rattle.std.proofs.Common.{◌≡◌, ◌≢◌, ℕ, ◌<◌, ◌≤◌, ◌==◌, true, get_or}
use Rattle.std.specs.List.{list_any}
use Rattle.std.specs.List.Sorted.{IsNonDecreasingBy}
use Rattle.flat_form.proofs.cases.least_absent.Given as goal

abbrev pub invariant-loop-value : goal.invariant-loop-value
invariant-loop-value l = record {
  few : l.next ≤ l.value-index;
  below : (x : ℕ) → x < l.next → list_any (λ v. x == v) l.ascending ≡ true;
  absent : IsNonDecreasingBy (λ v. v) l.ascending → (k : ℕ) → k < l.value-index → get_or l.ascending k 0 ≢ l.next;
}
