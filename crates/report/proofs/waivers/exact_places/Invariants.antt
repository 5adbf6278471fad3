use Rattle.std.proofs.Common.{◌≡◌, ◌≤◌, ℕ, List, drop, length}
use Rattle.std.specs.HashMap as hash
use Rattle.std.specs.Str.{bytes_eq}
use Rattle.report.specs.Search.{exact_match}
use Rattle.report.proofs.waivers.exact_places.Given as goal

abbrev pub invariant-loop-place : goal.invariant-loop-place
invariant-loop-place l = record {
  within : l.place ≤ length l.waivers;
  known : (q : List ℕ) → hash.get_by (λ k. bytes_eq q k.now) l.table ≡ exact_match q l.place (drop l.place l.waivers);
}

abbrev pub decreases-loop-place : goal.decreases-loop-place
decreases-loop-place l = l.place
