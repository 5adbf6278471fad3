use Rattle.std.proofs.Common.{◌≡◌, ℕ, ◌≤◌, max, length}
use Rattle.driver_loops.specs.Links.{ends_of}
use Rattle.driver_loops.proofs.links.Links.begin_up_to.Given as goal

abbrev pub invariant-loop-place : goal.invariant-loop-place
invariant-loop-place l = record {
  size : length l.self ≡ l.place;
  most : l.place ≤ max l.count (length l.initial.self);
  ends : (v : ℕ) → ends_of l.self v ≡ ends_of l.initial.self v;
}
