use Rattle.std.proofs.Common.{◌≡◌, ◌≢◌, ◌<◌, ℕ, length, take}
use Rattle.campaign.specs.Lanes.{lane}
use Rattle.campaign.proofs.rows.put_lane.Given as goal

abbrev pub invariant-loop-place : goal.invariant-loop-place
invariant-loop-place l = record {
  long : length l.rows ≡ length l.initial.rows;
  kept : (i : ℕ) → i ≢ l.index → lane i l.rows ≡ lane i l.initial.rows;
  put : l.index < 8 → length l.initial.rows ≡ length l.words → take l.place (lane l.index l.rows) ≡ take l.place l.words;
}
