use Rattle.std.proofs.Common.{◌≡◌, ◌≤◌, ◌++◌, List, ℕ, length}
use Rattle.cdc_base.specs.Causes.{IsAdded}
use Rattle.audit_top.proofs.output.write_lines.Given as goal

abbrev pub invariant-loop-left : goal.invariant-loop-left
invariant-loop-left g l = record {
  rising : g.S.Sink.faults l.initial.out ≤ g.S.Sink.faults l.out;
  added : (front : List ℕ) × (front ++ l.left ≡ l.text)
      × IsAdded (g.S.Sink.written l.initial.out) front (g.S.Sink.written l.out);
}

abbrev pub decreases-loop-left : goal.decreases-loop-left
decreases-loop-left g l = length l.left
