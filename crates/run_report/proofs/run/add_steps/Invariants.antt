use Rattle.std.proofs.Common.{ℕ, List, Result, drop}
use Rattle.cdc_base.specs.declared.fault.Stop.{Stop}
use Rattle.run_report.specs.Lines.{IsPrintable}
use Rattle.run_report.specs.Printed.{IsAt, GoesOn, AreSteps}
use Rattle.run_report.proofs.run.add_steps.Given as goal

abbrev pub invariant-loop-place : goal.invariant-loop-place
invariant-loop-place l = IsPrintable l.net l.domains → AreSteps l.net l.domains l.steps → IsAt l.net l.domains l.initial.sim
    → IsAt l.net l.domains l.sim
    × ((answer : Result (List ℕ) Stop) → GoesOn l.net l.domains l.sim l.place (drop l.place l.steps) l.text answer → GoesOn l.net l.domains l.initial.sim 0 l.steps l.initial.text answer)
