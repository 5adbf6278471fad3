use Rattle.std.proofs.Common.{◌≤◌, ◌^◌, List, drop, length}
use Rattle.json.specs.Token.{Token}
use Rattle.campaign.specs.Lines.{HasSteps}
use Rattle.campaign.proofs.text.add_steps.Given as goal

abbrev pub invariant-loop-step : goal.invariant-loop-step
invariant-loop-step l = length l.domains.clocks ≤ 2 ^ 32 → (end : List Token) → HasSteps l.net l.domains (drop l.step-index l.steps) l.output end → HasSteps l.net l.domains l.steps l.initial.output end
