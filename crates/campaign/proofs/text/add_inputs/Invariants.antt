use Rattle.std.proofs.Common.{◌≡◌, ◌++◌, drop, map}
use Rattle.json.specs.Tree.{members_tokens}
use Rattle.report.specs.VerdictJson.{members_from}
use Rattle.campaign.specs.Lines.{input_entry}
use Rattle.campaign.proofs.text.add_inputs.Given as goal

abbrev pub invariant-loop-given : goal.invariant-loop-given
invariant-loop-given l = l.initial.output ++ members_tokens (members_from (map (input_entry l.net.graph.signals) l.inputs))
    ≡ l.output ++ members_tokens (members_from (map (input_entry l.net.graph.signals) (drop l.given-index l.inputs)))
