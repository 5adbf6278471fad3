use Rattle.std.proofs.Common.{◌≡◌, ◌++◌, [], ◌∷◌, List, subst, rules}
use Rattle.std.specs.Prelude.{codes}
use Rattle.json.specs.Token.{Token}
use Rattle.cdc_model.specs.declared.record.RecordStep.{RecordStep}
use Rattle.campaign.specs.Lines.{HasSteps}
use Rattle.campaign.proofs.Written.{line-written}
use Rattle.campaign.proofs.text.record_text.Goals as goal

pub returns : goal.returns
returns c =
    let begin : c.begin_array.new.self ≡ Token.begin_object ∷ Token.key (codes "steps") ∷ Token.begin_array ∷ [] = search rules in
    let end : c.end_object.new.self ≡ (c.add_steps.new.output ++ Token.end_array ∷ []) ++ Token.end_object ∷ [] = search rules in
    line-written c.args.net.now c.args.domains.now c.args.run.now c.begin_array.new.self c.add_steps.new.output c.end_object.new.self c.into_line.result begin
    (λ small. subst (λ (ks : List RecordStep). HasSteps c.args.net.now c.args.domains.now ks c.begin_array.new.self c.add_steps.new.output) c.as_slice.ensures (c.in_ok-add_steps.ensures small))
    end c.into_line.ensures
