use Rattle.std.proofs.Common.{◌∙◌, rules}
use Rattle.std.specs.Prelude.{IfErr}
use Rattle.command_files.specs.Endings.{HasCause}
use Rattle.campaign_command.specs.Refused.{IsCampaignRefused}
use Rattle.campaign_command.proofs.Campaigns.{campaigned, crossings_refused, texts_refused}
use Rattle.campaign_command.proofs.campaign_texts.Goals as goal

pub returns-clause-exact : goal.returns-clause-exact
returns-clause-exact c =
    let d = c.in_ok-design.design in
    campaigned _ _ _ c.found_is_capture.ensures _ _ d.constraints d.net d.domains c.in_ok-syncs.syncs c.in_ok-found.found _ _ c.in_ok-design.ensures.design c.in_ok-syncs.ensures.few
    c.in_ok-syncs.ensures.all (λ can all. c.in_ok-found.ensures.first can (c.as_slice.ensures ∙ all)) c.in_ok-answer.ensures.status c.in_ok-answer.ensures.text

pub returns-in_err-design-clause-refused : goal.returns-in_err-design-clause-refused
returns-in_err-design-clause-refused c =
    let refused : IfErr c.design_of_texts.result (HasCause (λ status fault. IsCampaignRefused c.args.word.now c.args.net.now c.args.con.now fault status))
    = texts_refused _ _ _ _ c.design_of_texts.ensures.refused in
    search (rules, refused, c.in_err-design.was, c.from_residual.ensures.0, c.from_residual.ensures.1)

pub returns-in_err-syncs-clause-refused : goal.returns-in_err-syncs-clause-refused
returns-in_err-syncs-clause-refused c =
    let d = c.in_ok-design.design in
    let design = c.in_ok-design.ensures.design in
    let refused : IfErr c.synchronizers.result (HasCause (λ status fault. IsCampaignRefused c.args.word.now c.args.net.now c.args.con.now fault status))
    = crossings_refused _ _ _ d.constraints d.net d.domains design _ (c.synchronizers.ensures.refused design.design.can_audit) in
    search (rules, refused, c.in_err-syncs.was, c.from_residual-in_err-syncs.ensures.0, c.from_residual-in_err-syncs.ensures.1)
