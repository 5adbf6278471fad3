use Rattle.std.proofs.Common.{refl, subst, ap}
use Rattle.command_line.specs.Asked.{Asked}
use Rattle.command_line.specs.Cli.{AsksFor, asked_of}
use Rattle.command_line.specs.Asked.{audit, replay, selftest, certify, check, campaign, shown}
use Rattle.audit_command.specs.Audits.{IsAuditOf}
use Rattle.audit_command.specs.Refused.{IsAuditRefused}
use Rattle.campaign_command.specs.Campaigns.{IsCampaignOf}
use Rattle.campaign_command.specs.Refused.{IsCampaignRefused}
use Rattle.certify_command.specs.Certifies.{IsCertifyOf}
use Rattle.certify_command.specs.Refused.{IsCertifyRefused}
use Rattle.check_command.specs.Checks.{IsCheckOf}
use Rattle.check_command.specs.Refused.{IsCheckRefused}
use Rattle.replay_command.specs.Replays.{IsReplayDone, IsReplayRefused}
use Rattle.selftest_command.specs.Selftests.{IsSelftestOf, IsSelftestRefused}
use Rattle.audit_top.proofs.Answered.{answered_all, answered_both, answered_shown, answered_test}
use Rattle.audit_top.proofs.top.answer_request.Goals as goal

pub returns-in-Audit-clause-answered : goal.returns-in-Audit-clause-answered
returns-in-Audit-clause-answered g c = λ words asks.
    let net = c.in-Audit.net.now in
    let con = c.in-Audit.con.now in
    let json = c.in-Audit.json in
    let here = subst (λ (x : Asked). AsksFor words x) (ap asked_of c.in-Audit.is) asks in
    answered_both words _ _ (audit json net con) here (IsAuditOf json con) (IsAuditRefused con) net con refl (λ s t h. h) _ _ c.audit.ensures c.answer_of.ensures

pub returns-in-Replay-clause-answered : goal.returns-in-Replay-clause-answered
returns-in-Replay-clause-answered g c = λ words asks.
    let net = c.in-Replay.net.now in
    let con = c.in-Replay.con.now in
    let run = c.in-Replay.run'.now in
    let here = subst (λ (x : Asked). AsksFor words x) (ap asked_of c.in-Replay.is) asks in
    answered_all words _ _ (replay net con run) here (IsReplayDone con) (IsReplayRefused con) net con run refl (λ s t h. h) _ _ c.replay.ensures c.answer_of-in-Replay.ensures

pub returns-in-Selftest-clause-answered : goal.returns-in-Selftest-clause-answered
returns-in-Selftest-clause-answered g c = λ words asks.
    let n = c.in-Selftest.channels in
    let here = subst (λ (x : Asked). AsksFor words x) (ap asked_of c.in-Selftest.is) asks in
    answered_test words _ _ (selftest n) here (IsSelftestOf n) (IsSelftestRefused n) refl (λ s t h. h) _ _ c.selftest.ensures.ended c.selftest.ensures.exact c.selftest.ensures.refused
    c.answer_of-in-Selftest.ensures

pub returns-in-Certify-clause-answered : goal.returns-in-Certify-clause-answered
returns-in-Certify-clause-answered g c = λ words asks.
    let net = c.in-Certify.net.now in
    let con = c.in-Certify.con.now in
    let here = subst (λ (x : Asked). AsksFor words x) (ap asked_of c.in-Certify.is) asks in
    answered_both words _ _ (certify net con) here (IsCertifyOf con) (IsCertifyRefused con) net con refl (λ s t h. h) _ _ c.certify.ensures c.answer_of-in-Certify.ensures

pub returns-in-Check-clause-answered : goal.returns-in-Check-clause-answered
returns-in-Check-clause-answered g c = λ words asks.
    let net = c.in-Check.net.now in
    let con = c.in-Check.con.now in
    let cert = c.in-Check.cert.now in
    let here = subst (λ (x : Asked). AsksFor words x) (ap asked_of c.in-Check.is) asks in
    answered_all words _ _ (check net con cert) here (IsCheckOf con) (IsCheckRefused con) net con cert refl (λ s t h. h) _ _ c.check.ensures c.answer_of-in-Check.ensures

pub returns-in-Campaign-clause-answered : goal.returns-in-Campaign-clause-answered
returns-in-Campaign-clause-answered g c = λ words asks.
    let steps = c.in-Campaign.steps in
    let seed = c.in-Campaign.seed in
    let net = c.in-Campaign.net.now in
    let con = c.in-Campaign.con.now in
    let here = subst (λ (x : Asked). AsksFor words x) (ap asked_of c.in-Campaign.is) asks in
    answered_both words _ _ (campaign steps seed net con) here (IsCampaignOf steps seed con) (IsCampaignRefused con) net con refl (λ s t h. h) _ _ c.campaign.ensures
    c.answer_of-in-Campaign.ensures

pub returns-in-Show-clause-answered : goal.returns-in-Show-clause-answered
returns-in-Show-clause-answered g c = λ words asks.
    let here = subst (λ (x : Asked). AsksFor words x) (ap asked_of c.in-Show.is) asks in
    answered_shown words _ _ (shown c.in-Show.page) here refl c.show.result c.show.ensures (λ a h. (h.0, h))
