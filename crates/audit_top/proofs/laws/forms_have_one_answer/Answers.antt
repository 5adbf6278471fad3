use Rattle.described_design.proofs.SameConstraints.{same_refusal}
use Rattle.audit_top.proofs.SameAnswers.{same_audit, same_audit_refusal, same_campaign, same_campaign_refusal, same_certify, same_certify_refusal, same_check, same_check_refusal, same_replay}
use Rattle.audit_top.proofs.laws.forms_have_one_answer.Goals as goal

pub returns-clause-audited : goal.returns-clause-audited
returns-clause-audited c = same_audit

pub returns-clause-replayed : goal.returns-clause-replayed
returns-clause-replayed c = same_replay

pub returns-clause-certified : goal.returns-clause-certified
returns-clause-certified c = same_certify

pub returns-clause-checked : goal.returns-clause-checked
returns-clause-checked c = same_check

pub returns-clause-campaigned : goal.returns-clause-campaigned
returns-clause-campaigned c = same_campaign

pub returns-clause-campaign_refused : goal.returns-clause-campaign_refused
returns-clause-campaign_refused c = same_campaign_refusal

pub returns-clause-certify_refused : goal.returns-clause-certify_refused
returns-clause-certify_refused c = same_certify_refusal

pub returns-clause-check_refused : goal.returns-clause-check_refused
returns-clause-check_refused c = same_check_refusal

pub returns-clause-audit_refused : goal.returns-clause-audit_refused
returns-clause-audit_refused c = same_audit_refusal

pub returns-clause-replay_refused : goal.returns-clause-replay_refused
returns-clause-replay_refused c = same_refusal
