-- What a command answers, by the bytes of its files.
use Rattle.std.specs.Prelude.{◌≡◌}
use Rattle.cdc_base.specs.declared.fault.Fault.{Fault}
use Rattle.report.specs.Faults.{line_of}
use Rattle.command_files.specs.declared.status.Status.{Status}
use Rattle.command_files.specs.declared.status.Status.TheVariants.{Done}
use Rattle.command_files.specs.Endings.{IsCausedBy, IsCausedByAny}
use Rattle.command_files.specs.Files.{Seen, Text, AreAllTold, AreTold}
use Rattle.command_files.specs.Statuses.{IsEnd, IsOfStatus}
use Rattle.command_line.specs.Asked.{Asked, audit, replay, selftest, certify, check, campaign, shown}
use Rattle.audit_command.specs.Audits.{IsAuditOf}
use Rattle.audit_command.specs.Refused.{IsAuditRefused}
use Rattle.campaign_command.specs.Campaigns.{IsCampaignOf}
use Rattle.campaign_command.specs.Refused.{IsCampaignRefused}
use Rattle.certify_command.specs.Certifies.{IsCertifyOf}
use Rattle.certify_command.specs.Refused.{IsCertifyRefused}
use Rattle.check_command.specs.Checks.{IsCheckOf}
use Rattle.check_command.specs.Refused.{IsCheckRefused}
use Rattle.replay_command.specs.Replays.{IsReplayDone, IsReplayRefused}
use Rattle.selftest_command.specs.Selftests.{IsSelftestOf, IsSelftestRefused}
use Rattle.audit_top.specs.Pages.{page_text}

-- the line of a refusal for which this holds
abbrev pub TellsOf : (Fault → Type 0) → Text → Type 0
TellsOf P text = (fault : Fault) × (text ≡ line_of fault) × P fault

-- the answer of a command without files: what is done, or the line of a refusal with its cause
pub record IsAnswered (done : Status → Text → Type 0) (refused : Fault → Status → Type 0) (status : Status) (text : Text) : Type 0 where
  pub done_so : IsEnd status → done status text
  pub caused : IsOfStatus status → TellsOf (λ fault. refused fault status) text

-- over two files, as they are told
pub record IsAnsweredBoth (done : Text → Text → Status → Text → Type 0) (refused : Text → Text → Fault → Status → Type 0) (now : Seen) (net con : Text)
    (status : Status) (text : Text) : Type 0 where
  pub done_so : IsEnd status → AreTold now net con (λ n c. done n c status text)
  pub caused : IsOfStatus status → TellsOf (IsCausedBy refused now net con status) text

-- over three files
pub record IsAnsweredAll (done : Text → Text → Text → Status → Text → Type 0) (refused : Text → Text → Text → Fault → Status → Type 0) (now : Seen) (net con third : Text)
    (status : Status) (text : Text) : Type 0 where
  pub done_so : IsEnd status → AreAllTold now net con third (λ n c t. done n c t status text)
  pub caused : IsOfStatus status → TellsOf (IsCausedByAny refused now net con third status) text

-- what is asked for is answered so
abbrev pub IsAnsweredTo : Asked → Seen → Status → Text → Type 0
IsAnsweredTo (audit json net con) now status text = IsAnsweredBoth (IsAuditOf json con) (IsAuditRefused con) now net con status text
IsAnsweredTo (replay net con run) now status text = IsAnsweredAll (IsReplayDone con) (IsReplayRefused con) now net con run status text
IsAnsweredTo (selftest channels) now status text = IsAnswered (IsSelftestOf channels) (IsSelftestRefused channels) status text
IsAnsweredTo (certify net con) now status text = IsAnsweredBoth (IsCertifyOf con) (IsCertifyRefused con) now net con status text
IsAnsweredTo (check net con cert) now status text = IsAnsweredAll (IsCheckOf con) (IsCheckRefused con) now net con cert status text
IsAnsweredTo (campaign steps seed net con) now status text = IsAnsweredBoth (IsCampaignOf steps seed con) (IsCampaignRefused con) now net con status text
IsAnsweredTo (shown page) now status text = (status ≡ Done) × (text ≡ page_text page)
