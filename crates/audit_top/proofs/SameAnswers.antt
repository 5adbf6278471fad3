-- What is answered depends on the constraints of a constraint file alone.
use Rattle.std.proofs.Common.{◌≡◌, ℕ, Bool, List, Result, Ok, subst}
use Rattle.cdc_base.specs.declared.fault.Fault.{Fault}
use Rattle.command_files.specs.declared.answer.Ending.{Ending}
use Rattle.command_files.specs.declared.status.Status.{Status}
use Rattle.cell_graph.specs.declared.net.Net.{Net}
use Rattle.clock_constraints.specs.declared.Constraints.{Constraints}
use Rattle.domains.specs.declared.Domains.{Domains}
use Rattle.verilog_lex.specs.declared.token.Token.{Token}
use Rattle.verilog_lex.specs.Tokens.{tokens_of}
use Rattle.verilog_reading.specs.ItemReading.{IsSource}
use Rattle.verilog_reading.specs.SourceTree.{ModuleTree}
use Rattle.described_design.specs.ConstraintFiles.{HasConstraints}
use Rattle.described_design.specs.Described.{ReadsAs}
use Rattle.described_design.specs.Designs.{IsDesignOf}
use Rattle.described_design.specs.SameConstraints.{HaveSameConstraints}
use Rattle.described_design.proofs.SameConstraints.{same_design, same_refusal}
use Rattle.audit_command.specs.Audits.{AreTextsJudged, IsAuditOf}
use Rattle.audit_command.specs.Refused.{IsAuditRefused, texts, verdict}
use Rattle.campaign_command.specs.Campaigns.{IsCampaignOf}
use Rattle.campaign_command.specs.Refused.{IsCampaignRefused}
use Rattle.campaign_command.specs.Refused as campaign
use Rattle.certify_command.specs.Certifies.{IsCertifyOf}
use Rattle.certify_command.specs.Refused.{IsCertifyRefused}
use Rattle.certify_command.specs.Refused as certify
use Rattle.check_command.specs.Checks.{IsCheckOf}
use Rattle.check_command.specs.Refused.{IsCheckRefused}
use Rattle.check_command.specs.Refused as check
use Rattle.replay_command.specs.Replays.{IsReplayUnder}

one_token_list : (a b : List Token) (r : Result (List Token) Fault) → r ≡ Ok a → r ≡ Ok b → a ≡ b
one_token_list a b r h k = cc

modules_once : (text : List ℕ) (a b : List ModuleTree) → ReadsAs text a → ReadsAs text b → a ≡ b
modules_once text a b r s =
    s.alone a (subst (λ (ts : List Token). IsSource ts a) (one_token_list r.tokens s.tokens (tokens_of text) r.are_tokens s.are_tokens) r.reads)

module _ (net word con other_word other_con : List ℕ) (also : HaveSameConstraints net word con other_word other_con) where
  -- the design is the same one, of the same modules
  abbrev same : (c : Constraints) (made : Net) (domains : Domains) → IsDesignOf word net con c made domains → IsDesignOf other_word net other_con c made domains
  same c made domains d = record {
    modules = d.modules;
    reads = d.reads;
    means = (
        let other = same_design net word con other_word other_con also c made domains d in
        subst (λ (ms : List ModuleTree). HasConstraints other_word ms other_con c) (modules_once net other.modules d.modules other.reads d.reads) other.means
        );
    of_modules = d.of_modules;
    design = d.design;
  }

  -- and so is the verdict on it
  abbrev same_judged : AreTextsJudged word net con → AreTextsJudged other_word net other_con
  same_judged j = record {
    constraints = j.constraints;
    net = j.net;
    domains = j.domains;
    design = same j.constraints j.net j.domains j.design;
    meaning = j.meaning;
    listed = j.listed;
    fifos = j.fifos;
    are_fifos = j.are_fifos;
    is_verdict = j.is_verdict;
    exact = j.exact;
  }

  pub same_audit : (json : Bool) (status : Status) (text : List ℕ) → IsAuditOf json word net con status text → IsAuditOf json other_word net other_con status text
  same_audit json status text a = record {
    judged = same_judged a.judged;
    told = a.told;
    in_order = a.in_order;
    aside = a.aside;
    waived = a.waived;
    status_is = a.status_is;
    answer_is = a.answer_is;
  }

  pub same_replay : (run : List ℕ) (answer : Result (List ℕ) Ending) → IsReplayUnder word net con run answer → IsReplayUnder other_word net other_con run answer
  same_replay run answer r = record {
    constraints = r.constraints;
    net = r.net;
    domains = r.domains;
    design = same r.constraints r.net r.domains r.design;
    replayed = r.replayed;
  }

  pub same_certify : (status : Status) (text : List ℕ) → IsCertifyOf word net con status text → IsCertifyOf other_word net other_con status text
  same_certify status text a = record { judged = same_judged a.judged; clean = a.clean; certifies = a.certifies; status_is = a.status_is; answer_is = a.answer_is }

  pub same_check : (cert : List ℕ) (status : Status) (text : List ℕ) → IsCheckOf word net con cert status text
      → IsCheckOf other_word net other_con cert status text
  same_check cert status text a = record {
    constraints = a.constraints;
    net = a.net;
    domains = a.domains;
    design = same a.constraints a.net a.domains a.design;
    meaning = a.meaning;
    certificate = a.certificate;
    reads = a.reads;
    checked = a.checked;
    exact = a.exact;
    certified = a.certified;
    holding = a.holding;
    status_is = a.status_is;
    answer_is = a.answer_is;
  }

  pub same_campaign : (steps seed : ℕ) (status : Status) (text : List ℕ) → IsCampaignOf steps seed word net con status text
      → IsCampaignOf steps seed other_word net other_con status text
  same_campaign steps seed status text a = record {
    constraints = a.constraints;
    net = a.net;
    domains = a.domains;
    design = same a.constraints a.net a.domains a.design;
    few = a.few;
    found = a.found;
    first = a.first;
    shows = a.shows;
    status_is = a.status_is;
    answer_is = a.answer_is;
  }

  pub same_campaign_refusal : (fault : Fault) (status : Status) → IsCampaignRefused word net con fault status → IsCampaignRefused other_word net other_con fault status
  same_campaign_refusal fault status (campaign.texts h) = campaign.texts (same_refusal net word con other_word other_con also fault status h)
  same_campaign_refusal fault status (campaign.crossings c made domains design h) =
      campaign.crossings c made domains (same c made domains design) h

  pub same_certify_refusal : (fault : Fault) (status : Status) → IsCertifyRefused word net con fault status → IsCertifyRefused other_word net other_con fault status
  same_certify_refusal fault status (certify.texts h) = certify.texts (same_refusal net word con other_word other_con also fault status h)
  same_certify_refusal fault status (certify.crossings c made domains design h) =
      certify.crossings c made domains (same c made domains design) h

  pub same_check_refusal : (cert : List ℕ) (fault : Fault) (status : Status) → IsCheckRefused word net con cert fault status
      → IsCheckRefused other_word net other_con cert fault status
  same_check_refusal cert fault status (check.texts h) = check.texts (same_refusal net word con other_word other_con also fault status h)
  same_check_refusal cert fault status (check.certificate c made domains design h) =
      check.certificate c made domains (same c made domains design) h

  pub same_audit_refusal : (fault : Fault) (status : Status) → IsAuditRefused word net con fault status → IsAuditRefused other_word net other_con fault status
  same_audit_refusal fault status (texts h) = texts (same_refusal net word con other_word other_con also fault status h)
  same_audit_refusal fault status (verdict c made domains design h) =
      verdict c made domains (same c made domains design) h
