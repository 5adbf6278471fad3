use Rattle.std.proofs.Common.{◌≡◌, Err, rules}
use Rattle.command_files.proofs.Ended.{both_ended, both_unread}
use Rattle.campaign_command.specs.Campaigns.{IsCampaignOf}
use Rattle.campaign_command.specs.Refused.{IsCampaignRefused}
use Rattle.campaign_command.proofs.campaign.Goals as goal

pub returns-in_err-net_text : goal.returns-in_err-net_text
returns-in_err-net_text g c =
    let same : c.from_residual.result ≡ Err c.in_err-net_text.field-0.0 = search rules in
    rw same (both_unread (IsCampaignOf c.args.steps c.args.seed c.args.con.now) (IsCampaignRefused c.args.con.now) _ _ _ _ _ c.in_err-net_text.ensures.files c.in_err-net_text.ensures.unread)

pub returns : goal.returns
returns g c =
    let told = c.in_ok-net_text.ensures.content in
    both_ended (IsCampaignOf c.args.steps c.args.seed c.args.con.now) (IsCampaignRefused c.args.con.now) _ _ _ _ _ _ (rw c.as_slice-net_bytes.ensures told.0) (rw c.as_slice-con_bytes.ensures told.1)
    _ _ c.in_ok-net_text.ensures.files c.campaign_texts.ensures.ended c.campaign_texts.ensures.exact c.campaign_texts.ensures.refused
