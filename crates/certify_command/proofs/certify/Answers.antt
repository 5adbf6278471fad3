use Rattle.std.proofs.Common.{◌≡◌, Err, rules}
use Rattle.command_files.proofs.Ended.{both_ended, both_unread}
use Rattle.certify_command.specs.Certifies.{IsCertifyOf}
use Rattle.certify_command.specs.Refused.{IsCertifyRefused}
use Rattle.certify_command.proofs.certify.Goals as goal

pub returns-in_err-net_text : goal.returns-in_err-net_text
returns-in_err-net_text g c =
    let same : c.from_residual.result ≡ Err c.in_err-net_text.field-0.0 = search rules in
    rw same (both_unread (IsCertifyOf c.args.con.now) (IsCertifyRefused c.args.con.now) _ _ _ _ _ c.in_err-net_text.ensures.files c.in_err-net_text.ensures.unread)

pub returns : goal.returns
returns g c =
    let told = c.in_ok-net_text.ensures.content in
    both_ended (IsCertifyOf c.args.con.now) (IsCertifyRefused c.args.con.now) _ _ _ _ _ _ (rw c.as_slice.ensures told.0) (rw c.as_slice-2.ensures told.1)
    _ _ c.in_ok-net_text.ensures.files c.certify_texts.ensures.ended c.certify_texts.ensures.exact c.certify_texts.ensures.refused
