use Rattle.std.proofs.Common.{◌≡◌, Err, rules}
use Rattle.command_files.proofs.Ended.{three_ended, three_unread}
use Rattle.check_command.specs.Checks.{IsCheckOf}
use Rattle.check_command.specs.Refused.{IsCheckRefused}
use Rattle.check_command.proofs.check.Goals as goal

pub returns-in_err-net_text : goal.returns-in_err-net_text
returns-in_err-net_text g c =
    let same : c.from_residual.result ≡ Err c.in_err-net_text.field-0.0 = search rules in
    rw same (three_unread (IsCheckOf c.args.con.now) (IsCheckRefused c.args.con.now) _ _ _ _ _ _ c.in_err-net_text.ensures.files c.in_err-net_text.ensures.unread)

pub returns : goal.returns
returns g c =
    let told = c.in_ok-net_text.ensures.content in
    three_ended (IsCheckOf c.args.con.now) (IsCheckRefused c.args.con.now) _ _ _ _ _ _ _ _ (rw c.as_slice.ensures told.0) (rw c.as_slice-2.ensures told.1) (rw c.as_slice-3.ensures told.2)
    _ _ c.in_ok-net_text.ensures.files c.check_texts.ensures.ended c.check_texts.ensures.exact c.check_texts.ensures.refused
