use Rattle.std.proofs.Common.{◌∙◌, ap, ℕ, rules}
use Rattle.std.specs.Prelude.{IfErr}
use Rattle.command_files.specs.Endings.{HasCause}
use Rattle.selftest_command.specs.Counts.{counts_line}
use Rattle.selftest_command.specs.Selftests.{IsSelftestRefused, unwaived_status}
use Rattle.selftest_command.proofs.Selftests.{counted, crossings_refused, generated_refused}
use Rattle.selftest_command.proofs.selftest.Goals as goal

pub returns-clause-exact : goal.returns-clause-exact
returns-clause-exact c =
    let made = c.in_ok-net.ensures.design in
    let read = made.design.can.read in
    let verdict = c.in_ok-verdict.verdict in
    counted c.args.channels c.in_ok-net.net c.in_ok-net.domains verdict _ _ made c.in_ok-verdict.ensures.exact
    (c.unwaived.ensures.exact ∙ ap unwaived_status c.len.ensures)
    (c.in_ok-text.ensures ∙ ap (λ (bits : ℕ). counts_line c.args.channels bits verdict) (c.in_ok-bits.ensures read.signals read.statics))

pub returns-in_err-net-clause-refused : goal.returns-in_err-net-clause-refused
returns-in_err-net-clause-refused c =
    let refused : IfErr c.generated.result (HasCause (λ status fault. IsSelftestRefused c.args.channels fault status))
    = generated_refused c.args.channels _ c.generated.ensures.refused in
    search (rules, refused, c.in_err-net.was, c.from_residual.ensures.0, c.from_residual.ensures.1)

pub returns-in_err-verdict-clause-refused : goal.returns-in_err-verdict-clause-refused
returns-in_err-verdict-clause-refused c =
    let made = c.in_ok-net.ensures.design in
    let refused : IfErr c.verdict_on.result (HasCause (λ status fault. IsSelftestRefused c.args.channels fault status))
    = crossings_refused c.args.channels c.in_ok-net.net c.in_ok-net.domains made _ (c.verdict_on.ensures.refused made.design.can_audit) in
    search (rules, refused, c.in_err-verdict.was, c.from_residual-in_err-verdict.ensures.0, c.from_residual-in_err-verdict.ensures.1)
