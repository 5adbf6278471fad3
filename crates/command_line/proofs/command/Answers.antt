use Rattle.std.proofs.Common.{◌≡◌, ◌∙◌, ap, ap₂, false}
use Rattle.clap.specs.declared.builder.command.Command.{Command}
use Rattle.clap.specs.declared.builder.command.Command.TheViews.{out-Command}
use Rattle.std.proofs.lemmas.Result.{IfOk-weaker}
use Rattle.clap.specs.Words.{App, app_of, with_subcommand}
use Rattle.command_line.specs.Cli.{audit_app, replay_app, selftest_app, certify_app, check_app, campaign_app, cli_head}
use Rattle.command_line.proofs.command.Goals as goal

-- the command is this one, and it has no argument for all levels
abbrev Is : Command → App → Type 0
Is c a = (app_of c ≡ a) × ((out-Command c).has_globals ≡ false)

one_more : (whole command below : Command) (a b : App) → Is command a → Is below b
    → ((out-Command command).has_globals ≡ false → (out-Command below).has_globals ≡ false → (app_of whole ≡ with_subcommand (app_of command) (app_of below).top) × ((out-Command whole).has_globals ≡ false))
    → Is whole (with_subcommand a b.top)
one_more whole command below a b first second more =
    let is = more first.1 second.1 in
    (is.0 ∙ ap₂ with_subcommand first.0 (ap (λ (x : App). x.top) second.0), is.1)

pub returns : goal.returns
returns c =
    let one = one_more _ _ _ cli_head audit_app c.bare_command-command.ensures c.in_ok-audit_command.ensures c.in_ok-command.ensures in
    let two = one_more _ _ _ _ replay_app one c.in_ok-replay_command.ensures c.in_ok-command-2.ensures in
    let three = one_more _ _ _ _ selftest_app two c.in_ok-selftest_command.ensures c.in_ok-command-3.ensures in
    let four = one_more _ _ _ _ certify_app three c.in_ok-certify_command.ensures c.in_ok-command-4.ensures in
    let five = one_more _ _ _ _ check_app four c.in_ok-check_command.ensures c.in_ok-command-5.ensures in
    IfOk-weaker c.with_command-6.result _ _ (λ whole more. one_more whole _ _ _ campaign_app five c.in_ok-campaign_command.ensures more) c.with_command-6.ensures
