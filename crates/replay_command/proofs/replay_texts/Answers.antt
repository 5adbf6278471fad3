use Rattle.std.proofs.Common.{Ok, refl, rules}
use Rattle.std.specs.Prelude.{IfErr}
use Rattle.command_files.specs.Endings.{HasCause}
use Rattle.replay_command.specs.Replays.{IsReplayRefused}
use Rattle.replay_command.proofs.Replays.{record_refused, replayed_under, texts_refused}
use Rattle.replay_command.proofs.replay_texts.Goals as goal

pub returns-clause-exact : goal.returns-clause-exact
returns-clause-exact c =
    let d = c.in_ok-design.design in
    (refl, replayed_under _ _ _ _ d.constraints d.net d.domains (Ok c.in_ok-text.text) c.in_ok-design.ensures.design c.in_ok-text.ensures.exact)

pub returns-in_err-design-clause-refused : goal.returns-in_err-design-clause-refused
returns-in_err-design-clause-refused c =
    let refused : IfErr c.design_of_texts.result (HasCause (λ status fault. IsReplayRefused c.args.word.now c.args.net.now c.args.con.now c.args.run.now fault status))
    = texts_refused _ _ _ _ _ c.design_of_texts.ensures.refused in
    search (rules, refused, c.in_err-design.was, c.from_residual.ensures.0, c.from_residual.ensures.1)

pub returns-in_err-text-clause-refused : goal.returns-in_err-text-clause-refused
returns-in_err-text-clause-refused c =
    let d = c.in_ok-design.design in
    let refused : IfErr c.replayed_text.result (HasCause (λ status fault. IsReplayRefused c.args.word.now c.args.net.now c.args.con.now c.args.run.now fault status))
    = record_refused _ _ _ _ d.constraints d.net d.domains _ c.in_ok-design.ensures.design c.replayed_text.ensures.exact in
    search (rules, refused, c.in_err-text.was, c.from_residual-in_err-text.ensures.0, c.from_residual-in_err-text.ensures.1)
