use Rattle.std.proofs.Common.{Ok, Err, refl, rules, subst, sym}
use Rattle.std.specs.Prelude.{IfErr}
use Rattle.run_file.specs.Files.{FitsNet, IsMeaning}
use Rattle.run_file.specs.Numbers.{record_numbers}
use Rattle.run_report.specs.Refusals.{step_numbers}
use Rattle.command_files.specs.Endings.{IsOfFiles}
use Rattle.replay_command.specs.Replays.{IsReplayOf}
use Rattle.described_design.proofs.Designs.{given_holds}
use Rattle.replay_command.proofs.Replays.{no_answer, run_of, unread_ending}
use Rattle.replay_command.proofs.replayed_text.Goals as goal

pub returns-in_err-record-clause-of_files : goal.returns-in_err-record-clause-of_files
returns-in_err-record-clause-of_files c =
    let refused : IfErr c.or_refused.result IsOfFiles = c.or_refused.ensures.ended record_numbers refl c.read.ensures.numbered in
    search rules

pub returns-in_err-record-clause-exact : goal.returns-in_err-record-clause-exact
returns-in_err-record-clause-exact c = λ can.
    let refused : IfErr c.or_refused.result (λ e. IsReplayOf c.args.net.now c.args.domains.now c.args.run.now (Err e))
    = unread_ending _ _ _ _ _ c.or_refused.ensures.exact (c.read.ensures.refused can.read) in
    no_answer _ _ _ _ c.from_residual.ensures.0 (search rules)

pub returns-clause-of_files : goal.returns-clause-of_files
returns-clause-of_files c = c.or_refused-2.ensures.ended step_numbers refl c.run_text.ensures.numbered

pub returns-clause-exact : goal.returns-clause-exact
returns-clause-exact c = λ can.
    let means = given_holds (IsMeaning c.args.net.now c.args.domains.now c.args.run.now) _ (Ok c.in_ok-record.record) c.in_ok-record.ensures.given (c.read.ensures.ok can.read) in
    let fits = given_holds (FitsNet c.args.net.now c.args.domains.now) _ (Ok c.in_ok-record.record) c.in_ok-record.ensures.given (c.read.ensures.fit can.is_net can.read) in
    subst (IsReplayOf c.args.net.now c.args.domains.now c.args.run.now) (sym c.or_refused-2.ensures.exact)
    (run_of _ _ _ can c.in_ok-record.record means fits c.run_text.result c.run_text.ensures.exact)
