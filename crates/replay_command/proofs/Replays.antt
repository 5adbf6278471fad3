-- The replay of a record that was read, or wasn't.
use Rattle.std.proofs.Common.{◌≡◌, ℕ, List, Result, Ok, Err, inl, inr, refl, sym, subst, arith}
use Rattle.std.specs.Prelude.{IfErr}
use Rattle.std.specs.Result.{IsErr}
use Rattle.cdc_base.specs.declared.fault.Stop.{Stop}
use Rattle.cdc_base.specs.declared.fault.Stop.TheVariants as stop
use Rattle.cell_graph.specs.declared.net.Net.{Net}
use Rattle.domains.specs.declared.Domains.{Domains}
use Rattle.cdc_model.specs.declared.record.Record.{Record as RunRecord}
use Rattle.settling_sim.specs.Opened.{AreStarts, CanOpen}
use Rattle.run_file.specs.Files.{FitsNet, IsMeaning, IsStopOf}
use Rattle.run_report.specs.Lines.{IsPrintable}
use Rattle.run_report.specs.Printed.{AreSteps, IsRunText}
use Rattle.command_files.specs.declared.answer.Ending.{Ending}
use Rattle.command_files.specs.declared.answer.Ending.TheVariants.{Refused, Memory}
use Rattle.command_files.specs.declared.status.Status.{Status}
use Rattle.command_files.specs.declared.status.Status.TheVariants.{Record}
use Rattle.command_files.specs.Endings.{HasCause, ended_with, ending_of}
use Rattle.command_files.proofs.Ended.{also}
use Rattle.described_design.specs.Designs.{CanReplay, IsDesignOf}
use Rattle.described_design.specs.Refused.{AreTextsRefused}
use Rattle.described_design.proofs.Opened.{can_open}
use Rattle.replay_command.specs.Replays.{IsReplayOf, IsReplayRefused, IsReplayUnder, of_record, texts}
use Rattle.clock_constraints.specs.declared.Constraints.{Constraints}

-- ---- the answer

module _ (net : Net) (domains : Domains) (bytes : List ℕ) where
  -- a record that isn't read
  unread : (s : Stop) → IsStopOf net domains bytes s → IsReplayOf net domains bytes (Err (ending_of Record s))
  unread (stop.Refused f) broken = (refl, inl broken)
  unread stop.Memory broken = tt

  pub unread_ending : (given : Result RunRecord Stop) (r : Result RunRecord Ending) → r ≡ ended_with Record given → IfErr given (IsStopOf net domains bytes)
      → IfErr r (λ e. IsReplayOf net domains bytes (Err e))
  unread_ending (Ok record') r is broken = subst (λ (x : Result RunRecord Ending). IfErr x (λ e. IsReplayOf net domains bytes (Err e))) (sym is) tt
  unread_ending (Err s) r is broken = subst (λ (x : Result RunRecord Ending). IfErr x (λ e. IsReplayOf net domains bytes (Err e))) (sym is) (unread s broken)

  pub no_answer : (r : Result (List ℕ) Ending) → IsErr r → IfErr r (λ e. IsReplayOf net domains bytes (Err e)) → IsReplayOf net domains bytes r
  no_answer (Ok text) none h = cc
  no_answer (Err e) none h = h

  -- a record that is read
  pub run_of : CanReplay net domains → (r : RunRecord) → IsMeaning net domains bytes r → FitsNet net domains r → (answer : Result (List ℕ) Stop)
      → (IsPrintable net domains → CanOpen net domains → AreStarts net domains r.start → AreSteps net domains r.steps → IsRunText net domains r answer)
      → IsReplayOf net domains bytes (ended_with Record answer)
  run_of can r means fits answer told = ended answer (told printable (can_open net domains can) fits.starts steps)
    where
      printable : IsPrintable net domains
      printable = record { numbered = can.read.signals; statics = can.read.statics }

      steps : AreSteps net domains r.steps
      steps = record { numbered = (let l = fits.few in omega arith); fit = fits.steps }

      ended : (a : Result (List ℕ) Stop) → IsRunText net domains r a → IsReplayOf net domains bytes (ended_with Record a)
      ended (Ok text) is = (r, means, is)
      ended (Err (stop.Refused f)) is = (refl, inr (r, means, is))
      ended (Err stop.Memory) is = tt

-- ---- the texts

module _ (word net con run : List ℕ) where
  pub texts_refused : {T : Type 0} (r : Result T Ending) → IfErr r (HasCause (λ s f. AreTextsRefused word net con f s))
      → IfErr r (HasCause (λ s f. IsReplayRefused word net con run f s))
  texts_refused r h = also (λ s f. AreTextsRefused word net con f s) (λ s f. IsReplayRefused word net con run f s) r (λ s f x. texts x) h

  -- a replay over the design of both files
  pub replayed_under : (c : Constraints) (made : Net) (domains : Domains) (answer : Result (List ℕ) Ending) → IsDesignOf word net con c made domains
      → (CanReplay made domains → IsReplayOf made domains run answer) → IsReplayUnder word net con run answer
  replayed_under c made domains answer design exact =
      record { constraints = c; net = made; domains = domains; design = design; replayed = exact design.design.can }

  pub record_refused : (c : Constraints) (made : Net) (domains : Domains) (r : Result (List ℕ) Ending) → IsDesignOf word net con c made domains
      → (CanReplay made domains → IsReplayOf made domains run r) → IfErr r (HasCause (λ s f. IsReplayRefused word net con run f s))
  record_refused c made domains (Ok text) design exact = tt
  record_refused c made domains (Err Memory) design exact = tt
  record_refused c made domains (Err (Refused s f)) design exact =
      let is = (exact design.design.can).0 in
      of_record is (subst (λ (x : Status). IsReplayUnder word net con run (Err (Refused x f))) is (replayed_under c made domains (Err (Refused s f)) design exact))
