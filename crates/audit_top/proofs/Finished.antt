-- A run that wrote its answer, or a front of it.
use Rattle.std.proofs.Common.{◌≡◌, inl, subst, refl, List, Option}
use Rattle.cdc_base.specs.Causes.{Rose, IsAdded, IsFrontAdded}
use Rattle.command_files.specs.declared.status.Status.{Status}
use Rattle.command_files.specs.declared.status.Status.TheVariants as status
use Rattle.command_files.specs.Files.{Seen, Text}
use Rattle.audit_top.specs.Runs.{Output, AsksByWords, IsAnswer, IsText, IsWritten, IsRun}

written_whole : (before now : Seen) (s : Status) (text : Text) (w v : Option Text) → IsText before now s text → IsAdded w text v
    → IsWritten s s text w v
written_whole before now status.Done text w v fits added = (refl, added)
written_whole before now status.Violations text w v fits added = (refl, added)
written_whole before now status.Waived text w v fits added = (refl, added)
written_whole before now status.Usage text w v fits added = (refl, added)
written_whole before now status.Netlist text w v fits added = (refl, added)
written_whole before now status.Constraints text w v fits added = (refl, added)
written_whole before now status.Record text w v fits added = (refl, added)
written_whole before now status.ReadFault text w v fits added = (refl, added)
written_whole before now status.WriteFault text w v (fault, is, never) added = absurd never
written_whole before now status.Memory text w v (fault, is, never) added = absurd never

never_unwritten : (before now : Seen) (text : Text) → IsText before now status.WriteFault text → ⊥
never_unwritten before now text (fault, is, never) = never

module _ (words : List Text) (before now : Seen) (s : Status) (text slice : Text) (out_before out_now : Output)
    (asks : AsksByWords words before now) (is_answer : IsAnswer words before now s text) (is : slice ≡ text) where
  pub run_done : IsAdded out_before.written slice out_now.written → IsRun words before now out_before out_now s
  run_done added = record {
    asks = asks;
    unwritten = λ e. absurd (never_unwritten before now text (subst (λ (x : Status). IsText before now x text) e is_answer.fits));
    answer = inl (
      s,
      text,
      is_answer,
      written_whole before now s text out_before.written out_now.written is_answer.fits
          (subst (λ (t : Text). IsAdded out_before.written t out_now.written) is added),
    );
  }

  pub run_unwritten : Rose out_before.faults out_now.faults → IsFrontAdded out_before.written slice out_now.written
      → IsRun words before now out_before out_now status.WriteFault
  run_unwritten rose front = record {
    asks = asks;
    unwritten = λ _. rose;
    answer = inl (s, text, is_answer, subst (λ (t : Text). IsFrontAdded out_before.written t out_now.written) is front);
  }

  pub run_out_of_memory : IsFrontAdded out_before.written slice out_now.written
      → IsRun words before now out_before out_now status.Memory
  run_out_of_memory front = record {
    asks = asks;
    unwritten = λ e. cc;
    answer = inl (s, text, is_answer, subst (λ (t : Text). IsFrontAdded out_before.written t out_now.written) is front);
  }
