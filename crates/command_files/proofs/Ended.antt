-- How a command ends, by how its reading and its texts do.
use Rattle.std.proofs.Common.{◌≡◌, sym, subst, inl, inr, true, Some, Ok, Err, Result}
use Rattle.std.specs.Prelude.{IfOk, IfErr, MatchResult}
use Rattle.std.proofs.lemmas.Bool.{false≢true}
use Rattle.cdc_base.specs.declared.fault.Fault.{Fault}
use Rattle.refusals.specs.Numbers.{is_listed}
use Rattle.command_files.specs.declared.answer.Answer.{Answer}
use Rattle.command_files.specs.declared.answer.Ending.{Ending}
use Rattle.command_files.specs.declared.answer.Ending.TheVariants.{Refused, Memory}
use Rattle.command_files.specs.declared.status.Status.{Status}
use Rattle.command_files.specs.declared.status.Status.TheVariants as status
use Rattle.command_files.specs.Files.{Seen, Text, AreAllTold, AreTold, IsRefusedBy, numbers_of}
use Rattle.command_files.specs.Endings.{HasCause, IsAnyOverLimit, IsCausedBy, IsCausedByAny, IsEnding, IsEndOfBoth, IsEndOfThree, IsOfFiles, IsOverLimit, IsReadOfBoth, IsReadOfThree, IsUnreadOfBoth, IsUnreadOfThree}
use Rattle.command_files.specs.Statuses.{IsEnd, IsOfStatus}

-- a refusal by a rule that goes with its status
pub listed_ending : (before now : Seen) (s : Status) (f : Fault) → is_listed (numbers_of s) f.number ≡ true → IsRefusedBy before now s f
listed_ending before now status.Netlist f h = inr h
listed_ending before now status.Constraints f h = inr h
listed_ending before now status.Record f h = inr h
listed_ending before now status.ReadFault f h = absurd (false≢true h)
listed_ending before now status.Done f h = absurd (false≢true h)
listed_ending before now status.Violations f h = absurd (false≢true h)
listed_ending before now status.Waived f h = absurd (false≢true h)
listed_ending before now status.Usage f h = absurd (false≢true h)
listed_ending before now status.WriteFault f h = absurd (false≢true h)
listed_ending before now status.Memory f h = absurd (false≢true h)

texts_ended : (before now : Seen) (r : Result Answer Ending) → MatchResult r (λ a. IsEnd a.status) IsOfFiles → IfErr r (IsEnding before now)
texts_ended before now (Ok own) h = tt
texts_ended before now (Err Memory) h = tt
texts_ended before now (Err (Refused s f)) h = listed_ending before now s f h

texts_end : (r : Result Answer Ending) → MatchResult r (λ a. IsEnd a.status) IsOfFiles → IfOk r (λ a. IsEnd a.status)
texts_end (Ok own) h = h
texts_end (Err e) h = tt

no_read : (s : Status) → s ≡ status.ReadFault → IsOfStatus s → ⊥
no_read s h (inl is) = cc
no_read s h (inr (inl is)) = cc
no_read s h (inr (inr is)) = cc

-- a refusal with one cause has each other that follows from it
pub also : {T : Type 0} (first then : Status → Fault → Type 0) (r : Result T Ending) → ((s : Status) (f : Fault) → first s f → then s f)
    → IfErr r (HasCause first) → IfErr r (HasCause then)
also first then (Ok v) more h = tt
also first then (Err (Refused s f)) more h = more s f h
also first then (Err Memory) more h = tt

-- ---- two files

module _ (done : Text → Text → Status → Text → Type 0) (refused : Text → Text → Fault → Status → Type 0) (net con : Text) (before now : Seen) where
  -- a file that was not read whole is over its limit, where it is refused
  unread_cause : (s : Status) (f : Fault) → IsUnreadOfBoth net con (Refused s f) → IsOfStatus s → IsCausedBy refused now net con s f
  unread_cause s f (inl (inl (is, fault))) of_file = inl (subst (λ (x : Status). IsOverLimit net con x f) (sym is) fault)
  unread_cause s f (inl (inr is)) of_file = absurd (no_read s is of_file)
  unread_cause s f (inr (inl (is, fault))) of_file = inl (subst (λ (x : Status). IsOverLimit net con x f) (sym is) fault)
  unread_cause s f (inr (inr is)) of_file = absurd (no_read s is of_file)

  unread_causes : (e : Ending) → IsUnreadOfBoth net con e → HasCause (λ s f. IsOfStatus s → IsCausedBy refused now net con s f) e
  unread_causes Memory h = tt
  unread_causes (Refused s f) h = unread_cause s f h

  -- a file was not read whole
  pub both_unread : {T : Type 0} (e : Ending) → IsReadOfBoth {T = T} net con before now (Err e) → IsUnreadOfBoth net con e
      → IsEndOfBoth done refused net con before now (Err e)
  both_unread e reads h = record {
    reads = record { asks = reads.asks; ended = reads.ended; long_net = reads.long_net; long_con = reads.long_con };
    ended = tt;
    exact = tt;
    caused = unread_causes e h;
  }

  module _ (net_read con_read : Text) (net_is : now.held net ≡ Some net_read) (con_is : now.held con ≡ Some con_read) where
    told : (P : Text → Text → Type 0) → P net_read con_read → AreTold now net con P
    told P h = (net_read, net_is, (con_read, con_is, h))

    told_done : (r : Result Answer Ending) → IfOk r (λ a. done net_read con_read a.status a.text)
        → IfOk r (λ a. AreTold now net con (λ n c. done n c a.status a.text))
    told_done (Ok own) h = told (λ n c. done n c own.status own.text) h
    told_done (Err e) h = tt

    told_causes : (r : Result Answer Ending) → IfErr r (HasCause (λ s f. refused net_read con_read f s))
        → IfErr r (HasCause (λ s f. IsOfStatus s → IsCausedBy refused now net con s f))
    told_causes r h = also (λ s f. refused net_read con_read f s) (λ s f. IsOfStatus s → IsCausedBy refused now net con s f) r
        (λ s f x _. inr (told (λ n c. refused n c f s) x)) h

    -- both files were read, and their texts have an answer or a refusal
    pub both_ended : {T : Type 0} (texts : T) (r : Result Answer Ending) → IsReadOfBoth {T = T} net con before now (Ok texts)
        → MatchResult r (λ a. IsEnd a.status) IsOfFiles → IfOk r (λ a. done net_read con_read a.status a.text)
        → IfErr r (HasCause (λ s f. refused net_read con_read f s)) → IsEndOfBoth done refused net con before now r
    both_ended texts r reads h exact caused = record {
      reads = record {
        asks = reads.asks;
        ended = texts_ended before now r h;
        long_net = λ long. absurd (reads.long_net long);
        long_con = λ long. absurd (reads.long_con long);
      };
      ended = texts_end r h;
      exact = told_done r exact;
      caused = told_causes r caused;
    }

-- ---- three files

module _ (done : Text → Text → Text → Status → Text → Type 0) (refused : Text → Text → Text → Fault → Status → Type 0) (net con third : Text) (before now : Seen) where
  any_cause : (s : Status) (f : Fault) → IsUnreadOfThree net con third (Refused s f) → IsOfStatus s → IsCausedByAny refused now net con third s f
  any_cause s f (inl (inl (is, fault))) of_file = inl (subst (λ (x : Status). IsAnyOverLimit net con third x f) (sym is) fault)
  any_cause s f (inl (inr is)) of_file = absurd (no_read s is of_file)
  any_cause s f (inr (inl (inl (is, fault)))) of_file = inl (subst (λ (x : Status). IsAnyOverLimit net con third x f) (sym is) fault)
  any_cause s f (inr (inl (inr is))) of_file = absurd (no_read s is of_file)
  any_cause s f (inr (inr (inl (is, fault)))) of_file = inl (subst (λ (x : Status). IsAnyOverLimit net con third x f) (sym is) fault)
  any_cause s f (inr (inr (inr is))) of_file = absurd (no_read s is of_file)

  any_causes : (e : Ending) → IsUnreadOfThree net con third e → HasCause (λ s f. IsOfStatus s → IsCausedByAny refused now net con third s f) e
  any_causes Memory h = tt
  any_causes (Refused s f) h = any_cause s f h

  -- a file was not read whole
  pub three_unread : {T : Type 0} (e : Ending) → IsReadOfThree {T = T} net con third before now (Err e) → IsUnreadOfThree net con third e
      → IsEndOfThree done refused net con third before now (Err e)
  three_unread e reads h = record {
    reads = record { asks = reads.asks; ended = reads.ended; long_net = reads.long_net; long_con = reads.long_con; long_run = reads.long_run };
    ended = tt;
    exact = tt;
    caused = any_causes e h;
  }

  module _ (net_read con_read third_read : Text) (net_is : now.held net ≡ Some net_read) (con_is : now.held con ≡ Some con_read) (third_is : now.held third ≡ Some third_read) where
    all_told : (P : Text → Text → Text → Type 0) → P net_read con_read third_read → AreAllTold now net con third P
    all_told P h = (net_read, net_is, (con_read, con_is, (third_read, third_is, h)))

    all_done : (r : Result Answer Ending) → IfOk r (λ a. done net_read con_read third_read a.status a.text)
        → IfOk r (λ a. AreAllTold now net con third (λ n c t. done n c t a.status a.text))
    all_done (Ok own) h = all_told (λ n c t. done n c t own.status own.text) h
    all_done (Err e) h = tt

    all_causes : (r : Result Answer Ending) → IfErr r (HasCause (λ s f. refused net_read con_read third_read f s))
        → IfErr r (HasCause (λ s f. IsOfStatus s → IsCausedByAny refused now net con third s f))
    all_causes r h = also (λ s f. refused net_read con_read third_read f s) (λ s f. IsOfStatus s → IsCausedByAny refused now net con third s f) r
        (λ s f x _. inr (all_told (λ n c t. refused n c t f s) x)) h

    -- all three files were read, and their texts have an answer or a refusal
    pub three_ended : {T : Type 0} (texts : T) (r : Result Answer Ending) → IsReadOfThree {T = T} net con third before now (Ok texts)
        → MatchResult r (λ a. IsEnd a.status) IsOfFiles → IfOk r (λ a. done net_read con_read third_read a.status a.text)
        → IfErr r (HasCause (λ s f. refused net_read con_read third_read f s)) → IsEndOfThree done refused net con third before now r
    three_ended texts r reads h exact caused = record {
      reads = record {
        asks = reads.asks;
        ended = texts_ended before now r h;
        long_net = λ long. absurd (reads.long_net long);
        long_con = λ long. absurd (reads.long_con long);
        long_run = λ long. absurd (reads.long_run long);
      };
      ended = texts_end r h;
      exact = all_done r exact;
      caused = all_causes r caused;
    }
