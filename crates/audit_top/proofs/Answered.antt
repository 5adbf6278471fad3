-- What words that are accepted are answered, by how their command ended.
use Rattle.std.proofs.Common.{◌≡◌, ◌∙◌, ap, sym, subst, inl, inr, ◌⊎◌, ◌∷◌, [], List, ℕ, true, Ok, Err, Some, refl, Result, Option}
use Rattle.std.specs.Prelude.{IfOk, IfErr, MatchResult}
use Rattle.std.specs.List.{list_all}
use Rattle.std.specs.Option.{option_map_or}
use Rattle.cdc_base.specs.declared.fault.Fault.{Fault}
use Rattle.cdc_base.specs.declared.list.NoMemory.{NoMemory}
use Rattle.report.specs.Faults.{line_of}
use Rattle.refusals.specs.Numbers.{netlist_numbers}
use Rattle.command_line.specs.Asked.{Asked}
use Rattle.command_line.specs.Cli.{AsksFor, IsAccepted, file_words, named_files}
use Rattle.command_files.specs.declared.answer.Answer.{Answer}
use Rattle.command_files.specs.declared.answer.Ending.{Ending}
use Rattle.command_files.specs.declared.answer.Ending.TheVariants.{Refused, Memory}
use Rattle.command_files.specs.declared.status.Status.{Status}
use Rattle.command_files.specs.declared.status.Status.TheVariants as status
use Rattle.command_files.specs.Endings.{HasCause, IsAnswerTo, IsEndOfBoth, IsEndOfThree, IsLengthEnding, IsOfFiles}
use Rattle.command_files.specs.Files.{Seen, Text, AskedInOrder, IsLong, IsOfFile, IsRefusedBy, IsRefusedForLength, TellsOfLength, all_file_numbers, all_record_numbers}
use Rattle.command_files.specs.Statuses.{IsEnd, IsOfStatus}
use Rattle.command_files.proofs.Ended.{listed_ending}
use Rattle.audit_top.specs.Answers.{IsAnswered, IsAnsweredAll, IsAnsweredBoth, IsAnsweredTo}
use Rattle.audit_top.specs.Runs.{AsksByWords, IsAnswer, IsText, IsUsage}
use Rattle.audit_top.proofs.Lines.{is_other, other_line}

end_fits : (before now : Seen) (s : Status) (text : Text) → IsEnd s → IsText before now s text
end_fits before now status.Done text h = tt
end_fits before now status.Violations text h = tt
end_fits before now status.Waived text h = tt
end_fits before now status.Usage text h = absurd h
end_fits before now status.Netlist text h = absurd h
end_fits before now status.Constraints text h = absurd h
end_fits before now status.Record text h = absurd h
end_fits before now status.ReadFault text h = absurd h
end_fits before now status.WriteFault text h = absurd h
end_fits before now status.Memory text h = absurd h

pub refused_fits : (before now : Seen) (s : Status) (f : Fault) → IsRefusedBy before now s f → IsText before now s (line_of f)
refused_fits before now status.ReadFault f h = (f, refl, h)
refused_fits before now status.Netlist f h = (f, refl, h)
refused_fits before now status.Constraints f h = (f, refl, h)
refused_fits before now status.Record f h = (f, refl, h)
refused_fits before now status.Done f h = absurd h
refused_fits before now status.Violations f h = absurd h
refused_fits before now status.Waived f h = absurd h
refused_fits before now status.Usage f h = absurd h
refused_fits before now status.WriteFault f h = absurd h
refused_fits before now status.Memory f h = absurd h

-- a refusal has no status of an end
pub refused_end : (before now : Seen) (s : Status) (f : Fault) → IsRefusedBy before now s f → IsEnd s → ⊥
refused_end before now status.Done f refused is = refused
refused_end before now status.Violations f refused is = refused
refused_end before now status.Waived f refused is = refused
refused_end before now status.Usage f refused is = is
refused_end before now status.Netlist f refused is = is
refused_end before now status.Constraints f refused is = is
refused_end before now status.Record f refused is = is
refused_end before now status.ReadFault f refused is = is
refused_end before now status.WriteFault f refused is = is
refused_end before now status.Memory f refused is = is

-- a command that came to its end has no status of a file
end_of_none : (s : Status) → IsEnd s → IsOfStatus s → ⊥
end_of_none s h (inl is) = subst (λ (x : Status). IsEnd x) is h
end_of_none s h (inr (inl is)) = subst (λ (x : Status). IsEnd x) is h
end_of_none s h (inr (inr is)) = subst (λ (x : Status). IsEnd x) is h

file_tells : (numbers : List ℕ) (before now : Seen) (f g : Fault) → list_all is_other numbers ≡ true → IsOfFile numbers before now f
    → line_of f ≡ line_of g → g.number ≡ 600 → TellsOfLength before now (line_of f)
file_tells numbers before now f g all (inl (last, is, rose)) lines number = (f.name, last, ap line_of is, rose)
file_tells numbers before now f g all (inr listed) lines number = absurd (other_line numbers f g all listed lines number)

-- a line with the number of a file's length is that of a file over its limit
pub line_tells : (before now : Seen) (s : Status) (f g : Fault) → IsOfStatus s → IsRefusedBy before now s f → line_of f ≡ line_of g
    → g.number ≡ 600 → TellsOfLength before now (line_of f)
line_tells before now s f g (inl is) refused lines number =
    file_tells netlist_numbers before now f g refl (subst (λ (x : Status). IsRefusedBy before now x f) is refused) lines number
line_tells before now s f g (inr (inl is)) refused lines number =
    file_tells all_file_numbers before now f g refl (subst (λ (x : Status). IsRefusedBy before now x f) is refused) lines number
line_tells before now s f g (inr (inr is)) refused lines number =
    file_tells all_record_numbers before now f g refl (subst (λ (x : Status). IsRefusedBy before now x f) is refused) lines number

pub length_answer : (of_file s : Status) (f : Fault) (name : Text) → IsLengthEnding of_file name (Refused s f)
    → IsRefusedForLength of_file name s (line_of f)
length_answer of_file s f name (inl (is, fault)) = inl (is, ap line_of fault)
length_answer of_file s f name (inr is) = inr is

pub length_answers : (s : Status) (f : Fault) (net con : Text)
    → IsLengthEnding status.Constraints con (Refused s f) ⊎ IsLengthEnding status.Netlist net (Refused s f)
    → IsRefusedForLength status.Constraints con s (line_of f) ⊎ IsRefusedForLength status.Netlist net s (line_of f)
length_answers s f net con (inl h) = inl (length_answer status.Constraints s f con h)
length_answers s f net con (inr h) = inr (length_answer status.Netlist s f net h)

pub all_length_answers : (s : Status) (f : Fault) (net con third : Text)
    → IsLengthEnding status.Record third (Refused s f) ⊎ (IsLengthEnding status.Constraints con (Refused s f) ⊎ IsLengthEnding status.Netlist net (Refused s f))
    → IsRefusedForLength status.Record third s (line_of f) ⊎ (IsRefusedForLength status.Constraints con s (line_of f) ⊎ IsRefusedForLength status.Netlist net s (line_of f))
all_length_answers s f net con third (inl h) = inl (length_answer status.Record s f third h)
all_length_answers s f net con third (inr h) = inr (length_answers s f net con h)

-- the files of what is asked for are those that the words name
pub files_named : (words : List Text) (asked : Asked) → AsksFor words asked → file_words words ≡ named_files asked
files_named words asked asks = ap (λ (o : Option Asked). option_map_or named_files o []) asks.asks

pub asks_by : (words : List Text) (asked : Asked) (before now : Seen) → AsksFor words asked → AskedInOrder (named_files asked) before now → AsksByWords words before now
asks_by words asked before now asks in_order = record {
  named = λ _. subst (λ (files : List Text). AskedInOrder files before now) (sym (files_named words asked asks)) in_order;
  none = λ not_accepted. absurd (not_accepted asks.accepted);
}

-- words ask for one thing
one_asked : (words : List Text) (asked other : Asked) → AsksFor words asked → AsksFor words other → asked ≡ other
one_asked words asked other first second = (let e : Some asked ≡ Some other = sym first.asks ∙ second.asks in cc)

-- the answer that goes out is the command's own, or the line of its refusal
pub sent : (P : Status → Text → Type 0) (ended : Result Answer Ending) (result : Result Answer NoMemory)
    → ((own : Answer) → ended ≡ Ok own → P own.status own.text) → ((s : Status) (f : Fault) → ended ≡ Err (Refused s f) → P s (line_of f))
    → IfOk result (λ a. MatchResult ended (λ own. a ≡ own) (λ e. IsAnswerTo e a)) → IfOk result (λ a. P a.status a.text)
sent P ended (Err e) own line h = tt
sent P (Ok mine) (Ok a) own line is = subst (λ (x : Answer). P x.status x.text) (sym is) (own mine refl)
sent P (Err Memory) (Ok a) own line is = absurd is
sent P (Err (Refused s f)) (Ok a) own line (status_is, text_is) =
    subst (λ (x : Status). P x a.text) (sym status_is) (subst (λ (t : Text). P s t) (sym text_is) (line s f refl))

module _ (words : List Text) (before now : Seen) (asked : Asked) (asks : AsksFor words asked) where
  other_asked : (s : Status) (text : Text) → IsAnsweredTo asked now s text → (other : Asked) → AsksFor words other → IsAnsweredTo other now s text
  other_asked s text h other also = subst (λ (x : Asked). IsAnsweredTo x now s text) (one_asked words asked other asks also) h

  same_files : (files : List Text) → file_words words ≡ files → named_files asked ≡ files
  same_files files e = sym (files_named words asked asks) ∙ e

  -- ---- no file

  module _ (done : Status → Text → Type 0) (refused : Fault → Status → Type 0) (named : named_files asked ≡ [])
      (lift : (s : Status) (text : Text) → IsAnswered done refused s text → IsAnsweredTo asked now s text) where
    no_file : (n : Text) (rest : List Text) → file_words words ≡ n ∷ rest → ⊥
    no_file n rest files = (let e : [] ≡ n ∷ rest = sym named ∙ same_files (n ∷ rest) files in cc)

    own_test : (own : Answer) → IsEnd own.status → done own.status own.text → IsAnswer words before now own.status own.text
    own_test own ended exact = record {
      usage = λ is _. subst (λ (s : Status). IsEnd s) is ended;
      refused = λ not_accepted. absurd (not_accepted asks.accepted);
      fits = end_fits before now own.status own.text ended;
      too_long = λ g of_file _ _. absurd (end_of_none own.status ended of_file);
      long_net = λ n c rest _ files long. absurd (no_file n (c ∷ rest) files);
      long_con = λ n c rest _ files long. absurd (no_file n (c ∷ rest) files);
      long_third = λ n c t _ files long. absurd (no_file n (c ∷ t ∷ []) files);
      answered = other_asked own.status own.text
          (lift own.status own.text (record { done_so = λ _. exact; caused = λ of_file. absurd (end_of_none own.status ended of_file) }));
    }

    line_test : (s : Status) (f : Fault) → IsRefusedBy before now s f → refused f s → IsAnswer words before now s (line_of f)
    line_test s f by cause = record {
      usage = λ is _. subst (λ (x : Status). IsRefusedBy before now x f) is by;
      refused = λ not_accepted. absurd (not_accepted asks.accepted);
      fits = refused_fits before now s f by;
      too_long = λ g of_file lines number. line_tells before now s f g of_file by lines number;
      long_net = λ n c rest _ files long. absurd (no_file n (c ∷ rest) files);
      long_con = λ n c rest _ files long. absurd (no_file n (c ∷ rest) files);
      long_third = λ n c t _ files long. absurd (no_file n (c ∷ t ∷ []) files);
      answered = other_asked s (line_of f)
          (lift s (line_of f) (record { done_so = λ ended. absurd (refused_end before now s f by ended); caused = λ _. (f, refl, cause) }));
    }

    pub answered_test : (ended : Result Answer Ending) (result : Result Answer NoMemory) → MatchResult ended (λ own. IsEnd own.status) IsOfFiles
        → IfOk ended (λ own. done own.status own.text) → IfErr ended (HasCause (λ s f. refused f s))
        → IfOk result (λ a. MatchResult ended (λ own. a ≡ own) (λ e. IsAnswerTo e a)) → IfOk result (λ a. IsAnswer words before now a.status a.text)
    answered_test (Ok own) result h exact cause is = sent (λ s t. IsAnswer words before now s t) (Ok own) result
        (λ mine e. (let same : own ≡ mine = cc in subst (λ (x : Answer). IsAnswer words before now x.status x.text) same (own_test own h exact))) (λ s f e. cc) is
    answered_test (Err Memory) result h exact cause is = sent (λ s t. IsAnswer words before now s t) (Err Memory) result (λ mine e. cc) (λ s f e. cc) is
    answered_test (Err (Refused t g)) result h exact cause is = sent (λ s t. IsAnswer words before now s t) (Err (Refused t g)) result (λ mine e. cc)
        (λ s f e. (
        let same_status : t ≡ s = cc in
        let same_fault : g ≡ f = cc in
        subst (λ (x : Status). IsAnswer words before now x (line_of f)) same_status
        (subst (λ (x : Fault). IsAnswer words before now t (line_of x)) same_fault (line_test t g (listed_ending before now t g h) cause))
        )) is

  -- ---- two files

  module _ (done : Text → Text → Status → Text → Type 0) (refused : Text → Text → Fault → Status → Type 0) (net con : Text) (named : named_files asked ≡ net ∷ con ∷ [])
      (lift : (s : Status) (text : Text) → IsAnsweredBoth done refused now net con s text → IsAnsweredTo asked now s text) where
    net_of : (n c : Text) (rest : List Text) → file_words words ≡ n ∷ c ∷ rest → net ≡ n
    net_of n c rest files = (let e : net ∷ con ∷ [] ≡ n ∷ c ∷ rest = sym named ∙ same_files (n ∷ c ∷ rest) files in cc)

    con_of : (n c : Text) (rest : List Text) → file_words words ≡ n ∷ c ∷ rest → con ≡ c
    con_of n c rest files = (let e : net ∷ con ∷ [] ≡ n ∷ c ∷ rest = sym named ∙ same_files (n ∷ c ∷ rest) files in cc)

    no_third : (n c t : Text) → file_words words ≡ n ∷ c ∷ t ∷ [] → ⊥
    no_third n c t files = (let e : net ∷ con ∷ [] ≡ n ∷ c ∷ t ∷ [] = sym named ∙ same_files (n ∷ c ∷ t ∷ []) files in cc)

    own_both : (own : Answer) → IsEndOfBoth done refused net con before now (Ok own) → IsAnswer words before now own.status own.text
    own_both own end = record {
      usage = λ is _. subst (λ (s : Status). IsEnd s) is end.ended;
      refused = λ not_accepted. absurd (not_accepted asks.accepted);
      fits = end_fits before now own.status own.text end.ended;
      too_long = λ g of_file _ _. absurd (end_of_none own.status end.ended of_file);
      long_net = λ n c rest _ files long. absurd (end.reads.long_net (subst (λ (x : Text). IsLong before x) (sym (net_of n c rest files)) long));
      long_con = λ n c rest _ files long. absurd (end.reads.long_con (subst (λ (x : Text). IsLong before x) (sym (con_of n c rest files)) long));
      long_third = λ n c t _ files long. absurd (no_third n c t files);
      answered = other_asked own.status own.text
          (lift own.status own.text (record { done_so = λ _. end.exact; caused = λ of_file. absurd (end_of_none own.status end.ended of_file) }));
    }

    line_both : (s : Status) (f : Fault) → IsEndOfBoth done refused net con before now (Err (Refused s f)) → IsAnswer words before now s (line_of f)
    line_both s f end = record {
      usage = λ is _. subst (λ (x : Status). IsRefusedBy before now x f) is end.reads.ended;
      refused = λ not_accepted. absurd (not_accepted asks.accepted);
      fits = refused_fits before now s f end.reads.ended;
      too_long = λ g of_file lines number. line_tells before now s f g of_file end.reads.ended lines number;
      long_net = λ n c rest _ files long. subst (λ (x : Text). IsRefusedForLength status.Netlist x s (line_of f)) (net_of n c rest files)
          (length_answer status.Netlist s f net (end.reads.long_net (subst (λ (x : Text). IsLong before x) (sym (net_of n c rest files)) long)));
      long_con = λ n c rest _ files long.
          subst (λ (x : Text). IsRefusedForLength status.Constraints c s (line_of f) ⊎ IsRefusedForLength status.Netlist x s (line_of f)) (net_of n c rest files)
          (subst (λ (x : Text). IsRefusedForLength status.Constraints x s (line_of f) ⊎ IsRefusedForLength status.Netlist net s (line_of f)) (con_of n c rest files)
          (length_answers s f net con (end.reads.long_con (subst (λ (x : Text). IsLong before x) (sym (con_of n c rest files)) long))));
      long_third = λ n c t _ files long. absurd (no_third n c t files);
      answered = other_asked s (line_of f)
          (lift s (line_of f) (record { done_so = λ ended. absurd (refused_end before now s f end.reads.ended ended); caused = λ of_file. (f, refl, end.caused of_file) }));
    }

    pub answered_both : (ended : Result Answer Ending) (result : Result Answer NoMemory) → IsEndOfBoth done refused net con before now ended
        → IfOk result (λ a. MatchResult ended (λ own. a ≡ own) (λ e. IsAnswerTo e a)) → IfOk result (λ a. IsAnswer words before now a.status a.text)
    answered_both ended result end is = sent (λ s t. IsAnswer words before now s t) ended result
        (λ own e. own_both own (subst (λ (r : Result Answer Ending). IsEndOfBoth done refused net con before now r) e end))
        (λ s f e. line_both s f (subst (λ (r : Result Answer Ending). IsEndOfBoth done refused net con before now r) e end)) is

  -- ---- three files

  module _ (done : Text → Text → Text → Status → Text → Type 0) (refused : Text → Text → Text → Fault → Status → Type 0) (net con third : Text)
      (named : named_files asked ≡ net ∷ con ∷ third ∷ []) (lift : (s : Status) (text : Text) → IsAnsweredAll done refused now net con third s text → IsAnsweredTo asked now s text) where
    net_in : (n c : Text) (rest : List Text) → file_words words ≡ n ∷ c ∷ rest → net ≡ n
    net_in n c rest files = (let e : net ∷ con ∷ third ∷ [] ≡ n ∷ c ∷ rest = sym named ∙ same_files (n ∷ c ∷ rest) files in cc)

    con_in : (n c : Text) (rest : List Text) → file_words words ≡ n ∷ c ∷ rest → con ≡ c
    con_in n c rest files = (let e : net ∷ con ∷ third ∷ [] ≡ n ∷ c ∷ rest = sym named ∙ same_files (n ∷ c ∷ rest) files in cc)

    third_in : (n c t : Text) → file_words words ≡ n ∷ c ∷ t ∷ [] → third ≡ t
    third_in n c t files = (let e : net ∷ con ∷ third ∷ [] ≡ n ∷ c ∷ t ∷ [] = sym named ∙ same_files (n ∷ c ∷ t ∷ []) files in cc)

    own_all : (own : Answer) → IsEndOfThree done refused net con third before now (Ok own) → IsAnswer words before now own.status own.text
    own_all own end = record {
      usage = λ is _. subst (λ (s : Status). IsEnd s) is end.ended;
      refused = λ not_accepted. absurd (not_accepted asks.accepted);
      fits = end_fits before now own.status own.text end.ended;
      too_long = λ g of_file _ _. absurd (end_of_none own.status end.ended of_file);
      long_net = λ n c rest _ files long. absurd (end.reads.long_net (subst (λ (x : Text). IsLong before x) (sym (net_in n c rest files)) long));
      long_con = λ n c rest _ files long. absurd (end.reads.long_con (subst (λ (x : Text). IsLong before x) (sym (con_in n c rest files)) long));
      long_third = λ n c t _ files long. absurd (end.reads.long_run (subst (λ (x : Text). IsLong before x) (sym (third_in n c t files)) long));
      answered = other_asked own.status own.text
          (lift own.status own.text (record { done_so = λ _. end.exact; caused = λ of_file. absurd (end_of_none own.status end.ended of_file) }));
    }

    line_all : (s : Status) (f : Fault) → IsEndOfThree done refused net con third before now (Err (Refused s f)) → IsAnswer words before now s (line_of f)
    line_all s f end = record {
      usage = λ is _. subst (λ (x : Status). IsRefusedBy before now x f) is end.reads.ended;
      refused = λ not_accepted. absurd (not_accepted asks.accepted);
      fits = refused_fits before now s f end.reads.ended;
      too_long = λ g of_file lines number. line_tells before now s f g of_file end.reads.ended lines number;
      long_net = λ n c rest _ files long. subst (λ (x : Text). IsRefusedForLength status.Netlist x s (line_of f)) (net_in n c rest files)
          (length_answer status.Netlist s f net (end.reads.long_net (subst (λ (x : Text). IsLong before x) (sym (net_in n c rest files)) long)));
      long_con = λ n c rest _ files long.
          subst (λ (x : Text). IsRefusedForLength status.Constraints c s (line_of f) ⊎ IsRefusedForLength status.Netlist x s (line_of f)) (net_in n c rest files)
          (subst (λ (x : Text). IsRefusedForLength status.Constraints x s (line_of f) ⊎ IsRefusedForLength status.Netlist net s (line_of f)) (con_in n c rest files)
          (length_answers s f net con (end.reads.long_con (subst (λ (x : Text). IsLong before x) (sym (con_in n c rest files)) long))));
      long_third = λ n c t _ files long.
          subst (λ (x : Text). IsRefusedForLength status.Record t s (line_of f) ⊎ (IsRefusedForLength status.Constraints c s (line_of f) ⊎ IsRefusedForLength status.Netlist x s (line_of f))) (net_in n c (t ∷ []) files)
          (subst (λ (x : Text). IsRefusedForLength status.Record t s (line_of f) ⊎ (IsRefusedForLength status.Constraints x s (line_of f) ⊎ IsRefusedForLength status.Netlist net s (line_of f))) (con_in n c (t ∷ []) files)
          (subst (λ (x : Text). IsRefusedForLength status.Record x s (line_of f) ⊎ (IsRefusedForLength status.Constraints con s (line_of f) ⊎ IsRefusedForLength status.Netlist net s (line_of f))) (third_in n c t files)
          (all_length_answers s f net con third (end.reads.long_run (subst (λ (x : Text). IsLong before x) (sym (third_in n c t files)) long)))));
      answered = other_asked s (line_of f)
          (lift s (line_of f) (record { done_so = λ ended. absurd (refused_end before now s f end.reads.ended ended); caused = λ of_file. (f, refl, end.caused of_file) }));
    }

    pub answered_all : (ended : Result Answer Ending) (result : Result Answer NoMemory) → IsEndOfThree done refused net con third before now ended
        → IfOk result (λ a. MatchResult ended (λ own. a ≡ own) (λ e. IsAnswerTo e a)) → IfOk result (λ a. IsAnswer words before now a.status a.text)
    answered_all ended result end is = sent (λ s t. IsAnswer words before now s t) ended result
        (λ own e. own_all own (subst (λ (r : Result Answer Ending). IsEndOfThree done refused net con third before now r) e end))
        (λ s f e. line_all s f (subst (λ (r : Result Answer Ending). IsEndOfThree done refused net con third before now r) e end)) is

  -- ---- a page

  module _ (named : named_files asked ≡ []) where
    no_word : (n : Text) (rest : List Text) → file_words words ≡ n ∷ rest → ⊥
    no_word n rest files = (let e : [] ≡ n ∷ rest = sym named ∙ same_files (n ∷ rest) files in cc)

    answered_page : (a : Answer) → a.status ≡ status.Done → IsAnsweredTo asked now a.status a.text → IsAnswer words before now a.status a.text
    answered_page a done h = record {
      usage = λ e. cc;
      refused = λ not_accepted. absurd (not_accepted asks.accepted);
      fits = subst (λ (s : Status). IsText before now s a.text) (sym done) tt;
      too_long = λ f of_file _ _. absurd (end_of_none status.Done tt (subst (λ (s : Status). IsOfStatus s) done of_file));
      long_net = λ n c rest _ files long. absurd (no_word n (c ∷ rest) files);
      long_con = λ n c rest _ files long. absurd (no_word n (c ∷ rest) files);
      long_third = λ n c t _ files long. absurd (no_word n (c ∷ t ∷ []) files);
      answered = other_asked a.status a.text h;
    }

    pub answered_shown : (result : Result Answer NoMemory) {P : Answer → Type 0} → IfOk result P → ((a : Answer) → P a → (a.status ≡ status.Done) × IsAnsweredTo asked now a.status a.text)
        → IfOk result (λ a. IsAnswer words before now a.status a.text)
    answered_shown (Ok a) h told = (let is = told a h in answered_page a is.0 is.1)
    answered_shown (Err e) h told = tt

-- words that are refused are answered by the usage line
module _ (words : List Text) (before now : Seen) (not_accepted : IsAccepted words → ⊥) where
  told_usage : (a : Answer) → IsUsage a → IsAnswer words before now a.status a.text
  told_usage a (is_usage, text) = record {
    usage = λ _. not_accepted;
    refused = λ _. is_usage;
    fits = subst (λ (s : Status). IsText before now s a.text) (sym is_usage) text;
    too_long = λ f of_file _ _. absurd (no_status a.status is_usage of_file);
    long_net = λ n c rest accepted _ _. absurd (not_accepted accepted);
    long_con = λ n c rest accepted _ _. absurd (not_accepted accepted);
    long_third = λ n c t accepted _ _. absurd (not_accepted accepted);
    answered = λ asked asks. absurd (not_accepted asks.accepted);
  }
    where
      no_status : (s : Status) → s ≡ status.Usage → IsOfStatus s → ⊥
      no_status s e (inl h) = cc
      no_status s e (inr (inl h)) = cc
      no_status s e (inr (inr h)) = cc

  pub answered_usage : (result : Result Answer NoMemory) → IfOk result IsUsage → IfOk result (λ a. IsAnswer words before now a.status a.text)
  answered_usage (Ok a) h = told_usage a h
  answered_usage (Err e) h = tt
