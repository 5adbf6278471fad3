-- What a run of the program answers, as far as its words, its files and its output tell.
use Rattle.std.specs.Prelude.{ℕ, ◌≡◌, ◌⊎◌, List, [], ◌∷◌, Option}
use Rattle.cdc_base.specs.Causes.{Rose, IsAdded, IsFrontAdded}
use Rattle.cdc_base.specs.declared.fault.Fault.{Fault}
use Rattle.command_line.specs.Asked.{Asked}
use Rattle.command_line.specs.Cli.{AsksFor, IsAccepted, file_words}
use Rattle.report.specs.Faults.{line_of}
use Rattle.command_files.specs.declared.answer.Answer.{Answer}
use Rattle.command_files.specs.declared.status.Status.{Status}
use Rattle.command_files.specs.declared.status.Status.TheVariants.{Done, Violations, Usage, Netlist, Constraints, Record, WriteFault, Memory, Waived}
use Rattle.command_files.specs.Files.{Seen, Text, AskedFor, AskedInOrder, IsLong, IsRefusedBy, IsRefusedForLength, TellsOfLength}
use Rattle.command_files.specs.Statuses.{IsOfStatus}
use Rattle.audit_top.specs.Answers.{IsAnsweredTo}
use Rattle.audit_top.specs.Pages.{usage_line}

-- the files that the words name are asked for in their order, and none where the words are refused
pub record AsksByWords (words : List Text) (before now : Seen) : Type 0 where
  pub named : IsAccepted words → AskedInOrder (file_words words) before now
  pub none : (IsAccepted words → ⊥) → AskedFor [] before now

-- the answer to words that are refused
abbrev pub IsUsage : Answer → Type 0
IsUsage answer = (answer.status ≡ Usage) × (answer.text ≡ usage_line)

-- the text that goes with a status: the usage line, the line of a refusal, or what the command prints
abbrev pub IsText : Seen → Seen → Status → Text → Type 0
IsText before now Usage text = (text ≡ usage_line)
IsText before now Done text = Unit {0}
IsText before now Violations text = Unit {0}
IsText before now Waived text = Unit {0}
IsText before now status text = (fault : Fault) × (text ≡ line_of fault) × IsRefusedBy before now status fault

-- a status and a text, from the words and from what the files told
pub record IsAnswer (words : List Text) (before now : Seen) (status : Status) (text : Text) : Type 0 where
  pub usage : status ≡ Usage → IsAccepted words → ⊥
  pub refused : (IsAccepted words → ⊥) → status ≡ Usage
  pub fits : IsText before now status text
  pub too_long : (fault : Fault) → IsOfStatus status → text ≡ line_of fault → fault.number ≡ 600 → TellsOfLength before now text
  pub long_net : (net con : Text) (rest : List Text) → IsAccepted words → file_words words ≡ net ∷ con ∷ rest → IsLong before net
      → IsRefusedForLength Netlist net status text
  pub long_con : (net con : Text) (rest : List Text) → IsAccepted words → file_words words ≡ net ∷ con ∷ rest → IsLong before con
      → IsRefusedForLength Constraints con status text ⊎ IsRefusedForLength Netlist net status text
  pub long_third : (net con third : Text) → IsAccepted words → file_words words ≡ net ∷ con ∷ third ∷ [] → IsLong before third
      → IsRefusedForLength Record third status text ⊎ (IsRefusedForLength Constraints con status text ⊎ IsRefusedForLength Netlist net status text)
  pub answered : (asked : Asked) → AsksFor words asked → IsAnsweredTo asked now status text

-- what the output told before the run and tells after it, for a text that went to it
abbrev pub IsWritten : Status → Status → Text → Option Text → Option Text → Type 0
IsWritten WriteFault intended text before now = IsFrontAdded before text now
IsWritten Memory intended text before now = IsFrontAdded before text now
IsWritten status intended text before now = (status ≡ intended) × IsAdded before text now

-- an output: what was written, where it is told, and the count of failed calls
pub record Output : Type 0 where
  pub written : Option Text
  pub faults : ℕ

-- a run made an answer and wrote it; or memory ran out before there was one, and nothing was written
pub record IsRun (words : List Text) (before now : Seen) (out_before out_now : Output) (status : Status) : Type 0 where
  pub asks : AsksByWords words before now
  pub unwritten : status ≡ WriteFault → Rose out_before.faults out_now.faults
  pub answer : ((intended : Status) × (text : Text) × IsAnswer words before now intended text
      × IsWritten status intended text out_before.written out_now.written)
      ⊎ ((status ≡ Memory) × (out_now ≡ out_before))
