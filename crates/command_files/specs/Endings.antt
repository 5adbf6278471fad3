-- How the parts of a command end.
use Rattle.std.specs.Prelude.{ℕ, ◌≡◌, ◌+◌, ◌≤◌, ◌⊎◌, true, List, [], ◌∷◌, ◌++◌, length, Some, Result, Ok, Err, IfOk, IfErr, IsErrAnd}
use Rattle.cdc_base.specs.Causes.{Rose, RoseBy, StaysTold}
use Rattle.cdc_base.specs.declared.fault.Fault.{Fault}
use Rattle.cdc_base.specs.declared.fault.Stop.{Stop}
use Rattle.cdc_base.specs.declared.fault.Stop.TheVariants as stop
use Rattle.refusals.specs.Numbers.{is_listed}
use Rattle.report.specs.Faults.{line_of}
use Rattle.command_files.specs.declared.answer.Answer.{Answer}
use Rattle.command_files.specs.declared.answer.Ending.{Ending}
use Rattle.command_files.specs.declared.answer.Ending.TheVariants.{Refused, Memory}
use Rattle.command_files.specs.declared.status.Status.{Status}
use Rattle.command_files.specs.declared.status.Status.TheVariants.{Netlist, Constraints, Record, ReadFault}
use Rattle.command_files.specs.Files.{Seen, Text, AreAllTold, AreTold, AskedInOrder, IsLong, IsRefusedBy, fault_at, max_bytes, numbers_of}
use Rattle.command_files.specs.Statuses.{IsEnd, IsOfStatus}

-- a refusal has such a cause, unless memory ran out
abbrev pub HasCause : (Status → Fault → Type 0) → Ending → Type 0
HasCause cause (Refused status fault) = cause status fault
HasCause cause Memory = Unit {0}

-- a layer's refusal, with its status
abbrev pub ending_of : Status → Stop → Ending
ending_of status (stop.Refused fault) = Refused status fault
ending_of status stop.Memory = Memory

abbrev pub ended_with : {T : Type 0} → Status → Result T Stop → Result T Ending
ended_with status (Ok value) = Ok value
ended_with status (Err s) = Err (ending_of status s)

-- want of memory, or this refusal
abbrev pub IsRefusal : Status → Fault → Ending → Type 0
IsRefusal status fault Memory = Unit {0}
IsRefusal status fault (Refused s f) = (s ≡ status) × (f ≡ fault)

-- want of memory, or a refusal that goes with its status
abbrev pub IsEnding : Seen → Seen → Ending → Type 0
IsEnding before now Memory = Unit {0}
IsEnding before now (Refused status fault) = IsRefusedBy before now status fault

-- why bytes that were read have no answer: want of memory, or a refusal by a rule that goes with its status
abbrev pub IsOfFiles : Ending → Type 0
IsOfFiles Memory = Unit {0}
IsOfFiles (Refused status f) = is_listed (numbers_of status) f.number ≡ true

-- the answer that an ending has: the line of its refusal
abbrev pub IsAnswerTo : Ending → Answer → Type 0
IsAnswerTo Memory answer = ⊥
IsAnswerTo (Refused status fault) answer = (answer.status ≡ status) × (answer.text ≡ line_of fault)

-- how a read may end: it failed, or the file is over its limit
abbrev pub IsReadEnding : Text → Status → Seen → Seen → Ending → Type 0
IsReadEnding name status before now Memory = Unit {0}
IsReadEnding name status before now (Refused s f) =
    ((s ≡ ReadFault) × (f ≡ fault_at 1 name) × Rose before.faults now.faults)
    ⊎ ((s ≡ status) × (f ≡ fault_at 600 name) × RoseBy (max_bytes + 1) before.taken now.taken)

-- one file was read whole, or its reading ended so
pub record IsReadOf (name : Text) (status : Status) (before now : Seen) (result : Result (List ℕ) Ending) : Type 0 where
  pub holds : (other : Text) → StaysTold (before.held other) (now.held other)
  pub rising : (before.taken ≤ now.taken) × (before.faults ≤ now.faults)
  pub asks : (now.asked ≡ before.asked ++ name ∷ []) ⊎ ((result ≡ Err Memory) × (now.asked ≡ before.asked))
  pub within : IfOk result (λ bytes. length bytes ≤ max_bytes)
  pub short : IfOk result (λ bytes. IsLong before name → ⊥)
  pub content : IfOk result (λ bytes. now.held name ≡ Some bytes)
  pub ended : IfErr result (IsReadEnding name status before now)

-- why a file over its limit has no answer of its own
abbrev pub IsLengthEnding : Status → Text → Ending → Type 0
IsLengthEnding of_file name Memory = Unit {0}
IsLengthEnding of_file name (Refused s f) = ((s ≡ of_file) × (f ≡ fault_at 600 name)) ⊎ (s ≡ ReadFault)

-- how the reading of both files ends: a read failed, or a file is over its limit
abbrev pub IsUnreadOfBoth : Text → Text → Ending → Type 0
IsUnreadOfBoth net con ending = IsLengthEnding Constraints con ending ⊎ IsLengthEnding Netlist net ending

-- how that of all three files ends
abbrev pub IsUnreadOfThree : Text → Text → Text → Ending → Type 0
IsUnreadOfThree net con run ending = IsLengthEnding Record run ending ⊎ IsUnreadOfBoth net con ending

-- both files were read whole, or the reading ended so
pub record IsReadOfBoth {T : Type 0} (net con : Text) (before now : Seen) (result : Result T Ending) : Type 0 where
  pub asks : AskedInOrder (net ∷ con ∷ []) before now
  pub ended : IfErr result (IsEnding before now)
  pub long_net : IsLong before net → IsErrAnd result (IsLengthEnding Netlist net)
  pub long_con : IsLong before con → IsErrAnd result (λ e. IsLengthEnding Constraints con e ⊎ IsLengthEnding Netlist net e)

-- a read that ended refuses the record as too long alone
abbrev pub IsOfLength : Text → Ending → Type 0
IsOfLength run Memory = Unit {0}
IsOfLength run (Refused status fault) = status ≡ Record → fault ≡ fault_at 600 run

-- all three files were read whole, or the reading ended so
pub record IsReadOfThree {T : Type 0} (net con run : Text) (before now : Seen) (result : Result T Ending) : Type 0 where
  pub asks : AskedInOrder (net ∷ con ∷ run ∷ []) before now
  pub ended : IfErr result (IsEnding before now)
  pub long_net : IsLong before net → IsErrAnd result (IsLengthEnding Netlist net)
  pub long_con : IsLong before con → IsErrAnd result (λ e. IsLengthEnding Constraints con e ⊎ IsLengthEnding Netlist net e)
  pub long_run : IsLong before run → IsErrAnd result (λ e. IsLengthEnding Record run e ⊎ (IsLengthEnding Constraints con e ⊎ IsLengthEnding Netlist net e))

-- the file of the status is refused as over its limit
abbrev pub IsOverLimit : Text → Text → Status → Fault → Type 0
IsOverLimit net con Netlist fault = fault ≡ fault_at 600 net
IsOverLimit net con Constraints fault = fault ≡ fault_at 600 con
IsOverLimit net con _ fault = ⊥

-- and among three
abbrev pub IsAnyOverLimit : Text → Text → Text → Status → Fault → Type 0
IsAnyOverLimit net con third Netlist fault = fault ≡ fault_at 600 net
IsAnyOverLimit net con third Constraints fault = fault ≡ fault_at 600 con
IsAnyOverLimit net con third Record fault = fault ≡ fault_at 600 third
IsAnyOverLimit net con third _ fault = ⊥

-- why a file is refused: it is over its limit, or the bytes of both files, as they are told, are refused so
abbrev pub IsCausedBy : (Text → Text → Fault → Status → Type 0) → Seen → Text → Text → Status → Fault → Type 0
IsCausedBy refused now net con status fault = IsOverLimit net con status fault ⊎ AreTold now net con (λ n c. refused n c fault status)

-- and among three
abbrev pub IsCausedByAny : (Text → Text → Text → Fault → Status → Type 0) → Seen → Text → Text → Text → Status → Fault → Type 0
IsCausedByAny refused now net con third status fault =
    IsAnyOverLimit net con third status fault ⊎ AreAllTold now net con third (λ n c t. refused n c t fault status)

-- A command over two files came to its end: they were read in their order; where there is an answer, it has an end's status and is that of the files'
-- bytes, as they are told; and a refusal of a file has its cause.
pub record IsEndOfBoth (done : Text → Text → Status → Text → Type 0) (refused : Text → Text → Fault → Status → Type 0) (net con : Text) (before now : Seen)
    (result : Result Answer Ending) : Type 0 where
  pub reads : IsReadOfBoth net con before now result
  pub ended : IfOk result (λ answer. IsEnd answer.status)
  pub exact : IfOk result (λ answer. AreTold now net con (λ n c. done n c answer.status answer.text))
  pub caused : IfErr result (HasCause (λ status fault. IsOfStatus status → IsCausedBy refused now net con status fault))

-- a command over three files came to its end
pub record IsEndOfThree (done : Text → Text → Text → Status → Text → Type 0) (refused : Text → Text → Text → Fault → Status → Type 0) (net con third : Text)
    (before now : Seen) (result : Result Answer Ending) : Type 0 where
  pub reads : IsReadOfThree net con third before now result
  pub ended : IfOk result (λ answer. IsEnd answer.status)
  pub exact : IfOk result (λ answer. AreAllTold now net con third (λ n c t. done n c t answer.status answer.text))
  pub caused : IfErr result (HasCause (λ status fault. IsOfStatus status → IsCausedByAny refused now net con third status fault))
