-- What files tell, and why they are refused.
use Rattle.std.specs.Prelude.{ℕ, ◌≡◌, ◌+◌, ◌<◌, ◌⊎◌, true, List, [], ◌∷◌, ◌++◌, length, Option, Some, None}
use Rattle.cdc_base.specs.Causes.{Rose, RoseBy}
use Rattle.cdc_base.specs.declared.fault.Fault.{Fault}
use Rattle.refusals.specs.Numbers.{is_listed, netlist_numbers, all_constraint_numbers}
use Rattle.report.specs.Faults.{line_of}
use Rattle.run_file.specs.Numbers.{record_numbers}
use Rattle.run_report.specs.Refusals.{step_numbers}
use Rattle.command_files.specs.declared.status.Status.{Status}
use Rattle.command_files.specs.declared.status.Status.TheVariants.{Netlist, Constraints, Record, ReadFault}

abbrev pub Text : Type 0
Text = List ℕ

-- the most bytes of a file
abbrev pub max_bytes : ℕ
max_bytes = 268435456

-- what files tell: what lies under a name, which names were asked for, and the counts of bytes and of failed reads
pub record Seen : Type 0 where
  pub held : Text → Option Text
  pub asked : List Text
  pub taken : ℕ
  pub faults : ℕ

-- from one state of the files to a later one these names were asked for
abbrev pub AskedFor : List Text → Seen → Seen → Type 0
AskedFor names before now = now.asked ≡ before.asked ++ names

-- a front of these names was asked for
abbrev pub AskedInOrder : List Text → Seen → Seen → Type 0
AskedInOrder names before now = (front : List Text) × (rest : List Text) × (front ++ rest ≡ names)
    × AskedFor front before now

-- the last file asked for
abbrev pub IsLastAsked : Text → Seen → Type 0
IsLastAsked name now = (earlier : List Text) × (now.asked ≡ earlier ++ name ∷ [])

-- a refusal without a place
abbrev pub fault_at : ℕ → Text → Fault
fault_at number name = record { number = number; place = None; name = name }

-- a read failed: the refusal names the file asked for last
abbrev pub IsUnread : Seen → Seen → Fault → Type 0
IsUnread before now fault = IsLastAsked fault.name now × (fault ≡ fault_at 1 fault.name) × Rose before.faults now.faults

-- the file asked for last is over its limit, and the refusal names it
abbrev pub IsTooLong : Seen → Seen → Fault → Type 0
IsTooLong before now fault = IsLastAsked fault.name now × (fault ≡ fault_at 600 fault.name)
    × RoseBy (max_bytes + 1) before.taken now.taken

-- the rule of a certificate's lines
abbrev pub certificate_numbers : List ℕ
certificate_numbers = 510 ∷ []

-- what a record may be refused for, once it was read: its own rules, and those of its steps; or a certificate
abbrev pub all_record_numbers : List ℕ
all_record_numbers = record_numbers ++ step_numbers ++ certificate_numbers

-- the rules of an SDC text
abbrev pub sdc_numbers : List ℕ
sdc_numbers = 404 ∷ 409 ∷ 412 ∷ 413 ∷ []

-- what a constraint file may be refused for, once it was read, in TOML or in SDC
abbrev pub all_file_numbers : List ℕ
all_file_numbers = all_constraint_numbers ++ sdc_numbers

-- the rules that a file of this status may break, once it was read
abbrev pub numbers_of : Status → List ℕ
numbers_of Netlist = netlist_numbers
numbers_of Constraints = all_file_numbers
numbers_of Record = all_record_numbers
numbers_of _ = []

-- a file is over its limit, or breaks one of these rules
abbrev pub IsOfFile : List ℕ → Seen → Seen → Fault → Type 0
IsOfFile numbers before now fault = IsTooLong before now fault ⊎ (is_listed numbers fault.number ≡ true)

-- the refusal that goes with a status: a failed read, a file over its limit, or a rule that a file's bytes break
abbrev pub IsRefusedBy : Seen → Seen → Status → Fault → Type 0
IsRefusedBy before now ReadFault fault = IsUnread before now fault
IsRefusedBy before now Netlist fault = IsOfFile netlist_numbers before now fault
IsRefusedBy before now Constraints fault = IsOfFile all_file_numbers before now fault
IsRefusedBy before now Record fault = IsOfFile all_record_numbers before now fault
IsRefusedBy before now _ fault = ⊥

-- a file that is told to be over its limit
abbrev pub IsLong : Seen → Text → Type 0
IsLong before name = (bytes : Text) × (before.held name ≡ Some bytes) × (max_bytes < length bytes)

-- the answer is the refusal of a file over its limit, or that a read failed
abbrev pub IsRefusedForLength : Status → Text → Status → Text → Type 0
IsRefusedForLength of_file name status text =
    ((status ≡ of_file) × (text ≡ line_of (fault_at 600 name))) ⊎ (status ≡ ReadFault)

-- the file asked for last was over its limit, and the text is the line that names it
abbrev pub TellsOfLength : Seen → Seen → Text → Type 0
TellsOfLength before now text = (name : Text) × IsLastAsked name now × (text ≡ line_of (fault_at 600 name))
    × RoseBy (max_bytes + 1) before.taken now.taken

-- there are bytes that are told of a file, and this holds of them
abbrev pub Told : Seen → Text → (Text → Type 0) → Type 0
Told now name P = (bytes : Text) × (now.held name ≡ Some bytes) × P bytes

-- there are bytes that are told of both files, or of all three
abbrev pub AreTold : Seen → Text → Text → (Text → Text → Type 0) → Type 0
AreTold now net con P = Told now net (λ net_bytes. Told now con (λ con_bytes. P net_bytes con_bytes))

abbrev pub AreAllTold : Seen → Text → Text → Text → (Text → Text → Text → Type 0) → Type 0
AreAllTold now net con third P = AreTold now net con (λ net_bytes con_bytes. Told now third (λ third_bytes. P net_bytes con_bytes third_bytes))
