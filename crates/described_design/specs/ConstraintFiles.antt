-- What the bytes of a constraint file say: SDC where its word ends in .sdc, else TOML.
use Rattle.std.specs.Prelude.{◌≡◌, ◌==◌, ◌-◌, ℕ, Bool, true, false, List, [], ◌++◌, length, slice_get, codes, Ok, Err}
use Rattle.std.specs.List.{ends_with}
use Rattle.std.specs.Option.{option_map_or}
use Rattle.cdc_base.specs.declared.fault.Fault.{Fault}
use Rattle.clock_constraints.specs.declared.Constraints.{Constraints}
use Rattle.clock_constraints.specs.Files.{IsBroken, IsMeaning}
use Rattle.refusals.specs.Numbers.{constraint_numbers}
use Rattle.command_files.specs.Files.{sdc_numbers}
use Rattle.sdc_subset.specs.Meanings.{meaning}
use Rattle.verilog_reading.specs.SourceTree.{ModuleTree}

-- the rules of a constraint file alone, in TOML or in SDC
abbrev pub file_numbers : List ℕ
file_numbers = constraint_numbers ++ sdc_numbers

-- whether the word names an SDC file
abbrev pub is_sdc : List ℕ → Bool
is_sdc word = ends_with ◌==◌ word (codes ".sdc")

-- the name of the last module, or the empty name: the top of an SDC text that names none
abbrev pub last_name : List ModuleTree → List ℕ
last_name modules = option_map_or (λ (m : ModuleTree). m.name) (slice_get modules (length modules - 1)) []

-- what the bytes say, in SDC or in TOML, beside a netlist of these modules
abbrev pub Says : Bool → List ModuleTree → List ℕ → Constraints → Type 0
Says true modules bytes c = meaning bytes (last_name modules) ≡ Ok c
Says false modules bytes c = IsMeaning bytes c

-- the first rule that they break
abbrev pub Breaks : Bool → List ModuleTree → List ℕ → Fault → Type 0
Breaks true modules bytes fault = meaning bytes (last_name modules) ≡ Err fault
Breaks false modules bytes fault = IsBroken bytes fault

-- the constraints of a file with this word
abbrev pub HasConstraints : List ℕ → List ModuleTree → List ℕ → Constraints → Type 0
HasConstraints word modules bytes c = Says (is_sdc word) modules bytes c

-- the first rule that a file with this word breaks
abbrev pub BreaksRule : List ℕ → List ModuleTree → List ℕ → Fault → Type 0
BreaksRule word modules bytes fault = Breaks (is_sdc word) modules bytes fault
