-- The numbers of the statuses, for the shell.
use Rattle.std.specs.Prelude.{ℕ, ◌≡◌, ◌⊎◌}
use Rattle.command_files.specs.declared.status.Status.{Status}
use Rattle.command_files.specs.declared.status.Status.TheVariants.{Done, Violations, Usage, Netlist, Constraints, Record, ReadFault, WriteFault, Memory, Waived}

abbrev pub code_of : Status → ℕ
code_of Done = 0
code_of Violations = 1
code_of Usage = 2
code_of Netlist = 3
code_of Constraints = 4
code_of Record = 5
code_of ReadFault = 6
code_of WriteFault = 7
code_of Memory = 8
code_of Waived = 9

-- the statuses of a command that came to its end
abbrev pub IsEnd : Status → Type 0
IsEnd Done = Unit {0}
IsEnd Violations = Unit {0}
IsEnd Waived = Unit {0}
IsEnd _ = ⊥

-- the status of a file
abbrev pub IsOfStatus : Status → Type 0
IsOfStatus s = (s ≡ Netlist) ⊎ ((s ≡ Constraints) ⊎ (s ≡ Record))

-- the status of a design's files
abbrev pub IsOfDesignFile : Status → Type 0
IsOfDesignFile s = (s ≡ Netlist) ⊎ (s ≡ Constraints)
