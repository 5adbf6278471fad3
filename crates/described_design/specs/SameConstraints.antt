-- Constraint files that say the same.
use Rattle.std.specs.Prelude.{ℕ, List}
use Rattle.clock_constraints.specs.declared.Constraints.{Constraints}
use Rattle.verilog_reading.specs.SourceTree.{ModuleTree}
use Rattle.described_design.specs.ConstraintFiles.{HasConstraints}
use Rattle.described_design.specs.Described.{ReadsAs}

-- beside a netlist's text, a file with this word and these bytes and another one, each in TOML or in SDC, have the same constraints
pub record HaveSameConstraints (net word con other_word other_con : List ℕ) : Type 0 where
  pub modules : List ModuleTree
  pub reads : ReadsAs net modules
  pub constraints : Constraints
  pub first : HasConstraints word modules con constraints
  pub second : HasConstraints other_word modules other_con constraints
