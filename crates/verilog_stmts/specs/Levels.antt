-- The readers of the level below, where one is left.
use Rattle.std.specs.Prelude.{ℕ, zero, suc, Option, Some, None}
use Rattle.verilog_reading.specs.TargetReader.{Below, below}
use Rattle.verilog_reading.specs.StmtReader.{Lower, lower}

abbrev pub below_in : ℕ → Option Below
below_in zero = None
below_in (suc k) = Some (below k)

abbrev pub lower_in : ℕ → Option Lower
lower_in zero = None
lower_in (suc k) = Some (lower k)
