-- The names of signals, clocks and bits, in tables.
use Rattle.std.specs.Prelude.{◌≡◌, ℕ, zero, suc, ◌+◌, List, [], ◌∷◌, ◌++◌}
use Rattle.std.specs.List.Sorted.{IsStrictlyIncreasing}
use Rattle.cdc_base.specs.declared.bit.Bit.{Bit}
use Rattle.cdc_base.specs.declared.signal.Signal.{Signal}
use Rattle.cdc_base.specs.Bits.{bit_text}
use Rattle.cell_graph.specs.declared.net.Net.{Net}
use Rattle.clock_constraints.specs.Refusals.{Text}
use Rattle.domains.specs.declared.Domains.{Domains}
use Rattle.domains.specs.Tables.{found_in, first_signal, first_clock}
use Rattle.run_file.specs.declared.table.Names.{Names}
use Rattle.run_file.specs.Names.{bit_named}

-- the tables have the names of the net and its clocks, and static inputs ascend
pub record CanName (net : Net) (domains : Domains) (names : Names) : Type 0 where
  pub statics : IsStrictlyIncreasing domains.statics
  pub signals : (q : Text) → found_in names.signals q ≡ first_signal net.graph.signals q
  pub clocks : (q : Text) → found_in names.clocks q ≡ first_clock domains.clocks q
  pub bits : (q : Text) → found_in names.bits q ≡ bit_named net.graph.signals q
