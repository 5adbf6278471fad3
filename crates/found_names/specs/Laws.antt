-- The names of a described design are found again.
use Rattle.std.specs.Prelude.{ℕ, List}
use Rattle.cell_graph.specs.declared.net.Net.{Net}
use Rattle.clock_constraints.specs.declared.Constraints.{Constraints}
use Rattle.domains.specs.declared.Domains.{Domains}
use Rattle.campaign_records.specs.Laws.{AreFound}
use Rattle.described_design.specs.Designs.{IsDesignOf}

-- each signal, clock and bit of a described design is found by its printed name
abbrev pub DesignsAreFound : Type 0
DesignsAreFound = (word text con : List ℕ) (c : Constraints) (net : Net) (domains : Domains) → IsDesignOf word text con c net domains → AreFound net domains
