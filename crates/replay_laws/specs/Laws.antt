-- A replay goes through a run of the design that the texts describe.
use Rattle.std.specs.Prelude.{◌≡◌, ℕ, List}
use Rattle.cell_graph.specs.declared.net.Net.{Net}
use Rattle.clock_constraints.specs.declared.Constraints.{Constraints}
use Rattle.domains.specs.declared.Domains.{Domains}
use Rattle.cdc_model.specs.declared.record.Record.{Record}
use Rattle.cdc_model.specs.Design.{Design}
use Rattle.cdc_model.specs.Nets.{design_of}
use Rattle.cdc_model.specs.Replay.{replayed}
use Rattle.flat_meaning.specs.Design.{Flat}
use Rattle.flat_model.specs.Designs.{IsMeaning}
use Rattle.run_file.specs.Files as run_file
use Rattle.described_design.specs.Designs.{IsDesignOf}

-- The flat design means some design, and on each that it means the record fixes the same run as on the net, or is refused for the same cause.
pub record IsReplayedOn (f : Flat) (c : Constraints) (net : Net) (domains : Domains) (r : Record) : Type 0 where
  pub some : (d : Design) × IsMeaning f c d
  pub same : (d : Design) → IsMeaning f c d → replayed d r ≡ replayed (design_of net domains) r

-- so it is of each record of the described design, as its bytes are read
abbrev pub ReplaysAreDescribed : Type 0
ReplaysAreDescribed = (word text con run : List ℕ) (c : Constraints) (net : Net) (domains : Domains) (is : IsDesignOf word text con c net domains)
    → (r : Record) → run_file.IsMeaning net domains run r → IsReplayedOn is.of_modules.flat c net domains r
