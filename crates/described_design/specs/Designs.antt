-- The net and the domains of the design that texts describe.
use Rattle.std.specs.Prelude.{List, ℕ}
use Rattle.cell_graph.specs.declared.net.Net.{Net}
use Rattle.clock_constraints.specs.declared.Constraints.{Constraints}
use Rattle.cofactor.specs.contracts.nodes.PlainCofactors.TheImpl as plain
use Rattle.domains.specs.declared.Domains.{Domains}
use Rattle.domains.specs.Assignment.{AreDomains}
use Rattle.domains.specs.Fit.{Fit}
use Rattle.domains.specs.Nets.{IsNet}
use Rattle.cdc_model.specs.Nets.{HasNextCells}
use Rattle.obligations.specs.Judged.{CanAudit}
use Rattle.settling_sim.specs.Starts.{HasStarts}
use Rattle.run_file.specs.Names.{CanRead}
use Rattle.verilog_reading.specs.SourceTree.{ModuleTree}
use Rattle.described_design.specs.ConstraintFiles.{HasConstraints}
use Rattle.described_design.specs.Described.{IsNetOfModules, ReadsAs}

-- A net and domains that can be replayed: next values are cells of the net, the domains fit it, records can speak of it, and known start bits are
-- those of signals that hold state.
pub record CanReplay (net : Net) (domains : Domains) : Type 0 where
  pub is_net : IsNet net
  pub next_cells : HasNextCells net
  pub fit : Fit net domains
  pub read : CanRead net domains
  pub starts : HasStarts net domains

-- a net and its domains under constraints, which can be replayed and audited
pub record IsDesign (c : Constraints) (net : Net) (domains : Domains) : Type 0 where
  pub assigned : AreDomains plain.ghosts.reads net c domains
  pub can : CanReplay net domains
  pub can_audit : CanAudit net domains

-- these constraints, net and domains are those of the design which a netlist's bytes describe under a constraint file with this word and these bytes
pub record IsDesignOf (word text con : List ℕ) (constraints : Constraints) (net : Net) (domains : Domains) : Type 0 where
  pub modules : List ModuleTree
  pub reads : ReadsAs text modules
  pub means : HasConstraints word modules con constraints
  pub of_modules : IsNetOfModules modules constraints net
  pub design : IsDesign constraints net domains
