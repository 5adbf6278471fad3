-- What an audit asks of its net and domains.
use Rattle.cell_graph.specs.declared.net.Net.{Net}
use Rattle.cell_graph.specs.Shared.{IsShared}
use Rattle.domains.specs.declared.Domains.{Domains}
use Rattle.domains.specs.Fit.{Fit}
use Rattle.domains.specs.Nets.{IsNet}
use Rattle.cdc_model.specs.Nets.{HasNextCells}
use Rattle.gray_pointer.specs.Registers.{AreStartsNarrow}

-- Next values are cells of the net, the domains fit it, equal cells are kept once, and start values lie in their signals.
pub record CanAudit (net : Net) (domains : Domains) : Type 0 where
  pub is_net : IsNet net
  pub has_next : HasNextCells net
  pub fits : Fit net domains
  pub is_shared : IsShared net.graph
  pub narrow : AreStartsNarrow net
