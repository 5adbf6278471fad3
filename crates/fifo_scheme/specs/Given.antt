-- What a search for FIFOs is given.
use Rattle.std.specs.Prelude.{◌≡◌, List, map}
use Rattle.cell_graph.specs.declared.net.Net.{Net}
use Rattle.cell_graph.specs.Shared.{IsShared}
use Rattle.domains.specs.declared.Domains.{Domains}
use Rattle.domains.specs.Fit.{Fit}
use Rattle.domains.specs.Nets.{IsNet}
use Rattle.cdc_model.specs.declared.scheme.Sync.{Sync as SyncEntry}
use Rattle.cdc_model.specs.Listed.{sync_entry}
use Rattle.cdc_model.specs.Nets.{HasNextCells}
use Rattle.cdc_model.specs.Schemes.{Sync}

-- The net and its domains are such as an audit takes, and the entries are those of these synchronizers.
pub record AreGiven (net : Net) (domains : Domains) (entries : List SyncEntry) (syncs : List Sync) : Type 0 where
  pub is_net : IsNet net
  pub has_next : HasNextCells net
  pub fits : Fit net domains
  pub is_shared : IsShared net.graph
  pub listed : entries ≡ map sync_entry syncs
