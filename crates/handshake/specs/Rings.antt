-- All rings of a net.
use Rattle.std.specs.Prelude.{◌≡◌, Bool, List, map}
use Rattle.cell_graph.specs.declared.net.Net.{Net}
use Rattle.domains.specs.declared.Domains.{Domains}
use Rattle.cdc_model.specs.declared.scheme.GrayReg.{GrayReg}
use Rattle.cdc_model.specs.declared.scheme.Ring.{Ring as RingEntry}
use Rattle.cdc_model.specs.Listed.{ring_entry}
use Rattle.cdc_model.specs.Nets.{design_of, net_trees}
use Rattle.cdc_model.specs.Ordered.{IsAll}
use Rattle.cdc_model.specs.Schemes.{Ring, IsRing}
use Rattle.cdc_model.specs.Syncs.{syncs_of}
use Rattle.cdc_model.specs.Verdict.{ring_key}

-- the list has exactly the rings of the net over its synchronizers, in order, whatever is taken for Gray registers
abbrev pub AreRingsOf : Net → Domains → List RingEntry → Type 0
AreRingsOf net domains rings = (grays : GrayReg → Bool)
    → (list : List Ring) × IsAll (IsRing (design_of net domains) (net_trees net grays) (syncs_of net domains)) ring_key list × (rings ≡ map ring_entry list)
