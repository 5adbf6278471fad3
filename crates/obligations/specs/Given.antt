-- What an audit has found in a design before it looks for what is wrong.
use Rattle.std.specs.Prelude.{◌≡◌, Bool, true, List, map}
use Rattle.domains.specs.Fit.{Fit}
use Rattle.domains.specs.Nets.{IsNet}
use Rattle.mux_recirc.specs.Given.{AreGuards}
use Rattle.cdc_model.specs.declared.scheme.GrayReg.{GrayReg}
use Rattle.cdc_model.specs.Design.{Design}
use Rattle.cdc_model.specs.Found.{crossings_of}
use Rattle.cdc_model.specs.Listed.{sync_entry}
use Rattle.cdc_model.specs.Nets.{HasNextCells, design_of, net_trees}
use Rattle.cdc_model.specs.Ordered.{IsAll}
use Rattle.cdc_model.specs.Schemes.{Trees, Sync, Ring, IsRing}
use Rattle.cdc_model.specs.Syncs.{syncs_of}
use Rattle.cdc_model.specs.Verdict.{gray_key, ring_key, load_key, IsFirstLoad}
use Rattle.obligations.specs.declared.Found.{Found}

-- the design that was searched, what its trees show, and its synchronizers
abbrev pub design_in : Found → Design
design_in found = design_of found.net.now found.domains.now

abbrev pub trees_in : (GrayReg → Bool) → Found → Trees
trees_in grays found = net_trees found.net.now grays

abbrev pub syncs_in : Found → List Sync
syncs_in found = syncs_of found.net.now found.domains.now

-- All crossings, synchronizers and loads of the net, exactly the Gray registers that pass the test, and what these rings, which are all, say of the crossings.
pub record AreFound (grays : GrayReg → Bool) (rings : List Ring) (found : Found) : Type 0 where
  pub is_net : IsNet found.net.now
  pub has_next : HasNextCells found.net.now
  pub fits : Fit found.net.now found.domains.now
  pub all_crossings : found.crossings.now ≡ crossings_of found.net.now found.domains.now
  pub all_syncs : found.syncs.now ≡ map sync_entry (syncs_in found)
  pub all_grays : IsAll (λ g. grays g ≡ true) gray_key found.grays.now
  pub all_rings : IsAll (IsRing (design_in found) (trees_in grays found) (syncs_in found)) ring_key rings
  pub all_loads : IsAll (IsFirstLoad (design_in found) (trees_in grays found) rings) load_key found.loads.now
  pub guards : AreGuards found.net.now found.domains.now found.crossings.now rings found.guards.now
