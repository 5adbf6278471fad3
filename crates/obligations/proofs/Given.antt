-- What goes together of what an audit has found.
use Rattle.std.proofs.Common.{◌≡◌, arith, Bool, List, Contains}
use Rattle.cdc_model.specs.declared.scheme.GrayReg.{GrayReg}
use Rattle.cdc_model.specs.declared.scheme.Load.{Load}
use Rattle.cdc_model.specs.Ordered.{IsAll}
use Rattle.cdc_model.specs.Schemes.{Sync, IsSync, Ring}
use Rattle.cdc_model.specs.Verdict.{sync_key}
use Rattle.cdc_model.proofs.Justify.{in_slice}
use Rattle.cdc_model.proofs.Synced.{syncs_are_all}
use Rattle.handshake.proofs.AllRings.{few_flops}
use Rattle.obligations.specs.declared.Found.{Found}
use Rattle.obligations.specs.Covers.{AreFew}
use Rattle.obligations.specs.Given.{AreFound, design_in, trees_in, syncs_in}
use Rattle.obligations.proofs.Apart.{apart}

module _ (grays : GrayReg → Bool) (rings : List Ring) (found : Found) (are : AreFound grays rings found) where
  pub all_syncs : IsAll (IsSync (design_in found) (trees_in grays found)) sync_key (syncs_in found)
  all_syncs = syncs_are_all found.net.now found.domains.now grays are.is_net are.fits

  pub few : AreFew (syncs_in found)
  few s i = let h = few_flops found.net.now found.domains.now are.is_net are.fits i.0 s (in_slice (syncs_in found) s i) in omega (arith, h)

  -- no load is the crossing of a first flop
  pub loads_apart : (s : Sync) (l : Load) → Contains (syncs_in found) s → Contains found.loads.now l → s.first ≡ l.to → s.from ≡ l.from → ⊥
  loads_apart s l i j = apart (design_in found) (trees_in grays found) rings s l (all_syncs.only s i) (are.all_loads.only l j).load
