-- The lines so far are those of rings.
use Rattle.std.proofs.Common.{◌≡◌, Bool, [], List, map}
use Rattle.domains.specs.Fit.{Fit}
use Rattle.domains.specs.Nets.{IsNet}
use Rattle.cdc_model.specs.declared.scheme.GrayReg.{GrayReg}
use Rattle.cdc_model.specs.Listed.{sync_entry}
use Rattle.cdc_model.specs.Nets.{HasNextCells, design_of, net_trees}
use Rattle.cdc_model.specs.Schemes.{Sync, AreSyncs}
use Rattle.cdc_model.specs.Tables.{ShowsNet}
use Rattle.cert_check.specs.Certified.{IsRingItem}
use Rattle.cert_check.specs.Items.{AllBefore}
use Rattle.cert_check.proofs.rings.first_bad_ring.Given as goal

abbrev pub invariant-loop-place : goal.invariant-loop-place
invariant-loop-place l = record {
  same : l.plain ≡ l.initial.plain;
  good : IsNet l.net → HasNextCells l.net → Fit l.net l.domains → ShowsNet l.net [] l.initial.plain → (grays : GrayReg → Bool) (ss : List Sync) → l.syncs ≡ map sync_entry ss
      → AreSyncs (design_of l.net l.domains) (net_trees l.net grays) ss → AllBefore (IsRingItem (design_of l.net l.domains) (net_trees l.net grays) l.syncs) l.rings l.place;
}
