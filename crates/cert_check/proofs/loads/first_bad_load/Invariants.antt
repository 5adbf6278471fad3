-- The lines so far are those of loads.
use Rattle.std.proofs.Common.{◌≡◌, Bool, [], List, map, Contains}
use Rattle.domains.specs.Fit.{Fit}
use Rattle.domains.specs.Nets.{IsNet}
use Rattle.cdc_model.specs.declared.scheme.GrayReg.{GrayReg}
use Rattle.cdc_model.specs.Listed.{ring_entry}
use Rattle.cdc_model.specs.Nets.{HasNextCells, design_of, net_trees}
use Rattle.cdc_model.specs.Schemes.{Sync, Ring, IsRing}
use Rattle.cdc_model.specs.Tables.{ShowsNet}
use Rattle.cert_check.specs.Certified.{IsLoadItem}
use Rattle.cert_check.specs.Items.{AllBefore}
use Rattle.cert_check.proofs.loads.first_bad_load.Given as goal

abbrev pub invariant-loop-place : goal.invariant-loop-place
invariant-loop-place l = record {
  same : l.plain ≡ l.initial.plain;
  good : IsNet l.net → HasNextCells l.net → Fit l.net l.domains → ShowsNet l.net [] l.initial.plain → (grays : GrayReg → Bool) (ss : List Sync) (rs : List Ring) → l.rings ≡ map ring_entry rs
      → ((r : Ring) → Contains rs r → IsRing (design_of l.net l.domains) (net_trees l.net grays) ss r)
      → AllBefore (IsLoadItem (design_of l.net l.domains) (net_trees l.net grays) l.rings) l.loads l.place;
}
