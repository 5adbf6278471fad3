-- The items so far are synchronizers.
use Rattle.std.proofs.Common.{Bool, []}
use Rattle.domains.specs.Fit.{Fit}
use Rattle.domains.specs.Nets.{IsNet}
use Rattle.cdc_model.specs.declared.scheme.GrayReg.{GrayReg}
use Rattle.cdc_model.specs.Nets.{HasNextCells, design_of, net_trees}
use Rattle.cdc_model.specs.Tables.{ShowsNet}
use Rattle.cert_check.specs.Certified.{IsSyncItem}
use Rattle.cert_check.specs.Items.{AllBefore}
use Rattle.cert_check.proofs.syncs.first_bad_sync.Given as goal

abbrev pub invariant-loop-place : goal.invariant-loop-place
invariant-loop-place l = IsNet l.net → HasNextCells l.net → Fit l.net l.domains → ShowsNet l.net [] l.fn.plain → (grays : GrayReg → Bool)
    → AllBefore (IsSyncItem (design_of l.net l.domains) (net_trees l.net grays)) l.syncs l.place
