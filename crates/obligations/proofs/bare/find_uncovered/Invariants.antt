-- So far these are exactly the uncovered ones among the first crossings.
use Rattle.std.proofs.Common.{Bool, List, []}
use Rattle.cdc_base.specs.declared.bit.Bit.{Bit}
use Rattle.cdc_model.specs.declared.scheme.GrayReg.{GrayReg}
use Rattle.cdc_model.specs.Schemes.{Ring}
use Rattle.cdc_model.specs.Tables.{ShowsNet}
use Rattle.obligations.specs.Bare.{AreHanded, finding_at}
use Rattle.obligations.specs.Findings.{IsFindingIn}
use Rattle.obligations.proofs.Sieve.{AreInFirst}
use Rattle.obligations.proofs.bare.find_uncovered.Given as goal

abbrev pub invariant-loop-place : goal.invariant-loop-place
invariant-loop-place l = (grays : GrayReg → Bool) (rings : List Ring) (is_extra : Bit → Bit → Bool) → AreHanded grays rings is_extra l.found l.covers l.extra → ShowsNet l.found.net.now [] l.plain
    → AreInFirst (λ u. IsFindingIn grays rings is_extra l.found (finding_at u)) l.crossing-items l.place l.uncovered.items
