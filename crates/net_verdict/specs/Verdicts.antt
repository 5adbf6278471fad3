-- Verdicts on nets, and what they promise.
use Rattle.std.specs.Prelude.{◌≡◌, ℕ, Bool, true, List, [], map}
use Rattle.cdc_base.specs.declared.bit.Bit.{Bit}
use Rattle.cell_graph.specs.declared.net.Net.{Net}
use Rattle.domains.specs.declared.Domains.{Domains}
use Rattle.cdc_model.specs.declared.scheme.Ring.{Ring}
use Rattle.cdc_model.specs.declared.verdict.Verdict.{Verdict as VerdictEntry}
use Rattle.cdc_model.specs.Listed.{IsVerdictOf}
use Rattle.cdc_model.specs.Nets.{design_of, is_register_bit, net_trees}
use Rattle.cdc_model.specs.Runs.{Trace, IsRun}
use Rattle.cdc_model.specs.Sound.{Sound}
use Rattle.cdc_model.specs.Together.{IsTogether}

-- The verdict on a net with its domains. Where nothing was found, the net's design is sound by its covers and rings, and what meets behind its
-- synchronizers belongs to one moment.
pub record IsVerdictOn (extra : Bit → Bit → Bool) (net : Net) (domains : Domains) (verdict : VerdictEntry) : Type 0 where
  pub exact : IsVerdictOf net domains extra verdict
  pub sound : verdict.findings ≡ [] → Sound (design_of net domains) verdict.covers (map (λ (r : Ring). r.bits) verdict.rings) extra
  pub together : verdict.findings ≡ [] → (run : Trace) → IsRun (design_of net domains) run → (x : Bit) → is_register_bit net x ≡ true → (group depth : ℕ)
      → IsTogether (design_of net domains) (net_trees net exact.grays) exact.syncs run x group depth
