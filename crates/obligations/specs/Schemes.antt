-- The schemes by which all else in a net is judged.
use Rattle.std.specs.Prelude.{◌≡◌, map}
use Rattle.cell_graph.specs.declared.net.Net.{Net}
use Rattle.domains.specs.declared.Domains.{Domains}
use Rattle.cdc_model.specs.Found.{crossings_of}
use Rattle.cdc_model.specs.GrayShape.{IsGrayReg}
use Rattle.cdc_model.specs.Listed.{sync_entry}
use Rattle.cdc_model.specs.Nets.{design_of, next_tree}
use Rattle.cdc_model.specs.Ordered.{IsAll}
use Rattle.cdc_model.specs.Syncs.{syncs_of}
use Rattle.cdc_model.specs.Verdict.{gray_key}
use Rattle.obligations.specs.declared.schemes.Schemes.{Schemes}

-- All crossings, synchronizers and Gray registers of the net.
pub record AreSchemes (net : Net) (domains : Domains) (schemes : Schemes) : Type 0 where
  pub crossings : schemes.crossings ≡ crossings_of net domains
  pub syncs : schemes.syncs ≡ map sync_entry (syncs_of net domains)
  pub grays : IsAll (IsGrayReg (design_of net domains) (next_tree net)) gray_key schemes.grays
