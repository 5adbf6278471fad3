-- All lists of a net, its covers and its findings are its verdict.
use Rattle.std.proofs.Common.{◌≡◌, refl, ap, Bool, true, List, [], ◌∷◌, map}
use Rattle.std.specs.List.{AllByRecursion}
use Rattle.cdc_base.specs.declared.bit.Bit.{Bit}
use Rattle.cell_graph.specs.declared.net.Net.{Net}
use Rattle.domains.specs.declared.Domains.{Domains}
use Rattle.cdc_model.specs.declared.scheme.GrayReg.{GrayReg}
use Rattle.cdc_model.specs.declared.scheme.Load.{Load}
use Rattle.cdc_model.specs.declared.verdict.Finding.{Finding as FindingEntry}
use Rattle.cdc_model.specs.declared.verdict.Finding.TheVariants as entry
use Rattle.cdc_model.specs.declared.verdict.Verdict.{Verdict as VerdictEntry}
use Rattle.cdc_model.specs.Design.{Design}
use Rattle.cdc_model.specs.Found.{crossings_of}
use Rattle.cdc_model.specs.Listed.{ring_entry, AreEntries, IsEntry, IsVerdictOf}
use Rattle.cdc_model.specs.Nets.{design_of, net_trees, FindsGrays}
use Rattle.cdc_model.specs.Ordered.{IsAll}
use Rattle.cdc_model.specs.Schemes.{Trees, Sync, Ring, IsRing}
use Rattle.cdc_model.specs.Syncs.{syncs_of}
use Rattle.cdc_model.specs.Verdict.{IsCover, IsFirstLoad, cover_key, gray_key, load_key, ring_key}
use Rattle.cdc_model.proofs.Found.{crossings_are_all, net_ascends}
use Rattle.cdc_model.proofs.Synced.{syncs_are_all}
use Rattle.obligations.specs.Findings.{AreFindings, HasPath, HavePaths, IsShownBy, finding_of}
use Rattle.obligations.specs.Judged.{CanAudit}

module _ (net : Net) (d : Design) (t : Trees) (syncs : List Sync) where
  is_entry : (e : FindingEntry) → IsShownBy d t syncs e → HasPath net e → IsEntry net d t syncs (finding_of e) e
  is_entry (entry.V1 b x path) h p = (path, p, refl)
  is_entry (entry.V2 b x path) h p = (path, p, refl)
  is_entry (entry.V3 w g flops) h p = ap (entry.V3 w g) h
  is_entry (entry.V4 b g flops) h p = ap (entry.V4 b g) h
  is_entry (entry.V5 w g flops) h p = ap (entry.V5 w g) h
  is_entry (entry.V6 x g arrivals) h p = (arrivals, h, refl)
  is_entry (entry.V7 b x n path) h p = (path, p, refl)
  is_entry (entry.V8 b x n path) h p = (path, p, refl)

  are_entries : (es : List FindingEntry) → AllByRecursion (IsShownBy d t syncs) es → HavePaths net es → AreEntries net d t syncs (map finding_of es) es
  are_entries [] h p = tt
  are_entries (e ∷ es) h p = (is_entry e h.0 p.0, are_entries es h.1 p.1)

module _ (net : Net) (domains : Domains) (can : CanAudit net domains) (grays : GrayReg → Bool) (rings : List Ring) (codes : List GrayReg) (loads : List Load)
    (all_grays : IsAll (λ g. grays g ≡ true) gray_key codes) (all_rings : IsAll (IsRing (design_of net domains) (net_trees net grays) (syncs_of net domains)) ring_key rings)
    (all_loads : IsAll (IsFirstLoad (design_of net domains) (net_trees net grays) rings) load_key loads) where
  pub judged : (is_extra : Bit → Bit → Bool) → FindsGrays net domains grays
      → (listed : VerdictEntry) → listed.crossings ≡ crossings_of net domains → listed.grays ≡ codes → listed.rings ≡ map ring_entry rings
      → IsAll (IsCover codes (syncs_of net domains) loads) cover_key listed.covers
      → AreFindings (design_of net domains) (net_trees net grays) codes (syncs_of net domains) rings loads is_extra listed.findings
      → HavePaths net listed.findings
      → IsVerdictOf net domains is_extra listed
  judged is_extra finds listed same_crossings same_grays same_rings covers findings paths = record {
    grays = grays;
    finds = finds;
    syncs = syncs_of net domains;
    loads = loads;
    verdict = record { crossings = crossings_of net domains; grays = codes; rings = rings; covers = listed.covers; findings = map finding_of listed.findings };
    is_verdict = record {
      all_crossings = crossings_are_all net domains grays (net_ascends net can.is_net);
      all_syncs = syncs_are_all net domains grays can.is_net can.fits;
      all_grays = all_grays;
      all_rings = all_rings;
      all_loads = all_loads;
      all_covers = covers;
      all_findings = findings.all;
    };
    is_listed = record {
      crossings = same_crossings;
      grays = same_grays;
      rings = same_rings;
      covers = refl;
      findings = are_entries net (design_of net domains) (net_trees net grays) (syncs_of net domains) listed.findings findings.shown paths;
    };
  }
