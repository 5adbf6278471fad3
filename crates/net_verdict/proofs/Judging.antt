-- The FIFOs of a net fit its verdict, and what is so promised of it.
use Rattle.std.proofs.Common.{◌≡◌, ◌∙◌, ◌↔◌, refl, sym, ap, subst, Bool, true, List, [], map, Contains}
use mathlib.Core.Path.{fun_ext}
use Rattle.cdc_base.specs.declared.bit.Bit.{Bit}
use Rattle.cell_graph.specs.declared.net.Net.{Net}
use Rattle.domains.specs.declared.Domains.{Domains}
use Rattle.cdc_model.specs.declared.scheme.Crossing.{Crossing}
use Rattle.cdc_model.specs.declared.scheme.GrayReg.{GrayReg}
use Rattle.cdc_model.specs.declared.scheme.Sync.{Sync as SyncEntry}
use Rattle.cdc_model.specs.declared.verdict.Verdict.{Verdict as VerdictEntry}
use Rattle.cdc_model.specs.Design.{Design}
use Rattle.cdc_model.specs.Listed.{IsVerdictOf}
use Rattle.cdc_model.specs.Nets.{design_of, net_trees, next_tree}
use Rattle.cdc_model.specs.Ordered.{IsAll}
use Rattle.cdc_model.specs.Runs.{Then, Trace, IsRun}
use Rattle.cdc_model.specs.Schemes.{IsSync, Ring, Sync, Trees}
use Rattle.cdc_model.specs.Syncs.{syncs_of}
use Rattle.cdc_model.specs.Verdict.{gray_key, sync_key}
use Rattle.cdc_model.proofs.NetDesign.{net_trees_are}
use Rattle.cdc_model.proofs.Ordered.{one_list}
use Rattle.cdc_model.proofs.Synced.{syncs_are_all}
use Rattle.fifo_laws.specs.Laws.{AreLists, IsSoundRun}
use Rattle.fifo_scheme.specs.declared.found.Fifo.{Fifo as Entry}
use Rattle.fifo_scheme.specs.Entries.{IsCrossingOfOne}
use Rattle.fifo_scheme.specs.Found.{HasOrder, is_listed}
use Rattle.fifo_scheme.specs.Given.{AreGiven}
use Rattle.fifo_scheme.proofs.Listing.{between, listed_tells, one_tells, one_truth}
use Rattle.obligations.specs.declared.schemes.Schemes.{Schemes}
use Rattle.obligations.specs.Judged.{CanAudit}
use Rattle.obligations.specs.Schemes.{AreSchemes}
use Rattle.net_verdict.specs.Fifos.{IsInOrder, is_of_fifo}

-- what is listed are the FIFOs' own crossings
pub of_fifos : (fifos : List Entry) (crossings : List Crossing) → ((c : Crossing) → Contains crossings c ↔ IsCrossingOfOne fifos c)
    → is_listed crossings ≡ is_of_fifo fifos
of_fifos fifos crossings all = fun_ext (λ (b : Bit). fun_ext (λ (x : Bit).
    one_truth (is_listed crossings b x) (is_of_fifo fifos b x) (IsCrossingOfOne fifos (between b x))
    ((λ h. (all (between b x)).0 ((listed_tells b x crossings).0 h)), λ h. (listed_tells b x crossings).1 ((all (between b x)).1 h))
    (one_tells (λ (e : Entry). e.crossings) fifos b x)))

module _ (net : Net) (domains : Domains) (can : CanAudit net domains) (schemes : Schemes) (are : AreSchemes net domains schemes) where
  -- a search for FIFOs is given the net's synchronizers
  pub given : AreGiven net domains schemes.syncs (syncs_of net domains)
  given = record { is_net = can.is_net; has_next = can.has_next; fits = can.fits; is_shared = can.is_shared; listed = are.syncs }

  module _ (extra : Bit → Bit → Bool) (e : VerdictEntry) (w : IsVerdictOf net domains extra e) where
    abbrev pub shown_by : Trees
    shown_by = net_trees net w.grays

    all_syncs : IsAll (IsSync (design_of net domains) shown_by) sync_key (syncs_of net domains)
    all_syncs = syncs_are_all net domains w.grays can.is_net can.fits

    pub lists : AreLists (design_of net domains) (next_tree net) shown_by (syncs_of net domains) schemes.grays
    lists = record {
      next = record { next = λ r x register. refl; copied = λ x register. refl };
      trees = net_trees_are net domains can.fits w.grays w.finds;
      reads = λ x b register. refl;
      are_syncs = all_syncs.only;
      are_grays = are.grays.only;
    }

    -- the verdict goes by the same synchronizers and Gray registers
    pub same_syncs : syncs_of net domains ≡ w.syncs
    same_syncs = one_list sync_key (IsSync (design_of net domains) shown_by) (syncs_of net domains) w.syncs all_syncs w.is_verdict.all_syncs

    pub same_grays : schemes.grays ≡ e.grays
    same_grays = one_list gray_key (λ g. w.grays g ≡ true) schemes.grays w.verdict.grays (record {
      all = λ g h. are.grays.all g ((w.finds g).0 h);
      only = λ g i. (w.finds g).1 (are.grays.only g i);
      ordered = are.grays.ordered;
    }) w.is_verdict.all_grays ∙ sym w.is_listed.grays

    -- where each run is calm and whole, words go in order
    pub in_order : ((run : Trace) → IsRun (design_of net domains) run → IsSoundRun (design_of net domains) w.syncs e.grays w.verdict.rings run)
        → (f : Entry) → HasOrder net domains (syncs_of net domains) schemes.grays w.verdict.rings f → IsInOrder net domains e.grays f
    in_order sound f order =
        let back : (run : Trace) → IsRun (design_of net domains) run → IsSoundRun (design_of net domains) (syncs_of net domains) schemes.grays w.verdict.rings run
        = λ run is. subst (λ (gs : List GrayReg). IsSoundRun (design_of net domains) (syncs_of net domains) gs w.verdict.rings run) (sym same_grays)
        (subst (λ (ss : List Sync). IsSoundRun (design_of net domains) ss e.grays w.verdict.rings run) (sym same_syncs) (sound run is)) in
        subst (λ (gs : List GrayReg). IsInOrder net domains gs f) same_grays (record {
          fifo = order.fifo;
          is_fifo = order.is_fifo;
          entry = order.entry;
          within = λ run is. order.within run (back run is);
          oldest = λ past edges new is. order.oldest past edges new (back (Then past edges new) is);
        })
