-- FIFOs that were found fit the design and the lists, and have their order.
use Rattle.std.proofs.Common.{◌≡◌, ◌∙◌, ◌↔◌, inl, inr, sym, ap, subst, List, [], ◌∷◌, map, Contains}
use Rattle.cell_graph.specs.declared.net.Net.{Net}
use Rattle.domains.specs.declared.Domains.{Domains}
use Rattle.cdc_model.specs.declared.scheme.Crossing.{Crossing}
use Rattle.cdc_model.specs.declared.scheme.GrayReg.{GrayReg}
use Rattle.cdc_model.specs.declared.scheme.Sync.{Sync as SyncEntry}
use Rattle.cdc_model.specs.Listed.{sync_entry}
use Rattle.cdc_model.specs.Nets.{design_of, next_tree}
use Rattle.cdc_model.specs.Schemes.{Ring, Sync, Trees}
use Rattle.cdc_model.proofs.Ascending.{here, later, nothing_in, parts}
use Rattle.fifo_laws.specs.Fifos.{Fifo, AreFifos, IsFifo, is_fifo_crossing}
use Rattle.fifo_laws.specs.Laws.{AreLists, FifosStart, FifosStep}
use Rattle.fifo_laws.proofs.OrderKept.{fifo_order, fifo_reads}
use Rattle.fifo_laws.proofs.Start.{all_start}
use Rattle.fifo_laws.proofs.Step.{all_kept}
use Rattle.fifo_scheme.specs.declared.found.Fifo.{Fifo as Entry}
use Rattle.fifo_scheme.specs.Entries.{IsCrossingOfOne, IsListedFifo}
use Rattle.fifo_scheme.specs.Found.{AreThose, Found, HasOrder, IsFoundFor, is_listed}
use Rattle.fifo_scheme.proofs.Listing.{HasCrossing, between, listed_tells, one_tells, one_truth}

abbrev HasCrossingOf : List Fifo → Crossing → Type 0
HasCrossingOf = HasCrossing (λ (f : Fifo). f.crossings)

module _ (net : Net) (domains : Domains) (syncs : List Sync) (grays : List GrayReg) where
  -- the FIFOs of entries
  fifos_of_entries : (es : List Entry) → ((e : Entry) → Contains es e → IsListedFifo net domains syncs grays e)
      → (fs : List Fifo) × AreFifos (design_of net domains) (next_tree net) syncs grays fs × ((c : Crossing) → IsCrossingOfOne es c ↔ HasCrossingOf fs c)
  fifos_of_entries [] listed = ([], (λ f i. absurd (nothing_in f i)), λ c. ((λ h. absurd (nothing_in h.0 h.1)), λ h. absurd (nothing_in h.0 h.1)))
  fifos_of_entries (e ∷ es) listed =
      let rest = fifos_of_entries es (λ d i. listed d (later e es d i)) in
      let (f, fifo, entry) = listed e (here e es) in (
        f ∷ rest.0,
        (λ g i. elim (parts f rest.0 g i) [ inl same ↦ subst (IsFifo (design_of net domains) (next_tree net) syncs grays) same fifo | inr j ↦ rest.1 g j ]),
        λ c. (
          (λ h. elim (parts e es h.0 h.1) [
            | inl same ↦ (f, here f rest.0, subst (λ (cs : List Crossing). Contains cs c) entry.crossings (subst (λ (d : Entry). Contains d.crossings c) (sym same) h.2))
            | inr j ↦ (let r = (rest.2 c).0 (h.0, j, h.2) in (r.0, later f rest.0 r.0 r.1, r.2))
          ]),
          λ h. elim (parts f rest.0 h.0 h.1) [
            | inl same ↦ (e, here e es, subst (λ (cs : List Crossing). Contains cs c) (sym entry.crossings) (subst (λ (g : Fifo). Contains g.crossings c) (sym same) h.2))
            | inr j ↦ (let r = (rest.2 c).1 (h.0, j, h.2) in (r.0, later e es r.0 r.1, r.2))
          ],
        ),
      )

  those : (es : List Entry) (crossings : List Crossing) → ((e : Entry) → Contains es e → IsListedFifo net domains syncs grays e) → ((c : Crossing) → Contains crossings c ↔ IsCrossingOfOne es c)
      → AreThose (design_of net domains) net syncs grays crossings
  those es crossings listed all =
      let fs = fifos_of_entries es listed in
      record {
        fifos = fs.0;
        are_fifos = fs.1;
        crossings_are = λ b x. one_truth (is_listed crossings b x) (is_fifo_crossing fs.0 b x) (HasCrossingOf fs.0 (between b x))
            ((λ h. (fs.2 (between b x)).0 ((all (between b x)).0 ((listed_tells b x crossings).0 h))), λ h. (listed_tells b x crossings).1 ((all (between b x)).1 ((fs.2 (between b x)).1 h)))
            (one_tells (λ (f : Fifo). f.crossings) fs.0 b x);
      }

  found_for : (found : Found) (t : Trees) (entries : List SyncEntry) → AreLists (design_of net domains) (next_tree net) t syncs grays → entries ≡ map sync_entry syncs
      → (found.net ≡ net) × (found.domains ≡ domains) × (found.syncs ≡ entries) × (found.grays ≡ grays) → ((e : Entry) → Contains found.fifos e → IsListedFifo net domains syncs grays e)
      → ((c : Crossing) → Contains found.crossings c ↔ IsCrossingOfOne found.fifos c) → IsFoundFor found (design_of net domains) t syncs grays
  found_for found t entries lists of (of_net, of_domains, of_syncs, of_grays) listed all = record {
    design = ap (λ (n : Net). design_of n found.domains) of_net ∙ ap (design_of net) of_domains;
    lists = subst (λ (n : Net). AreLists (design_of net domains) (next_tree n) t syncs grays) (sym of_net) lists;
    listed = (of_syncs ∙ of, of_grays);
    those = subst (λ (n : Net). AreThose (design_of net domains) n syncs grays found.crossings) (sym of_net) (those found.fifos found.crossings listed all);
  }

  -- so do FIFOs that are kept as they were made
  pub made_fit : (found : Found) (fifos : List Entry) (t : Trees) (entries : List SyncEntry) → AreLists (design_of net domains) (next_tree net) t syncs grays → entries ≡ map sync_entry syncs
      → (found.net ≡ net) × (found.domains ≡ domains) × (found.syncs ≡ entries) × (found.grays ≡ grays) × (found.fifos ≡ fifos) → ((e : Entry) → Contains fifos e → IsListedFifo net domains syncs grays e)
      → ((c : Crossing) → Contains found.crossings c ↔ IsCrossingOfOne fifos c) → IsFoundFor found (design_of net domains) t syncs grays
  made_fit found fifos t entries lists of (of_net, of_domains, of_syncs, of_grays, of_fifos) listed all = found_for found t entries lists of (of_net, of_domains, of_syncs, of_grays)
      (λ e h. listed e (subst (λ (es : List Entry). Contains es e) of_fifos h))
      (subst (λ (es : List Entry). (c : Crossing) → Contains found.crossings c ↔ IsCrossingOfOne es c) (sym of_fifos) all)

  starts : FifosStart
  starts d tree t syncs grays fifos lists are s first = all_start d s first tree t syncs grays lists fifos are

  steps : FifosStep
  steps d tree t syncs grays rings fifos lists are past edges new run keeps facts calm whole = all_kept d tree t syncs grays rings lists past edges new run.1 facts calm whole fifos are keeps

  pub has_order : (t : Trees) → AreLists (design_of net domains) (next_tree net) t syncs grays → (rings : List Ring) (e : Entry) → IsListedFifo net domains syncs grays e → HasOrder net domains syncs grays rings e
  has_order t lists rings e (f, fifo, entry) = record {
    fifo = f;
    is_fifo = fifo;
    entry = entry;
    within = λ run sound. fifo_order starts steps (design_of net domains) (next_tree net) t syncs grays rings f lists fifo run sound;
    oldest = λ past edges new sound. fifo_reads starts steps (design_of net domains) (next_tree net) t syncs grays rings f lists fifo past edges new sound;
  }
