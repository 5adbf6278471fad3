-- A certificate of all that a clean verdict lists can be written.
use Rattle.std.proofs.Common.{◌≡◌, ◌∙◌, sym, ap, subst, ◌<◌, ◌^◌, ℕ, true, List, [], map, length, Contains}
use Rattle.std.proofs.lemmas.List.{length-map}
use Rattle.cdc_base.specs.declared.bit.Bit.{Bit}
use Rattle.cell_graph.specs.declared.net.Net.{Net}
use Rattle.domains.specs.declared.Domains.{Domains}
use Rattle.domains.specs.Fit.{Fit}
use Rattle.cdc_model.specs.declared.scheme.GrayReg.{GrayReg}
use Rattle.cdc_model.specs.declared.scheme.Load.{Load}
use Rattle.cdc_model.specs.declared.scheme.Ring.{Ring as RingEntry}
use Rattle.cdc_model.specs.declared.scheme.Sync.{Sync as SyncEntry}
use Rattle.cdc_model.specs.declared.verdict.Verdict.{Verdict as VerdictEntry}
use Rattle.cdc_model.specs.GrayShape.{IsGrayReg}
use Rattle.cdc_model.specs.Listed.{IsVerdictOf, ring_entry, sync_entry}
use Rattle.cdc_model.specs.Nets.{design_of, is_register_bit, net_trees, next_tree}
use Rattle.cdc_model.specs.Syncs.{syncs_of}
use Rattle.cdc_model.proofs.Ascending.{from_map, in_map}
use Rattle.cdc_model.proofs.CleanVerdict.{justified, one_family}
use Rattle.cdc_model.proofs.Listing.{clean_listed}
use Rattle.cdc_model.proofs.NetDesign.{net_trees_are}
use Rattle.fifo_scheme.specs.declared.found.Fifo.{Fifo as Entry}
use Rattle.fifo_scheme.specs.declared.found.FifoPair.{FifoPair}
use Rattle.net_verdict.specs.Fifos.{AreFifosOf, is_of_fifo}
use Rattle.cert_text.specs.declared.certificate.Certificate.{Certificate}
use Rattle.cert_text.specs.Written.{CanWrite, CanWriteLoad, CanWriteRing, CanWriteSync, IsFoundSignal}
use Rattle.cert_check.specs.Promised.{HasListed, pair_of, plain_load}
use Rattle.certificate_laws.proofs.Rings.{few-rings}
use Rattle.certificate_laws.proofs.Writable.{AreAllFound, count-found, gray-found, write-like, write-load, write-pair, write-ring, write-sync}

module _ (net : Net) (domains : Domains) (fit : Fit net domains) (found : AreAllFound net) (small : (b : Bit) → is_register_bit net b ≡ true → (b.sig < 2 ^ 20) × (b.at < 64))
    (fifos : List Entry) (listed : VerdictEntry) (w : IsVerdictOf net domains (is_of_fifo fifos) listed) (are : AreFifosOf net domains listed.grays fifos) (clean : listed.findings ≡ []) where
  none : w.verdict.findings ≡ []
  none = clean_listed net (design_of net domains) (net_trees net w.grays) w.syncs w.verdict listed w.is_listed clean

  gray-is : (g : GrayReg) → Contains listed.grays g → IsGrayReg (design_of net domains) (next_tree net) g
  gray-is g i = (w.finds g).0 (w.is_verdict.all_grays.only g (subst (λ (gs : List GrayReg). Contains gs g) w.is_listed.grays i))

  few : length w.verdict.rings < 2 ^ 32
  few = few-rings (design_of net domains) (net_trees net w.grays) (net_trees_are net domains fit w.grays w.finds) w.syncs w.is_verdict.all_syncs w.verdict.grays w.verdict.rings w.loads (is_of_fifo fifos)
      (justified (design_of net domains) (net_trees net w.grays) (is_of_fifo fifos) w.syncs w.loads w.verdict w.is_verdict none)
      (one_family (design_of net domains) (net_trees net w.grays) (is_of_fifo fifos) w.syncs w.loads w.verdict w.is_verdict none) small w.is_verdict.all_rings

  module _ (c : Certificate) (h : HasListed w.syncs listed.grays listed.rings w.loads fifos c) where
    rings-are : c.rings ≡ map ring_entry w.verdict.rings
    rings-are = h.rings_listed ∙ w.is_listed.rings

    syncs-written : (s : SyncEntry) → Contains c.syncs s → CanWriteSync net.graph.signals s
    syncs-written s i =
        let (k, there, same) = from_map sync_entry w.syncs s (subst (λ (xs : List SyncEntry). Contains xs s) h.syncs_listed i) in
        subst (CanWriteSync net.graph.signals) same (write-sync net domains fit found w.grays k (w.is_verdict.all_syncs.only k there))

    grays-written : (g : GrayReg) → Contains c.grays g → IsFoundSignal net.graph.signals g.gray × IsFoundSignal net.graph.signals g.count
    grays-written g i =
        let is = gray-is g (subst (λ (xs : List GrayReg). Contains xs g) h.grays_listed i) in
        (gray-found net domains fit found w.grays g is, count-found net domains fit found w.grays g is)

    rings-written : (r : RingEntry) → Contains c.rings r → CanWriteRing net.graph.signals r
    rings-written r i =
        let (k, there, same) = from_map ring_entry w.verdict.rings r (subst (λ (xs : List RingEntry). Contains xs r) rings-are i) in
        subst (CanWriteRing net.graph.signals) same (write-ring net domains fit found w.grays w.syncs w.is_verdict.all_syncs.only k (w.is_verdict.all_rings.only k there))

    loads-written : (l : Load) → Contains c.loads l → CanWriteLoad net.graph.signals c.rings l
    loads-written l i =
        let (m, there, same) = from_map plain_load w.loads (plain_load l) (subst (λ (xs : List Load). Contains xs (plain_load l)) h.loads_listed (in_map plain_load c.loads l i)) in
        subst (λ (rs : List RingEntry). CanWriteLoad net.graph.signals rs l) (sym rings-are)
        (write-like net domains fit found w.grays w.syncs w.is_verdict.all_syncs.only (map ring_entry w.verdict.rings) l m same
        (write-load net domains fit found w.grays w.syncs w.is_verdict.all_syncs.only w.verdict.rings w.is_verdict.all_rings.only m (w.is_verdict.all_loads.only m there).load))

    fifos-written : (p : FifoPair) → Contains c.fifos p → IsFoundSignal net.graph.signals p.wb × IsFoundSignal net.graph.signals p.rb
    fifos-written p i =
        let (e, there, same) = from_map pair_of fifos p (subst (λ (xs : List FifoPair). Contains xs p) h.fifos_listed i) in
        subst (λ (q : FifoPair). IsFoundSignal net.graph.signals q.wb × IsFoundSignal net.graph.signals q.rb) same
        (write-pair net domains fit found w.grays (syncs_of net domains) listed.grays gray-is e (are.only e there))

    pub can-write : CanWrite net.graph.signals c
    can-write = record {
      syncs = syncs-written;
      grays = grays-written;
      rings = rings-written;
      loads = loads-written;
      fifos = fifos-written;
      few = subst (λ (n : ℕ). n < 2 ^ 32) (sym (ap length rings-are ∙ length-map w.verdict.rings ring_entry)) few;
    }
