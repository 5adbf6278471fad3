-- The lists of a verdict without findings, and all FIFOs, certify the net.
use Rattle.std.proofs.Common.{◌≡◌, ◌∙◌, inl, inr, refl, sym, ap, subst, Bool, true, List, [], map, Contains}
use mathlib.Core.Path.{fun_ext}
use Rattle.cdc_base.specs.declared.bit.Bit.{Bit}
use Rattle.cell_graph.specs.declared.net.Net.{Net}
use Rattle.domains.specs.declared.Domains.{Domains}
use Rattle.cdc_model.specs.declared.scheme.GrayReg.{GrayReg}
use Rattle.cdc_model.specs.declared.scheme.Load.{Load}
use Rattle.cdc_model.specs.declared.verdict.Verdict.{Verdict as VerdictEntry}
use Rattle.cdc_model.specs.Design.{Design}
use Rattle.cdc_model.specs.Listed.{IsVerdictOf}
use Rattle.cdc_model.specs.Nets.{design_of, net_trees}
use Rattle.cdc_model.specs.Ordered.{IsAll}
use Rattle.cdc_model.specs.Schemes.{Trees, IsLoad, Justified, Ring, Sync}
use Rattle.cdc_model.specs.Verdict.{IsServed}
use Rattle.cdc_model.proofs.Ascending.{from_map, in_map}
use Rattle.cdc_model.proofs.CleanVerdict.{justified}
use Rattle.cdc_model.proofs.Listing.{clean_listed}
use Rattle.fifo_scheme.specs.declared.found.Fifo.{Fifo as Entry}
use Rattle.fifo_scheme.specs.declared.found.FifoPair.{FifoPair}
use Rattle.fifo_scheme.specs.Entries.{IsListedFifo, fifo_key}
use Rattle.fifo_scheme.proofs.Listing.{one_truth}
use Rattle.cert_text.specs.declared.certificate.Certificate.{Certificate}
use Rattle.cert_check.specs.OnNets.{is_among, AreFifosOf, IsCertifiedOn, Stands, is_of_fifo}
use Rattle.cert_check.specs.Promised.{HasListed, pair_of, plain_load}
use Rattle.cert_check.proofs.Among.{among_in, in_among}

-- ---- loads, recirculating or not

module _ (d : Design) (t : Trees) (rings : List Ring) where
  plain_is : (l : Load) → IsLoad d t rings l → IsLoad d t rings (plain_load l)
  plain_is l h = record { crossing = h.crossing; no_copy = h.no_copy; ring = h.ring }

  is_plain : (l : Load) → IsLoad d t rings (plain_load l) → IsLoad d t rings l
  is_plain l h = record { crossing = h.crossing; no_copy = h.no_copy; ring = h.ring }

-- a load of the one list is in the other one, recirculating or not
other_load : (ls ms : List Load) → map plain_load ls ≡ map plain_load ms → (l : Load) → Contains ls l → (m : Load) × Contains ms m × (plain_load m ≡ plain_load l)
other_load ls ms e l i = from_map plain_load ms (plain_load l) (subst (λ (xs : List Load). Contains xs (plain_load l)) e (in_map plain_load ls l i))

module _ (d : Design) (t : Trees) (syncs : List Sync) (grays : List GrayReg) (rings : List Ring) (is_extra : Bit → Bit → Bool)
    (ls ms : List Load) (same : map plain_load ms ≡ map plain_load ls) (j : Justified d t syncs grays rings ls is_extra) where
  is_load : (m : Load) → Contains ms m → IsLoad d t rings m
  is_load m i =
      let l = other_load ms ls same m i in
      is_plain d t rings m (subst (IsLoad d t rings) l.2 (plain_is d t rings l.0 (j.are_loads l.0 l.1)))

  served : (b x : Bit) → IsServed syncs ls is_extra b x → IsServed syncs ms is_extra b x
  served b x (inl s) = inl s
  served b x (inr (inr h)) = inr (inr h)
  served b x (inr (inl (l, i, from, to))) =
      let m = other_load ls ms (sym same) l i in
      inr (inl (m.0, m.1, ap (λ (k : Load). k.from) m.2 ∙ from, ap (λ (k : Load). k.to) m.2 ∙ to))

  -- whether loads are known to recirculate makes no difference
  pub plainly_justified : Justified d t syncs grays rings ms is_extra
  plainly_justified = record {
    are_syncs = j.are_syncs;
    are_grays = j.are_grays;
    are_rings = j.are_rings;
    are_loads = is_load;
    each = λ b x crosses. served b x (j.each b x crosses);
    once = j.once;
    words = j.words;
  }

module _ (net : Net) (domains : Domains) (fifos : List Entry) (e : VerdictEntry) (w : IsVerdictOf net domains (is_of_fifo fifos) e)
    (all : IsAll (IsListedFifo net domains w.syncs e.grays) fifo_key fifos) (clean : e.findings ≡ [])
    (c : Certificate) (h : HasListed w.syncs e.grays e.rings w.loads fifos c) where
  grays_are : c.grays ≡ w.verdict.grays
  grays_are = h.grays_listed ∙ w.is_listed.grays

  are_grays : (g : GrayReg) → Contains c.grays g → w.grays g ≡ true
  are_grays g i = w.is_verdict.all_grays.only g (subst (λ (gs : List GrayReg). Contains gs g) grays_are i)

  -- the certificate lists exactly the Gray registers by which the verdict went
  tests_are : w.grays ≡ is_among c.grays
  tests_are = fun_ext (λ (g : GrayReg). one_truth (w.grays g) (is_among c.grays g) (w.grays g ≡ true)
      ((λ p. p), λ p. p)
      ((λ p. are_grays g (among_in c.grays g p)), λ p. in_among c.grays g (subst (λ (gs : List GrayReg). Contains gs g) (sym grays_are) (w.is_verdict.all_grays.all g p))))

  by_verdict : Justified (design_of net domains) (net_trees net w.grays) w.syncs w.verdict.grays w.verdict.rings w.loads (is_of_fifo fifos)
  by_verdict = justified (design_of net domains) (net_trees net w.grays) (is_of_fifo fifos) w.syncs w.loads w.verdict w.is_verdict
      (clean_listed net (design_of net domains) (net_trees net w.grays) w.syncs w.verdict e w.is_listed clean)

  by_lists : Justified (design_of net domains) (net_trees net (is_among c.grays)) w.syncs c.grays w.verdict.rings c.loads (is_of_fifo fifos)
  by_lists = plainly_justified (design_of net domains) (net_trees net (is_among c.grays)) w.syncs c.grays w.verdict.rings (is_of_fifo fifos) w.loads c.loads h.loads_listed
      (subst (λ (gs : List GrayReg). Justified (design_of net domains) (net_trees net (is_among c.grays)) w.syncs gs w.verdict.rings w.loads (is_of_fifo fifos)) (sym grays_are)
      (subst (λ (test : GrayReg → Bool). Justified (design_of net domains) (net_trees net test) w.syncs w.verdict.grays w.verdict.rings w.loads (is_of_fifo fifos)) tests_are by_verdict))

  listed_fifo : (f : Entry) → IsListedFifo net domains w.syncs e.grays f → IsListedFifo net domains w.syncs c.grays f
  listed_fifo f is = subst (λ (gs : List GrayReg). IsListedFifo net domains w.syncs gs f) (sym h.grays_listed) is

  stands : (p : FifoPair) → Contains c.fifos p → Stands net domains c p
  stands p i =
      let f = from_map pair_of fifos p (subst (λ (ps : List FifoPair). Contains ps p) h.fifos_listed i) in
      (w.syncs, h.syncs_listed, (f.0, listed_fifo f.0 (all.only f.0 f.1), (ap (λ (q : FifoPair). q.wb) (sym f.2), ap (λ (q : FifoPair). q.rb) (sym f.2))))

  its_fifos : AreFifosOf net domains c fifos
  its_fifos = record {
    syncs = w.syncs;
    listed = h.syncs_listed;
    exactly = record {
      all = λ f is. all.all f (subst (λ (gs : List GrayReg). IsListedFifo net domains w.syncs gs f) h.grays_listed is.0);
      only = λ f i. (
        listed_fifo f (all.only f i),
        (pair_of f, subst (λ (ps : List FifoPair). Contains ps (pair_of f)) (sym h.fifos_listed) (in_map pair_of fifos f i), (refl, refl)),
      );
      ordered = all.ordered;
    };
  }

  pub clean_certifies : IsCertifiedOn net domains c
  clean_certifies = record {
    fifos = fifos;
    are_fifos = its_fifos;
    certified = record {
      syncs = w.syncs;
      rings = w.verdict.rings;
      meant = record { syncs_listed = h.syncs_listed; rings_listed = h.rings_listed ∙ w.is_listed.rings };
      grays = λ g i. (w.finds g).0 (are_grays g i);
      fifos = stands;
      justified = by_lists;
    };
  }
