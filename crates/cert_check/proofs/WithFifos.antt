-- Pairs of counts by the FIFOs for which they stand, and what is answered of a certificate with its FIFOs.
use Rattle.std.proofs.Common.{◌≡◌, ◌∙◌, ◌↔◌, refl, sym, subst, arith, eqb-true, ℕ, ◌==◌, ◌+◌, ◌<◌, ◌≤◌, ◌^◌, Bool, true, Some, List, [], ◌∷◌, map, length, Contains}
use Rattle.std.proofs.lemmas.Option.{slice_get_within}
use Rattle.cdc_base.specs.declared.bit.Bit.{Bit}
use Rattle.cell_graph.specs.declared.net.Net.{Net}
use Rattle.domains.specs.declared.Domains.{Domains}
use Rattle.cdc_model.specs.declared.scheme.Crossing.{Crossing}
use Rattle.cdc_model.specs.declared.scheme.GrayReg.{GrayReg}
use Rattle.cdc_model.specs.declared.scheme.Load.{Load}
use Rattle.cdc_model.specs.declared.scheme.Ring.{Ring as RingEntry}
use Rattle.cdc_model.specs.declared.scheme.Sync.{Sync as SyncEntry}
use Rattle.cdc_model.specs.Design.{Design}
use Rattle.cdc_model.specs.Found.{crossings_of}
use Rattle.cdc_model.specs.Listed.{sync_entry}
use Rattle.cdc_model.specs.Nets.{design_of, next_tree}
use Rattle.cdc_model.specs.Ordered.{IsAll}
use Rattle.cdc_model.specs.Schemes.{AreSyncs, Sync, Trees}
use Rattle.cdc_model.proofs.Ascending.{nothing_in}
use Rattle.cdc_model.proofs.Ordered.{one_list}
use Rattle.fifo_laws.specs.Laws.{AreLists}
use Rattle.fifo_scheme.specs.declared.found.Fifo.{Fifo as Entry}
use Rattle.fifo_scheme.specs.declared.found.FifoPair.{FifoPair}
use Rattle.fifo_scheme.specs.declared.found.FifosOf.{FifosOf}
use Rattle.fifo_scheme.specs.Entries.{IsCrossingOfOne, IsListedFifo, fifo_key}
use Rattle.fifo_scheme.specs.Given.{AreGiven}
use Rattle.fifo_scheme.specs.Pairs.{AreStoodFor, IsAnswer, IsFirstMissing, IsStoodFor, StandsForOne}
use Rattle.fifo_scheme.specs.Found.{is_listed}
use Rattle.fifo_scheme.proofs.Listing.{between, listed_tells, one_tells}
use Rattle.cert_text.specs.declared.certificate.Certificate.{Certificate}
use Rattle.cert_text.specs.declared.certificate.Entry.{Entry as TextEntry}
use Rattle.cert_text.specs.declared.certificate.Entry.TheVariants as entry
use Rattle.cert_text.specs.Texts.{entries_of}
use Rattle.cert_check.specs.declared.Checked.{Checked}
use Rattle.cert_check.specs.declared.Checked.TheVariants.{Holds, BadItem, Bare, Word}
use Rattle.cert_check.specs.Certified.{IsItem, IsRingItem, IsLoadItem}
use Rattle.cert_check.specs.Checked.{AreCrossingsChecked, CanCheck, DoesHold, IsChecked}
use Rattle.cert_check.specs.Items.{IsFirstFailing}
use Rattle.cert_check.specs.OnNets.{trees_by, IsGrayOn, Stands, AreFifosOf, is_of_fifo, IsCertifiedOn, IsFirstBadOn, AreGoodOn, IsCheckedOn}
use Rattle.cert_check.proofs.Among.{in_among, lists_of}
use Rattle.cert_check.proofs.Certifies.{answered, holds, sync_in, gray_in, ring_in, load_in}
use Rattle.cert_check.proofs.Lines.{all_good, bad_fifo, count_entries}
use Rattle.cert_check.proofs.Meant.{all_syncs, same_syncs}

pub nothing : (ps : List FifoPair) → (length ps == 0) ≡ true → ps ≡ []
nothing [] h = refl
nothing (p ∷ ps) h = absurd (omega (arith, eqb-true (length (p ∷ ps)) 0 h))

-- what is listed of crossings of FIFOs is one of a FIFO's
pub guards : (es : List Entry) (crossings : List Crossing) → ((k : Crossing) → Contains crossings k ↔ IsCrossingOfOne es k)
    → (b x : Bit) → (is_of_fifo es b x ≡ true) ↔ Contains crossings (record { from = b; to = x })
guards es crossings all b x =
    let tells = one_tells (λ (e : Entry). e.crossings) es b x in
    ((λ h. (all (between b x)).1 (tells.0 h)), λ i. tells.1 ((all (between b x)).0 i))

-- the same of what covers them
covered : (es : List Entry) (crossings covers : List Crossing) → ((k : Crossing) → Contains crossings k ↔ IsCrossingOfOne es k)
    → ((b x : Bit) → (is_listed crossings b x ≡ true) ↔ Contains covers (record { from = b; to = x })) → (k : Crossing) → Contains covers k ↔ IsCrossingOfOne es k
covered es crossings covers all tells k =
    let listed = listed_tells k.from k.to crossings in
    let told = tells k.from k.to in
    ((λ i. (all k).0 (listed.0 (told.1 i))), λ h. told.0 (listed.1 ((all k).1 h)))

-- the line of a pair by its place
abbrev fifo_place : Certificate → ℕ → ℕ
fifo_place c place = 2 + (length c.syncs + (length c.grays + (length c.rings + (length c.loads + place))))

module _ (net : Net) (domains : Domains) (c : Certificate) where
  -- what a search for FIFOs of pairs, over listed synchronizers and Gray registers, answers
  abbrev IsSearched : List SyncEntry → List GrayReg → List FifoPair → FifosOf → Type 0
  IsSearched entries grays pairs a = (meant : List Sync) (t : Trees) → AreGiven net domains entries meant → AreLists (design_of net domains) (next_tree net) t meant grays
      → length pairs ≤ 2 ^ 31 → IsAnswer net domains meant grays pairs a

  -- a certificate without pairs has no FIFOs
  no_fifos : (ss : List Sync) → c.syncs ≡ map sync_entry ss → c.fifos ≡ [] → AreFifosOf net domains c []
  no_fifos ss listed none = record {
    syncs = ss;
    listed = listed;
    exactly = record {
      all = λ e h. absurd (nothing_in h.1.0 (subst (λ (ps : List FifoPair). Contains ps h.1.0) none h.1.1));
      only = λ e i. absurd (nothing_in e i);
      ordered = λ i j x y l at to. cc;
    };
  }

  no_pairs : c.fifos ≡ [] → (p : FifoPair) → Contains c.fifos p → Stands net domains c p
  no_pairs none p i = absurd (nothing_in p (subst (λ (ps : List FifoPair). Contains ps p) none i))

  -- a FIFO over the synchronizers for which a pair stands
  abbrev Is : List Sync → Entry → Type 0
  Is ss e = IsListedFifo net domains ss c.grays e × IsStoodFor c.fifos e

  -- two lists of a certificate's FIFOs are one
  pub same_fifos : (es fs : List Entry) → AreFifosOf net domains c es → AreFifosOf net domains c fs → es ≡ fs
  same_fifos es fs a b = one_list fifo_key (Is b.syncs) es fs
      (subst (λ (ss : List Sync). IsAll (Is ss) fifo_key es) (same_syncs a.syncs b.syncs (sym a.listed ∙ b.listed)) a.exactly) b.exactly

  module _ (ss : List Sync) (listed : c.syncs ≡ map sync_entry ss) where
    stands : (p : FifoPair) → StandsForOne net domains ss c.grays p → Stands net domains c p
    stands p h = (ss, listed, h)

    stands_over : (p : FifoPair) → Stands net domains c p → StandsForOne net domains ss c.grays p
    stands_over p (rs, e, h) = subst (λ (xs : List Sync). StandsForOne net domains xs c.grays p) (same_syncs rs ss (sym e ∙ listed)) h

    missing : (place : ℕ) → IsFirstMissing net domains ss c.grays c.fifos place → IsFirstFailing (Stands net domains c) c.fifos (Some place)
    missing place m = (m.pair, m.at, (λ h. m.missing (stands_over m.pair h)), λ i p l e. stands p (m.first i p l e))

    its_fifos : (es : List Entry) → AreStoodFor net domains ss c.grays c.fifos es → AreFifosOf net domains c es
    its_fifos es h = record { syncs = ss; listed = listed; exactly = h.exactly }

    each_stands : (es : List Entry) → AreStoodFor net domains ss c.grays c.fifos es → (p : FifoPair) → Contains c.fifos p → Stands net domains c p
    each_stands es h p i = stands p (h.each p i)

  module _ (good : AreGoodOn net domains c) where
    abbrev d : Design
    d = design_of net domains

    abbrev t : Trees
    t = trees_by net c

    -- the synchronizers that the lines are of
    pub its_syncs : (ss : List Sync) × (c.syncs ≡ map sync_entry ss) × AreSyncs d t ss
    its_syncs = all_syncs d t c.syncs (λ e i. good (entry.Sync e) (sync_in c e i))

    its_grays : (g : GrayReg) → Contains c.grays g → IsGrayOn net domains g
    its_grays g i = good (entry.Gray g) (gray_in c g i)

    its_rings : (r : RingEntry) → Contains c.rings r → IsRingItem d t c.syncs r
    its_rings r i = good (entry.Ring r) (ring_in c r i)

    its_loads : (l : Load) → Contains c.loads l → IsLoadItem d t c.rings l
    its_loads l i = good (entry.Load l) (load_in c l i)

    -- what a search for the FIFOs of pairs is given, and what it answers
    pub searched : CanCheck net domains c → (entries : List SyncEntry) (grays : List GrayReg) (pairs : List FifoPair) → entries ≡ c.syncs → grays ≡ c.grays → pairs ≡ c.fifos
        → (a : FifosOf) → IsSearched entries grays pairs a → IsAnswer net domains its_syncs.0 c.grays c.fifos a
    searched can entries grays pairs of_syncs of_grays of_fifos a h =
        subst (λ (es : List SyncEntry). IsSearched es c.grays c.fifos a) of_syncs
        (subst (λ (gs : List GrayReg). IsSearched entries gs c.fifos a) of_grays
        (subst (λ (ps : List FifoPair). IsSearched entries grays ps a) of_fifos h))
        its_syncs.0 t
        (record { is_net = can.is_net; has_next = can.has_next; fits = can.fits; is_shared = can.is_shared; listed = its_syncs.1 })
        (lists_of net domains can.fits c.grays its_grays its_syncs.0 its_syncs.2)
        (let count = count_entries d t (IsGrayOn net domains) (Stands net domains c) c in let few = can.few in omega arith)

    -- the first pair that stands for none is the first bad item
    pub first_missing : (place line : ℕ) → IsFirstMissing net domains its_syncs.0 c.grays c.fifos place → CanCheck net domains c
        → (fifo_place c place < 2 ^ 32 → line ≡ fifo_place c place) → IsFirstBadOn net domains c line
    first_missing place line m can l = bad_fifo d t (IsGrayOn net domains) (Stands net domains c) c
        (λ s i. good (entry.Sync s) (sync_in c s i)) its_grays its_rings its_loads place line (missing its_syncs.0 its_syncs.1 place m) (l below)
      where
        below : fifo_place c place < 2 ^ 32
        below =
            let count = count_entries d t (IsGrayOn net domains) (Stands net domains c) c in
            let few = can.few in
            let within = slice_get_within c.fifos place m.pair m.at in
            omega arith

    -- good items, pairs that stand for FIFOs, and what is answered of crossings and words make the answer
    answered_on : ((p : FifoPair) → Contains c.fifos p → Stands net domains c p) → (es : List Entry) → AreFifosOf net domains c es → (r : Checked)
        → ((ss : List Sync) → c.syncs ≡ map sync_entry ss → AreSyncs d t ss → AreCrossingsChecked d t (crossings_of net domains) ss (is_of_fifo es) c r)
        → IsCheckedOn net domains c r
    answered_on stand es are r h = with_fifos r (answered d t (crossings_of net domains) (IsGrayOn net domains) (Stands net domains c)
        (is_of_fifo es) c (in_among c.grays) all r h)
      where
        all : (e : TextEntry) → Contains (entries_of c) e → IsItem d t (IsGrayOn net domains) (Stands net domains c) c e
        all = all_good d t (IsGrayOn net domains) (Stands net domains c) c (λ s i. good (entry.Sync s) (sync_in c s i)) its_grays its_rings its_loads stand

        with_fifos : (r : Checked) → IsChecked d t (crossings_of net domains) (IsGrayOn net domains) (Stands net domains c) (is_of_fifo es) c r → IsCheckedOn net domains c r
        with_fifos (BadItem line) h = h
        with_fifos (Bare k) h = (es, are, h)
        with_fifos (Word w g) h = (es, are, h)
        with_fifos (Holds n) h = (es, are, h)

    -- what is answered of crossings and words, with these further crossings
    abbrev IsCrossed : List Crossing → Checked → Type 0
    IsCrossed crossings r = (ss : List Sync) (is_extra : Bit → Bit → Bool) → c.syncs ≡ map sync_entry ss → AreSyncs d t ss
        → ((b x : Bit) → (is_extra b x ≡ true) ↔ Contains crossings (record { from = b; to = x }))
        → AreCrossingsChecked d t (crossings_of net domains) ss is_extra c r

    pub without_pairs : c.fifos ≡ [] → (r : Checked) → IsCrossed [] r → IsCheckedOn net domains c r
    without_pairs none r h = answered_on (no_pairs none) [] (no_fifos its_syncs.0 its_syncs.1 none) r
        (λ ss listed are. h ss (is_of_fifo []) listed are (λ b x. ((λ e. cc), λ i. absurd (nothing_in (between b x) i))))

    pub with_pairs : (es : List Entry) → AreStoodFor net domains its_syncs.0 c.grays c.fifos es → (crossings covers : List Crossing)
        → ((k : Crossing) → Contains crossings k ↔ IsCrossingOfOne es k)
        → ((b x : Bit) → (is_listed crossings b x ≡ true) ↔ Contains covers (record { from = b; to = x })) → (r : Checked) → IsCrossed covers r → IsCheckedOn net domains c r
    with_pairs es stood crossings covers all tells r h = answered_on (each_stands its_syncs.0 its_syncs.1 es stood) es (its_fifos its_syncs.0 its_syncs.1 es stood) r
        (λ ss listed are. h ss (is_of_fifo es) listed are (guards es covers (covered es crossings covers all tells)))

  -- what holds certifies the net
  pub holding : (r : Checked) → IsCheckedOn net domains c r → DoesHold r → IsCertifiedOn net domains c
  holding (BadItem line) h k = absurd k
  holding (Bare q) h k = absurd k
  holding (Word w g) h k = absurd k
  holding (Holds n) (es, are, h) k = record { fifos = es; are_fifos = are; certified = h.0 }

  module _ (k : IsCertifiedOn net domains c) where
    by_fifos : (r : Checked) → IsChecked (design_of net domains) (trees_by net c) (crossings_of net domains) (IsGrayOn net domains) (Stands net domains c) (is_of_fifo k.fifos) c r → DoesHold r
    by_fifos = holds (design_of net domains) (trees_by net c) (crossings_of net domains) (IsGrayOn net domains) (Stands net domains c) (is_of_fifo k.fifos) c k.certified

    by_any : (es : List Entry) → AreFifosOf net domains c es → (r : Checked)
        → IsChecked (design_of net domains) (trees_by net c) (crossings_of net domains) (IsGrayOn net domains) (Stands net domains c) (is_of_fifo es) c r → DoesHold r
    by_any es are r h = by_fifos r (subst (λ (fs : List Entry). IsChecked (design_of net domains) (trees_by net c) (crossings_of net domains) (IsGrayOn net domains) (Stands net domains c) (is_of_fifo fs) c r)
        (same_fifos es k.fifos are k.are_fifos) h)

    -- a certificate that certifies the net holds
    pub certified_holds : (r : Checked) → IsCheckedOn net domains c r → DoesHold r
    certified_holds (BadItem line) h = by_fifos (BadItem line) h
    certified_holds (Bare q) (es, are, h) = by_any es are (Bare q) h
    certified_holds (Word w g) (es, are, h) = by_any es are (Word w g) h
    certified_holds (Holds n) h = tt
