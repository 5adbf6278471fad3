-- What a certificate that certifies a net promises.
use Rattle.std.proofs.Common.{◌≡◌, ◌∙◌, ◌↔◌, inl, inr, refl, sym, subst, Bool, List, [], ◌∷◌, ◌++◌, map, Contains}
use Rattle.std.proofs.lemmas.List.Elements.{Contains-append_left, Contains-append_right, Contains-append_cases}
use mathlib.Core.Path.{fun_ext}
use Rattle.cdc_base.specs.declared.bit.Bit.{Bit}
use Rattle.cell_graph.specs.declared.net.Net.{Net}
use Rattle.domains.specs.declared.Domains.{Domains}
use Rattle.domains.specs.Fit.{Fit}
use Rattle.cdc_model.specs.declared.scheme.Crossing.{Crossing}
use Rattle.cdc_model.specs.declared.scheme.Sync.{Sync as SyncEntry}
use Rattle.cdc_model.specs.Design.{Design}
use Rattle.cdc_model.specs.Facts.{AreJustifiedBy}
use Rattle.cdc_model.specs.Nets.{design_of, next_tree}
use Rattle.cdc_model.specs.Runs.{Trace, Then, IsRun}
use Rattle.cdc_model.specs.Schemes.{Trees, AreTrees, Sync, Ring}
use Rattle.cdc_model.specs.Sound.{Sound}
use Rattle.cdc_model.specs.Verdict.{AreCovers}
use Rattle.cdc_model.proofs.Ascending.{here, later, nothing_in, parts}
use Rattle.cdc_model.proofs.Covers.{cover_facts}
use Rattle.cdc_model.proofs.Sound.{sound}
use Rattle.cdc_model.proofs.Together.{together}
use Rattle.fifo_laws.specs.Laws.{AreLists, IsSoundRun}
use Rattle.fifo_laws.proofs.SoundRuns.{sound_run}
use Rattle.fifo_scheme.specs.declared.found.Fifo.{Fifo as Entry}
use Rattle.fifo_scheme.specs.Entries.{IsCrossingOfOne, IsListedFifo}
use Rattle.fifo_scheme.specs.Extra.{found_justify}
use Rattle.fifo_scheme.specs.Found.{Found, IsFoundFor, KeepsFound, is_listed}
use Rattle.fifo_scheme.proofs.FoundFor.{has_order, made_fit}
use Rattle.fifo_scheme.proofs.Listing.{between, listed_tells, one_truth}
use Rattle.cert_text.specs.declared.certificate.Certificate.{Certificate}
use Rattle.cert_check.specs.Certified.{sync_covers, load_cover, covers_of}
use Rattle.cert_check.specs.OnNets.{trees_by, IsGrayOn, Stands, is_of_fifo, IsCertifiedOn}
use Rattle.cert_check.specs.Promised.{IsSoundBy, IsTogetherBy, IsTogetherOver, KeepOrder, KeepsOrder}
use Rattle.cert_check.proofs.Among.{listed_trees_are, lists_of}
use Rattle.cert_check.proofs.Certifies.{listed_bits, covers_are}
use Rattle.cert_check.proofs.Meant.{same_syncs}
use Rattle.cert_check.proofs.WithFifos.{guards}

-- the crossings of all FIFOs, one after the other
all_crossings : List Entry → List Crossing
all_crossings [] = []
all_crossings (e ∷ es) = e.crossings ++ all_crossings es

all_tell : (es : List Entry) (k : Crossing) → Contains (all_crossings es) k ↔ IsCrossingOfOne es k
unfolding all_crossings
all_tell [] k = ((λ i. absurd (nothing_in k i)), λ h. absurd (nothing_in h.0 h.1))
all_tell (e ∷ es) k = (
  λ i. elim (Contains-append_cases e.crossings (all_crossings es) k i) [
    | inl j ↦ (e, here e es, j)
    | inr j ↦ (let r = (all_tell es k).0 j in (r.0, later e es r.0 r.1, r.2))
  ],
  λ h. elim (parts e es h.0 h.1) [
    | inl same ↦ Contains-append_left e.crossings (all_crossings es) k (subst (λ (d : Entry). Contains d.crossings k) (sym same) h.2)
    | inr j ↦ Contains-append_right e.crossings (all_crossings es) k ((all_tell es k).1 (h.0, j, h.2))
  ],
)

module _ (net : Net) (domains : Domains) (c : Certificate) (fits : Fit net domains) (k : IsCertifiedOn net domains c) where
  abbrev d : Design
  d = design_of net domains

  abbrev t : Trees
  t = trees_by net c

  abbrev ss : List Sync
  ss = k.certified.syncs

  abbrev rs : List Ring
  rs = k.certified.rings

  abbrev extra : Bit → Bit → Bool
  extra = is_of_fifo k.fifos

  shows : AreTrees d t
  shows = listed_trees_are net domains fits c.grays k.certified.grays

  lists : AreLists d (next_tree net) t ss c.grays
  lists = lists_of net domains fits c.grays k.certified.grays ss k.certified.justified.are_syncs

  -- the FIFOs are FIFOs over the lists
  are : (e : Entry) → Contains k.fifos e → IsListedFifo net domains ss c.grays e
  are e i = subst (λ (xs : List Sync). IsListedFifo net domains xs c.grays e)
      (same_syncs k.are_fifos.syncs ss (sym k.are_fifos.listed ∙ k.certified.meant.syncs_listed)) (k.are_fifos.exactly.only e i).0

  abbrev found : Found
  found = record { net = net; domains = domains; syncs = c.syncs; grays = c.grays; fifos = k.fifos; crossings = all_crossings k.fifos }

  found_for : IsFoundFor found d t ss c.grays
  found_for = made_fit net domains ss c.grays found k.fifos t c.syncs lists k.certified.meant.syncs_listed (refl, refl, refl, refl, refl) are (all_tell k.fifos)

  listed_are : is_listed (all_crossings k.fifos) ≡ extra
  listed_are = fun_ext (λ (b : Bit). fun_ext (λ (x : Bit).
      one_truth (is_listed (all_crossings k.fifos) b x) (extra b x) (Contains (all_crossings k.fifos) (between b x))
      (listed_tells b x (all_crossings k.fifos)) (guards k.fifos (all_crossings k.fifos) (all_tell k.fifos) b x)))

  -- so they justify their crossings
  justify : AreJustifiedBy d ss c.grays rs extra (KeepsFound found)
  justify = subst (λ (x : Bit → Bit → Bool). AreJustifiedBy d ss c.grays rs x (KeepsFound found)) listed_are
      (found_justify found d t ss c.grays rs found_for shows k.certified.justified.are_syncs k.certified.justified.are_grays)

  covers_fit : AreCovers c.grays ss c.loads (covers_of c)
  covers_fit = subst (λ (es : List SyncEntry). AreCovers c.grays ss c.loads (sync_covers c.grays es ++ map load_cover c.loads)) (sym k.certified.meant.syncs_listed)
      (covers_are c.grays ss c.loads)

  pub sound_by : IsSoundBy net domains c
  sound_by = record {
    fifos = k.fifos;
    are_fifos = k.are_fifos;
    sound = subst (λ (bits : List (List Bit)). Sound d (covers_of c) bits extra)
        (sym (listed_bits d t [] (IsGrayOn net domains) (Stands net domains c) extra c k.certified))
        (sound d t shows ss c.grays rs c.loads extra k.certified.justified (KeepsFound found) justify (covers_of c) (cover_facts c.grays ss c.loads (covers_of c) covers_fit));
  }

  -- over the synchronizers that the lines are of
  together_over : IsTogetherOver net domains c ss
  together_over family run is_run x register group depth = together d t shows ss c.grays rs c.loads extra k.certified.justified (KeepsFound found) justify
      family run is_run x register group depth

  pub together_by : IsTogetherBy net domains c
  together_by syncs given = subst (IsTogetherOver net domains c) (same_syncs ss syncs (sym k.certified.meant.syncs_listed ∙ given)) together_over

  sound_runs : (run : Trace) → IsRun d run → IsSoundRun d ss c.grays rs run
  sound_runs = sound_run d t shows ss c.grays rs c.loads extra k.certified.justified (KeepsFound found) justify

  in_order : (e : Entry) → IsListedFifo net domains ss c.grays e → KeepsOrder net domains ss c.grays e
  in_order e is =
      let order = has_order net domains ss c.grays t lists rs e is in
      record {
        fifo = order.fifo;
        is_fifo = order.is_fifo;
        entry = order.entry;
        within = λ run is_run. order.within run (sound_runs run is_run);
        oldest = λ past edges new is_run. order.oldest past edges new (sound_runs (Then past edges new) is_run);
      }

  pub keep_order : KeepOrder net domains c
  keep_order syncs given e is stood =
      let same = same_syncs ss syncs (sym k.certified.meant.syncs_listed ∙ given) in
      subst (λ (xs : List Sync). KeepsOrder net domains xs c.grays e) same (in_order e (subst (λ (xs : List Sync). IsListedFifo net domains xs c.grays e) (sym same) is))
