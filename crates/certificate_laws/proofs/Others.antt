-- A certificate certifies each net of one design, whatever its cells.
use Rattle.std.proofs.Common.{◌≡◌, ◌∙◌, refl, sym, ap, ap₂, subst, ℕ, zero, suc, ◌||◌, Bool, Some, List, [], ◌∷◌, Contains}
use Rattle.std.proofs.Math.Path.{fun_ext}
use Rattle.std.specs.Prelude.{slice_get}
use Rattle.std.specs.List.{list_any}
use Rattle.cdc_base.specs.declared.bit.Bit.{Bit}
use Rattle.cell_graph.specs.declared.net.Net.{Net}
use Rattle.cell_graph.specs.Tree.{Tree}
use Rattle.domains.specs.declared.Domains.{Domains}
use Rattle.cdc_model.specs.declared.scheme.Crossing.{Crossing}
use Rattle.cdc_model.specs.declared.scheme.GrayReg.{GrayReg}
use Rattle.cdc_model.specs.Design.{Design}
use Rattle.cdc_model.specs.GrayShape.{IsGrayReg}
use Rattle.cdc_model.specs.Nets.{HasNextCells, design_of, net_trees, next_tree}
use Rattle.cdc_model.specs.Ordered.{is_before}
use Rattle.cdc_model.specs.Schemes.{Justified, Sync, Trees}
use Rattle.cdc_model.proofs.Ascending.{here, later}
use Rattle.cdc_model.proofs.Justify.{in_slice, slice_in}
use Rattle.gray_pointer.specs.Words.{IsPlain}
use Rattle.fifo_laws.specs.Fifos.{Fifo, IsFifo}
use Rattle.fifo_scheme.specs.declared.found.Fifo.{Fifo as Entry}
use Rattle.fifo_scheme.specs.declared.found.FifoPair.{FifoPair}
use Rattle.fifo_scheme.specs.Entries.{IsEntry, IsListedFifo, fifo_key}
use Rattle.fifo_scheme.specs.Found.{is_listed}
use Rattle.cert_text.specs.declared.certificate.Certificate.{Certificate}
use Rattle.cert_check.specs.OnNets.{AreFifosOf, IsCertifiedOn, Stands, is_of_fifo, trees_by}
use Rattle.certificate_laws.proofs.Entries.{entry-there, one-entry}

-- ---- lists with each item turned into another

module _ {A : Type 0} (R : A → A → Type 0) where
  abbrev AreTurned : List A → List A → Type 0
  AreTurned [] [] = Unit {0}
  AreTurned [] (y ∷ ys) = ⊥
  AreTurned (x ∷ xs) [] = ⊥
  AreTurned (x ∷ xs) (y ∷ ys) = R x y × AreTurned xs ys

  all-turned : (xs : List A) → ((x : A) → Contains xs x → (y : A) × R x y) → (ys : List A) × AreTurned xs ys
  all-turned [] turns = ([], tt)
  all-turned (x ∷ xs) turns =
      let y = turns x (here x xs) in
      let ys = all-turned xs (λ z i. turns z (later x xs z i)) in
      (y.0 ∷ ys.0, (y.1, ys.1))

  at-there : (xs ys : List A) → AreTurned xs ys → (i : ℕ) (y : A) → slice_get ys i ≡ Some y → (x : A) × (slice_get xs i ≡ Some x) × R x y
  at-there [] [] are i y at = cc
  at-there [] (z ∷ ys) are i y at = absurd are
  at-there (x ∷ xs) [] are i y at = absurd are
  at-there (x ∷ xs) (z ∷ ys) are zero y at = let same : z ≡ y = cc in (x, refl, subst (R x) same are.0)
  at-there (x ∷ xs) (z ∷ ys) are (suc i) y at = at-there xs ys are.1 i y at

  at-here : (xs ys : List A) → AreTurned xs ys → (i : ℕ) (x : A) → slice_get xs i ≡ Some x → (y : A) × (slice_get ys i ≡ Some y) × R x y
  at-here [] [] are i x at = cc
  at-here [] (y ∷ ys) are i x at = absurd are
  at-here (z ∷ xs) [] are i x at = absurd are
  at-here (z ∷ xs) (y ∷ ys) are zero x at = let same : z ≡ x = cc in (y, refl, subst (λ (w : A). R w y) same are.0)
  at-here (z ∷ xs) (y ∷ ys) are (suc i) x at = at-here xs ys are.1 i x at

  -- a test that turned items pass alike
  same-any : (test : A → Bool) → ((x y : A) → R x y → test x ≡ test y) → (xs ys : List A) → AreTurned xs ys → list_any test xs ≡ list_any test ys
  same-any test alike [] [] are = refl
  same-any test alike [] (y ∷ ys) are = absurd are
  same-any test alike (x ∷ xs) [] are = absurd are
  same-any test alike (x ∷ xs) (y ∷ ys) are = ap₂ (λ (u v : Bool). u || v) (alike x y are.0) (same-any test alike xs ys are.1)

-- ---- nets of one design

-- A net whose FIFOs have entries of their own.
pub record HasEntries (net : Net) : Type 0 where
  pub plain : IsPlain net.graph
  pub has_next : HasNextCells net

-- Two nets with one design and the same trees.
pub record AreOfOneDesign (net other : Net) (domains others : Domains) : Type 0 where
  pub design : design_of net domains ≡ design_of other others
  pub trees : next_tree net ≡ next_tree other
  pub shape : (grays : GrayReg → Bool) → net_trees net grays ≡ net_trees other grays

turned : (net other : Net) (domains others : Domains) → AreOfOneDesign net other domains others → AreOfOneDesign other net others domains
turned net other domains others one = record { design = sym one.design; trees = sym one.trees; shape = λ grays. sym (one.shape grays) }

fifo-there : (net other : Net) (domains others : Domains) → AreOfOneDesign net other domains others → (syncs : List Sync) (grays : List GrayReg) (f : Fifo)
    → IsFifo (design_of net domains) (next_tree net) syncs grays f → IsFifo (design_of other others) (next_tree other) syncs grays f
fifo-there net other domains others one syncs grays f fifo =
    subst (λ (tree : ℕ → Tree). IsFifo (design_of other others) tree syncs grays f) one.trees (subst (λ (d : Design). IsFifo d (next_tree net) syncs grays f) one.design fifo)

module _ (net other : Net) (domains others : Domains) (one : AreOfOneDesign net other domains others) (here-has : HasEntries net) (there-has : HasEntries other) where
  -- the entry of a FIFO by the other net's cells
  abbrev IsTurn : List Sync → List GrayReg → Entry → Entry → Type 0
  IsTurn syncs grays e k = (f : Fifo) × IsFifo (design_of net domains) (next_tree net) syncs grays f × IsEntry net.graph f e × IsEntry other.graph f k

  turn : (syncs : List Sync) (grays : List GrayReg) (e : Entry) → IsListedFifo net domains syncs grays e → (k : Entry) × IsTurn syncs grays e k
  turn syncs grays e (f, fifo, entry) =
      let k = entry-there other others there-has.plain.well there-has.has_next syncs grays f (fifo-there net other domains others one syncs grays f fifo) in
      (k.0, (f, fifo, entry, k.1))

  -- the entry back
  turn-back : (syncs : List Sync) (grays : List GrayReg) (k : Entry) → IsListedFifo other others syncs grays k → (e : Entry) × IsTurn syncs grays e k
  turn-back syncs grays k (f, fifo, entry) =
      let back = fifo-there other net others domains (turned net other domains others one) syncs grays f fifo in
      let e = entry-there net domains here-has.plain.well here-has.has_next syncs grays f back in
      (e.0, (f, back, e.1, entry))

  module _ (syncs : List Sync) (grays : List GrayReg) where
    listed-here : (e k : Entry) → IsTurn syncs grays e k → IsListedFifo net domains syncs grays e
    listed-here e k (f, fifo, entry, there) = (f, fifo, entry)

    listed-there : (e k : Entry) → IsTurn syncs grays e k → IsListedFifo other others syncs grays k
    listed-there e k (f, fifo, entry, there) = (f, fifo-there net other domains others one syncs grays f fifo, there)

    same-key : (e k : Entry) → IsTurn syncs grays e k → fifo_key e ≡ fifo_key k
    same-key e k (f, fifo, entry, there) =
        let wb : e.wb ≡ k.wb = entry.counts.0 ∙ sym there.counts.0 in
        let wg : e.wg ≡ k.wg = entry.counts.1 ∙ sym there.counts.1 in
        let rb : e.rb ≡ k.rb = entry.counts.2 ∙ sym there.counts.2 in
        let rg : e.rg ≡ k.rg = entry.counts.3 ∙ sym there.counts.3 in
        λ i. wb i ∷ wg i ∷ rb i ∷ rg i ∷ []

    same-counts : (e k : Entry) → IsTurn syncs grays e k → (e.wb ≡ k.wb) × (e.rb ≡ k.rb)
    same-counts e k (f, fifo, entry, there) = (entry.counts.0 ∙ sym there.counts.0, entry.counts.2 ∙ sym there.counts.2)

    same-crossings : (e k : Entry) → IsTurn syncs grays e k → e.crossings ≡ k.crossings
    same-crossings e k (f, fifo, entry, there) = entry.crossings ∙ sym there.crossings

    -- an entry is turned into one alone
    one-turn : (e k m : Entry) → IsTurn syncs grays e k → IsTurn syncs grays e m → k ≡ m
    one-turn e k m (f, fifo, entry, there) (h, other-fifo, like, also) = one-entry other there-has.plain f k m there (record {
      counts = (also.counts.0 ∙ sym like.counts.0 ∙ entry.counts.0, also.counts.1 ∙ sym like.counts.1 ∙ entry.counts.1, also.counts.2 ∙ sym like.counts.2 ∙ entry.counts.2, also.counts.3 ∙ sym like.counts.3 ∙ entry.counts.3);
      depth = also.depth ∙ sym like.depth ∙ entry.depth;
      columns = also.columns ∙ sym like.columns ∙ entry.columns;
      values = also.values;
      readers = also.readers ∙ sym like.readers ∙ entry.readers;
      crossings = also.crossings ∙ sym like.crossings ∙ entry.crossings;
    })

  -- the FIFOs of a certificate by the other net's cells
  fifos-there : (c : Certificate) (fifos : List Entry) → AreFifosOf net domains c fifos → (ks : List Entry) × AreFifosOf other others c ks × (is_of_fifo fifos ≡ is_of_fifo ks)
  fifos-there c fifos are =
      let R = IsTurn are.syncs c.grays in
      let ks = all-turned R fifos (λ e i. turn are.syncs c.grays e (are.exactly.only e i).0) in (
        ks.0,
        record {
          syncs = are.syncs;
          listed = are.listed;
          exactly = record {
            all = λ k (listed, (p, in_pairs, stands)).
                let (e, is) = turn-back are.syncs c.grays k listed in
                let counts = same-counts are.syncs c.grays e k is in
                let in_fifos = are.exactly.all e (listed-here are.syncs c.grays e k is, (p, in_pairs, (stands.0 ∙ sym counts.0, stands.1 ∙ sym counts.1))) in
                let (m, at, also) = at-here R fifos ks.0 ks.1 in_fifos.0 e (in_slice fifos e in_fifos) in
                subst (Contains ks.0) (one-turn are.syncs c.grays e m k also is) (slice_in ks.0 in_fifos.0 m at);
            only = λ k i.
                let (e, at, is) = at-there R fifos ks.0 ks.1 i.0 k (in_slice ks.0 k i) in
                let (p, in_pairs, stands) = (are.exactly.only e (slice_in fifos i.0 e at)).1 in
                let counts = same-counts are.syncs c.grays e k is in
                (listed-there are.syncs c.grays e k is, (p, in_pairs, (stands.0 ∙ counts.0, stands.1 ∙ counts.1)));
            ordered = λ i j x y l at there.
                let (d, from, is) = at-there R fifos ks.0 ks.1 i x at in
                let (e, to, also) = at-there R fifos ks.0 ks.1 j y there in
                ap₂ is_before (sym (same-key are.syncs c.grays d x is)) (sym (same-key are.syncs c.grays e y also)) ∙ are.exactly.ordered i j d e l from to;
          };
        },
        fun_ext (λ (b : Bit). fun_ext (λ (x : Bit). same-any R (λ (e : Entry). is_listed e.crossings b x)
            (λ e k is. ap (λ (cs : List Crossing). is_listed cs b x) (same-crossings are.syncs c.grays e k is)) fifos ks.0 ks.1)),
      )

  stands-there : (c : Certificate) (p : FifoPair) → Stands net domains c p → Stands other others c p
  stands-there c p (syncs, listed, (e, is_listed, stands)) =
      let (k, is) = turn syncs c.grays e is_listed in
      let counts = same-counts syncs c.grays e k is in
      (syncs, listed, (k, listed-there syncs c.grays e k is, (stands.0 ∙ counts.0, stands.1 ∙ counts.1)))

  pub certified-there : (c : Certificate) → IsCertifiedOn net domains c → IsCertifiedOn other others c
  certified-there c is =
      let (ks, are, extra) = fifos-there c is.fifos is.are_fifos in
      let k = is.certified in
      record {
        fifos = ks;
        are_fifos = are;
        certified = record {
          syncs = k.syncs;
          rings = k.rings;
          meant = k.meant;
          grays = λ g i. subst (λ (tree : ℕ → Tree). IsGrayReg (design_of other others) tree g) one.trees (subst (λ (d : Design). IsGrayReg d (next_tree net) g) one.design (k.grays g i));
          fifos = λ p i. stands-there c p (k.fifos p i);
          justified = subst (λ (x : Bit → Bit → Bool). Justified (design_of other others) (trees_by other c) k.syncs c.grays k.rings c.loads x) extra
              (subst (λ (t : Trees). Justified (design_of other others) t k.syncs c.grays k.rings c.loads (is_of_fifo is.fifos)) (one.shape _)
              (subst (λ (d : Design). Justified d (trees_by net c) k.syncs c.grays k.rings c.loads (is_of_fifo is.fifos)) one.design k.justified));
        };
      }
