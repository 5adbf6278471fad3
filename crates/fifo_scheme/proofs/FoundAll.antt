-- Each FIFO over the lists is found, once.
use Rattle.std.proofs.Common.{◌≡◌, ◌∙◌, sym, ap, ap₂, subst, refl, ℕ, true, Option, Some, None, option_map, List, [], ◌∷◌, map, Contains, Ordering, Less, Equal, Greater}
use Rattle.std.specs.BTreeMap as tree
use Rattle.std.specs.BTreeMap.{BTreeMap, is_at}
use Rattle.std.specs.Option.{IsSome}
use Rattle.std.specs.Ordering.{is_eq}
use Rattle.std.proofs.lemmas.Map.Entries.{place_from_lookup}
use Rattle.cell_graph.specs.declared.cell.Node.{Node}
use Rattle.cell_graph.specs.declared.net.Net.{Net}
use Rattle.cell_graph.specs.Cells.{Cells}
use Rattle.cell_graph.specs.Unfolded.{bit_of}
use Rattle.domains.specs.declared.Domains.{Domains}
use Rattle.cdc_model.specs.declared.scheme.GrayReg.{GrayReg}
use Rattle.cdc_model.specs.Nets.{HasNextCells, design_of, next_tree}
use Rattle.cdc_model.specs.Ordered.{IsAll}
use Rattle.cdc_model.specs.Schemes.{Sync, Trees}
use Rattle.cdc_model.proofs.Ascending.{here, later}
use Rattle.cdc_model.proofs.Justify.{slice_in}
use Rattle.gray_pointer.specs.Words.{IsIn, IsPlain}
use Rattle.gray_pointer.proofs.Trees.{same_bits}
use Rattle.fifo_laws.specs.Fifos.{Fifo}
use Rattle.fifo_laws.specs.Laws.{AreLists}
use Rattle.fifo_scheme.specs.contracts.finder.KeyOrd.TheImpl as order
use Rattle.fifo_scheme.specs.declared.finder.Key.{Key}
use Rattle.fifo_scheme.specs.declared.finder.Sides.{Sides}
use Rattle.fifo_scheme.specs.declared.found.Column.{Column as ColumnEntry}
use Rattle.fifo_scheme.specs.declared.found.Fifo.{Fifo as Entry}
use Rattle.fifo_scheme.specs.declared.found.FifoPair.{FifoPair}
use Rattle.fifo_scheme.specs.declared.index.Index.{Index}
use Rattle.fifo_scheme.specs.Candidates.{AreAt, AreBy, AreMade, IsFirst, IsReadTo, OfOne, kept}
use Rattle.fifo_scheme.specs.Entries.{IsEntry, IsListedFifo, column_of, fifo_key}
use Rattle.fifo_scheme.specs.Indexed.{IsIndex}
use Rattle.fifo_scheme.specs.Pairs.{AreStoodFor, IsFirstMissing, IsStoodFor}
use Rattle.fifo_scheme.proofs.FifoSides.{fifo_by, fifo_is, fifo_read, one_reg}
use Rattle.fifo_scheme.proofs.KeyOrder.{keys_order}
use Rattle.fifo_scheme.proofs.Made.{in_kept}
use Rattle.fifo_scheme.proofs.OneFifo.{one_fifo}

-- ---- a FIFO has one entry

module _ (g : Cells) (plain : IsPlain g) where
  one_value : (m n : Option Node) → IsIn g m → IsIn g n → option_map (bit_of g) m ≡ option_map (bit_of g) n → m ≡ n
  one_value None None i j e = refl
  one_value None (Some n) i j e = cc
  one_value (Some m) None i j e = cc
  one_value (Some m) (Some n) i j e = let f : bit_of g m ≡ bit_of g n = cc in ap Some (same_bits g plain m n i j f)

  one_columns : (cs ds : List ColumnEntry) → ((c : ColumnEntry) → Contains cs c → IsIn g c.value) → ((c : ColumnEntry) → Contains ds c → IsIn g c.value)
      → map (column_of g) cs ≡ map (column_of g) ds → cs ≡ ds
  one_columns [] [] i j e = refl
  one_columns [] (d ∷ ds) i j e = cc
  one_columns (c ∷ cs) [] i j e = cc
  one_columns (c ∷ cs) (d ∷ ds) i j e =
      let first : column_of g c ≡ column_of g d = cc in
      let rest : map (column_of g) cs ≡ map (column_of g) ds = cc in
      let words : c.words ≡ d.words = ap (λ k. k.words) first in
      let value : c.value ≡ d.value = one_value c.value d.value (i c (here c cs)) (j d (here d ds)) (ap (λ k. k.value) first) in
      let same : c ≡ d = λ k. record { words = words k; value = value k } in
      ap₂ (λ (x : ColumnEntry) xs. x ∷ xs) same (one_columns cs ds (λ x h. i x (later c cs x h)) (λ x h. j x (later d ds x h)) rest)

  one_entry : (f : Fifo) (d e : Entry) → IsEntry g f d → IsEntry g f e → d ≡ e
  one_entry f d e h k = λ i. record { wb = wb i; wg = wg i; rb = rb i; rg = rg i; depth = depth i; columns = columns i; readers = readers i; crossings = crossings i }
    where
      wb : d.wb ≡ e.wb
      wb = h.counts.0 ∙ sym k.counts.0

      wg : d.wg ≡ e.wg
      wg = h.counts.1 ∙ sym k.counts.1

      rb : d.rb ≡ e.rb
      rb = h.counts.2 ∙ sym k.counts.2

      rg : d.rg ≡ e.rg
      rg = h.counts.3 ∙ sym k.counts.3

      depth : d.depth ≡ e.depth
      depth = h.depth ∙ sym k.depth

      columns : d.columns ≡ e.columns
      columns = one_columns d.columns e.columns h.values k.values (h.columns ∙ sym k.columns)

      readers : d.readers ≡ e.readers
      readers = h.readers ∙ sym k.readers

      crossings : d.crossings ≡ e.crossings
      crossings = h.crossings ∙ sym k.crossings

-- ---- what is kept at a key is an entry

abbrev pub entry_is : Entry → Key
entry_is e = record { wb = e.wb; wg = e.wg; rb = e.rb; rg = e.rg }

kept_there : (o : Option Sides) → IsSome o → (p : Sides) × (o ≡ Some p)
kept_there None h = absurd (cc)
kept_there (Some p) h = (p, refl)

equal_at : (o : Ordering) → is_eq o ≡ true → o ≡ Equal
equal_at Equal h = refl
equal_at Less h = cc
equal_at Greater h = cc

kept_in : (m : BTreeMap Key Sides) (k : Key) (p : Sides) → kept m k ≡ Some p → Contains m.entries (k, p)
kept_in m k p e =
    let (j, l, at, test) = place_from_lookup (is_at (order.ghosts.cmp k)) m.entries p e in
    let same : k ≡ l = keys_order.same k l (equal_at (order.ghosts.cmp k l) test) in
    subst (λ (x : Key). Contains m.entries (x, p)) (sym same) (slice_in m.entries j (l, p) at)

module _ (net : Net) (domains : Domains) (syncs : List Sync) (grays : List GrayReg) (i : Index) (is : IsIndex net domains syncs grays i)
    (P : Key → Type 0) (m : BTreeMap Key Sides) (fifos : List Entry) (at : AreAt i.sides.items P m) (made : AreMade net domains syncs grays i.sides.items m.entries fifos)
    (pairs : List FifoPair) (ordered : tree.IsOrdered order.ghosts.cmp m) (from : (k : Key) → P k → OfOne (λ (p : FifoPair) k. AreBy i.sides.items p.wb p.rb k) pairs k) where
  -- each that is found is one for which some pair stands
  pub stood_for : (e : Entry) → Contains fifos e → IsStoodFor pairs e
  stood_for e j =
      let (k, s, in_entries, numbers) = (made.only e j).1 in
      let (p, in_pairs, (write, read, in_write, in_read, is_wb, is_rb, key)) = from k (at.only k s (in_kept m k s ordered in_entries)).1 in
      let wb : e.wb ≡ k.wb = cc in
      let rb : e.rb ≡ k.rb = cc in
      (p, in_pairs, (sym is_wb ∙ ap (λ (x : Key). x.wb) key ∙ sym wb, sym is_rb ∙ ap (λ (x : Key). x.rb) key ∙ sym rb))

module _ (net : Net) (domains : Domains) (plain : IsPlain net.graph) (has : HasNextCells net) (t : Trees) (syncs : List Sync) (grays : List GrayReg)
    (lists : AreLists (design_of net domains) (next_tree net) t syncs grays) (i : Index) (is : IsIndex net domains syncs grays i)
    (P : Key → Type 0) (m : BTreeMap Key Sides) (fifos : List Entry) (at : AreAt i.sides.items P m) (made : AreMade net domains syncs grays i.sides.items m.entries fifos) where
  -- a FIFO at whose key there are candidates is found
  pub all_found : (e : Entry) → IsListedFifo net domains syncs grays e → P (entry_is e) → Contains fifos e
  all_found e (f, fifo, entry) p =
      let k = entry_is e in
      let s = kept_there (kept m k) (at.all k p) in
      let (write, read, at_write, at_read, key) = (at.only k s.0 s.1).0 in
      let listed_write = (is.sides.only write (slice_in i.sides.items s.0.write write at_write)).1 in
      let listed_read = (is.sides.only read (slice_in i.sides.items s.0.read read at_read)).1 in
      let w = one_reg net domains plain has t syncs grays lists write.reg fifo.write.reg listed_write fifo.writes.listed
      (fifo.named.0 ∙ sym entry.counts.0 ∙ sym (ap (λ (x : Key). x.wb) key)) (fifo.named.1 ∙ sym entry.counts.1 ∙ sym (ap (λ (x : Key). x.wg) key)) in
      let r = one_reg net domains plain has t syncs grays lists read.reg fifo.read.reg listed_read fifo.reads.listed
      (fifo.named.2 ∙ sym entry.counts.2 ∙ sym (ap (λ (x : Key). x.rb) key)) (fifo.named.3 ∙ sym entry.counts.3 ∙ sym (ap (λ (x : Key). x.rg) key)) in
      let (d, in_fifos, numbers) = made.all k s.0 write read (kept_in m k s.0 s.1) at_write at_read (f, (fifo, w, r)) in
      let (h, other, like) = (made.only d in_fifos).0 in
      let wb : d.wb ≡ e.wb = cc in
      let wg : d.wg ≡ e.wg = cc in
      let rb : d.rb ≡ e.rb = cc in
      let rg : d.rg ≡ e.rg = cc in
      let v = one_reg net domains plain has t syncs grays lists other.write.reg fifo.write.reg other.writes.listed fifo.writes.listed
      (fifo.named.0 ∙ sym entry.counts.0 ∙ sym wb ∙ like.counts.0 ∙ sym other.named.0) (fifo.named.1 ∙ sym entry.counts.1 ∙ sym wg ∙ like.counts.1 ∙ sym other.named.1) in
      let q = one_reg net domains plain has t syncs grays lists other.read.reg fifo.read.reg other.reads.listed fifo.reads.listed
      (fifo.named.2 ∙ sym entry.counts.2 ∙ sym rb ∙ like.counts.2 ∙ sym other.named.2) (fifo.named.3 ∙ sym entry.counts.3 ∙ sym rg ∙ like.counts.3 ∙ sym other.named.3) in
      let same : f ≡ h = one_fifo (design_of net domains) (next_tree net) syncs grays f h fifo other v q in
      let one : d ≡ e = one_entry net.graph plain f d e (subst (λ (x : Fifo). IsEntry net.graph x d) (sym same) like) entry in
      subst (Contains fifos) one in_fifos

  fifo_there : (e : Entry) (f : Fifo) → IsEntry net.graph f e → fifo_is f ≡ entry_is e
  fifo_there e f entry =
      let wb = sym entry.counts.0 in
      let wg = sym entry.counts.1 in
      let rb = sym entry.counts.2 in
      let rg = sym entry.counts.3 in
      λ k. record { wb = wb k; wg = wg k; rb = rb k; rg = rg k }

  -- those to which reads lead are all
  pub all_by_reads : ((k : Key) → OfOne (IsReadTo net i) i.reads k → P k) → IsAll (IsListedFifo net domains syncs grays) fifo_key fifos
  all_by_reads led = record {
    all = λ e listed. all_found e listed (led (entry_is e) (subst (OfOne (IsReadTo net i) i.reads) (fifo_there e listed.0 listed.2)
        (fifo_read net domains plain has t syncs grays lists i is listed.0 listed.1)));
    only = λ e j. (made.only e j).0;
    ordered = made.ordered;
  }

  module _ (pairs : List FifoPair) (ordered : tree.IsOrdered order.ghosts.cmp m) (by : (k : Key) → OfOne (λ (p : FifoPair) k. AreBy i.sides.items p.wb p.rb k) pairs k → P k)
      (from : (k : Key) → P k → OfOne (λ (p : FifoPair) k. AreBy i.sides.items p.wb p.rb k) pairs k) where
    -- those for which pairs stand are all such
    pub all_by_pairs : (e : Entry) → IsListedFifo net domains syncs grays e → IsStoodFor pairs e → Contains fifos e
    all_by_pairs e listed (p, j, stands) =
        let there = fifo_by net domains plain has t syncs grays lists i is listed.0 listed.1 in
        let counts = listed.2.counts in
        all_found e listed (by (entry_is e) (
          p,
          j,
          subst (λ (n : ℕ). AreBy i.sides.items n p.rb (entry_is e)) (sym (stands.0 ∙ counts.0))
              (subst (λ (n : ℕ). AreBy i.sides.items listed.0.wb n (entry_is e)) (sym (stands.1 ∙ counts.2)) (subst (AreBy i.sides.items listed.0.wb listed.0.rb) (fifo_there e listed.0 listed.2) there)),
        ))

    pub all_stood_for : IsFirst fifos pairs None → AreStoodFor net domains syncs grays pairs fifos
    all_stood_for each = record {
      each = λ p j. let (e, in_fifos, stands) = each p j in (e, (made.only e in_fifos).0, stands);
      exactly = record {
        all = λ e h. all_by_pairs e h.0 h.1;
        only = λ e j. ((made.only e j).0, stood_for net domains syncs grays i is P m fifos at made pairs ordered from e j);
        ordered = made.ordered;
      };
    }

    pub first_missing : (n : ℕ) → IsFirst fifos pairs (Some n) → IsFirstMissing net domains syncs grays pairs n
    first_missing n (p, there, missing, first) = record {
      pair = p;
      at = there;
      missing = λ (e, listed, stands). missing (e, all_by_pairs e listed (p, slice_in pairs n p there, stands), stands);
      first = λ j q l e. let (x, in_fifos, stands) = first j q l e in (x, (made.only x in_fifos).0, stands);
    }
