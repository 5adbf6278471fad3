-- Each FIFO has one entry by the cells of a net.
use Rattle.std.proofs.Common.{◌≡◌, ◌∙◌, refl, sym, ap, ap₂, subst, inl, inr, arith, ℕ, ◌<◌, ◌≤◌, Some, List, [], ◌∷◌, map, length, Contains}
use Rattle.std.specs.Prelude.{slice_get}
use Rattle.cdc_base.specs.declared.bit.Bit.{Bit}
use Rattle.cell_graph.specs.declared.cell.Node.{Node}
use Rattle.cell_graph.specs.declared.net.Net.{Net}
use Rattle.cell_graph.specs.Cells.{Cells}
use Rattle.cell_graph.specs.Tree.{Tree}
use Rattle.cell_graph.specs.Unfolded.{IsWellFormed}
use Rattle.domains.specs.declared.Domains.{Domains}
use Rattle.cdc_model.specs.declared.scheme.GrayReg.{GrayReg}
use Rattle.cdc_model.specs.Nets.{HasNextCells, design_of, next_tree}
use Rattle.cdc_model.specs.Schemes.{Sync}
use Rattle.cdc_model.proofs.Ascending.{here, later, nothing_in, parts}
use Rattle.gray_pointer.specs.Words.{IsIn, IsPlain}
use Rattle.fifo_terms.specs.Takes.{taken}
use Rattle.fifo_laws.specs.Fifos.{Fifo, IsFifo}
use Rattle.fifo_laws.specs.Words.{Column, IsReadOf}
use Rattle.fifo_laws.proofs.Cross.{leads_to}
use Rattle.fifo_scheme.specs.declared.found.Column.{Column as ColumnEntry}
use Rattle.fifo_scheme.specs.declared.found.Fifo.{Fifo as Entry}
use Rattle.fifo_scheme.specs.Entries.{IsEntry, column_of}
use Rattle.fifo_scheme.proofs.MetColumns.{same_values}
use Rattle.fifo_scheme.proofs.MetPlaces.{next_there, tree_there, within_register}
use Rattle.fifo_scheme.proofs.MetReads.{some_words}
use Rattle.certificate_laws.proofs.Taken.{IsShownIn, taken-there}

first-there : (xs : List Bit) → 1 ≤ length xs → (b : Bit) × (slice_get xs 0 ≡ Some b)
first-there [] l = absurd (omega arith)
first-there (b ∷ bs) l = (b, refl)

-- columns whose values are bits of the graph
column-entries : (g : Cells) (cs : List Column) → ((c : Column) → Contains cs c → IsShownIn g c.value)
    → (es : List ColumnEntry) × (map (column_of g) es ≡ cs) × ((e : ColumnEntry) → Contains es e → IsIn g e.value)
column-entries g [] shown = ([], refl, λ e i. absurd (nothing_in e i))
column-entries g (c ∷ cs) shown =
    let v = shown c (here c cs) in
    let first : ColumnEntry = record { words = c.words; value = v.0 } in
    let rest = column-entries g cs (λ k i. shown k (later c cs k i)) in
    let same : column_of g first ≡ c = λ k. record { words = c.words; value = sym v.1 k } in (
      first ∷ rest.0,
      ap₂ (λ (k : Column) (ks : List Column). k ∷ ks) same rest.1,
      λ e i. elim (parts first rest.0 e i) [ inl h ↦ subst (λ (k : ColumnEntry). IsIn g k.value) h v.2 | inr j ↦ rest.2 e j ],
    )

module _ (net : Net) (domains : Domains) (well : IsWellFormed net.graph) (has : HasNextCells net) (syncs : List Sync) (grays : List GrayReg) (f : Fifo)
    (fifo : IsFifo (design_of net domains) (next_tree net) syncs grays f) where
  -- the first word of a column takes its value
  value-there : (c : Column) → Contains f.columns c → IsShownIn net.graph c.value
  value-there c i =
      let (x, reader, leads) = fifo.columns.only c i in
      let (t, j, reads) = leads_to (λ (t : Tree) (j : ℕ). IsReadOf (design_of net domains) (next_tree net) fifo.write fifo.read c (Some (t, j))) (next_tree net x.sig) x.at leads in
      let (b, first) = first-there c.words (subst (λ (n : ℕ). 1 ≤ n) (sym reads.0.depth) (some_words (design_of net domains) fifo.write)) in
      let word = reads.0.words 0 b first in
      let (cell, next) = next_there net b word.register in
      let (within, wide) = has b.sig cell next in
      let n : Node = record { cell = cell; at = b.at } in
      let s = taken-there net.graph well b n (within, subst (λ (m : ℕ). b.at < m) (sym wide) (within_register net b word.register)) in
      (s.0, sym word.takes ∙ ap (λ (u : Tree). (taken b u b.at).node) (tree_there net b cell next) ∙ s.1, s.2)

  pub entry-there : (e : Entry) × IsEntry net.graph f e
  entry-there =
      let cs = column-entries net.graph f.columns value-there in (
        record { wb = f.wb; wg = f.wg; rb = f.rb; rg = f.rg; depth = f.depth; columns = cs.0; readers = f.readers; crossings = f.crossings },
        record { counts = (refl, refl, refl, refl); depth = refl; columns = cs.1; values = cs.2; readers = refl; crossings = refl },
      )

-- ---- one entry

module _ (net : Net) (plain : IsPlain net.graph) where
  one-columns : (cs ds : List ColumnEntry) → ((c : ColumnEntry) → Contains cs c → IsIn net.graph c.value) → ((c : ColumnEntry) → Contains ds c → IsIn net.graph c.value)
      → map (column_of net.graph) cs ≡ map (column_of net.graph) ds → cs ≡ ds
  one-columns [] [] i j e = refl
  one-columns [] (d ∷ ds) i j e = cc
  one-columns (c ∷ cs) [] i j e = cc
  one-columns (c ∷ cs) (d ∷ ds) i j e =
      let first : column_of net.graph c ≡ column_of net.graph d = cc in
      let rest : map (column_of net.graph) cs ≡ map (column_of net.graph) ds = cc in
      let words : c.words ≡ d.words = ap (λ (k : Column). k.words) first in
      let value : c.value ≡ d.value = same_values net plain c.value d.value (i c (here c cs)) (j d (here d ds)) (ap (λ (k : Column). k.value) first) in
      let same : c ≡ d = λ k. record { words = words k; value = value k } in
      ap₂ (λ (x : ColumnEntry) (xs : List ColumnEntry). x ∷ xs) same (one-columns cs ds (λ x h. i x (later c cs x h)) (λ x h. j x (later d ds x h)) rest)

  pub one-entry : (f : Fifo) (d e : Entry) → IsEntry net.graph f d → IsEntry net.graph f e → d ≡ e
  one-entry f d e h k =
      let wb : d.wb ≡ e.wb = h.counts.0 ∙ sym k.counts.0 in
      let wg : d.wg ≡ e.wg = h.counts.1 ∙ sym k.counts.1 in
      let rb : d.rb ≡ e.rb = h.counts.2 ∙ sym k.counts.2 in
      let rg : d.rg ≡ e.rg = h.counts.3 ∙ sym k.counts.3 in
      let depth : d.depth ≡ e.depth = h.depth ∙ sym k.depth in
      let columns : d.columns ≡ e.columns = one-columns d.columns e.columns h.values k.values (h.columns ∙ sym k.columns) in
      let readers : d.readers ≡ e.readers = h.readers ∙ sym k.readers in
      let crossings : d.crossings ≡ e.crossings = h.crossings ∙ sym k.crossings in
      λ i. record { wb = wb i; wg = wg i; rb = rb i; rg = rg i; depth = depth i; columns = columns i; readers = readers i; crossings = crossings i }
