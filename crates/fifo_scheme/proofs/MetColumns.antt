-- The columns that readers' ways pass.
use Rattle.std.proofs.Common.{◌≡◌, ◌∙◌, ◌↔◌, sym, ap, subst, refl, inl, arith, ℕ, suc, Option, Some, None, option_map, List, [], ◌∷◌, Contains, map}
use Rattle.std.specs.HashMap as hash
use Rattle.cdc_base.specs.declared.bit.Bit.{Bit}
use Rattle.cell_graph.specs.declared.cell.Node.{Node}
use Rattle.cell_graph.specs.declared.net.Net.{Net}
use Rattle.cell_graph.specs.Tree.{Tree}
use Rattle.cell_graph.specs.Unfolded.{bit_of, tree_of}
use Rattle.cofactor.specs.Shown.{Shown as Rows}
use Rattle.domains.specs.declared.Domains.{Domains}
use Rattle.cdc_model.specs.declared.scheme.GrayReg.{GrayReg}
use Rattle.cdc_model.specs.Nets.{design_of, next_tree}
use Rattle.cdc_model.specs.Ordered.{IsAscending}
use Rattle.cdc_model.specs.Schemes.{Sync}
use Rattle.cdc_model.proofs.Ascending.{Ascends, ascending, in_map, from_map, mapped_ascend}
use Rattle.cdc_model.proofs.Justify.{in_slice}
use Rattle.gray_pointer.specs.Words.{IsIn, IsPlain}
use Rattle.gray_pointer.proofs.Trees.{same_bits}
use Rattle.fifo_laws.specs.Fifos.{IsPassed, IsReader, bits_key, column_key}
use Rattle.fifo_laws.specs.Sides.{Side}
use Rattle.fifo_laws.specs.Ways.{Leads}
use Rattle.fifo_laws.specs.Words.{Column, IsReadOf}
use Rattle.fifo_ways.specs.Marked.{same_node}
use Rattle.fifo_ways.specs.Sought.{AreNodes}
use Rattle.fifo_ways.proofs.Fed.{fed-leads, fed-node, from_root, node-leads, reached}
use Rattle.fifo_ways.specs.Feeds.{first}
use Rattle.fifo_scheme.specs.declared.found.Column.{Column as ColumnEntry}
use Rattle.fifo_scheme.specs.declared.index.Index.{Index}
use Rattle.fifo_scheme.specs.declared.judge.Reads.{Reads}
use Rattle.fifo_parts.specs.declared.pair.Pair.{Pair}
use Rattle.fifo_scheme.specs.Entries.{column_of}
use Rattle.fifo_scheme.specs.Met.{ArePassed, AreReadersAt, AreReadsOf, bits_at, column, column_at, HaveOneValue, IsKept, IsMet, kept_column, roots_at, with_words}
use Rattle.fifo_scheme.proofs.MetPlaces.{from_roots, in_roots, next_root, next_there, roots_are, tree_there}
use Rattle.fifo_scheme.proofs.MetReaders.{all_readers}
use Rattle.fifo_scheme.proofs.MetReads.{one_choice, one_value}
use Rattle.fifo_scheme.proofs.MetSides.{plain_shown}

-- a node that may be there is told by its bit
pub same_values : (net : Net) → IsPlain net.graph → (m n : Option Node) → IsIn net.graph m → IsIn net.graph n → option_map (bit_of net.graph) m ≡ option_map (bit_of net.graph) n → m ≡ n
same_values net plain None None h k e = refl
same_values net plain None (Some n) h k e = cc
same_values net plain (Some m) None h k e = cc
same_values net plain (Some m) (Some n) h k e = let f : bit_of net.graph m ≡ bit_of net.graph n = cc in ap Some (same_bits net.graph plain m n h k f)

same_entries : (c e : ColumnEntry) → c.words ≡ e.words → c.value ≡ e.value → c ≡ e
same_entries c e h k = λ i. record { words = h i; value = k i }

same_columns : (c e : Column) → c.words ≡ e.words → c.value ≡ e.value → c ≡ e
same_columns c e h k = λ i. record { words = h i; value = k i }

-- a list that ascends at each two places ascends
pub ascends : {A : Type 0} (key : A → List ℕ) (xs : List A) → IsAscending key xs → Ascends key xs
ascends key [] h = tt
ascends key (x ∷ xs) h = (λ y i. h 0 (suc i.0) x y (omega arith) refl (in_slice xs y i), ascends key xs (λ i j y z l e f. h (suc i) (suc j) y z (omega arith) e f))

module _ (net : Net) (domains : Domains) (table : Rows) (syncs : List Sync) (grays : List GrayReg) (i : Index) (p : Pair) (write read : Side) (met : IsMet net domains table syncs grays i p write read)
    (found : Reads) (are_reads : AreReadsOf net domains i write read found) where
  plain : IsPlain net.graph
  plain = plain_shown net table met.shown

  -- what is kept of a node that reads a column is that column
  kept_is : (n : Node) (k : IsKept net domains i write read n (hash.get same_node found.columns n)) → column_at i found n ≡ Some (record { words = k.entry.words; value = k.value })
  kept_is n k = ap (kept_column i) k.is ∙ ap (with_words k.value) k.there

  -- the entry of a node is a column that it reads
  pub entry_reads : (n : Node) (e : ColumnEntry) → Contains found.nodes n → column_at i found n ≡ Some e
      → IsReadOf (design_of net domains) (next_tree net) write read (column_of net.graph e) (Some (bit_of net.graph n)) × IsIn net.graph e.value
  entry_reads n e h is =
      let k = are_reads.kept n h in
      let both : Some (record { words = k.entry.words; value = k.value }) ≡ Some e = sym (kept_is n k) ∙ is in
      let same : record { words = k.entry.words; value = k.value } ≡ e = cc in (
        subst (λ (c : ColumnEntry). IsReadOf (design_of net domains) (next_tree net) write read (column_of net.graph c) (Some (bit_of net.graph n))) same k.reads,
        subst (λ (c : ColumnEntry). IsIn net.graph c.value) same k.within,
      )

  -- and the one column that it reads
  pub read_entry : (n : Node) (c : Column) → Contains found.nodes n → IsReadOf (design_of net domains) (next_tree net) write read c (Some (bit_of net.graph n))
      → (e : ColumnEntry) × (column_at i found n ≡ Some e) × (column_of net.graph e ≡ c)
  read_entry n c h is =
      let k = are_reads.kept n h in
      let words = one_choice (design_of net domains) read 0 k.entry.words c.words (Some (bit_of net.graph n)) (k.reads.0.depth ∙ sym is.0.depth) k.reads.1 is.1 in (
        record { words = k.entry.words; value = k.value },
        kept_is n k,
        same_columns (column net k.entry.words k.value) c words (one_value (design_of net domains) (next_tree net) write read (column net k.entry.words k.value) c k.reads.0 is.0 words),
      )

  -- equal words have one value
  pub have_one_value : (ns : List Node) → ((n : Node) → Contains ns n → Contains found.nodes n) → HaveOneValue i found ns
  have_one_value ns within n m c e hn hm at there same =
      let k = entry_reads n c (within n hn) at in
      let l = entry_reads m e (within m hm) there in
      same_values net plain c.value e.value k.1 l.1 (one_value (design_of net domains) (next_tree net) write read (column_of net.graph c) (column_of net.graph e) k.0.0 l.0.0 same)

  module _ (places : List ℕ) (are : AreReadersAt net domains i write read places) where
    readers : (x : Bit) → Contains (bits_at i.readings places) x → IsReader (design_of net domains) (next_tree net) write read x
    readers = (all_readers net domains table syncs grays i p write read met places are).only

    abbrev roots : List Node
    roots = roots_at net (bits_at i.readings places)

    pub roots_nodes : AreNodes net.graph (roots_at net (bits_at i.readings places))
    roots_nodes = roots_are net met.shown.has_next (bits_at i.readings places) (λ b h. (readers b h).register)

    abbrev Reads' : Column → Tree → ℕ → Type 0
    Reads' c t j = IsReadOf (design_of net domains) (next_tree net) write read c (Some (t, j))

    pub columns_are : (passed : List Node) (columns : List ColumnEntry)
        → ((n : Node) → Contains passed n ↔ (Contains found.nodes n × ((root : Node) × Contains (roots_at net (bits_at i.readings places)) root × Leads (λ (t : Tree) (j : ℕ). bit_of net.graph n ≡ (t, j)) (tree_of net.graph root.cell) root.at)))
        → ((e : ColumnEntry) → Contains columns e ↔ ((n : Node) × Contains passed n × (column_at i found n ≡ Some e)))
        → IsAscending (λ (e : ColumnEntry). bits_key e.words) columns → ArePassed net domains write read columns
    columns_are passed columns are_passed are_columns up = record {
      columns = record {
        all = all;
        only = only;
        ordered = ascending column_key (map (column_of net.graph) columns) (mapped_ascend (column_of net.graph) column_key columns (ascends (λ (e : ColumnEntry). bits_key e.words) columns up));
      };
      each = λ e h. let n = (are_columns e).0 h in let k = entry_reads n.0 e ((are_passed n.0).0 n.1).0 n.2 in (k.0.0, k.1);
    }
      where
        all : (c : Column) → IsPassed (design_of net domains) (next_tree net) write read c → Contains (map (column_of net.graph) columns) c
        all c (x, reader, leads) =
            let there = (all_readers net domains table syncs grays i p write read met places are).all x reader in
            let cell = next_there net x reader.register in
            let root : Node = record { cell = cell.0; at = x.at } in
            let rooted = in_roots net (bits_at i.readings places) x root there (next_root net x cell.0 cell.1) in
            let led = subst (λ (t : Tree). Leads (Reads' c) t x.at) (tree_there net x cell.0 cell.1) leads in
            let n = reached net.graph plain.well roots roots_nodes (Reads' c) (suc root.cell.0) root (omega arith) (first rooted) led in
            let is = fed-node net.graph plain.well roots roots_nodes n.0 n.1 in
            let kept = are_reads.all n.0 is (c, n.3) in
            let up = (fed-leads net.graph plain roots roots_nodes n.0 is).0 (n.2, n.1) in
            let e = read_entry n.0 c kept n.3 in
            subst (Contains (map (column_of net.graph) columns)) e.2
            (in_map (column_of net.graph) columns e.0 ((are_columns e.0).1 (n.0, (are_passed n.0).1 (kept, up), e.1)))

        only : (c : Column) → Contains (map (column_of net.graph) columns) c → IsPassed (design_of net domains) (next_tree net) write read c
        only c h =
            let e = from_map (column_of net.graph) columns c h in
            let n = (are_columns e.0).0 e.1 in
            let passed_by = (are_passed n.0).0 n.1 in
            let is = are_reads.nodes n.0 passed_by.0 in
            let fed = (fed-leads net.graph plain roots roots_nodes n.0 is).1 passed_by.1 in
            let reads = subst (λ (k : Column). IsReadOf (design_of net domains) (next_tree net) write read k (Some (bit_of net.graph n.0))) e.2 (entry_reads n.0 e.0 passed_by.0 n.2).0 in
            let led = (node-leads net.graph plain.well (Reads' c) n.0 is).1 (inl (fed.0, reads)) in
            let root = from_root net.graph plain.well roots roots_nodes (Reads' c) n.0 fed.1 led in
            let b = from_roots net (bits_at i.readings places) root.0 root.1 in
            let reader = readers b.0 b.1 in
            let cell = next_there net b.0 reader.register in
            let same : Some (record { cell = cell.0; at = b.0.at }) ≡ Some root.0 = sym (next_root net b.0 cell.0 cell.1) ∙ b.2 in
            let f : record { cell = cell.0; at = b.0.at } ≡ root.0 = cc in
            let back = subst (λ (m : Node). Leads (Reads' c) (tree_of net.graph m.cell) m.at) (sym f) root.2 in
            (b.0, reader, subst (λ (t : Tree). Leads (Reads' c) t b.0.at) (sym (tree_there net b.0 cell.0 cell.1)) back)
