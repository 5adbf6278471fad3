-- The crossings from bits of columns to readers.
use Rattle.std.proofs.Common.{◌≡◌, ◌∙◌, ◌↔◌, sym, ap, subst, refl, inl, inr, ℕ, ◌<◌, Bool, true, Option, Some, None, List, [], ◌∷◌, ◌++◌, slice_get, Contains, map}
use Rattle.std.specs.Prelude.{filter}
use Rattle.std.proofs.lemmas.List.Elements.{Contains-append_left, Contains-append_right, Contains-append_cases}
use Rattle.cdc_base.specs.declared.bit.Bit.{Bit}
use Rattle.cell_graph.specs.declared.net.Net.{Net}
use Rattle.cell_graph.specs.Cofactor.{reads}
use Rattle.cofactor.specs.Shown.{Shown as Rows}
use Rattle.domains.specs.declared.Domains.{Domains}
use Rattle.cdc_model.specs.declared.scheme.Crossing.{Crossing}
use Rattle.cdc_model.specs.declared.scheme.GrayReg.{GrayReg}
use Rattle.cdc_model.specs.Nets.{design_of, next_tree}
use Rattle.cdc_model.specs.Ordered.{is_before, IsAll, IsAscending}
use Rattle.cdc_model.specs.Schemes.{Sync}
use Rattle.cdc_model.specs.Verdict.{bit_key, crossing_key}
use Rattle.cdc_model.proofs.Ascending.{Ascends, ascending, here, later, nothing_in, parts, in_map, from_map, in_filter, from_filter, joined_ascend, filtered_ascend, mapped_ascend, rekeyed_ascend, same_before}
use Rattle.cdc_model.proofs.Found.{before_any}
use Rattle.cdc_model.proofs.Justify.{slice_in, in_slice}
use Rattle.fifo_laws.specs.Fifos.{IsFrom, IsOfColumns, one_bit_key}
use Rattle.fifo_laws.specs.Sides.{Side}
use Rattle.fifo_laws.specs.Words.{Column, IsColumn, IsWord}
use Rattle.fifo_scheme.specs.declared.found.Column.{Column as ColumnEntry}
use Rattle.fifo_scheme.specs.declared.index.Index.{Index}
use Rattle.fifo_scheme.specs.declared.index.Reading.{Reading}
use Rattle.fifo_parts.specs.declared.pair.Pair.{Pair}
use Rattle.fifo_scheme.specs.Entries.{column_of}
use Rattle.fifo_scheme.specs.Met.{ArePassed, ArePlacesInOrder, AreReadersAt, bits_at, crossings_at, crossings_into, crossings_there, IsMet, IsOfEntries}
use Rattle.fifo_scheme.proofs.MetColumns.{ascends}
use Rattle.fifo_scheme.proofs.MetPlaces.{head_first, in_bits_at, from_bits, rest_in_order}
use Rattle.fifo_scheme.proofs.MetReaders.{all_readers, one_place, reader_place}

abbrev crossing : Bit → Bit → Crossing
crossing x b = record { from = b; to = x }

module _ (test : Bit → Bool) where
  from_into : (r : Reading) (c : Crossing) → Contains (crossings_into test r) c → (c.to ≡ r.bit) × Contains r.reads c.from × (test c.from ≡ true)
  from_into r c h =
      let k = from_map (crossing r.bit) (filter test r.reads) c h in
      let l = from_filter test r.reads k.0 k.1 in
      let same : k.0 ≡ c.from = ap (λ (q : Crossing). q.from) k.2 in (
        ap (λ (q : Crossing). q.to) (sym k.2),
        subst (Contains r.reads) same l.0,
        subst (λ (b : Bit). test b ≡ true) same l.1,
      )

  in_into : (r : Reading) (c : Crossing) → c.to ≡ r.bit → Contains r.reads c.from → test c.from ≡ true → Contains (crossings_into test r) c
  in_into r c e h t = subst (Contains (crossings_into test r)) (λ i. let x : Crossing = record { from = c.from; to = sym e i } in x) (in_map (crossing r.bit) (filter test r.reads) c.from (in_filter test r.reads c.from h t))

  module _ (rs : List Reading) where
    at_head : (n : ℕ) (ns : List ℕ) (c : Crossing) (o : Option Reading) → slice_get rs n ≡ o → Contains (crossings_there test o) c
        → (m : ℕ) × (r : Reading) × Contains (n ∷ ns) m × (slice_get rs m ≡ Some r) × (c.to ≡ r.bit) × Contains r.reads c.from × (test c.from ≡ true)
    at_head n ns c None e i = absurd (nothing_in c i)
    at_head n ns c (Some r) e i = let k = from_into r c i in (n, r, here n ns, e, k.0, k.1, k.2)

    pub from_crossings : (ns : List ℕ) (c : Crossing) → Contains (crossings_at test rs ns) c
        → (n : ℕ) × (r : Reading) × Contains ns n × (slice_get rs n ≡ Some r) × (c.to ≡ r.bit) × Contains r.reads c.from × (test c.from ≡ true)
    from_crossings [] c h = absurd (nothing_in c h)
    from_crossings (n ∷ ns) c h = elim (Contains-append_cases (crossings_there test (slice_get rs n)) (crossings_at test rs ns) c h) [
      | inl i ↦ at_head n ns c (slice_get rs n) refl i
      | inr i ↦ let k = from_crossings ns c i in (k.0, k.1, later n ns k.0 k.2, k.3, k.4, k.5, k.6)
    ]

    pub in_crossings : (ns : List ℕ) (n : ℕ) (r : Reading) (c : Crossing) → Contains ns n → slice_get rs n ≡ Some r → c.to ≡ r.bit → Contains r.reads c.from → test c.from ≡ true
        → Contains (crossings_at test rs ns) c
    in_crossings [] n r c i e to h t = absurd (nothing_in n i)
    in_crossings (m ∷ ns) n r c i e to h t = elim (parts m ns n i) [
      | inl same ↦ Contains-append_left (crossings_there test (slice_get rs m)) (crossings_at test rs ns) c
          (subst (λ (o : Option Reading). Contains (crossings_there test o) c) (sym (ap (slice_get rs) same ∙ e)) (in_into r c to h t))
      | inr j ↦ Contains-append_right (crossings_there test (slice_get rs m)) (crossings_at test rs ns) c (in_crossings ns n r c j e to h t)
    ]

    module _ (up : IsAscending (λ (r : Reading). one_bit_key r.bit) rs) (each : (r : Reading) → Contains rs r → IsAscending one_bit_key r.reads) where
      into_ascends : (r : Reading) → Contains rs r → Ascends crossing_key (crossings_into test r)
      into_ascends r h = mapped_ascend (crossing r.bit) crossing_key (filter test r.reads)
          (rekeyed_ascend one_bit_key (λ (b : Bit). crossing_key (crossing r.bit b))
          (λ a b k. same_before r.bit.sig r.bit.sig (r.bit.at ∷ one_bit_key a) (r.bit.at ∷ one_bit_key b) refl (same_before r.bit.at r.bit.at (one_bit_key a) (one_bit_key b) refl k))
          (filter test r.reads) (filtered_ascend one_bit_key test r.reads (ascends one_bit_key r.reads (each r h))))

      pub crossings_ascend : (ns : List ℕ) → ArePlacesInOrder ns → Ascends crossing_key (crossings_at test rs ns)
      crossings_ascend [] h = tt
      crossings_ascend (n ∷ ns) h = go (slice_get rs n) refl (crossings_ascend ns (rest_in_order n ns h))
        where
          go : (o : Option Reading) → slice_get rs n ≡ o → Ascends crossing_key (crossings_at test rs ns) → Ascends crossing_key (crossings_there test o ++ crossings_at test rs ns)
          go None e ih = ih
          go (Some r) e ih = joined_ascend crossing_key (crossings_into test r) (crossings_at test rs ns) (into_ascends r (slice_in rs n r e)) ih
              (λ c d i j.
              let k = from_into r c i in
              let l = from_crossings ns d j in
              subst (λ (x : Bit). is_before (bit_key x (one_bit_key c.from)) (crossing_key d) ≡ true) (sym k.0)
              (subst (λ (x : Bit). is_before (bit_key r.bit (one_bit_key c.from)) (bit_key x (one_bit_key d.from)) ≡ true) (sym l.4)
              (before_any r.bit l.1.bit (one_bit_key c.from) (one_bit_key d.from) (up n l.0 r l.1 (head_first n ns h l.0 l.2) e l.3))))

module _ (net : Net) (domains : Domains) (table : Rows) (syncs : List Sync) (grays : List GrayReg) (i : Index) (p : Pair) (write read : Side) (met : IsMet net domains table syncs grays i p write read)
    (columns : List ColumnEntry) (passed : ArePassed net domains write read columns) (places : List ℕ) (are : AreReadersAt net domains i write read places) where
  -- a bit of a column is a word
  word_of : (b : Bit) → IsOfColumns (map (column_of net.graph) columns) b → IsWord (design_of net domains) (next_tree net) write read b
  word_of b (c, h, at) =
      let e = from_map (column_of net.graph) columns c h in
      let column = subst (λ (k : Column). IsColumn (design_of net domains) (next_tree net) write read k) e.2 (passed.each e.0 e.1).0 in
      (at.0, c.value, subst (λ (n : ℕ). at.0 < n) column.depth at.1, column.words at.0 b (in_slice c.words b at))

  pub crossings_are : (test : Bit → Bool) → ((b : Bit) → (test b ≡ true) ↔ IsOfEntries columns b)
      → IsAll (IsFrom (next_tree net) (map (column_of net.graph) columns) (bits_at i.readings places)) crossing_key (crossings_at test i.readings places)
  crossings_are test tests = record {
    all = λ c h.
        let word = word_of c.from h.from in
        let reader = (all_readers net domains table syncs grays i p write read met places are).only c.to h.to in
        let k = reader_place net domains table syncs grays i p write read met c.to c.from reader.register reader.clock word h.reads in
        let at = from_bits i.readings places c.to h.to in
        let same = one_place i.readings met.index.readings.ordered at.0 k.0 at.1 k.1 at.3 k.2 (at.4 ∙ sym k.3) in
        in_crossings test i.readings places k.0 k.1 c (subst (Contains places) same at.2) k.2 (sym k.3) k.4 ((tests c.from).1 (of_entries c.from h.from));
    only = λ c h.
        let k = from_crossings test i.readings places c h in
        record {
          from = of_columns c.from ((tests c.from).0 k.6);
          to = subst (Contains (bits_at i.readings places)) (sym k.4) (in_bits_at i.readings places k.0 k.1 k.2 k.3);
          reads = subst (λ (x : Bit). reads [] (next_tree net x.sig) x.at c.from ≡ true) (sym k.4) (met.index.readings.reads_are k.1 c.from (slice_in i.readings k.0 k.1 k.3) k.5);
        };
    ordered = ascending crossing_key (crossings_at test i.readings places) (crossings_ascend test i.readings met.index.readings.ordered met.index.readings.each places are.ascend);
  }
    where
      of_entries : (b : Bit) → IsOfColumns (map (column_of net.graph) columns) b → IsOfEntries columns b
      of_entries b (c, h, at) = let e = from_map (column_of net.graph) columns c h in (e.0, e.1, subst (λ (k : Column). Contains k.words b) (sym e.2) at)

      of_columns : (b : Bit) → IsOfEntries columns b → IsOfColumns (map (column_of net.graph) columns) b
      of_columns b (e, h, at) = (column_of net.graph e, in_map (column_of net.graph) columns e h, at)
