-- The register bits that read bits of other groups.
use Rattle.std.proofs.Common.{◌≡◌, ◌∙◌, sym, ap, ap₂, subst, refl, inl, inr, arith, ℕ, ◌+◌, ◌<◌, ◌≤◌, true, Some, None, ltb-true}
use Rattle.std.proofs.Common.{List, [], ◌∷◌, ◌++◌, length, map, slice_get, Contains}
use Rattle.std.proofs.lemmas.Bool.{and_parts, cases_lt}
use Rattle.std.proofs.lemmas.List.Elements.{Contains-append_left, Contains-push, Contains-push_cases}
use Rattle.cdc_base.specs.declared.bit.Bit.{Bit}
use Rattle.cell_graph.specs.declared.net.Net.{Net}
use Rattle.cell_graph.specs.Cofactor.{reads}
use Rattle.domains.specs.declared.Domains.{Domains}
use Rattle.domains.specs.Fit.{Fit}
use Rattle.domains.specs.Nets.{IsNet}
use Rattle.cdc_model.specs.declared.scheme.Crossing.{Crossing}
use Rattle.cdc_model.specs.Design.{differ}
use Rattle.cdc_model.specs.Found.{bits_of_signals, bits_read_by, crossings_into}
use Rattle.cdc_model.specs.Nets.{bit_count, bits_of_registers, HasNextCells, is_within, next_tree}
use Rattle.cdc_model.specs.Ordered.{is_before, IsAscending}
use Rattle.cdc_model.proofs.Ascending.{ascending, filtered_ascend, from_filter, in_filter, joined_ascend, nothing_in}
use Rattle.cdc_model.proofs.Found.{counted, in_signals, net_ascends, registers_ascend, signals_ascend}
use Rattle.cdc_model.proofs.Justify.{slice_in, in_slice}
use Rattle.cdc_model.proofs.NetDesign.{group_is}
use Rattle.cdc_model.proofs.Synced.{unlisted}
use Rattle.crossings.proofs.Exact.{into-all}
use Rattle.fifo_laws.specs.Fifos.{one_bit_key}
use Rattle.fifo_scheme.specs.declared.index.Reading.{Reading}
use Rattle.fifo_scheme.specs.Indexed.{is_apart, IsReading, reads_apart}
use Rattle.fifo_scheme.specs.Judged.{AreReadings}
use Rattle.fifo_scheme.proofs.MetColumns.{ascends}

push_ascends : {A : Type 0} (key : A → List ℕ) (xs : List A) (x : A) → IsAscending key xs
    → ((y : A) → Contains xs y → is_before (key y) (key x) ≡ true) → IsAscending key (xs ++ x ∷ [])
push_ascends {A} key xs x h before = ascending key (xs ++ x ∷ [])
    (joined_ascend key xs (x ∷ []) (ascends key xs h) ((λ y i. absurd (nothing_in y i)), tt)
    (λ y z i j. subst (λ (w : A). is_before (key y) (key w) ≡ true) (only z j) (before y i)))
  where
    only : (z : A) → Contains (x ∷ []) z → x ≡ z
    only z j = elim (Contains-push_cases [] x z j) [ inl k ↦ absurd (nothing_in z k) | inr e ↦ e ]

unmapped : {A B : Type 0} (f : A → B) (xs : List A) → map f xs ≡ [] → xs ≡ []
unmapped f [] e = refl
unmapped f (x ∷ xs) e = cc

nothing_left : (bs : List Bit) → length bs ≡ 0 → bs ≡ []
nothing_left [] e = refl
nothing_left (b ∷ bs) e = cc

module _ (net : Net) (domains : Domains) where
  from_reads : (x b : Bit) → Contains (reads_apart net domains x) b → reads [] (next_tree net x.sig) x.at b ≡ true
  from_reads x b h = (from_filter (λ c. reads [] (next_tree net x.sig) x.at c) (bits_of_signals 0 net.graph.signals) b
      (from_filter (is_apart domains x) (bits_read_by net [] x) b h).0).1

  in_reads : (x b : Bit) → b.at < bit_count net.graph.signals b.sig → is_apart domains x b ≡ true → reads [] (next_tree net x.sig) x.at b ≡ true
      → Contains (reads_apart net domains x) b
  in_reads x b within apart r =
      let s = counted net.graph.signals b.sig b.at within in
      in_filter (is_apart domains x) (bits_read_by net [] x) b
      (in_filter (λ c. reads [] (next_tree net x.sig) x.at c) (bits_of_signals 0 net.graph.signals) b
      (in_signals b 0 b.sig net.graph.signals s.0 s.1 (omega arith) s.2) r)
      apart

  reads_ascend : (x : Bit) → IsAscending one_bit_key (reads_apart net domains x)
  reads_ascend x = ascending one_bit_key (reads_apart net domains x) (filtered_ascend one_bit_key (is_apart domains x) (bits_read_by net [] x)
      (filtered_ascend one_bit_key (λ c. reads [] (next_tree net x.sig) x.at c) (bits_of_signals 0 net.graph.signals)
      (signals_ascend 0 net.graph.signals)))

  -- a bit into which nothing crosses reads no bit of another group
  pub no_crossings : IsNet net → HasNextCells net → Fit net domains → (x : Bit) → x.at < bit_count net.graph.signals x.sig → crossings_into net domains x ≡ []
      → IsReading net domains x None
  no_crossings is has fit x l none = unmapped (λ (b : Bit). let c : Crossing = record { from = b; to = x } in c) (reads_apart net domains x)
      (into-all net domains x is has fit l ∙ none)

  pub reads_none : (x : Bit) (found : List Bit) → found ≡ reads_apart net domains x → length found ≡ 0 → IsReading net domains x None
  reads_none x found e l = sym e ∙ nothing_left found l

  -- The readings are those of the first k bits.
  pub record AreReadingsBelow (bits : List Bit) (k : ℕ) (rs : List Reading) : Type 0 where
    pub only : (r : Reading) → Contains rs r → (j : ℕ) × (j < k) × (slice_get bits j ≡ Some r.bit) × (r.reads ≡ reads_apart net domains r.bit)
    pub all : (j : ℕ) (x b : Bit) → j < k → slice_get bits j ≡ Some x → Contains (reads_apart net domains x) b
        → (r : Reading) × Contains rs r × (r.bit ≡ x) × Contains r.reads b
    pub up : IsAscending (λ (r : Reading). one_bit_key r.bit) rs

  pub readings_begin : (bits : List Bit) → AreReadingsBelow bits 0 []
  readings_begin bits = record {
    only = λ r h. absurd (nothing_in r h);
    all = λ j x b l. absurd (omega arith);
    up = λ i j x y l e f. absurd (cc);
  }

  module _ (bits : List Bit) (k : ℕ) (x : Bit) (at : slice_get bits k ≡ Some x) (old : List Reading) (h : AreReadingsBelow bits k old) where
    pub readings_stay : IsReading net domains x None → AreReadingsBelow bits (k + 1) old
    readings_stay none = record {
      only = λ r i. let j = h.only r i in (j.0, (let l = j.1 in omega arith), j.2, j.3);
      all = λ j y b l there r. elim (cases_lt j k) [
        | inl m ↦ h.all j y b m there r
        | inr m ↦
            let e : j ≡ k = omega arith in
            let both : Some y ≡ Some x = sym there ∙ ap (slice_get bits) e ∙ at in
            let same : y ≡ x = cc in
            absurd (nothing_in b (subst (λ (bs : List Bit). Contains bs b) (ap (reads_apart net domains) same ∙ none) r))
      ];
      up = h.up;
    }

    pub readings_grow : IsAscending one_bit_key bits → (r : Reading) → IsReading net domains x (Some r) → AreReadingsBelow bits (k + 1) (old ++ r ∷ [])
    readings_grow ascend r is = record {
      only = λ q i. elim (Contains-push_cases old r q i) [
        | inl o ↦ (let j = h.only q o in (j.0, (let l = j.1 in omega arith), j.2, j.3))
        | inr e ↦ subst (λ (z : Reading). (j : ℕ) × (j < k + 1) × (slice_get bits j ≡ Some z.bit) × (z.reads ≡ reads_apart net domains z.bit)) e
            (k, (omega arith), at ∙ ap Some (sym is.0), is.1 ∙ ap (reads_apart net domains) (sym is.0))
      ];
      all = λ j y b l there reading. elim (cases_lt j k) [
        | inl m ↦ (let q = h.all j y b m there reading in (q.0, Contains-append_left old (r ∷ []) q.0 q.1, q.2, q.3))
        | inr m ↦
            let e : j ≡ k = omega arith in
            let both : Some y ≡ Some x = sym there ∙ ap (slice_get bits) e ∙ at in
            let same : y ≡ x = cc in (
              r,
              Contains-push old r,
              is.0 ∙ sym same,
              subst (λ (bs : List Bit). Contains bs b) (ap (reads_apart net domains) same ∙ sym is.1) reading,
            )
      ];
      up = push_ascends (λ (q : Reading). one_bit_key q.bit) old r h.up
          (λ q i. let j = h.only q i in subst (λ (z : Bit). is_before (one_bit_key q.bit) (one_bit_key z) ≡ true) (sym is.0)
          (ascend j.0 k q.bit x j.1 j.2 at));
    }

  pub readings_end : IsNet net → Fit net domains → (bits : List Bit) (k : ℕ) (rs : List Reading) → bits ≡ bits_of_registers net.graph.signals net.regs
      → length bits ≤ k → AreReadingsBelow bits k rs → AreReadings net domains rs
  readings_end is fit bits k rs e l h = record {
    only = λ r i. let j = h.only r i in subst (λ (bs : List Bit). Contains bs r.bit) e (slice_in bits j.0 r.bit j.2);
    reads_are = λ r b i c. from_reads r.bit b (subst (λ (bs : List Bit). Contains bs b) (h.only r i).3 c);
    all = λ x b i within apart r.
        let c = subst (λ (bs : List Bit). Contains bs x) (sym e) i in
        let there = (and_parts _ (is_within net x) (unlisted net is x x i)).1 in
        let other = sym (ap₂ differ (group_is net domains fit b within) (group_is net domains fit x there)) ∙ apart in
        h.all c.0 x b (let m = c.1 in omega arith) (in_slice bits x c)
        (in_reads x b (ltb-true b.at (bit_count net.graph.signals b.sig) within) other r);
    ordered = h.up;
    each = λ r i. subst (IsAscending one_bit_key) (sym (h.only r i).3) (reads_ascend r.bit);
  }

pub register_bits_ascend : (net : Net) → IsNet net → (bits : List Bit) → bits ≡ bits_of_registers net.graph.signals net.regs
    → IsAscending one_bit_key bits
register_bits_ascend net is bits e = subst (IsAscending one_bit_key) (sym e)
    (ascending one_bit_key (bits_of_registers net.graph.signals net.regs) (registers_ascend net.graph.signals net.regs (net_ascends net is)))
