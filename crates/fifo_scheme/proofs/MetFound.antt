-- What is found of two sides that a search judges, at its places.
use Rattle.std.proofs.Common.{◌≡◌, ◌∙◌, ◌↔◌, ◌⊎◌, inl, inr, sym, ap, subst, refl, arith, ℕ, ◌+◌, ◌<◌, ◌≤◌, Bool, true, Option, Some, None, option_map, option_and_then, List, [], ◌∷◌, ◌++◌, length, get_or, take, slice_get, Contains}
use Rattle.std.specs.HashMap as hash
use Rattle.std.proofs.lemmas.Bool.{cases_lt}
use Rattle.std.proofs.lemmas.List.{take_more}
use Rattle.std.proofs.lemmas.List.Elements.{Contains-append_left, Contains-push, Contains-push_cases}
use Rattle.std.proofs.lemmas.Option.{slice_get_within}
use Rattle.cdc_base.specs.contracts.bit.BitPartialEq.TheImpl as equality
use Rattle.cdc_base.specs.declared.bit.Bit.{Bit}
use Rattle.cell_graph.specs.declared.cell.Node.{Node}
use Rattle.cell_graph.specs.declared.net.Net.{Net}
use Rattle.cell_graph.specs.Origin.{TreeBit}
use Rattle.cell_graph.specs.Unfolded.{bit_of}
use Rattle.cofactor.specs.Shown.{Shown as Rows}
use Rattle.domains.specs.declared.Domains.{Domains}
use Rattle.cdc_model.specs.declared.scheme.GrayReg.{GrayReg}
use Rattle.cdc_model.specs.Nets.{design_of, is_register_bit, next_tree}
use Rattle.cdc_model.specs.Schemes.{Sync}
use Rattle.cdc_model.proofs.Justify.{slice_in}
use Rattle.gray_pointer.specs.Words.{IsIn}
use Rattle.fifo_terms.specs.Takes.{taken}
use Rattle.fifo_laws.specs.Sides.{Side, side_width}
use Rattle.fifo_laws.specs.Words.{depth_of, IsWord, IsWordBit}
use Rattle.fifo_scheme.specs.declared.index.Index.{Index}
use Rattle.fifo_scheme.specs.declared.index.Reading.{Reading}
use Rattle.fifo_scheme.specs.declared.judge.Reads.{Reads}
use Rattle.fifo_parts.specs.declared.pair.Pair.{Pair}
use Rattle.fifo_parts.specs.declared.reads.Read.{Read}
use Rattle.fifo_parts.specs.declared.words.Taking.{Taking}
use Rattle.fifo_parts.specs.Brought.{places_at}
use Rattle.fifo_parts.specs.Words.{lowest}
use Rattle.fifo_scheme.specs.Indexed.{IsIndex, IsPlaceOf}
use Rattle.fifo_scheme.specs.Judged.{ArePlaces}
use Rattle.fifo_scheme.specs.Met.{AreGathered, ArePlacesInOrder, ArePlacesOf, AreReadsOf, AreWords, IsFoundRead, IsMet, IsOne, IsTakenBy, IsOwnAt, IsOwnOn, IsValue, IsWordAt, MayRead, ReadsAt}
use Rattle.fifo_parts.specs.Words.{IsTaking, IsWordBitOf}
use Rattle.fifo_scheme.proofs.MetColumns.{same_values}
use Rattle.fifo_scheme.proofs.MetReads.{all_reads, AreReadsSoFar, found_read, no_read, read_length}
use Rattle.fifo_scheme.proofs.MetSides.{all_words, plain_shown, taking_of, wide_of}

-- ---- what a register bit takes

taking_there : (ts : List Taking) (b : Bit) (o : Option ℕ) (t : Taking) → IsPlaceOf ts b o → option_and_then (slice_get ts) o ≡ Some t → Contains ts t × (t.bit ≡ b)
taking_there ts b None t h e = cc
taking_there ts b (Some n) t h e =
    let both : Some h.0 ≡ Some t = sym h.1 ∙ e in
    let same : h.0 ≡ t = cc in
    (slice_in ts n t e, ap (λ (x : Taking). x.bit) (sym same) ∙ h.2)

taking_absent : (ts : List Taking) (b : Bit) (o : Option ℕ) → IsPlaceOf ts b o → option_and_then (slice_get ts) o ≡ None → (t : Taking) → Contains ts t → t.bit ≡ b → ⊥
taking_absent ts b None h e = h
taking_absent ts b (Some n) h e = λ t i same. let both : Some h.0 ≡ None = sym h.1 ∙ e in cc

module _ (net : Net) (domains : Domains) (syncs : List Sync) (grays : List GrayReg) (i : Index) (is : IsIndex net domains syncs grays i) (b : Bit) where
  -- what is looked up of a bit
  pub looked_up : (t : Taking) → option_and_then (slice_get i.takings) (hash.get equality.ghosts.eq i.taking_by_bit b) ≡ Some t → IsTaking net t × (t.bit ≡ b)
  looked_up t e = let k = taking_there i.takings b (hash.get equality.ghosts.eq i.taking_by_bit b) t (is.taking_at b) e in (is.takings.each t k.0, k.1)

  pub taken_there : (t : Taking) → option_and_then (slice_get i.takings) (hash.get equality.ghosts.eq i.taking_by_bit b) ≡ Some t → IsTakenBy net b (Some t.taken.node)
  taken_there t e =
      let k = looked_up t e in
      subst (λ (x : Bit). ((taken x (next_tree net x.sig) x.at).node ≡ option_map (bit_of net.graph) t.taken.node) × IsIn net.graph t.taken.node) k.1 (k.0.1.0, k.0.1.1)

  pub taken_absent : option_and_then (slice_get i.takings) (hash.get equality.ghosts.eq i.taking_by_bit b) ≡ None → is_register_bit net b ≡ true → ⊥
  taken_absent e register =
      let t = taking_of net domains i.takings is.takings b register in
      taking_absent i.takings b (hash.get equality.ghosts.eq i.taking_by_bit b) (is.taking_at b) e t.0 t.1 t.2

-- ---- places of bits on a clock

module _ (Own : ℕ → Type 0) (start : Type 0) (items : List ℕ) (k d : ℕ) (l : k < length items) (n : ℕ) (old new : List ℕ) (h : Contains old n ↔ (start ⊎ (Contains (take k items) n × Own n))) where
  pub own_put : Own (get_or items k d) → new ≡ old ++ get_or items k d ∷ [] → Contains new n ↔ (start ⊎ (Contains (take (k + 1) items) n × Own n))
  own_put own e = (
    λ c. elim (Contains-push_cases old (get_or items k d) n (subst (λ (ns : List ℕ). Contains ns n) e c)) [
      | inl a ↦ elim (h.0 a) [
        | inl s ↦ inl s
        | inr t ↦ inr (subst (λ (ns : List ℕ). Contains ns n) (sym (take_more items k d l)) (Contains-append_left (take k items) (get_or items k d ∷ []) n t.0), t.1)
      ]
      | inr a ↦ inr (subst (λ (ns : List ℕ). Contains ns n) (sym (take_more items k d l)) (subst (Contains (take k items ++ get_or items k d ∷ [])) a (Contains-push (take k items) (get_or items k d))), subst Own a own)
    ],
    λ c. subst (λ (ns : List ℕ). Contains ns n) (sym e) (elim c [
      | inl s ↦ Contains-append_left old (get_or items k d ∷ []) n (h.1 (inl s))
      | inr t ↦ elim (Contains-push_cases (take k items) (get_or items k d) n (subst (λ (ns : List ℕ). Contains ns n) (take_more items k d l) t.0)) [
        | inl a ↦ Contains-append_left old (get_or items k d ∷ []) n (h.1 (inr (a, t.1)))
        | inr a ↦ subst (Contains (old ++ get_or items k d ∷ [])) a (Contains-push old (get_or items k d))
      ]
    ]),
  )

  pub own_left : (Own (get_or items k d) → ⊥) → new ≡ old → Contains new n ↔ (start ⊎ (Contains (take (k + 1) items) n × Own n))
  own_left none e = (
    λ c. elim (h.0 (subst (λ (ns : List ℕ). Contains ns n) e c)) [
      | inl s ↦ inl s
      | inr t ↦ inr (subst (λ (ns : List ℕ). Contains ns n) (sym (take_more items k d l)) (Contains-append_left (take k items) (get_or items k d ∷ []) n t.0), t.1)
    ],
    λ c. subst (λ (ns : List ℕ). Contains ns n) (sym e) (elim c [
      | inl s ↦ h.1 (inl s)
      | inr t ↦ elim (Contains-push_cases (take k items) (get_or items k d) n (subst (λ (ns : List ℕ). Contains ns n) (take_more items k d l) t.0)) [
        | inl a ↦ h.1 (inr (a, t.1))
        | inr a ↦ absurd (none (subst Own (sym a) t.1))
      ]
    ]),
  )

-- those that read a word, by the places of those
pub reads_own : (net : Net) (domains : Domains) (i : Index) (clock : ℕ) (b : Bit) (n : ℕ) → ArePlaces (λ (r : Reading). Contains r.reads b) i.readings (places_at i.readings_by_word b)
    → (Contains (places_at i.readings_by_word b) n × IsOwnAt net domains i clock n) ↔ ReadsAt net domains i clock b n
reads_own net domains i clock b n are = (
  λ h.
      let r = (are n).0 h.0 in
      let both : Some r.0 ≡ Some h.1.0 = sym r.1 ∙ h.1.1 in
      let one : r.0 ≡ h.1.0 = cc in
      (r.0, r.1, r.2, subst (λ (q : Reading). IsOwnOn net domains clock q.bit) (sym one) h.1.2),
  λ h. ((are n).1 (h.0, h.1, h.2), (h.0, h.1, h.3)),
)

module _ (net : Net) (domains : Domains) (table : Rows) (syncs : List Sync) (grays : List GrayReg) (i : Index) (p : Pair) (write read : Side) (met : IsMet net domains table syncs grays i p write read) where
  -- ---- words

  pub word_there : (place : ℕ) (t : Taking) → slice_get i.takings place ≡ Some t → IsWord (design_of net domains) (next_tree net) write read t.bit → IsOne (IsWordAt net domains i write read place) (Some t.bit)
  word_there place t at word = (
    (t, at, refl, word),
    λ b h. let both : Some h.0 ≡ Some t = sym h.1 ∙ at in let same : h.0 ≡ t = cc in h.2 ∙ ap (λ (x : Taking). x.bit) same,
  )

  pub no_word : (place : ℕ) (t : Taking) → slice_get i.takings place ≡ Some t → (IsWord (design_of net domains) (next_tree net) write read t.bit → ⊥) → IsOne (IsWordAt net domains i write read place) None
  no_word place t at none b h =
      let both : Some h.0 ≡ Some t = sym h.1 ∙ at in
      let same : h.0 ≡ t = cc in
      none (subst (λ (x : Taking). IsWord (design_of net domains) (next_tree net) write read x.bit) same h.3)

  pub taking_met : (place : ℕ) (t : Taking) → slice_get i.takings place ≡ Some t → IsTaking net t
  taking_met place t at = met.index.takings.each t (slice_in i.takings place t at)

  pub words_end : (items : List ℕ) (words : List Bit) → items ≡ places_at i.takings_by_count (lowest p.write.side.now.reg.count) → AreGathered (IsWordAt net domains i write read) items words → AreWords net domains write read words
  words_end items words e h = all_words net domains (plain_shown net table met.shown) syncs grays i met.index write read met.listed (wide_of net domains p.write.side.now write met.pair.write_tells.side).0 words
      (subst (λ (ns : List ℕ). AreGathered (IsWordAt net domains i write read) ns words) (e ∙ ap (λ (g : GrayReg). places_at i.takings_by_count (lowest g.count)) (sym met.pair.write_tells.side.reg)) h)

  -- ---- reads

  wide : (2 ≤ side_width (design_of net domains) read) × (side_width (design_of net domains) read ≤ 11)
  wide = let w = wide_of net domains p.read.side.now read met.pair.read_tells.side in (w.0, w.1)

  same : side_width (design_of net domains) read ≡ side_width (design_of net domains) write
  same = (wide_of net domains p.read.side.now read met.pair.read_tells.side).2 ∙ sym met.pair.one_width ∙ sym (wide_of net domains p.write.side.now write met.pair.write_tells.side).2

  pub length_met : (place : ℕ) (r : Read) → slice_get i.reads place ≡ Some r → r.count ≡ read.reg.count → length r.words ≡ depth_of (design_of net domains) write
  length_met place r at count = read_length net domains i write read met.index.reads wide same place r at count

  pub read_there : (place : ℕ) (r : Read) (value : Option Node) → slice_get i.reads place ≡ Some r → r.count ≡ read.reg.count → IsValue net domains write read r.words (Some value)
      → IsFoundRead net domains i write read place (Some (record { node = r.node; value = value }))
  read_there place r value at count is = found_read net domains i write read met.index.reads wide same place r value at count is

  pub read_absent : (place : ℕ) (r : Read) → slice_get i.reads place ≡ Some r → IsValue net domains write read r.words None → IsFoundRead net domains i write read place None
  read_absent place r at none = no_read net domains i write read met.index.reads wide same place r at none

  -- the reads at the places have the count
  pub counted_at : (items : List ℕ) → items ≡ places_at i.reads_by_count (lowest p.read.side.now.reg.count) → (n : ℕ) → Contains items n → (r : Read) → slice_get i.reads n ≡ Some r → r.count ≡ read.reg.count
  counted_at items e n h r at =
      let k = (met.index.reads_at p.read.side.now.reg.count n).0 (subst (λ (ns : List ℕ). Contains ns n) e h) in
      let both : Some k.0 ≡ Some r = sym k.1 ∙ at in
      let one : k.0 ≡ r = cc in
      ap (λ (x : Read). x.count) (sym one) ∙ k.2 ∙ ap (λ (g : GrayReg). g.count) (sym met.pair.read_tells.side.reg)

  pub reads_end : (items : List ℕ) (reads : Reads) → items ≡ places_at i.reads_by_count (lowest p.read.side.now.reg.count) → AreReadsSoFar net domains i write read items reads → AreReadsOf net domains i write read reads
  reads_end items reads e h = all_reads net domains i write read met.index.reads wide same items reads
      (subst (λ (ns : List ℕ). (n : ℕ) → Contains ns n ↔ ((x : Read) × (slice_get i.reads n ≡ Some x) × (x.count ≡ read.reg.count)))
      (ap (λ (g : GrayReg). places_at i.reads_by_count (lowest g.count)) met.pair.read_tells.side.reg ∙ sym e) (met.index.reads_at read.reg.count)) h

  -- ---- values

  pub value_none : (words : List Bit) (first : Bit) → slice_get words 0 ≡ Some first → IsTakenBy net first None → IsValue net domains write read words None
  value_none words first at none c e h = none (h.words 0 first (ap (λ (ws : List Bit). slice_get ws 0) e ∙ at)).register

  pub value_left : (words : List Bit) (first m : Bit) (value : Option Node) (k : ℕ) → slice_get words 0 ≡ Some first → IsTakenBy net first (Some value) → slice_get words k ≡ Some m
      → (IsWordBit (design_of net domains) (next_tree net) write read k (option_map (bit_of net.graph) value) m → ⊥) → IsValue net domains write read words None
  value_left words first m value k at is there none c e h =
      let v = sym (h.words 0 first (ap (λ (ws : List Bit). slice_get ws 0) e ∙ at)).takes ∙ is.0 in
      none (subst (λ (x : TreeBit). IsWordBit (design_of net domains) (next_tree net) write read k x m) v (h.words k m (ap (λ (ws : List Bit). slice_get ws k) e ∙ there)))

  pub value_some : (words : List Bit) (value : Option Node) (n : ℕ) → length words ≡ depth_of (design_of net domains) write → IsIn net.graph value → length words ≤ n
      → ((k : ℕ) (m : Bit) → k < n → slice_get words k ≡ Some m → IsWordBit (design_of net domains) (next_tree net) write read k (option_map (bit_of net.graph) value) m) → IsValue net domains write read words (Some value)
  value_some words value n depth within l h = (
    record {
      depth = depth;
      words = λ k m at. h k m (let w = slice_get_within words k m at in omega arith) at;
    },
    within,
  )

  pub value_more : (words : List Bit) (value : Option Node) (n : ℕ) (b : Bit) → slice_get words n ≡ Some b → IsWordBit (design_of net domains) (next_tree net) write read n (option_map (bit_of net.graph) value) b
      → ((k : ℕ) (m : Bit) → k < n → slice_get words k ≡ Some m → IsWordBit (design_of net domains) (next_tree net) write read k (option_map (bit_of net.graph) value) m)
      → (k : ℕ) (m : Bit) → k < n + 1 → slice_get words k ≡ Some m → IsWordBit (design_of net domains) (next_tree net) write read k (option_map (bit_of net.graph) value) m
  value_more words value n b there is h k m l at = elim (cases_lt k n) [
    | inl less ↦ h k m less at
    | inr more ↦
        let e : n ≡ k = omega arith in
        let both : Some b ≡ Some m = sym there ∙ ap (slice_get words) e ∙ at in
        let one : b ≡ m = cc in
        subst (λ (x : ℕ). IsWordBit (design_of net domains) (next_tree net) write read x (option_map (bit_of net.graph) value) m) e
        (subst (λ (x : Bit). IsWordBit (design_of net domains) (next_tree net) write read n (option_map (bit_of net.graph) value) x) one is)
  ]

  -- ---- what is taken

  pub takes_is : (b : Bit) (t : Taking) (value : Option Node) (word : ℕ) (answer : Bool) → option_and_then (slice_get i.takings) (hash.get equality.ghosts.eq i.taking_by_bit b) ≡ Some t → t.taken.node ≡ value
      → (IsTaking net t → (answer ≡ true) ↔ IsWordBitOf net domains write read word t) → (answer ≡ true) ↔ IsWordBit (design_of net domains) (next_tree net) write read word (option_map (bit_of net.graph) value) b
  takes_is b t value word answer e same h =
      let k = looked_up net domains syncs grays i met.index b t e in
      subst (λ (x : Bit). (answer ≡ true) ↔ IsWordBit (design_of net domains) (next_tree net) write read word (option_map (bit_of net.graph) value) x) k.1
      (subst (λ (v : Option Node). (answer ≡ true) ↔ IsWordBit (design_of net domains) (next_tree net) write read word (option_map (bit_of net.graph) v) t.bit) same (h k.0))

  pub takes_other : (b : Bit) (t : Taking) (value : Option Node) (word : ℕ) → option_and_then (slice_get i.takings) (hash.get equality.ghosts.eq i.taking_by_bit b) ≡ Some t → (t.taken.node ≡ value → ⊥) → IsIn net.graph value
      → IsWordBit (design_of net domains) (next_tree net) write read word (option_map (bit_of net.graph) value) b → ⊥
  takes_other b t value word e other within h =
      let k = taken_there net domains syncs grays i met.index b t e in
      other (same_values net (plain_shown net table met.shown) t.taken.node value k.1 within (sym k.0 ∙ h.takes))

  pub takes_nothing : (b : Bit) (value : Option Node) (word : ℕ) → option_and_then (slice_get i.takings) (hash.get equality.ghosts.eq i.taking_by_bit b) ≡ None
      → IsWordBit (design_of net domains) (next_tree net) write read word (option_map (bit_of net.graph) value) b → ⊥
  takes_nothing b value word e h = taken_absent net domains syncs grays i met.index b e h.register

  -- ---- candidates

  pub candidates_end : (words : List Bit) (gathered places : List ℕ) → AreGathered (ReadsAt net domains i p.read.side.now.clock) words gathered → ((n : ℕ) → Contains places n ↔ Contains gathered n) → ArePlacesInOrder places
      → ArePlacesOf i (MayRead net domains p.read.side.now.clock words) places
  candidates_end words gathered places h same up = record {
    ascend = up;
    only = λ n at. let w = (h n).0 ((same n).0 at) in (w.2.0, w.2.1, (w.2.3, (w.0, w.1, w.2.2)));
    all = λ n r at may. (same n).1 ((h n).1 (may.1.0, may.1.1, (r, at, may.1.2, may.0)));
  }
