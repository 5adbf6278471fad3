-- The bits that were found to be held are all that are.
use Rattle.std.proofs.Common.{◌≡◌, ◌≢◌, ◌∙◌, ◌⊎◌, ◌↔◌, inl, inr, refl, sym, ap, subst, ℕ, ltb-true, Bool, true, false, Option, Some, None, is_some, List, [], ◌∷◌, slice_get, Contains}
use Rattle.std.specs.Prelude.{filter}
use Rattle.std.specs.List.Sorted.{IsPermutation}
use Rattle.std.proofs.lemmas.Bool.{and_parts, and_from}
use Rattle.std.proofs.lemmas.List.Elements.{Contains-append_left, Contains-append_right}
use Rattle.std.proofs.lemmas.List.Sorted.{Contains-permutation, IsPermutation-sym}
use Rattle.cdc_base.specs.declared.bit.Bit.{Bit}
use Rattle.cell_graph.specs.declared.cell.CellId.{CellId}
use Rattle.cell_graph.specs.declared.net.Net.{Net}
use Rattle.cell_graph.specs.Cofactor.{reads}
use Rattle.cell_graph.specs.Reading.{bit_eq}
use Rattle.cell_graph.proofs.Bits.{bit_eq-refl}
use Rattle.domains.specs.declared.Domains.{Domains}
use Rattle.cdc_model.specs.declared.scheme.Crossing.{Crossing}
use Rattle.cdc_model.specs.declared.scheme.GrayReg.{GrayReg}
use Rattle.cdc_model.specs.declared.scheme.Ring.{Ring as RingEntry}
use Rattle.cdc_model.specs.Design.{group}
use Rattle.cdc_model.specs.Found.{bits_read_by}
use Rattle.cdc_model.specs.Listed.{ring_entry}
use Rattle.cdc_model.specs.Nets.{next_cell, next_node_of, next_tree, bit_count, is_within, is_register_bit, design_of}
use Rattle.cdc_model.specs.Schemes.{Ring, request, last_flop}
use Rattle.cdc_model.specs.Syncs.{syncs_of}
use Rattle.cdc_model.proofs.Ascending.{parts, nothing_in, in_map, from_map, in_filter, from_filter}
use Rattle.cdc_model.proofs.ReadBits.{listed}
use Rattle.mux_recirc.specs.declared.parts.Part.{Part}
use Rattle.mux_recirc.specs.declared.questions.Question.{Question}
use Rattle.mux_recirc.specs.Given.{AreGiven, AreHeld, IsSource, IsHeldBy}
use Rattle.mux_recirc.specs.Held.{sources_among, IsAnswered, AreWithin, question_of, is_before, keeps_in}
use Rattle.mux_recirc.specs.Parts.{IsEnd, end_bits, parts_from, parts_at, rings_at, rings_among}
use Rattle.mux_recirc.specs.Questions.{IsAsked, AreBitsWithin}
use Rattle.mux_recirc.specs.Shown.{keeps}
use Rattle.mux_recirc.proofs.Crossed.{has_node, laws, are_syncs, from_within, from_group, entry_at, ring_at, before_is, with_request, request_with}
use Rattle.mux_recirc.proofs.Facts.{held_reads}
use Rattle.mux_recirc.proofs.Listed.{end_listed}
use Rattle.mux_recirc.proofs.Meaning.{keeps_true, true_keeps, held_answer, answer_held}

-- ---- rings of bits

in_rings_at : (all : List Part) (b : Bit) (n : ℕ) → Contains all (record { bit = b; ring = n }) → Contains (rings_at all b) n
in_rings_at all b n i = in_map (λ (p : Part). p.ring) (parts_at all b) (record { bit = b; ring = n }) (in_filter (λ (p : Part). bit_eq p.bit b) all (record { bit = b; ring = n }) i (bit_eq-refl b))

-- a bit that has a part in a ring brings that ring
pub in_rings : (all : List Part) (bits : List Bit) (b : Bit) (n : ℕ) → Contains bits b → Contains all (record { bit = b; ring = n }) → Contains (rings_among all bits) n
in_rings all [] b n i j = absurd (nothing_in b i)
in_rings all (x ∷ xs) b n i j = elim (parts x xs b i) [
  | inl e ↦ Contains-append_left (rings_at all x) (rings_among all xs) n (subst (λ y. Contains (rings_at all y) n) (sym e) (in_rings_at all b n j))
  | inr k ↦ Contains-append_right (rings_at all x) (rings_among all xs) n (in_rings all xs b n k j)
]

module _ (net : Net) (domains : Domains) (grays : GrayReg → Bool) (crossings : List Crossing) (rings : List Ring) (entries : List RingEntry)
    (given : AreGiven net domains grays crossings rings entries) where
  -- ---- sources

  source_to : (b : Bit) → Contains (sources_among net crossings) b → IsSource net crossings b
  source_to b i =
      let k = from_map (λ (k : Crossing). k.from) (filter (λ (k : Crossing). is_some (next_node_of net k.from)) crossings) b i in
      let f = from_filter (λ (k : Crossing). is_some (next_node_of net k.from)) crossings k.0 k.1 in (
        subst (λ x. is_register_bit net x ≡ true) k.2
            (and_from (is_some (next_cell net.regs k.0.from.sig)) (is_within net k.0.from) (sym (has_node net k.0.from) ∙ f.1) (from_within net domains grays crossings rings entries given k.0 f.0)),
        (k.0, f.0, k.2),
      )

  to_source : (b : Bit) → IsSource net crossings b → Contains (sources_among net crossings) b
  to_source b s =
      let k = s.1.0 in
      let node : is_some (next_node_of net k.from) ≡ true = ap (λ x. is_some (next_node_of net x)) s.1.2 ∙ has_node net b ∙ (and_parts (is_some (next_cell net.regs b.sig)) (is_within net b) s.0).0 in
      subst (Contains (sources_among net crossings)) s.1.2
      (in_map (λ (k : Crossing). k.from) (filter (λ (k : Crossing). is_some (next_node_of net k.from)) crossings) k (in_filter (λ (k : Crossing). is_some (next_node_of net k.from)) crossings k s.1.1 node))

  source_within : (b : Bit) → IsSource net crossings b → is_within net b ≡ true
  source_within b s = (and_parts (is_some (next_cell net.regs b.sig)) (is_within net b) s.0).1

  source_group : (b : Bit) → IsSource net crossings b → (g : ℕ) × (group (design_of net domains) b ≡ Some g)
  source_group b s = subst (λ x. (g : ℕ) × (group (design_of net domains) x ≡ Some g)) s.1.2 (from_group net domains grays crossings rings entries given s.1.0 s.1.1)

  module _ (sources : List Bit) (are : (b : Bit) → Contains sources b ↔ Contains (sources_among net crossings) b) where
    pub sources_within : AreBitsWithin net sources
    sources_within b i = ltb-true b.at (bit_count net.graph.signals b.sig) (source_within b (source_to b ((are b).0 i)))

    module _ (ends : List Part) (all_ends : IsPermutation (parts_from end_bits 0 entries) ends) (asked questions : List Question)
        (are_asked : (q : Question) → Contains asked q ↔ IsAsked net ends sources q)
        (kept : IsPermutation (filter (λ (q : Question). is_before domains entries q.ring q.bit) asked) questions) where
      abbrev before : Question → Bool
      before q = is_before domains entries q.ring q.bit

      -- ---- questions

      from_question : (q : Question) → Contains questions q → IsAsked net ends sources q × (before q ≡ true)
      from_question q i =
          let f = from_filter before asked q (Contains-permutation questions (filter before asked) q (IsPermutation-sym (filter before asked) questions kept) i) in
          ((are_asked q).0 f.0, f.1)

      pub questions_within : AreWithin net questions
      questions_within q i = sources_within q.bit (from_question q i).0.0

      -- an end that a source reads is asked about
      end_asked : (b a : Bit) (n : ℕ) (r : Ring) → IsSource net crossings b → slice_get rings n ≡ Some r → IsEnd r a → reads [] (next_tree net b.sig) b.at a ≡ true
          → group (design_of net domains) b ≡ group (design_of net domains) (request r) → Contains questions (record { ring = n; bit = b })
      end_asked b a n r s at end read same =
          let w = source_within b s in
          let c = some_cell (next_cell net.regs b.sig) (and_parts (is_some (next_cell net.regs b.sig)) (is_within net b) s.0).0 in
          let i : Contains (bits_read_by net [] b) a = (listed net given.is_net given.has_next [] b (ltb-true b.at (bit_count net.graph.signals b.sig) w) c.0 c.1).all a read in
          let j : Contains ends (record { bit = a; ring = n }) = Contains-permutation (parts_from end_bits 0 entries) ends (record { bit = a; ring = n }) all_ends
          (subst (λ es. Contains (parts_from end_bits 0 es) (record { bit = a; ring = n })) (sym given.listed) (end_listed rings n r a at end)) in
          let g = source_group b s in
          let q : Question = record { ring = n; bit = b } in
          Contains-permutation (filter before asked) questions q kept
          (in_filter before asked q ((are_asked q).1 ((are b).1 (to_source b s), in_rings ends (bits_read_by net [] b) a n i j))
          (before_is net domains grays crossings rings entries given n r b at ∙ request_with net domains grays crossings rings entries given n r b g.0 at w g.1 same))
        where
          some_cell : (o : Option CellId) → is_some o ≡ true → (c : CellId) × (o ≡ Some c)
          some_cell None h = cc
          some_cell (Some c) h = (c, refl)

      module _ (pairs : List Part) (are_pairs : (p : Part) → Contains pairs p ↔ IsAnswered net entries questions p) where
        pair_held : (p : Part) → Contains pairs p → IsHeldBy net domains rings p
        pair_held p i =
            let a = (are_pairs p).0 i in
            let q = from_question (question_of p) a.0 in
            let r = ring_at net domains grays crossings rings entries given p.ring a.1.0 a.1.1 in
            let s = source_to p.bit ((are p.bit).0 q.0.0) in (
              r.0,
              r.1,
              answer_held net domains (λ g. false) r.0 p.bit s.0
                  (with_request net domains grays crossings rings entries given p.ring r.0 p.bit r.1 (source_within p.bit s) (sym (before_is net domains grays crossings rings entries given p.ring r.0 p.bit r.1) ∙ q.1))
                  (subst (λ (e : RingEntry). keeps_in net e p.bit ≡ true) r.2 a.1.2),
            )

        held_pair : (p : Part) → IsSource net crossings p.bit → IsHeldBy net domains rings p → (design_of net domains).copied p.bit ≢ Some p.bit → Contains pairs p
        held_pair p s h other =
            let r = h.0 in
            let held = h.2 in
            (are_pairs p).1 (
              elim (held_reads net domains (λ g. false) (laws net domains grays crossings rings entries given) (syncs_of net domains) (are_syncs net domains grays crossings rings entries given) r p.bit held other) [
                | inl read ↦ end_asked p.bit (request r) p.ring r s h.1 (inl refl) read held.group
                | inr read ↦ end_asked p.bit (last_flop r.back) p.ring r s h.1 (inr refl) read held.group
              ],
              (ring_entry r, entry_at net domains grays crossings rings entries given p.ring r h.1, held_answer net domains (λ g. false) r p.bit held),
            )

        pub all_held : (constant : List Bit) → constant ≡ filter (keeps net []) sources → AreHeld net domains crossings rings constant pairs
        all_held constant e = record {
          copies = λ b i.
              let f = from_filter (keeps net []) sources b (subst (λ xs. Contains xs b) e i) in
              (source_to b ((are b).0 f.0), keeps_true net [] b f.1);
          always = always;
          held = pair_held;
          others = λ p s h. go p s h (keeps net [] p.bit) refl;
        }
          where
            always : (b : Bit) → IsSource net crossings b → (design_of net domains).copied b ≡ Some b → Contains constant b
            always b s h = subst (λ xs. Contains xs b) (sym e) (in_filter (keeps net []) sources b ((are b).1 (to_source b s)) (true_keeps net [] b h))

            go : (p : Part) → IsSource net crossings p.bit → IsHeldBy net domains rings p → (v : Bool) → keeps net [] p.bit ≡ v → Contains constant p.bit ⊎ Contains pairs p
            go p s h true f = inl (always p.bit s (keeps_true net [] p.bit f))
            go p s h false f = inr (held_pair p s h (λ k. never (sym (true_keeps net [] p.bit k) ∙ f)))
              where
                never : true ≡ false → ⊥
                never x = cc
