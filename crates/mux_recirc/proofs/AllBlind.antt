-- The ends that were found to be blind are all that are.
use Rattle.std.proofs.Common.{◌≡◌, ◌∙◌, ◌↔◌, inl, inr, refl, sym, ap, ap₂, subst, arith, ℕ, suc, ◌+◌, ◌<◌, ◌==◌, eqb-true, eq-eqb, ltb-true, Bool, true, false, not, ◌||◌, Option, Some, None, is_some, List, [], map, slice_get, Contains}
use Rattle.std.specs.Prelude.{filter}
use Rattle.std.specs.List.Sorted.{IsPermutation}
use Rattle.std.proofs.lemmas.Bool.{and_parts, and_from}
use Rattle.std.proofs.lemmas.List.Sorted.{Contains-permutation, IsPermutation-sym}
use Rattle.cdc_base.specs.declared.bit.Bit.{Bit}
use Rattle.cell_graph.specs.declared.cell.CellId.{CellId}
use Rattle.cell_graph.specs.declared.net.Net.{Net}
use Rattle.cell_graph.specs.Cofactor.{same, reads}
use Rattle.domains.specs.declared.Domains.{Domains}
use Rattle.domains.specs.Assignment.{group_of}
use Rattle.cdc_model.specs.declared.scheme.Crossing.{Crossing}
use Rattle.cdc_model.specs.declared.scheme.GrayReg.{GrayReg}
use Rattle.cdc_model.specs.declared.scheme.Ring.{Ring as RingEntry}
use Rattle.cdc_model.specs.Design.{group, are_equal}
use Rattle.cdc_model.specs.Found.{bits_read_by}
use Rattle.cdc_model.specs.Listed.{ring_entry}
use Rattle.cdc_model.specs.Nets.{next_cell, next_tree, bit_count, is_within, design_of}
use Rattle.cdc_model.specs.Schemes.{Ring, request, acknowledge, IsGate, IsBlind}
use Rattle.cdc_model.specs.Syncs.{syncs_of}
use Rattle.cdc_model.proofs.Ascending.{in_map, from_map, in_filter, from_filter}
use Rattle.cdc_model.proofs.Justify.{slice_in}
use Rattle.cdc_model.proofs.ReadBits.{listed}
use Rattle.mux_recirc.specs.declared.blind.Blind.{Blind}
use Rattle.mux_recirc.specs.declared.parts.Part.{Part}
use Rattle.mux_recirc.specs.declared.questions.Question.{Question}
use Rattle.mux_recirc.specs.Blind.{keeps_shut, reads_shut, is_behind, IsBlindInto, IsBlindAmong}
use Rattle.mux_recirc.specs.Given.{AreGiven, AreBlind, IsBlindAt, Recirculates, plain_trees}
use Rattle.mux_recirc.specs.Held.{AreWithin}
use Rattle.mux_recirc.specs.Parts.{MayGate, gate_bits, parts_from}
use Rattle.mux_recirc.specs.Questions.{IsAsked, AreBitsWithin, questions_on}
use Rattle.mux_recirc.specs.Shown.{keeps, equal}
use Rattle.mux_recirc.proofs.Added.{same_item}
use Rattle.mux_recirc.proofs.AllHeld.{in_rings}
use Rattle.mux_recirc.proofs.Crossed.{laws, are_syncs, is_crossing, from_within, to_within, from_group, to_group, entry_at, ring_at, behind_is, with_request, with_acknowledge, request_with, acknowledge_with}
use Rattle.mux_recirc.proofs.Facts.{blind_reads}
use Rattle.mux_recirc.proofs.Listed.{gate_listed}
use Rattle.mux_recirc.proofs.Meaning.{keeps_true, true_keeps, gate_found, gate_stands}

not_true : (v : Bool) → not v ≡ true → v ≡ false
not_true true h = cc
not_true false h = refl

neither : (u v : Bool) → not (u || v) ≡ true → (u ≡ false) × (v ≡ false)
neither true v h = cc
neither false true h = cc
neither false false h = (refl, refl)

from_neither : (u v : Bool) → u ≡ false → v ≡ false → not (u || v) ≡ true
from_neither u v e f = ap₂ (λ x y. not (x || y)) e f

pub same_bools : (u v : Bool) → (u ≡ true → v ≡ true) → (v ≡ true → u ≡ true) → u ≡ v
same_bools true v f g = sym (f refl)
same_bools false true f g = g refl
same_bools false false f g = refl

unread : (net : Net) (p q x a : Bit) → (reads (equal p q false) (next_tree net x.sig) x.at a ≡ false) × (reads (equal p q true) (next_tree net x.sig) x.at a ≡ false)
    → (v : Bool) → reads (equal p q v) (next_tree net x.sig) x.at a ≡ false
unread net p q x a h true = h.1
unread net p q x a h false = h.0

-- ---- at a gate

-- a gate has one pair of bits
pub one_pair : (r : Ring) (place : ℕ) (p q a b : Bit) → IsGate r place p q → IsGate r place a b → (a ≡ p) × (b ≡ q)
one_pair r place p q a b g h =
    let s = gate_stands r place p q g in
    let t = gate_stands r place a b h in
    (same_item _ a p t.2 s.2, same_item _ b q t.3 s.3)

module _ (net : Net) (r : Ring) (place : ℕ) (p q x : Bit) (g : IsGate r place p q) where
  -- the test on the gate's bits is that the end keeps its value
  pub keeps_recirculates : keeps_shut net p q x ≡ true → Recirculates (plain_trees net) r place x
  keeps_recirculates h a b k v =
      let e = one_pair r place p q a b g k in
      let both = and_parts (keeps net (equal p q false) x) (keeps net (equal p q true) x) h in
      subst (λ (c : Bit). same (equal c b v) (next_tree net x.sig) x.at ≡ Some x) (sym e.0)
      (subst (λ (c : Bit). same (equal p c v) (next_tree net x.sig) x.at ≡ Some x) (sym e.1) (each v both))
    where
      each : (w : Bool) → (keeps net (equal p q false) x ≡ true) × (keeps net (equal p q true) x ≡ true) → same (equal p q w) (next_tree net x.sig) x.at ≡ Some x
      each true s = keeps_true net (equal p q true) x s.1
      each false s = keeps_true net (equal p q false) x s.0

  pub recirculates_keeps : Recirculates (plain_trees net) r place x → keeps_shut net p q x ≡ true
  recirculates_keeps h = and_from (keeps net (equal p q false) x) (keeps net (equal p q true) x) (true_keeps net (equal p q false) x (h p q g false)) (true_keeps net (equal p q true) x (h p q g true))

module _ (net : Net) (domains : Domains) (grays : GrayReg → Bool) (crossings : List Crossing) (rings : List Ring) (entries : List RingEntry)
    (given : AreGiven net domains grays crossings rings entries) where
  -- ---- ends

  module _ (ends : List Bit) (are : (b : Bit) → Contains ends b ↔ Contains (map (λ (k : Crossing). k.to) crossings) b) where
    end_within : (b : Bit) → Contains ends b → is_within net b ≡ true
    end_within b i =
        let k = from_map (λ (k : Crossing). k.to) crossings b ((are b).0 i) in
        subst (λ x. is_within net x ≡ true) k.2 (to_within net domains grays crossings rings entries given k.0 k.1)

    pub ends_within : AreBitsWithin net ends
    ends_within b i = ltb-true b.at (bit_count net.graph.signals b.sig) (end_within b i)

    module _ (gates : List Part) (all_gates : IsPermutation (parts_from gate_bits 0 entries) gates) (asked questions : List Question)
        (are_asked : (q : Question) → Contains asked q ↔ IsAsked net gates ends q)
        (kept : IsPermutation (filter (λ (q : Question). is_behind domains entries q.ring q.bit) asked) questions) where
      abbrev behind : Question → Bool
      behind q = is_behind domains entries q.ring q.bit

      from_question : (q : Question) → Contains questions q → IsAsked net gates ends q × (behind q ≡ true)
      from_question q i =
          let f = from_filter behind asked q (Contains-permutation questions (filter behind asked) q (IsPermutation-sym (filter behind asked) questions kept) i) in
          ((are_asked q).0 f.0, f.1)

      pub questions_within : AreWithin net questions
      questions_within q i = ends_within q.bit (from_question q i).0.0

      -- an end that reads a gate's bit is asked about
      gate_asked : (k : Crossing) (a : Bit) (n : ℕ) (r : Ring) → Contains crossings k → slice_get rings n ≡ Some r → MayGate r a → reads [] (next_tree net k.to.sig) k.to.at a ≡ true
          → group (design_of net domains) k.to ≡ group (design_of net domains) (acknowledge r) → Contains questions (record { ring = n; bit = k.to })
      gate_asked k a n r i at may read same =
          let b = k.to in
          let w = to_within net domains grays crossings rings entries given k i in
          let c = some_cell (next_cell net.regs b.sig) (and_parts (is_some (next_cell net.regs b.sig)) (is_within net b) (is_crossing net domains grays crossings rings entries given k i).register).0 in
          let j : Contains (bits_read_by net [] b) a = (listed net given.is_net given.has_next [] b (ltb-true b.at (bit_count net.graph.signals b.sig) w) c.0 c.1).all a read in
          let l : Contains gates (record { bit = a; ring = n }) = Contains-permutation (parts_from gate_bits 0 entries) gates (record { bit = a; ring = n }) all_gates
          (subst (λ es. Contains (parts_from gate_bits 0 es) (record { bit = a; ring = n })) (sym given.listed) (gate_listed rings n r a at may)) in
          let g = to_group net domains grays crossings rings entries given k i in
          let q : Question = record { ring = n; bit = b } in
          Contains-permutation (filter behind asked) questions q kept
          (in_filter behind asked q ((are_asked q).1 ((are b).1 (in_map (λ (k : Crossing). k.to) crossings k i), in_rings gates (bits_read_by net [] b) a n j l))
          (behind_is net domains grays crossings rings entries given n r b at ∙ acknowledge_with net domains grays crossings rings entries given n r b g.0 at w g.1 same))
        where
          some_cell : (o : Option CellId) → is_some o ≡ true → (c : CellId) × (o ≡ Some c)
          some_cell None h = cc
          some_cell (Some c) h = (c, refl)

      -- ---- what was found is so

      end_question : (n : ℕ) (x : Bit) → Contains (map (λ (q : Question). q.bit) (questions_on questions n)) x → Contains questions (record { ring = n; bit = x })
      end_question n x i =
          let q = from_map (λ (q : Question). q.bit) (questions_on questions n) x i in
          let f = from_filter (λ (q : Question). q.ring == n) questions q.0 q.1 in
          subst (Contains questions) (ap₂ question (eqb-true q.0.ring n f.1) q.2) f.0
        where
          question : ℕ → Bit → Question
          question m b = record { ring = m; bit = b }

      question_end : (n : ℕ) (x : Bit) → Contains questions (record { ring = n; bit = x }) → Contains (map (λ (q : Question). q.bit) (questions_on questions n)) x
      question_end n x i =
          let q : Question = record { ring = n; bit = x } in
          in_map (λ (q : Question). q.bit) (questions_on questions n) q (in_filter (λ (q : Question). q.ring == n) questions q i (eq-eqb n n refl))

      found_blind : (b : Blind) → IsBlindAmong net domains crossings entries questions b → IsBlindAt net domains crossings rings b
      found_blind b (n, e, at, (request_bit, first, (place, low, high, (p, q, one, other, (x, i, into))))) =
          let r = ring_at net domains grays crossings rings entries given n e at in
          let k = into.crossing in
          let there = slice_in crossings b.crossing k into.at in
          let asked_end = from_question (record { ring = n; bit = x }) (end_question n x i) in
          let gate : IsGate r.0 place p q = gate_found r.0 place p q low (subst (λ (f : RingEntry). place < f.ack) r.2 high) (subst (λ (f : RingEntry). slice_get f.bits place ≡ Some p) r.2 one)
          (subst (λ (f : RingEntry). slice_get f.bits (place + 1) ≡ Some q) r.2 other) in
          let is_request : request_bit ≡ request r.0 = same_item _ request_bit (request r.0) (subst (λ (f : RingEntry). slice_get f.bits 0 ≡ Some request_bit) r.2 first) refl in
          let tests = and_parts (not (reads_shut net p q x k.from)) (are_equal (group_of domains k.from) (group_of domains request_bit)) into.blind in
          let apart = neither (reads (equal p q false) (next_tree net x.sig) x.at k.from) (reads (equal p q true) (next_tree net x.sig) x.at k.from) tests.0 in
          let behind_ring : group (design_of net domains) x ≡ group (design_of net domains) (acknowledge r.0) =
          with_acknowledge net domains grays crossings rings entries given n r.0 x r.1 (subst (λ y. is_within net y ≡ true) into.to (to_within net domains grays crossings rings entries given k there))
          (sym (behind_is net domains grays crossings rings entries given n r.0 x r.1) ∙ asked_end.1) in
          let before_ring : group (design_of net domains) k.from ≡ group (design_of net domains) (request r.0) =
          with_request net domains grays crossings rings entries given n r.0 k.from r.1 (from_within net domains grays crossings rings entries given k there)
          (subst (λ y. are_equal (group_of domains k.from) (group_of domains y) ≡ true) is_request tests.1) in (
            k,
            r.0,
            into.at,
            ap (slice_get rings) into.ring ∙ r.1,
            record { from = before_ring; to = ap (group (design_of net domains)) into.to ∙ behind_ring },
            subst (λ g. IsBlind (design_of net domains) (plain_trees net) r.0 g k.from k.to) (sym into.gate_place)
                (subst (λ y. IsBlind (design_of net domains) (plain_trees net) r.0 place k.from y) (sym into.to) (record { group = behind_ring; gate = (p, q, gate, unread net p q x k.from apart) })),
            subst (λ g. (b.recirculating ≡ true) ↔ Recirculates (plain_trees net) r.0 g k.to) (sym into.gate_place)
                (subst (λ y. (b.recirculating ≡ true) ↔ Recirculates (plain_trees net) r.0 place y) (sym into.to) (
                  λ h. keeps_recirculates net r.0 place p q x gate (sym into.recirculates ∙ h),
                  λ h. into.recirculates ∙ recirculates_keeps net r.0 place p q x gate h,
                )),
          )

      -- ---- and what is so was found

      blind_found : (b : Blind) → IsBlindAt net domains crossings rings b → IsBlindAmong net domains crossings entries questions b
      blind_found b (k, r, at, ring, between, blind, recirculates) =
          let there = slice_in crossings b.crossing k at in
          let p = blind.gate.0 in
          let q = blind.gate.1 in
          let gate = blind.gate.2 in
          let s = gate_stands r b.gate p q gate in
          let c = is_crossing net domains grays crossings rings entries given k there in
          let g = from_group net domains grays crossings rings entries given k there in
          let i : Contains questions (record { ring = b.ring; bit = k.to }) = elim (blind_reads net domains (λ g. false) (laws net domains grays crossings rings entries given) (syncs_of net domains)
          (are_syncs net domains grays crossings rings entries given) k.from k.to p q c.reads blind.gate.3) [
            | inl read ↦ gate_asked k p b.ring r there ring (b.gate, gate.behind_first, gate.one) read between.to
            | inr read ↦ gate_asked k q b.ring r there ring (suc b.gate, (let l = gate.behind_first in omega arith), gate.next) read between.to
          ] in
          let into : IsBlindInto net domains crossings (record { ring = b.ring; place = b.gate; request = request r }) p q k.to b = record {
            crossing = k;
            at = at;
            to = refl;
            ring = refl;
            gate_place = refl;
            recirculates = same_bools b.recirculating (keeps_shut net p q k.to) (λ h. recirculates_keeps net r b.gate p q k.to gate (recirculates.0 h))
                (λ h. recirculates.1 (keeps_recirculates net r b.gate p q k.to gate h));
            blind = and_from (not (reads_shut net p q k.to k.from)) (are_equal (group_of domains k.from) (group_of domains (request r)))
                (from_neither (reads (equal p q false) (next_tree net k.to.sig) k.to.at k.from) (reads (equal p q true) (next_tree net k.to.sig) k.to.at k.from) (blind.gate.3 false) (blind.gate.3 true))
                (request_with net domains grays crossings rings entries given b.ring r k.from g.0 ring (from_within net domains grays crossings rings entries given k there) g.1 between.from);
          } in (
            b.ring,
            ring_entry r,
            entry_at net domains grays crossings rings entries given b.ring r ring,
            (request r, refl, (b.gate, s.0, s.1, (p, q, s.2, s.3, (k.to, question_end b.ring k.to i, into)))),
          )

      pub all_blind : (found : List Blind) → ((b : Blind) → Contains found b ↔ IsBlindAmong net domains crossings entries questions b) → AreBlind net domains crossings rings found
      all_blind found are_found b = (λ i. found_blind b ((are_found b).0 i), λ h. (are_found b).1 (blind_found b h))
