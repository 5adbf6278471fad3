-- Loads under listed rings, and what the tests on a listed load mean.
use Rattle.std.proofs.Common.{◌≡◌, ◌∙◌, ◌↔◌, refl, sym, ap, ap₂, subst, arith, ℕ, suc, ◌+◌, ◌-◌, ◌<◌, ◌≤◌, ◌&&◌, ◌||◌, Bool, true, false, not, Option, Some, None, is_some, option_map, List, [], ◌∷◌, map, length, slice_get, Contains}
use Rattle.std.proofs.lemmas.Bool.{and_parts, and_from, false_from_ne_true}
use Rattle.std.proofs.lemmas.Option.{slice_get-map, slice_get_past}
use Rattle.cdc_base.specs.declared.bit.Bit.{Bit}
use Rattle.cell_graph.specs.declared.net.Net.{Net}
use Rattle.cell_graph.specs.Cofactor.{same, reads}
use Rattle.cell_graph.specs.Reading.{bit_eq}
use Rattle.cell_graph.proofs.Bits.{bit_eq-true, bit_eq-refl}
use Rattle.domains.specs.declared.Domains.{Domains}
use Rattle.domains.specs.Assignment.{group_of}
use Rattle.domains.specs.Fit.{Fit}
use Rattle.cdc_model.specs.declared.scheme.GrayReg.{GrayReg}
use Rattle.cdc_model.specs.declared.scheme.Load.{Load}
use Rattle.cdc_model.specs.declared.scheme.Ring.{Ring as RingEntry}
use Rattle.cdc_model.specs.Design.{group, are_equal, differ, at_bit}
use Rattle.cdc_model.specs.Listed.{ring_entry}
use Rattle.cdc_model.specs.Nets.{design_of, net_trees, next_cell, next_tree, is_within, is_register_bit}
use Rattle.cdc_model.specs.Schemes.{Sync, Ring, request, acknowledge, last_flop, flops, behind_request, IsRing, IsHeld, IsGate, IsBlind, IsLoad}
use Rattle.cdc_model.specs.Syncs.{copies}
use Rattle.cdc_model.proofs.Behind.{async_clock, source_clock}
use Rattle.cdc_model.proofs.Justify.{slice_in}
use Rattle.cdc_model.proofs.NetDesign.{group_is}
use Rattle.cdc_model.proofs.Rings.{ring_last}
use Rattle.mux_recirc.specs.Blind.{reads_shut}
use Rattle.mux_recirc.specs.Held.{keeps_between}
use Rattle.mux_recirc.specs.Shown.{keeps, differing, equal}
use Rattle.mux_recirc.proofs.AllBlind.{one_pair}
use Rattle.mux_recirc.proofs.Crossed.{acknowledge_there}
use Rattle.mux_recirc.proofs.Listed.{entry_there, last_there}
use Rattle.mux_recirc.proofs.Meaning.{keeps_true, true_keeps, gate_found, gate_stands}
use Rattle.mux_recirc.proofs.Plain.{together, put_together}
use Rattle.cert_check.specs.Certified.{IsLoadItem}
use Rattle.cert_check.specs.Loads.{ends_of, IsGateAt, is_between, is_guarded}
use Rattle.cert_check.specs.declared.loads.Ends.{Ends}
use Rattle.cert_check.specs.declared.loads.Gate.{Gate}
use Rattle.cert_check.proofs.Meant.{same_rings}

never : {A : Type 0} → true ≡ false → A
never e = cc

some_same : {A : Type 0} (o : Option A) (x y : A) → o ≡ Some x → o ≡ Some y → x ≡ y
some_same o x y e f = cc

-- ---- the bits of a ring

some_bit : (a b : Bit) → Some a ≡ Some b → a ≡ b
some_bit a b e = cc

module _ (e : RingEntry) (r : Ring) (is : e ≡ ring_entry r) where
  pub request_is : slice_get e.bits 0 ≡ Some (request r)
  request_is = ap (λ (x : RingEntry). slice_get x.bits 0) is

  pub acknowledge_is : slice_get e.bits e.ack ≡ Some (acknowledge r)
  acknowledge_is = ap (λ (x : RingEntry). slice_get x.bits x.ack) is ∙ acknowledge_there r

  pub last_is : slice_get e.bits (length e.bits - 1) ≡ Some (last_flop r.back)
  last_is = ap (λ (x : RingEntry). slice_get x.bits (length x.bits - 1)) is ∙ last_there (request r) (behind_request r) ∙ ap Some (ring_last r)

  -- what stands at the three places are the ring's ends
  pub ends_are : (a k l : Bit) → slice_get e.bits 0 ≡ Some a → slice_get e.bits e.ack ≡ Some k → slice_get e.bits (length e.bits - 1) ≡ Some l
      → Some (record { request = a; acknowledge = k; last = l }) ≡ Some (ends_of r)
  ends_are a k l f g h =
      let a' = some_bit a (request r) (sym f ∙ request_is) in
      let k' = some_bit k (acknowledge r) (sym g ∙ acknowledge_is) in
      let l' = some_bit l (last_flop r.back) (sym h ∙ last_is) in
      ap (λ (x : Bit). Some (ends x k l)) a' ∙ ap (λ (x : Bit). Some (ends (request r) x l)) k' ∙ ap (λ (x : Bit). Some (ends (request r) (acknowledge r) x)) l'
    where
      ends : Bit → Bit → Bit → Ends
      ends x y z = record { request = x; acknowledge = y; last = z }

  pub no_request : slice_get e.bits 0 ≡ None → ⊥
  no_request f = nothing (request r) (sym f ∙ request_is)
    where
      nothing : (b : Bit) → None ≡ Some b → ⊥
      nothing b h = cc

  pub no_acknowledge : slice_get e.bits e.ack ≡ None → ⊥
  no_acknowledge f = nothing (acknowledge r) (sym f ∙ acknowledge_is)
    where
      nothing : (b : Bit) → None ≡ Some b → ⊥
      nothing b h = cc

  pub no_last : slice_get e.bits (length e.bits - 1) ≡ None → ⊥
  no_last f = nothing (last_flop r.back) (sym f ∙ last_is)
    where
      nothing : (b : Bit) → None ≡ Some b → ⊥
      nothing b h = cc

-- the gate of a line
module _ (e : RingEntry) (place : ℕ) where
  pub gate_is : (p q : Bit) → 2 ≤ place → place < e.ack → slice_get e.bits place ≡ Some p → slice_get e.bits (place + 1) ≡ Some q → IsGateAt e place (Some (record { one = p; next = q }))
  gate_is p q l m f g = λ r is.
      gate_found r place p q l (subst (λ (x : RingEntry). place < x.ack) is m) (subst (λ (x : RingEntry). slice_get x.bits place ≡ Some p) is f)
      (subst (λ (x : RingEntry). slice_get x.bits (place + 1) ≡ Some q) is g)

  -- no gate stands in front of the second flop, or from the acknowledgement on, or where a bit is missing
  pub none_early : place < 2 → IsGateAt e place None
  none_early l = λ r p q is g. let s = gate_stands r place p q g in let m = s.0 in absurd (omega arith)

  pub none_late : e.ack ≤ place → IsGateAt e place None
  none_late l = λ r p q is g.
      let s = gate_stands r place p q g in
      let m = s.1 in
      let n : e.ack ≡ suc (length (flops r.there)) = ap (λ (x : RingEntry). x.ack) is in
      absurd (omega arith)

  pub none_one : slice_get e.bits place ≡ None → IsGateAt e place None
  none_one f = λ r p q is g. nothing p (sym f ∙ ap (λ (x : RingEntry). slice_get x.bits place) is ∙ (gate_stands r place p q g).2)
    where
      nothing : (b : Bit) → None ≡ Some b → ⊥
      nothing b h = cc

  pub none_next : slice_get e.bits (place + 1) ≡ None → IsGateAt e place None
  none_next f = λ r p q is g. nothing q (sym f ∙ ap (λ (x : RingEntry). slice_get x.bits (place + 1)) is ∙ (gate_stands r place p q g).3)
    where
      nothing : (b : Bit) → None ≡ Some b → ⊥
      nothing b h = cc

-- ---- what the tests mean

copied_from : (o : Option Bit) (b : Bit) → at_bit o (λ a. bit_eq a b) ≡ true → o ≡ Some b
copied_from None b h = cc
copied_from (Some a) b h = ap Some (bit_eq-true a b h)

within : (net : Net) (b : Bit) → is_register_bit net b ≡ true → is_within net b ≡ true
within net b h = (and_parts (is_some (next_cell net.regs b.sig)) (is_within net b) h).1

not_true : (v : Bool) → not v ≡ true → v ≡ false
not_true true h = never (sym h)
not_true false h = refl

not_false : (v : Bool) → v ≡ false → not v ≡ true
not_false true h = never h
not_false false h = refl

or_false : (u v : Bool) → (u || v) ≡ false → (u ≡ false) × (v ≡ false)
or_false true v h = never h
or_false false v h = (refl, h)

both_false : (u v : Bool) → u ≡ false → v ≡ false → (u || v) ≡ false
both_false true v e f = never e
both_false false v e f = f

-- what is asked last decides where all else holds
pub last_asked : (a b c d : Bool) → a ≡ false → b ≡ true → c ≡ true → (((not a && b) && c) && d) ≡ d
last_asked a b c d e f g = ap (λ x. ((not x && b) && c) && d) e ∙ ap (λ x. (x && c) && d) f ∙ ap (λ x. x && d) g

module _ (net : Net) (domains : Domains) (fit : Fit net domains) (grays : GrayReg → Bool) (ss : List Sync) (rs : List Ring)
    (are : (r : Ring) → Contains rs r → IsRing (design_of net domains) (net_trees net grays) ss r) (l : Load) where
  -- ---- the line and its ring

  module _ (entries : List RingEntry) (same : entries ≡ map ring_entry rs) where
    pub item_load : IsLoadItem (design_of net domains) (net_trees net grays) entries l → IsLoad (design_of net domains) (net_trees net grays) rs l
    item_load h = subst (λ xs. IsLoad (design_of net domains) (net_trees net grays) xs l) (same_rings h.0 rs (sym h.1 ∙ same)) h.2

    pub no_entry : length entries ≤ l.ring → IsLoadItem (design_of net domains) (net_trees net grays) entries l → ⊥
    no_entry past h =
        let k = (item_load h).ring in
        nothing (ring_entry k.0) (sym (slice_get_past entries l.ring past) ∙ ap (λ es. slice_get es l.ring) same ∙ entry_there rs l.ring k.0 k.1)
      where
        nothing : (e : RingEntry) → None ≡ Some e → ⊥
        nothing e f = cc

    -- the ring of the entry at the load's place
    pub entry_ring : (e : RingEntry) → slice_get entries l.ring ≡ Some e → (r : Ring) × (slice_get rs l.ring ≡ Some r) × (e ≡ ring_entry r)
    entry_ring e h = go (slice_get rs l.ring) refl (sym (ap (λ es. slice_get es l.ring) same ∙ slice_get-map ring_entry rs l.ring) ∙ h)
      where
        go : (o : Option Ring) → slice_get rs l.ring ≡ o → option_map ring_entry o ≡ Some e → (r : Ring) × (slice_get rs l.ring ≡ Some r) × (e ≡ ring_entry r)
        go None f k = cc
        go (Some r) f k = (r, f, (cc))

  module _ (r : Ring) (at : slice_get rs l.ring ≡ Some r) where
    is_ring : IsRing (design_of net domains) (net_trees net grays) ss r
    is_ring = are r (slice_in rs l.ring r at)

    held_blind : IsLoad (design_of net domains) (net_trees net grays) rs l → IsHeld (design_of net domains) (net_trees net grays) r l.from × IsBlind (design_of net domains) (net_trees net grays) r l.gate l.from l.to
    held_blind h =
        let own : h.ring.0 ≡ r = some_same (slice_get rs l.ring) h.ring.0 r h.ring.1 at in (
          subst (λ (q : Ring). IsHeld (design_of net domains) (net_trees net grays) q l.from) own h.ring.2,
          subst (λ (q : Ring). IsBlind (design_of net domains) (net_trees net grays) q l.gate l.from l.to) own h.ring.3,
        )

    -- a load leads from the one group to the other
    load_between : IsLoad (design_of net domains) (net_trees net grays) rs l → is_between net domains (ends_of r) l ≡ true
    load_between h =
        let k = held_blind h in
        let from = k.0.register in
        let to = h.crossing.register in
        let one = source_clock (design_of net domains) l.from l.to h.crossing.async in
        let other = async_clock (design_of net domains) l.from l.to h.crossing.async in
        let one_group : group (design_of net domains) l.from ≡ Some ((design_of net domains).group_of one.0) = ap (option_map (design_of net domains).group_of) one.1 in
        let other_group : group (design_of net domains) l.to ≡ Some ((design_of net domains).group_of other.0) = ap (option_map (design_of net domains).group_of) other.1 in
        let apart : differ (group_of domains l.from) (group_of domains l.to) ≡ true =
        ap₂ differ (sym (group_is net domains fit l.from (within net l.from from))) (sym (group_is net domains fit l.to (within net l.to to))) ∙ h.crossing.async in
        let before : are_equal (group_of domains l.from) (group_of domains (request r)) ≡ true =
        put_together net domains fit l.from (request r) (within net l.from from) (within net (request r) is_ring.registers.0) ((design_of net domains).group_of one.0) k.0.group (sym k.0.group ∙ one_group) in
        let behind : are_equal (group_of domains l.to) (group_of domains (acknowledge r)) ≡ true =
        put_together net domains fit l.to (acknowledge r) (within net l.to to) (within net (acknowledge r) is_ring.registers.1) ((design_of net domains).group_of other.0) k.1.group (sym k.1.group ∙ other_group) in
        all_five (is_register_bit net l.from) (is_register_bit net l.to) (differ (group_of domains l.from) (group_of domains l.to))
        (are_equal (group_of domains l.from) (group_of domains (request r))) (are_equal (group_of domains l.to) (group_of domains (acknowledge r))) from to apart before behind
      where
        all_five : (a b c d e : Bool) → a ≡ true → b ≡ true → c ≡ true → d ≡ true → e ≡ true → ((((a && b) && c) && d) && e) ≡ true
        all_five a b c d e f g h i j = and_from (((a && b) && c) && d) e (and_from ((a && b) && c) d (and_from (a && b) c (and_from a b f g) h) i) j

    between_parts : is_between net domains (ends_of r) l ≡ true → (is_register_bit net l.from ≡ true) × (is_register_bit net l.to ≡ true) × (differ (group_of domains l.from) (group_of domains l.to) ≡ true)
        × (are_equal (group_of domains l.from) (group_of domains (request r)) ≡ true) × (are_equal (group_of domains l.to) (group_of domains (acknowledge r)) ≡ true)
    between_parts h =
        let a = is_register_bit net l.from in
        let b = is_register_bit net l.to in
        let c = differ (group_of domains l.from) (group_of domains l.to) in
        let d = are_equal (group_of domains l.from) (group_of domains (request r)) in
        let e = are_equal (group_of domains l.to) (group_of domains (acknowledge r)) in
        let p = and_parts (((a && b) && c) && d) e h in
        let q = and_parts ((a && b) && c) d p.0 in
        let s = and_parts (a && b) c q.0 in
        let u = and_parts a b s.0 in
        (u.0, u.1, s.1, q.1, p.1)

    pub between_registers : is_between net domains (ends_of r) l ≡ true → (is_register_bit net l.from ≡ true) × (is_register_bit net l.to ≡ true)
    between_registers h = let p = between_parts h in (p.0, p.1)

    -- a load is guarded at the ring's gate
    load_guarded : (g : Gate) → IsGate r l.gate g.one g.next → IsLoad (design_of net domains) (net_trees net grays) rs l → is_guarded net (ends_of r) g l ≡ true
    load_guarded g gate h =
        let k = held_blind h in
        let b = k.1.gate in
        let pair = one_pair r l.gate g.one g.next b.0 b.1 gate b.2 in
        let none : copies net l.to l.from ≡ false = false_from_ne_true (copies net l.to l.from) (λ e. h.no_copy (copied_from (same [] (next_tree net l.to.sig) l.to.at) l.from e)) in
        let unread : (v : Bool) → reads (equal g.one g.next v) (next_tree net l.to.sig) l.to.at l.from ≡ false =
        λ v. subst (λ (x : Bit). reads (equal x g.next v) (next_tree net l.to.sig) l.to.at l.from ≡ false) pair.0
        (subst (λ (x : Bit). reads (equal b.0 x v) (next_tree net l.to.sig) l.to.at l.from ≡ false) pair.1 (b.3 v)) in
        let shut : reads_shut net g.one g.next l.to l.from ≡ false =
        both_false (reads (equal g.one g.next false) (next_tree net l.to.sig) l.to.at l.from) (reads (equal g.one g.next true) (next_tree net l.to.sig) l.to.at l.from) (unread false) (unread true) in
        let hold : keeps_between net (request r) (last_flop r.back) l.from ≡ true =
        and_from (keeps net (differing (request r) (last_flop r.back) true) l.from) (keeps net (differing (request r) (last_flop r.back) false) l.from)
        (true_keeps net (differing (request r) (last_flop r.back) true) l.from (k.0.holds true)) (true_keeps net (differing (request r) (last_flop r.back) false) l.from (k.0.holds false)) in
        all_four (not (copies net l.to l.from)) (reads [] (next_tree net l.to.sig) l.to.at l.from) (keeps_between net (request r) (last_flop r.back) l.from)
        (not (reads_shut net g.one g.next l.to l.from)) (not_false (copies net l.to l.from) none) h.crossing.reads hold (not_false (reads_shut net g.one g.next l.to l.from) shut)
      where
        all_four : (a b c d : Bool) → a ≡ true → b ≡ true → c ≡ true → d ≡ true → (((a && b) && c) && d) ≡ true
        all_four a b c d e f g h = and_from ((a && b) && c) d (and_from (a && b) c (and_from a b e f) g) h

    -- what is guarded between the groups is a load
    made_load : (g : Gate) → IsGate r l.gate g.one g.next → is_between net domains (ends_of r) l ≡ true → is_guarded net (ends_of r) g l ≡ true → IsLoad (design_of net domains) (net_trees net grays) rs l
    made_load g gate between guarded =
        let p = between_parts between in
        let a = not (copies net l.to l.from) in
        let b = reads [] (next_tree net l.to.sig) l.to.at l.from in
        let c = keeps_between net (request r) (last_flop r.back) l.from in
        let d = not (reads_shut net g.one g.next l.to l.from) in
        let q = and_parts ((a && b) && c) d guarded in
        let s = and_parts (a && b) c q.0 in
        let u = and_parts a b s.0 in
        let k = and_parts (keeps net (differing (request r) (last_flop r.back) true) l.from) (keeps net (differing (request r) (last_flop r.back) false) l.from) s.1 in
        let n = or_false (reads (equal g.one g.next false) (next_tree net l.to.sig) l.to.at l.from) (reads (equal g.one g.next true) (next_tree net l.to.sig) l.to.at l.from)
        (not_true (reads_shut net g.one g.next l.to l.from) q.1) in
        record {
          crossing = record {
            register = p.1;
            reads = u.1;
            async = ap₂ differ (group_is net domains fit l.from (within net l.from p.0)) (group_is net domains fit l.to (within net l.to p.1)) ∙ p.2;
          };
          no_copy = λ e. never (sym (ap (λ o. at_bit o (λ x. bit_eq x l.from)) e ∙ bit_eq-refl l.from) ∙ not_true (copies net l.to l.from) u.0);
          ring = (
            r,
            at,
            record {
              register = p.0;
              group = together net domains fit l.from (request r) (within net l.from p.0) (within net (request r) is_ring.registers.0) p.3;
              holds = held k;
            },
            record {
              group = together net domains fit l.to (acknowledge r) (within net l.to p.1) (within net (acknowledge r) is_ring.registers.1) p.4;
              gate = (g.one, g.next, gate, blind n);
            },
          );
        }
      where
        held : (keeps net (differing (request r) (last_flop r.back) true) l.from ≡ true) × (keeps net (differing (request r) (last_flop r.back) false) l.from ≡ true)
            → (v : Bool) → same ((request r, v) ∷ (last_flop r.back, not v) ∷ []) (next_tree net l.from.sig) l.from.at ≡ Some l.from
        held k true = keeps_true net (differing (request r) (last_flop r.back) true) l.from k.0
        held k false = keeps_true net (differing (request r) (last_flop r.back) false) l.from k.1

        blind : (reads (equal g.one g.next false) (next_tree net l.to.sig) l.to.at l.from ≡ false) × (reads (equal g.one g.next true) (next_tree net l.to.sig) l.to.at l.from ≡ false)
            → (v : Bool) → reads ((g.one, v) ∷ (g.next, v) ∷ []) (next_tree net l.to.sig) l.to.at l.from ≡ false
        blind n true = n.1
        blind n false = n.0

    -- ---- the line

    module _ (entries : List RingEntry) (same : entries ≡ map ring_entry rs) where
      pub not_between : is_between net domains (ends_of r) l ≡ false → IsLoadItem (design_of net domains) (net_trees net grays) entries l → ⊥
      not_between e h = never (sym (load_between (item_load entries same h)) ∙ e)

      pub no_gate : ((p q : Bit) → IsGate r l.gate p q → ⊥) → IsLoadItem (design_of net domains) (net_trees net grays) entries l → ⊥
      no_gate none h = let k = held_blind (item_load entries same h) in none k.1.gate.0 k.1.gate.1 k.1.gate.2

      pub load_if : (g : Gate) → IsGate r l.gate g.one g.next → is_between net domains (ends_of r) l ≡ true → (answer : Bool) → answer ≡ is_guarded net (ends_of r) g l
          → (answer ≡ true) ↔ IsLoadItem (design_of net domains) (net_trees net grays) entries l
      load_if g gate between answer e = (
        λ h. (rs, same, made_load g gate between (sym e ∙ h)),
        λ h. e ∙ load_guarded g gate (item_load entries same h),
      )
