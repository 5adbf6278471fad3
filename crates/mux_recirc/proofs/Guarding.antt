-- What guards keep of crossings and rings: the first ring that is blind or holds, and the first load.
use Rattle.std.proofs.Common.{◌≡◌, ◌∙◌, ◌⊎◌, ◌↔◌, inl, inr, refl, sym, ap, ap₂, subst, arith, ℕ, get_or, ◌+◌, ◌<◌, ◌≤◌, ◌==◌, eqb-true, eq-eqb, Bool, true, false, Some, None, List, [], ◌∷◌, map, length, slice_get, Contains, Ordering, Less, Equal}
use Rattle.std.specs.Ordering.{is_lt, ordering_then}
use Rattle.std.proofs.lemmas.Bool.{cases_lt}
use Rattle.std.proofs.lemmas.Option.{slice_get-get_or}
use Rattle.cdc_base.specs.declared.bit.Bit.{Bit}
use Rattle.cell_graph.specs.declared.net.Net.{Net}
use Rattle.domains.specs.declared.Domains.{Domains}
use Rattle.cdc_model.specs.declared.scheme.Crossing.{Crossing}
use Rattle.cdc_model.specs.declared.scheme.Load.{Load}
use Rattle.cdc_model.specs.declared.scheme.Ring.{Ring as RingEntry}
use Rattle.cdc_model.specs.Listed.{ring_entry}
use Rattle.cdc_model.specs.Nets.{design_of}
use Rattle.cdc_model.specs.Schemes.{IsHeld, IsGate, IsBlind, Ring}
use Rattle.cdc_model.specs.Syncs.{syncs_of}
use Rattle.cdc_model.specs.Verdict.{IsBetween, HoldsUnder, BlindUnder, IsFirstRing, IsFirstLoad}
use Rattle.cdc_model.proofs.Ascending.{in_filter, from_filter}
use Rattle.cdc_model.proofs.Justify.{slice_in, in_slice}
use Rattle.mux_recirc.specs.contracts.blind.BlindOrd.TheImpl as blind_order
use Rattle.mux_recirc.specs.declared.blind.Blind.{Blind}
use Rattle.mux_recirc.specs.declared.guards.Guards.{Guards}
use Rattle.mux_recirc.specs.Blind.{keeps_shut}
use Rattle.mux_recirc.specs.Given.{AreGuards, IsBlindAt, Recirculates, IsFirstOf, IsLoadAt, blind_at, plain_trees}
use Rattle.mux_recirc.proofs.Added.{same_item}
use Rattle.mux_recirc.proofs.AllBlind.{one_pair, keeps_recirculates, recirculates_keeps, same_bools}
use Rattle.mux_recirc.proofs.Crossed.{laws, are_syncs, is_crossing, is_ring}
use Rattle.mux_recirc.proofs.Facts.{constant_held, blind_no_copy}
use Rattle.mux_recirc.proofs.Orders.{never_less, kept_sorted, blind_total}
use Rattle.mux_recirc.proofs.Search.{equal_to, below}

-- ---- places in sorted lists

never : {A : Type 0} → true ≡ false → A
never e = cc

pub empty_of : {A : Type 0} (xs : List A) (x : A) → slice_get xs 0 ≡ None → Contains xs x → ⊥
empty_of [] x e i = absurd (let l = i.1 in omega arith)
empty_of (y ∷ ys) x e i = cc

second_less : (o p q : Ordering) → o ≡ Equal → p ≡ Less → is_lt (ordering_then o (ordering_then p q)) ≡ true
second_less o p q e f = ap₂ (λ x y. is_lt (ordering_then x (ordering_then y q))) e f

third_less : (o p q r : Ordering) → o ≡ Equal → p ≡ Equal → q ≡ Less → is_lt (ordering_then o (ordering_then p (ordering_then q r))) ≡ true
third_less o p q r e f g = ap₂ (λ x y. is_lt (ordering_then x (ordering_then y (ordering_then q r)))) e f ∙ ap (λ x. is_lt (ordering_then x r)) g

less_ring : (b c : Blind) → b.crossing ≡ c.crossing → b.ring < c.ring → is_lt (blind_order.ghosts.cmp b c) ≡ true
less_ring b c e l = second_less _ _ _ (equal_to b.crossing c.crossing (sym e)) (below b.ring c.ring l)

less_gate : (b c : Blind) → b.crossing ≡ c.crossing → b.ring ≡ c.ring → b.gate < c.gate → is_lt (blind_order.ghosts.cmp b c) ≡ true
less_gate b c e f l = third_less _ _ _ _ (equal_to b.crossing c.crossing (sym e)) (equal_to b.ring c.ring (sym f)) (below b.gate c.gate l)

-- in a sorted list what comes before stands in front
pub in_front_of : {A : Type 0} (cmp : A → A → Ordering) (xs : List A) → ((i j : ℕ) (x y : A) → i ≤ j → slice_get xs i ≡ Some x → slice_get xs j ≡ Some y → is_lt (cmp y x) ≡ false)
    → (i j : ℕ) (x y : A) → slice_get xs i ≡ Some x → slice_get xs j ≡ Some y → is_lt (cmp y x) ≡ true → j < i
in_front_of cmp xs ordered i j x y e f less = elim (cases_lt j i) [ inl l ↦ l | inr l ↦ never (sym less ∙ ordered i j x y l e f) ]

-- ---- what is known to be held

-- the ring with that number holds the bit
abbrev pub Serves : Guards → Bit → ℕ → Type 0
Serves guards b n = Contains guards.held.constant.items b ⊎ Contains guards.held.pairs.items (record { bit = b; ring = n })

-- none of the first i blindnesses of the crossing at that place is under a ring that holds the bit
abbrev pub NoneServes : Guards → Bit → ℕ → ℕ → Type 0
NoneServes guards b place i = (j : ℕ) (c : Blind) → j < i → slice_get (blind_at guards.blind.items place) j ≡ Some c → Serves guards b c.ring → ⊥

-- one blindness more
pub none_more : (guards : Guards) (b : Bit) (place i : ℕ) (list : List Blind) (d : Blind) (v : Bool) → list ≡ blind_at guards.blind.items place → i < length list → v ≡ false
    → (v ≡ true) ↔ Serves guards b (get_or list i d).ring → NoneServes guards b place i → NoneServes guards b place (i + 1)
none_more guards b place i list d v e l not_held test none j c m at s = elim (cases_lt j i) [
  | inl k ↦ none j c k at s
  | inr k ↦
      let same : j ≡ i = omega arith in
      let own : get_or list i d ≡ c = same_item (slice_get list i) (get_or list i d) c (slice_get-get_or list i d l) (ap (slice_get list) (sym same) ∙ ap (λ xs. slice_get xs j) e ∙ at) in
      never (sym (test.1 (subst (λ (x : Blind). Serves guards b x.ring) (sym own) s)) ∙ not_held)
]

-- ---- loads

module _ (net : Net) (domains : Domains) (rings : List Ring) where
  same_number : (P Q : Ring → Type 0) (m n : ℕ) → IsFirstRing P rings m → IsFirstRing Q rings n → ((r : Ring) → P r → Q r) → ((r : Ring) → Q r → P r) → m ≡ n
  same_number P Q m n f g to back = elim (cases_lt m n) [
    | inl l ↦ absurd (g.1 m f.0.0 l f.0.1 (to f.0.0 f.0.2))
    | inr l ↦ elim (cases_lt n m) [ inl k ↦ absurd (f.1 n g.0.0 k g.0.1 (back g.0.0 g.0.2)) | inr k ↦ omega arith ]
  ]

  abbrev of_parts : Bit → Bit → ℕ → ℕ → Bool → Load
  of_parts b x n place v = record { from = b; to = x; ring = n; gate = place; recirculating = v }

  same_load : (l : Load) (b x : Bit) (n place : ℕ) (v : Bool) → l.from ≡ b → l.to ≡ x → l.ring ≡ n → l.gate ≡ place → l.recirculating ≡ v → l ≡ of_parts b x n place v
  same_load l b x n place v e f g h k =
      ap (λ y. of_parts y l.to l.ring l.gate l.recirculating) e ∙ ap (λ y. of_parts b y l.ring l.gate l.recirculating) f ∙ ap (λ y. of_parts b x y l.gate l.recirculating) g
      ∙ ap (λ y. of_parts b x n y l.recirculating) h ∙ ap (of_parts b x n place) k

  -- a crossing has one load with its first ring and gate
  pub one_load : (l m : Load) → IsFirstLoad (design_of net domains) (plain_trees net) rings l → IsFirstLoad (design_of net domains) (plain_trees net) rings m → l.from ≡ m.from → l.to ≡ m.to → l ≡ m
  one_load l m is other from to =
      let moved = subst (λ b. IsFirstRing (λ r. HoldsUnder (design_of net domains) (plain_trees net) b m.to r × BlindUnder (design_of net domains) (plain_trees net) b m.to r) rings l.ring) from
      (subst (λ x. IsFirstRing (λ r. HoldsUnder (design_of net domains) (plain_trees net) l.from x r × BlindUnder (design_of net domains) (plain_trees net) l.from x r) rings l.ring) to is.first_ring) in
      let n = same_number _ _ l.ring m.ring moved other.first_ring (λ r h. h) (λ r h. h) in
      let r = is.load.ring.0 in
      let at = is.load.ring.1 in
      let same = same_item (slice_get rings m.ring) other.load.ring.0 r other.load.ring.1 (ap (slice_get rings) (sym n) ∙ at) in
      let blind : IsBlind (design_of net domains) (plain_trees net) r l.gate m.from m.to =
      subst (λ b. IsBlind (design_of net domains) (plain_trees net) r l.gate b m.to) from (subst (λ x. IsBlind (design_of net domains) (plain_trees net) r l.gate l.from x) to is.load.ring.3) in
      let other_blind : IsBlind (design_of net domains) (plain_trees net) r m.gate m.from m.to =
      subst (λ (q : Ring). IsBlind (design_of net domains) (plain_trees net) q m.gate m.from m.to) same other.load.ring.3 in
      let place : l.gate ≡ m.gate = elim (cases_lt l.gate m.gate) [
        | inl k ↦ absurd (other.first_gate r l.gate (ap (slice_get rings) (sym n) ∙ at) k blind)
        | inr k ↦ elim (cases_lt m.gate l.gate) [
          | inl j ↦ absurd (is.first_gate r m.gate at j (subst (λ b. IsBlind (design_of net domains) (plain_trees net) r m.gate b l.to) (sym from)
              (subst (λ x. IsBlind (design_of net domains) (plain_trees net) r m.gate m.from x) (sym to) other_blind)))
          | inr j ↦ omega arith
        ]
      ] in
      let p = blind.gate.0 in
      let q = blind.gate.1 in
      let gate = is.recirculates r p q at blind.gate.2 in
      let other_gate = other.recirculates r p q (ap (slice_get rings) (sym n) ∙ at) (subst (λ k. IsGate r k p q) place blind.gate.2) in
      same_load l m.from m.to m.ring m.gate m.recirculating from to n place (same_bools l.recirculating m.recirculating
      (λ h. other_gate.1 (λ v. subst (λ x. (plain_trees net).same ((p, v) ∷ (q, v) ∷ []) x ≡ Some x) to (gate.0 h v)))
      (λ h. gate.1 (λ v. subst (λ x. (plain_trees net).same ((p, v) ∷ (q, v) ∷ []) x ≡ Some x) (sym to) (other_gate.0 h v))))

module _ (net : Net) (domains : Domains) (crossings : List Crossing) (rings : List Ring) (guards : Guards) (are : AreGuards net domains crossings rings guards) where
  abbrev entries : List RingEntry
  entries = map ring_entry rings

  module _ (place : ℕ) (k : Crossing) (at : slice_get crossings place ≡ Some k) where
    there : Contains crossings k
    there = slice_in crossings place k at

    abbrev here : List Blind
    here = blind_at guards.blind.items place

    -- ---- blindnesses of one crossing

    here_ordered : (i j : ℕ) (x y : Blind) → i ≤ j → slice_get here i ≡ Some x → slice_get here j ≡ Some y → is_lt (blind_order.ghosts.cmp y x) ≡ false
    here_ordered = never_less blind_order.ghosts.cmp blind_total here (kept_sorted blind_order.ghosts.cmp blind_total (λ (b : Blind). b.crossing == place) guards.blind.items are.blind_sorted)

    here_crossing : (b : Blind) → Contains here b → b.crossing ≡ place
    here_crossing b i = eqb-true b.crossing place (from_filter (λ (b : Blind). b.crossing == place) guards.blind.items b i).1

    from_here : (b : Blind) → Contains here b → (r : Ring) × (slice_get rings b.ring ≡ Some r) × IsBetween (design_of net domains) r k.from k.to
        × IsBlind (design_of net domains) (plain_trees net) r b.gate k.from k.to × ((b.recirculating ≡ true) ↔ Recirculates (plain_trees net) r b.gate k.to)
    from_here b i =
        let f = from_filter (λ (b : Blind). b.crossing == place) guards.blind.items b i in
        let h = (are.blind b).0 f.0 in
        let same : h.0 ≡ k = same_item (slice_get crossings place) h.0 k (ap (slice_get crossings) (sym (here_crossing b i)) ∙ h.2) at in (
          h.1,
          h.3,
          subst (λ (c : Crossing). IsBetween (design_of net domains) h.1 c.from c.to) same h.4,
          subst (λ (c : Crossing). IsBlind (design_of net domains) (plain_trees net) h.1 b.gate c.from c.to) same h.5,
          subst (λ (c : Crossing). (b.recirculating ≡ true) ↔ Recirculates (plain_trees net) h.1 b.gate c.to) same h.6,
        )

    to_here : (n gate : ℕ) (r : Ring) → slice_get rings n ≡ Some r → IsBetween (design_of net domains) r k.from k.to → IsBlind (design_of net domains) (plain_trees net) r gate k.from k.to
        → (b : Blind) × Contains here b × (b.ring ≡ n) × (b.gate ≡ gate)
    to_here n gate r ring between blind =
        let p = blind.gate.0 in
        let q = blind.gate.1 in
        let b : Blind = record { crossing = place; ring = n; gate = gate; recirculating = keeps_shut net p q k.to } in
        let h : IsBlindAt net domains crossings rings b = (k, r, at, ring, between, blind, (keeps_recirculates net r gate p q k.to blind.gate.2, recirculates_keeps net r gate p q k.to blind.gate.2)) in
        (b, in_filter (λ (b : Blind). b.crossing == place) guards.blind.items b ((are.blind b).1 h) (eq-eqb place place refl), refl, refl)

    -- the first of them has the first ring
    pub some_blind : (b : Blind) → slice_get here 0 ≡ Some b → IsFirstOf (BlindUnder (design_of net domains) (plain_trees net) k.from k.to) rings (Some b.ring)
    some_blind b first =
        let i = slice_in here 0 b first in
        let h = from_here b i in (
          (h.0, h.1, (h.2, (b.gate, h.3))),
          λ m q l ring blind.
              let c = to_here m blind.1.0 q ring blind.0 blind.1.1 in
              let j = c.1 in
              let less = less_ring c.0 b (here_crossing c.0 j ∙ sym (here_crossing b i)) (let e = c.2 in omega arith) in
              let f = in_front_of blind_order.ghosts.cmp here here_ordered 0 j.0 b c.0 first (in_slice here c.0 j) less in
              omega arith,
        )

    pub no_blind : slice_get here 0 ≡ None → IsFirstOf (BlindUnder (design_of net domains) (plain_trees net) k.from k.to) rings None
    no_blind none m r ring blind = let c = to_here m blind.1.0 r ring blind.0 blind.1.1 in empty_of here c.0 none c.1

    -- ---- held sources

    pub served : (n : ℕ) (r : Ring) → slice_get rings n ≡ Some r → IsBetween (design_of net domains) r k.from k.to → Serves guards k.from n → IsHeld (design_of net domains) (plain_trees net) r k.from
    served n r ring between (inl i) =
        let s = are.held.copies k.from i in
        constant_held net domains (λ g. false) (laws net domains (λ g. false) crossings rings entries are.given) (syncs_of net domains) (are_syncs net domains (λ g. false) crossings rings entries are.given) r
        (is_ring net domains (λ g. false) crossings rings entries are.given n r ring) k.from s.0.0 between.from s.1
    served n r ring between (inr i) =
        let h = are.held.held (record { bit = k.from; ring = n }) i in
        subst (λ (q : Ring). IsHeld (design_of net domains) (plain_trees net) q k.from) (same_item (slice_get rings n) h.0 r h.1 ring) h.2

    serves : (n : ℕ) (r : Ring) → slice_get rings n ≡ Some r → IsHeld (design_of net domains) (plain_trees net) r k.from → Serves guards k.from n
    serves n r ring held = are.held.others (record { bit = k.from; ring = n }) (held.register, (k, there, refl)) (r, ring, held)

    -- ---- the load of the crossing

    -- the first one under a ring that holds the source makes the load
    pub first_load : (i : ℕ) (b : Blind) → slice_get here i ≡ Some b → NoneServes guards k.from place i → Serves guards k.from b.ring
        → IsFirstLoad (design_of net domains) (plain_trees net) rings (record { from = k.from; to = k.to; ring = b.ring; gate = b.gate; recirculating = b.recirculating })
    first_load i b e none s =
        let in_list = slice_in here i b e in
        let h = from_here b in_list in
        let r = h.0 in
        let held = served b.ring r h.1 h.2 s in
        let crossing = is_crossing net domains (λ g. false) crossings rings entries are.given k there in
        record {
          load = record {
            crossing = crossing;
            no_copy = blind_no_copy net domains (λ g. false) (laws net domains (λ g. false) crossings rings entries are.given) (syncs_of net domains)
                (are_syncs net domains (λ g. false) crossings rings entries are.given) r (is_ring net domains (λ g. false) crossings rings entries are.given b.ring r h.1) b.gate k.from k.to crossing h.3;
            ring = (r, h.1, held, h.3);
          };
          first_ring = (
            (r, h.1, ((h.2, held), (h.2, (b.gate, h.3)))),
            λ m q l ring both.
                let c = to_here m both.1.1.0 q ring both.1.0 both.1.1.1 in
                let j = c.1 in
                let less = less_ring c.0 b (here_crossing c.0 j ∙ sym (here_crossing b in_list)) (let f = c.2 in omega arith) in
                let f = in_front_of blind_order.ghosts.cmp here here_ordered i j.0 b c.0 e (in_slice here c.0 j) less in
                none j.0 c.0 f (in_slice here c.0 j) (subst (Serves guards k.from) (sym c.2) (serves m q ring both.0.1)),
          );
          first_gate = λ q gate ring l blind.
              let same : q ≡ r = same_item (slice_get rings b.ring) q r ring h.1 in
              let c = to_here b.ring gate r h.1 h.2 (subst (λ (x : Ring). IsBlind (design_of net domains) (plain_trees net) x gate k.from k.to) same blind) in
              let j = c.1 in
              let less = less_gate c.0 b (here_crossing c.0 j ∙ sym (here_crossing b in_list)) c.2 (let f = c.3 in omega arith) in
              let f = in_front_of blind_order.ghosts.cmp here here_ordered i j.0 b c.0 e (in_slice here c.0 j) less in
              none j.0 c.0 f (in_slice here c.0 j) (subst (Serves guards k.from) (sym c.2) s);
          recirculates = λ q a d ring gate.
              let same : q ≡ r = same_item (slice_get rings b.ring) q r ring h.1 in
              let own : IsGate r b.gate a d = subst (λ (x : Ring). IsGate x b.gate a d) same gate in (
                λ v. h.4.0 v a d own,
                λ all. h.4.1 (λ y z other v.
                    let pair = one_pair r b.gate a d y z own other in
                    subst (λ t. (plain_trees net).same ((t, v) ∷ (z, v) ∷ []) k.to ≡ Some k.to) (sym pair.0)
                    (subst (λ t. (plain_trees net).same ((a, v) ∷ (t, v) ∷ []) k.to ≡ Some k.to) (sym pair.1) (all v))),
              );
        }

    pub none_loads : NoneServes guards k.from place (length here) → (l : Load) → IsFirstLoad (design_of net domains) (plain_trees net) rings l → l.from ≡ k.from → l.to ≡ k.to → ⊥
    none_loads none l is from to =
        let f = subst (λ b. IsFirstRing (λ r. HoldsUnder (design_of net domains) (plain_trees net) b k.to r × BlindUnder (design_of net domains) (plain_trees net) b k.to r) rings l.ring) from
        (subst (λ x. IsFirstRing (λ r. HoldsUnder (design_of net domains) (plain_trees net) l.from x r × BlindUnder (design_of net domains) (plain_trees net) l.from x r) rings l.ring) to is.first_ring) in
        let r = f.0.0 in
        let both = f.0.2 in
        let c = to_here l.ring both.1.1.0 r f.0.1 both.1.0 both.1.1.1 in
        none c.1.0 c.0 c.1.1 (in_slice here c.0 c.1) (subst (Serves guards k.from) (sym c.2) (serves l.ring r f.0.1 both.0.1))

    -- what was found is the load of the crossing, if it has one
    pub load_found : (b : Blind) → IsFirstLoad (design_of net domains) (plain_trees net) rings (record { from = k.from; to = k.to; ring = b.ring; gate = b.gate; recirculating = b.recirculating })
        → IsLoadAt net domains crossings rings place (Some (record { from = k.from; to = k.to; ring = b.ring; gate = b.gate; recirculating = b.recirculating }))
    load_found b is c there_too l =
        let same : k ≡ c = same_item (slice_get crossings place) k c at there_too in
        let m : Load = record { from = k.from; to = k.to; ring = b.ring; gate = b.gate; recirculating = b.recirculating } in (
          λ e.
              let f = same_item (Some m) m l refl e in
              subst (λ (x : Load). IsFirstLoad (design_of net domains) (plain_trees net) rings x × (x.from ≡ c.from) × (x.to ≡ c.to)) f
              (is, ap (λ (x : Crossing). x.from) same, ap (λ (x : Crossing). x.to) same),
          λ h. ap Some (one_load net domains rings m l is h.0 (ap (λ (x : Crossing). x.from) same ∙ sym h.1) (ap (λ (x : Crossing). x.to) same ∙ sym h.2)),
        )

    pub no_load_found : NoneServes guards k.from place (length here) → IsLoadAt net domains crossings rings place None
    no_load_found none c there_too l =
        let same : c ≡ k = same_item (slice_get crossings place) c k there_too at in (
          λ e. nothing l e,
          λ h. absurd (none_loads none l h.0 (h.1 ∙ ap (λ (x : Crossing). x.from) same) (h.2 ∙ ap (λ (x : Crossing). x.to) same)),
        )
      where
        nothing : {A : Type 0} (x : Load) → None ≡ Some x → A
        nothing x f = cc

-- no crossing, no load
pub no_crossing : (net : Net) (domains : Domains) (crossings : List Crossing) (rings : List Ring) (place : ℕ) → slice_get crossings place ≡ None → IsLoadAt net domains crossings rings place None
no_crossing net domains crossings rings place none k at l = absurd (nothing k (sym none ∙ at))
  where
    nothing : (x : Crossing) → None ≡ Some x → ⊥
    nothing x f = cc
