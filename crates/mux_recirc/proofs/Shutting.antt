-- Blind ends crossing by crossing, gate by gate and ring by ring.
use Rattle.std.proofs.Common.{◌≡◌, ◌∙◌, ◌⊎◌, ◌↔◌, refl, sym, ap, ap₂, subst, arith, ℕ, ◌+◌, ◌<◌, ◌≤◌, Bool, true, false, cond, Some, None, List, [], ◌∷◌, ◌++◌, map, length, slice_get, Contains}
use Rattle.std.proofs.lemmas.List.{append-nil}
use Rattle.std.proofs.lemmas.Option.{slice_get_within}
use Rattle.cdc_base.specs.declared.bit.Bit.{Bit}
use Rattle.cell_graph.specs.declared.net.Net.{Net}
use Rattle.domains.specs.declared.Domains.{Domains}
use Rattle.cdc_model.specs.declared.scheme.Crossing.{Crossing}
use Rattle.cdc_model.specs.declared.scheme.Ring.{Ring as RingEntry}
use Rattle.cdc_model.specs.Nets.{bit_count}
use Rattle.cdc_model.proofs.Ascending.{from_map}
use Rattle.mux_recirc.specs.declared.blind.Blind.{Blind}
use Rattle.mux_recirc.specs.declared.blind.Gate.{Gate}
use Rattle.mux_recirc.specs.declared.questions.Question.{Question}
use Rattle.mux_recirc.specs.Blind.{keeps_shut, is_blind, IsBlindInto, IsBlindAtGate, IsBlindInRing, IsBlindAmong}
use Rattle.mux_recirc.specs.Held.{at_bits, AreWithin}
use Rattle.mux_recirc.specs.Questions.{AreBitsWithin, questions_on}
use Rattle.mux_recirc.proofs.Added.{HasOneWithin, HasItemWithin, items_all, in_pushed, same_left, same_item, none_added, all_added, both_iff}

never : false ≡ true → ⊥
never f = cc

abbrev made : ℕ → ℕ → ℕ → Bool → Blind
made i n place v = record { crossing = i; ring = n; gate = place; recirculating = v }

-- a blindness is what its parts make
same_blind : (b : Blind) (i n place : ℕ) (v : Bool) → b.crossing ≡ i → b.ring ≡ n → b.gate ≡ place → b.recirculating ≡ v → b ≡ made i n place v
same_blind b i n place v e f g h =
    ap (λ x. made x b.ring b.gate b.recirculating) e ∙ ap (λ x. made i x b.gate b.recirculating) f ∙ ap (λ x. made i n x b.recirculating) g ∙ ap (made i n place) h

module _ (net : Net) (domains : Domains) (crossings : List Crossing) where
  -- ---- one end

  module _ (gate : Gate) (p q x : Bit) where
    -- the crossing at place i is blind
    abbrev pub IsBlindThere : ℕ → Blind → Type 0
    IsBlindThere i b = (b.crossing ≡ i) × IsBlindInto net domains crossings gate p q x b

    -- a crossing that is blind is added
    pub there : (i : ℕ) (k : Crossing) (old new : List Blind) (blind : Bool) → slice_get crossings i ≡ Some k → k.to ≡ x → blind ≡ is_blind net domains p q gate.request x k.from
        → new ≡ old ++ cond blind (record { crossing = i; ring = gate.ring; gate = gate.place; recirculating = keeps_shut net p q x } ∷ []) [] → (b : Blind) → Contains new b ↔ (Contains old b ⊎ IsBlindThere i b)
    there i k old new true at to e n b = same_left (in_pushed old new _ b n) (IsBlindThere i b) (
      λ same. subst (IsBlindThere i) same (refl, record { crossing = k; at = at; to = to; ring = refl; gate_place = refl; recirculates = refl; blind = sym e }),
      λ h. sym (same_blind b i gate.ring gate.place (keeps_shut net p q x) h.0 h.1.ring h.1.gate_place h.1.recirculates),
    )
    there i k old new false at to e n b = subst (λ bs. Contains bs b ↔ (Contains old b ⊎ IsBlindThere i b)) (sym (n ∙ append-nil old)) (none_added (λ h. not_blind h))
      where
        not_blind : IsBlindThere i b → ⊥
        not_blind h =
            let same : h.1.crossing ≡ k = same_item (slice_get crossings i) h.1.crossing k (ap (slice_get crossings) (sym h.0) ∙ h.1.at) at in
            never (e ∙ ap (λ (c : Crossing). is_blind net domains p q gate.request x c.from) (sym same) ∙ h.1.blind)

    -- all crossings into the end
    pub all_there : {A X : Type 0} (start end n : ℕ) (b : Blind) → end ≤ n → ((i : ℕ) (k : Crossing) → slice_get crossings i ≡ Some k → (k.to ≡ x) ↔ ((start ≤ i) × (i < end)))
        → X ↔ (A ⊎ HasOneWithin start n (λ i. IsBlindThere i b)) → X ↔ (A ⊎ IsBlindInto net domains crossings gate p q x b)
    all_there start end n b l into f = same_left f (IsBlindInto net domains crossings gate p q x b) (
      λ h. h.3.1,
      λ h. let k = (into b.crossing h.crossing h.at).0 h.to in (b.crossing, k.0, (let m = k.1 in omega arith), (refl, h)),
    )

  -- ---- one gate

  pub gate_all : {A X : Type 0} (e : RingEntry) (gate : Gate) (ends : List Bit) (n : ℕ) (p q : Bit) (b : Blind) → length ends ≤ n → slice_get e.bits gate.place ≡ Some p → slice_get e.bits (gate.place + 1) ≡ Some q
      → X ↔ (A ⊎ HasItemWithin ends n (λ x. IsBlindInto net domains crossings gate p q x b)) → X ↔ (A ⊎ IsBlindAtGate net domains crossings e gate ends b)
  gate_all e gate ends n p q b l one other f = same_left (items_all ends (λ x. IsBlindInto net domains crossings gate p q x b) n l f) (IsBlindAtGate net domains crossings e gate ends b) (
    λ h. (p, q, one, other, h),
    λ h.
        let s = same_item (slice_get e.bits gate.place) h.0 p h.2 one in
        let t = same_item (slice_get e.bits (gate.place + 1)) h.1 q h.3 other in
        subst (λ (c : Bit). (x : Bit) × Contains ends x × IsBlindInto net domains crossings gate c q x b) s
        (subst (λ (c : Bit). (x : Bit) × Contains ends x × IsBlindInto net domains crossings gate h.0 c x b) t h.4),
  )

  -- a gate that isn't there
  pub no_gate : {A : Type 0} (e : RingEntry) (gate : Gate) (ends : List Bit) (b : Blind) → ((test : Bit → Bit → Bool) → at_bits (slice_get e.bits gate.place) (slice_get e.bits (gate.place + 1)) test ≡ false)
      → A ↔ (A ⊎ IsBlindAtGate net domains crossings e gate ends b)
  no_gate e gate ends b none = none_added (λ h. never (sym (none (λ x y. true)) ∙ ap₂ (λ o p. at_bits o p (λ x y. true)) h.2 h.3))

  -- ---- one ring

  -- a gate in front of the acknowledgement
  abbrev pub IsBlindBefore : RingEntry → ℕ → Bit → List Bit → Blind → ℕ → Type 0
  IsBlindBefore e n request ends b place = (place < e.ack) × IsBlindAtGate net domains crossings e (record { ring = n; place = place; request = request }) ends b

  pub gate_more : {X Y : Type 0} (e : RingEntry) (n : ℕ) (request : Bit) (ends : List Bit) (b : Blind) (place : ℕ) → place < e.ack
      → Y ↔ (X ⊎ IsBlindAtGate net domains crossings e (record { ring = n; place = place; request = request }) ends b) → Y ↔ (X ⊎ IsBlindBefore e n request ends b place)
  gate_more e n request ends b place l f = same_left f (IsBlindBefore e n request ends b place) (λ h. (l, h), λ h. h.1)

  pub ring_all : {A X : Type 0} (e : RingEntry) (n : ℕ) (request : Bit) (ends bits : List Bit) (i : ℕ) (b : Blind) → e.ack ≤ i → bits ≡ ends → slice_get e.bits 0 ≡ Some request
      → X ↔ (A ⊎ HasOneWithin 2 i (IsBlindBefore e n request bits b)) → X ↔ (A ⊎ IsBlindInRing net domains crossings e n ends b)
  ring_all e n request ends bits i b l same first f = same_left f (IsBlindInRing net domains crossings e n ends b) (
    λ h. (request, first, (h.0, h.1, h.3.0, subst (λ xs. IsBlindAtGate net domains crossings e (record { ring = n; place = h.0; request = request }) xs b) same h.3.1)),
    λ h.
        let place = h.2.0 in
        let own : h.0 ≡ request = same_item (slice_get e.bits 0) h.0 request h.1 first in (
          place,
          h.2.1,
          (let k = h.2.2 in omega arith),
          (
            h.2.2,
            subst (λ r. IsBlindAtGate net domains crossings e (record { ring = n; place = place; request = r }) bits b) own
                (subst (λ xs. IsBlindAtGate net domains crossings e (record { ring = n; place = place; request = h.0 }) xs b) (sym same) h.2.3),
          ),
        ),
  )

  -- a ring without bits, and one that no end is asked about
  pub no_request : {A : Type 0} (e : RingEntry) (n : ℕ) (ends : List Bit) (b : Blind) → slice_get e.bits 0 ≡ None → A ↔ (A ⊎ IsBlindInRing net domains crossings e n ends b)
  no_request e n ends b none = none_added (λ h. nothing h.0 (sym none ∙ h.1))
    where
      nothing : (a : Bit) → None ≡ Some a → ⊥
      nothing a f = cc

  pub no_ends : {A : Type 0} (e : RingEntry) (n : ℕ) (ends : List Bit) (b : Blind) → length ends ≡ 0 → A ↔ (A ⊎ IsBlindInRing net domains crossings e n ends b)
  no_ends e n ends b none = none_added (λ h. let i = h.2.3.4.1 in absurd (let l = i.1 in omega arith))

  -- ---- all rings

  pub rings_all : {A X : Type 0} (entries : List RingEntry) (questions : List Question) (n : ℕ) (b : Blind) → length entries ≤ n → (A → ⊥)
      → X ↔ (A ⊎ HasOneWithin 0 n (λ i. (e : RingEntry) × (slice_get entries i ≡ Some e) × IsBlindInRing net domains crossings e i (map (λ (q : Question). q.bit) (questions_on questions i)) b))
      → X ↔ IsBlindAmong net domains crossings entries questions b
  rings_all entries questions n b l none f = both_iff (all_added none f) (
    λ h. (h.0, h.3.0, h.3.1, h.3.2),
    λ h. (h.0, omega arith, (let m = slice_get_within entries h.0 h.1 h.2 in omega arith), (h.1, h.2, h.3)),
  )

  -- one ring more
  pub ring_more : {X Y : Type 0} (entries : List RingEntry) (questions here : List Question) (i : ℕ) (e : RingEntry) (b : Blind) → slice_get entries i ≡ Some e → here ≡ questions_on questions i
      → Y ↔ (X ⊎ IsBlindInRing net domains crossings e i (map (λ (q : Question). q.bit) here) b)
      → Y ↔ (X ⊎ ((f : RingEntry) × (slice_get entries i ≡ Some f) × IsBlindInRing net domains crossings f i (map (λ (q : Question). q.bit) (questions_on questions i)) b))
  ring_more entries questions here i e b at are f = same_left f _ (
    λ h. (e, at, subst (λ qs. IsBlindInRing net domains crossings e i (map (λ (q : Question). q.bit) qs) b) are h),
    λ h. subst (λ qs. IsBlindInRing net domains crossings e i (map (λ (q : Question). q.bit) qs) b) (sym are)
        (subst (λ (g : RingEntry). IsBlindInRing net domains crossings g i (map (λ (q : Question). q.bit) (questions_on questions i)) b) (same_item (slice_get entries i) h.0 e h.1 at) h.2),
  )

-- the bits of questions within their signals
pub asked_within : (net : Net) (questions : List Question) (bits : List Bit) → bits ≡ map (λ (q : Question). q.bit) questions → AreWithin net questions → AreBitsWithin net bits
asked_within net questions bits e within b i =
    let q = from_map (λ (q : Question). q.bit) questions b (subst (λ xs. Contains xs b) e i) in
    subst (λ (a : Bit). a.at < bit_count net.graph.signals a.sig) q.2 (within q.0 q.1)
