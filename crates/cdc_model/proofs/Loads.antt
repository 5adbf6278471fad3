-- Data under a handshake changes only when its ring agrees, and then nothing reads it.
use Rattle.std.proofs.Common.{◌≡◌, ◌≢◌, ℕ, zero, suc, ◌-◌, ◌≤◌, Bool, true, false, cond, not, List, [], ◌∷◌, ◌++◌, Contains, ◌⊎◌, inl, inr, refl, sym, ap, subst, ◌∙◌, get_or, arith}
use Rattle.std.specs.List.{AllByRecursion}
use Rattle.std.proofs.lemmas.Bool.{both_ways, false_from_ne_true}
use Rattle.std.proofs.lemmas.List.Elements.{All-from_recursion, All-contains, recursion_from_All, Contains-get_or}
use Rattle.cdc_base.specs.declared.bit.Bit.{Bit}
use Rattle.cell_graph.specs.Reading.{bit_eq, Reading}
use Rattle.cell_graph.proofs.Bits.{bit_eq-true, bit_eq-refl, cases_bit}
use Rattle.cdc_model.specs.Design.{Design, group, flipped, AgreeBut, settle_of}
use Rattle.cdc_model.specs.Runs.{State, IsLoose, Changes, Unsettled, AreLoose, IsStep}
use Rattle.cdc_model.specs.Schemes.{IsAt, IsGate, Trees, AreTrees, IsCrossing, Sync, IsSync, IsChain, is_settling, last_flop, flops, Ring, request, acknowledge, behind_request, IsRing, IsHeld, IsBlind}
use Rattle.cdc_model.specs.Facts.{OnlySettling, IsSeen, RingTurnsOnce}
use Rattle.cdc_model.proofs.Flips.{flipped_not, group_of_clock}
use Rattle.cdc_model.proofs.Chain.{source_settled, not_flipped, left_zero, only_settling}
use Rattle.cdc_model.proofs.Turns.{AllAre, one_of_two, ends_agree, not_self}
use Rattle.cdc_model.proofs.Rings.{last_settled, request_settled, ring_last, keeps}

-- ---- sets without a bit

pub without : Bit → (Bit → Bool) → Bit → Bool
without b flips a = cond (bit_eq a b) false (flips a)

pub without_self : (b : Bit) (flips : Bit → Bool) → without b flips b ≡ false
unfolding without
without_self b flips = ap (λ v. cond v false (flips b)) (bit_eq-refl b)

without_other : (b : Bit) (flips : Bit → Bool) (a : Bit) → a ≢ b → without b flips a ≡ flips a
unfolding without
without_other b flips a ne = ap (λ v. cond v false (flips a)) (false_from_ne_true (bit_eq a b) (λ h. ne (bit_eq-true a b h)))

pub without_less : (b : Bit) (flips : Bit → Bool) (a : Bit) → without b flips a ≡ true → flips a ≡ true
unfolding without
without_less b flips a h = go (bit_eq a b) h
  where
    go : (v : Bool) → cond v false (flips a) ≡ true → flips a ≡ true
    go true e = cc
    go false e = e

without_none : (b : Bit) (flips : Bit → Bool) → flips b ≡ false → (a : Bit) → without b flips a ≡ flips a
without_none b flips h a = elim (cases_bit a b) [
  | inl e ↦ ap (without b flips) e ∙ without_self b flips ∙ sym h ∙ ap flips (sym e)
  | inr ne ↦ without_other b flips a ne
]

same_flips : (f g : Bit → Bool) (r : Reading) (a : Bit) → f a ≡ g a → flipped f r a ≡ flipped g r a
same_flips f g r a e = ap (λ v. cond v (not (r a)) (r a)) e

pub all_of : {X : Type 0} (P : X → Type 0) (xs : List X) → ((x : X) → Contains xs x → P x) → AllByRecursion P xs
all_of P xs h = recursion_from_All P xs (λ k d lt. h (get_or xs k d) (Contains-get_or xs k d lt))

pub each_of : {X : Type 0} (P : X → Type 0) (xs : List X) → AllByRecursion P xs → (x : X) → Contains xs x → P x
each_of P xs h x i = All-contains P xs x (All-from_recursion P xs h) i

-- ---- lines of bits

at_all : (P : Bit → Type 0) (n : ℕ) (x : Bit) (xs : List Bit) → IsAt n x xs → AllByRecursion P xs → P x
at_all P n x [] a all = absurd a
at_all P zero x (y ∷ ys) a all = subst P (sym a) all.0
at_all P (suc n) x (y ∷ ys) a all = at_all P n x ys a all.1

all_of_map : (v : Bool) (r : Reading) (xs : List Bit) → AllAre v r xs → AllByRecursion (λ b. r b ≡ v) xs
all_of_map v r [] all = tt
all_of_map v r (x ∷ xs) all = (all.0, all_of_map v r xs all.1)

all_front : (P : Bit → Type 0) (xs : List Bit) (y : Bit) (ys : List Bit) → AllByRecursion P (xs ++ y ∷ ys) → AllByRecursion P (xs ++ y ∷ [])
all_front P [] y ys all = (all.0, tt)
all_front P (x ∷ xs) y ys all = (all.0, all_front P xs y ys all.1)

all_push : (P : Bit → Type 0) (xs : List Bit) (y : Bit) → AllByRecursion P xs → P y → AllByRecursion P (xs ++ y ∷ [])
all_push P [] y all h = (h, tt)
all_push P (x ∷ xs) y all h = (all.0, all_push P xs y all.1 h)

module _ (d : Design) (t : Trees) (laws : AreTrees d t) (syncs : List Sync) (ok : (s : Sync) → Contains syncs s → IsSync d t s) where
  chain_group : (m n : ℕ) (f : Bit) (gs : List Bit) → IsChain d t m n f gs → AllByRecursion (λ b. group d b ≡ group d f) gs
  chain_group m n f [] c = tt
  chain_group zero zero f (g ∷ gs) c = absurd c
  chain_group zero (suc n) f (g ∷ gs) c =
      (group_of_clock d g f c.0.clock, subst (λ o. AllByRecursion (λ b. group d b ≡ o) gs) (group_of_clock d g f c.0.clock) (chain_group zero n g gs c.1))
  chain_group (suc m) n f (g ∷ gs) c =
      (group_of_clock d g f c.0.clock, subst (λ o. AllByRecursion (λ b. group d b ≡ o) gs) (group_of_clock d g f c.0.clock) (chain_group m n g gs c.1))

  gate_group : (r : Ring) → IsRing d t syncs r → AllByRecursion (λ b. group d b ≡ group d (acknowledge r)) (flops r.there ++ acknowledge r ∷ [])
  gate_group r k = all_push (λ b. group d b ≡ group d (acknowledge r)) (flops r.there) (acknowledge r)
      (subst (λ o. AllByRecursion (λ b. group d b ≡ o) (flops r.there)) (sym k.there_group)
      (refl, chain_group (settle_of d r.there.first) (3 - settle_of d r.there.first) r.there.first r.there.more (ok r.there k.there).chain)) refl

  -- what holds of the flops there and the acknowledgement holds of a gate's bits
  gate_all : (P : Bit → Type 0) (r : Ring) (place : ℕ) (p q : Bit) → IsGate r place p q → AllByRecursion P (flops r.there ++ acknowledge r ∷ []) → P p × P q
  gate_all P r zero p q g all = absurd (omega (arith, g.behind_first))
  gate_all P r (suc n) p q g all = (at_all P n p (flops r.there ++ acknowledge r ∷ []) g.one all, at_all P (suc n) q (flops r.there ++ acknowledge r ∷ []) g.next all)

  -- the two bits of a gate are of the group of the bit that they gate
  pub gate_pair : (r : Ring) → IsRing d t syncs r → (place : ℕ) (p q b x : Bit) → IsGate r place p q → IsBlind d t r place b x → (group d p ≡ group d x) × (group d q ≡ group d x)
  gate_pair r k place p q b x g blind =
      gate_all (λ b. group d b ≡ group d x) r place p q g
      (subst (λ o. AllByRecursion (λ b. group d b ≡ o) (flops r.there ++ acknowledge r ∷ [])) (sym blind.group) (gate_group r k))

  -- where request and last flop back agree, so do all bits of the ring, and each is settled
  pub all_agree : (r : Ring) → IsRing d t syncs r → (s : State) → OnlySettling d syncs s → RingTurnsOnce r s → s.values (request r) ≡ s.values (last_flop r.back)
      → AllByRecursion (λ b. (s.values b ≡ s.values (request r)) × (s.left b ≡ 0)) (behind_request r)
  all_agree r k s only turn e = all_of (λ b. (s.values b ≡ s.values (request r)) × (s.left b ≡ 0)) (behind_request r) (λ b i. (here b i, calm b i (s.left b) refl))
    where
      first_zero : s.left (request r) ≡ 0
      first_zero = left_zero d t laws syncs ok s only (request r) (request_settled d t laws syncs ok r k)

      last_zero : s.left (last_flop r.back) ≡ 0
      last_zero = left_zero d t laws syncs ok s only (last_flop r.back) (last_settled d t laws syncs ok r.back k.back).0

      seen_all : (v : Reading) → IsSeen s v → (b : Bit) → Contains (behind_request r) b → v b ≡ s.values (request r)
      seen_all v seen b i =
          let at : v (request r) ≡ s.values (request r) = elim (seen (request r)) [ inl h ↦ h | inr u ↦ absurd (omega (arith, first_zero)) ] in
          let end : v (last_flop r.back) ≡ s.values (last_flop r.back) = elim (seen (last_flop r.back)) [ inl h ↦ h | inr u ↦ absurd (omega (arith, last_zero)) ] in
          each_of (λ c. v c ≡ v (request r)) (behind_request r) (all_of_map (v (request r)) v (behind_request r)
          (ends_agree (v (request r)) v (request r) (behind_request r) (ap v (ring_last r) ∙ end ∙ sym e ∙ sym at) (turn v seen))) b i ∙ at

      here : (b : Bit) → Contains (behind_request r) b → s.values b ≡ s.values (request r)
      here b i = seen_all s.values (λ a. inl refl) b i

      turned : Bit → Reading
      turned b a = cond (bit_eq a b) (not (s.values a)) (s.values a)

      turned_seen : (b : Bit) → 1 ≤ s.left b → IsSeen s (turned b)
      turned_seen b u a = go (bit_eq a b) refl
        where
          go : (v : Bool) → bit_eq a b ≡ v → (cond v (not (s.values a)) (s.values a) ≡ s.values a) ⊎ (1 ≤ s.left a)
          go true h = inr (subst (λ (z : Bit). 1 ≤ s.left z) (sym (bit_eq-true a b h)) u)
          go false h = inl refl

      calm : (b : Bit) → Contains (behind_request r) b → (n : ℕ) → s.left b ≡ n → n ≡ 0
      calm b i zero h = refl
      calm b i (suc n) h = absurd (not_self (s.values b)
          (here b i ∙ sym (seen_all (turned b) (turned_seen b (omega arith)) b i) ∙ ap (λ v. cond v (not (s.values b)) (s.values b)) (bit_eq-refl b)))

  -- and the bits of a gate
  pub gate_agrees : (r : Ring) → IsRing d t syncs r → (s : State) → OnlySettling d syncs s → RingTurnsOnce r s → s.values (request r) ≡ s.values (last_flop r.back)
      → (place : ℕ) (p q : Bit) → IsGate r place p q
      → ((s.values p ≡ s.values (request r)) × (s.left p ≡ 0)) × ((s.values q ≡ s.values (request r)) × (s.left q ≡ 0))
  gate_agrees r k s only turn e place p q g =
      gate_all (λ c. (s.values c ≡ s.values (request r)) × (s.left c ≡ 0)) r place p q g
      (all_front (λ c. (s.values c ≡ s.values (request r)) × (s.left c ≡ 0)) (flops r.there) (acknowledge r) (flops r.back) (all_agree r k s only turn e))

  -- while the gate's bits are equal, x is the same whatever b is
  pub shut : (p q b x : Bit) → d.is_register x ≡ true → ((v : Bool) → t.reads ((p, v) ∷ (q, v) ∷ []) x b ≡ false) → (v : Bool) (r s : Reading)
      → r p ≡ v → r q ≡ v → s p ≡ v → s q ≡ v → AgreeBut b r s → d.next r x ≡ d.next s x
  shut p q b x reg blind v r s r0 r1 s0 s1 agree = laws.reads ((p, v) ∷ (q, v) ∷ []) x r s reg (r0, (r1, tt)) (s0, (s1, tt))
      (λ a reads. agree a (λ e. both_ways (t.reads ((p, v) ∷ (q, v) ∷ []) x b) (blind v) (subst (λ (z : Bit). t.reads ((p, v) ∷ (q, v) ∷ []) x z ≡ true) e reads)))

  module _ (edges : ℕ → Bool) (old new : State) (step : IsStep d edges old new) (only : OnlySettling d syncs old) where
    -- the data keeps its value unless request and last flop back agree
    pub data_kept : (r : Ring) → IsRing d t syncs r → (b x : Bit) → IsCrossing d t b x → IsHeld d t r b
        → (old.values (request r) ≡ old.values (last_flop r.back)) ⊎ (new.values b ≡ old.values b)
    data_kept r k b x crossing held = go (one_of_two (old.values (request r)) (old.values (last_flop r.back)))
      where
        l : (is_settling d syncs (last_flop r.back) ≡ false) × (group d (last_flop r.back) ≡ group d r.back.first)
        l = last_settled d t laws syncs ok r.back k.back

        zero_at : (a : Bit) → is_settling d syncs a ≡ false → old.left a ≡ 0
        zero_at a none = left_zero d t laws syncs ok old only a none

        v : Bool
        v = old.values (request r)

        go : (old.values (last_flop r.back) ≡ old.values (request r)) ⊎ (old.values (last_flop r.back) ≡ not (old.values (request r)))
            → (old.values (request r) ≡ old.values (last_flop r.back)) ⊎ (new.values b ≡ old.values b)
        go (inl e) = inl (sym e)
        go (inr e) = inr (keeps d t laws syncs ok edges old new step only (request r) (last_flop r.back) b (old.values (request r)) (not (old.values (request r))) held.register
            (zero_at (request r) (request_settled d t laws syncs ok r k)) (sym held.group) refl (zero_at (last_flop r.back) l.0) (l.1 ∙ k.back_group ∙ sym held.group) e
            (λ q m n o. laws.same ((request r, old.values (request r)) ∷ (last_flop r.back, not (old.values (request r))) ∷ []) b b held.register (held.holds (old.values (request r))) q (m, (n, tt)) ∙ o)
            (zero_at b (source_settled d t laws syncs ok b x crossing)))

    less_loose : (x b : Bit) (flips : Bit → Bool) → AreLoose d old new.values x flips → AreLoose d old new.values x (without b flips)
    less_loose x b flips loose a h = loose a (without_less b flips a h)

    -- a load's data may be left out of what is flipped
    pub load_shut : (r : Ring) → IsRing d t syncs r → RingTurnsOnce r old → (place : ℕ) (b x : Bit) → IsCrossing d t b x → IsHeld d t r b → IsBlind d t r place b x
        → (flips : Bit → Bool) → AreLoose d old new.values x flips → d.next (flipped flips old.values) x ≡ d.next (flipped (without b flips) old.values) x
    load_shut r k turn place b x crossing held blind flips loose = go (flips b) refl
      where
        p : Bit
        p = blind.gate.0

        q : Bit
        q = blind.gate.1

        g : (group d p ≡ group d x) × (group d q ≡ group d x)
        g = gate_pair r k place p q b x blind.gate.2 blind

        unflipped : (a : Bit) → group d a ≡ group d x → old.left a ≡ 0 → (f : Bit → Bool) → AreLoose d old new.values x f → flipped f old.values a ≡ old.values a
        unflipped a s z f l = flipped_not f old.values a (not_flipped d t laws syncs ok old new.values x a f z s l)

        changes : IsLoose d old new.values x b → old.values b ≢ new.values b
        changes (Changes async ne) = ne
        changes (Unsettled u free) = absurd (both_ways (is_settling d syncs b) (source_settled d t laws syncs ok b x crossing) (only_settling d t laws syncs ok old only b u))

        agreed : flips b ≡ true → old.values (request r) ≡ old.values (last_flop r.back)
        agreed h = elim (data_kept r k b x crossing held) [ inl e ↦ e | inr e ↦ absurd (changes (loose b h) (sym e)) ]

        go : (v : Bool) → flips b ≡ v → d.next (flipped flips old.values) x ≡ d.next (flipped (without b flips) old.values) x
        go false h = laws.reads [] x (flipped flips old.values) (flipped (without b flips) old.values) crossing.register tt tt
            (λ a reads. same_flips flips (without b flips) old.values a (sym (without_none b flips h a)))
        go true h =
            let e = gate_agrees r k old only turn (agreed h) place p q blind.gate.2 in
            shut p q b x crossing.register blind.gate.3 (old.values (request r)) (flipped flips old.values) (flipped (without b flips) old.values)
            (unflipped p g.0 e.0.1 flips loose ∙ e.0.0) (unflipped q g.1 e.1.1 flips loose ∙ e.1.0)
            (unflipped p g.0 e.0.1 (without b flips) (less_loose x b flips loose) ∙ e.0.0) (unflipped q g.1 e.1.1 (without b flips) (less_loose x b flips loose) ∙ e.1.0)
            (λ a ne. same_flips flips (without b flips) old.values a (sym (without_other b flips a ne)))
