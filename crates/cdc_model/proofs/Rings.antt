-- The values round a ring go on changing at most once, unsettled bits flipped or not.
use Rattle.std.proofs.Common.{◌≡◌, ◌≢◌, ℕ, zero, suc, ◌-◌, ◌<◌, ◌≤◌, nat_lt, Bool, true, false, cond, not, List, [], ◌∷◌, Contains, ◌⊎◌, inl, inr, refl, sym, ap, subst, ◌∙◌, arith, ltb-true, ltb-false}
use Rattle.std.proofs.lemmas.Bool.{false_from_ne_true}
use Rattle.cdc_base.specs.declared.bit.Bit.{Bit}
use Rattle.cell_graph.specs.Reading.{Reading}
use Rattle.cdc_model.specs.Design.{Design, group, flipped, settle_of}
use Rattle.cdc_model.specs.Runs.{State, is_in, ticks, IsStep}
use Rattle.cdc_model.specs.Schemes.{IsAt, Trees, AreTrees, Follows, Sync, IsSync, IsChain, is_settling, last_of, last_flop, flops, Ring, request, acknowledge, behind_request, IsRing}
use Rattle.cdc_model.specs.Facts.{OnlySettling, IsSeen, RingTurnsOnce}
use Rattle.cdc_model.proofs.Flips.{flipped_not, group_of_clock}
use Rattle.cdc_model.proofs.Chain.{next_at, settling_sync, at_clock, source_settled, not_flipped, left_zero, first_takes, copy_takes}
use Rattle.cdc_model.proofs.Behind.{place_unique}
use Rattle.cdc_model.proofs.Turns.{Moves, moves-append, last_of-append, turns_kept, one_of_two}

-- the last flop stands behind those that must be there
pub last_at : (d : Design) (t : Trees) (m n : ℕ) (f : Bit) (gs : List Bit) → IsChain d t m n f gs → (j : ℕ) × (m ≤ j) × IsAt j (last_of f gs) (f ∷ gs)
last_at d t zero n f [] c = (0, omega arith, refl)
last_at d t (suc m) n f [] c = absurd c
last_at d t zero zero f (g ∷ gs) c = absurd c
last_at d t zero (suc n) f (g ∷ gs) c = let h = last_at d t zero n g gs c.1 in (suc h.0, omega arith, h.2)
last_at d t (suc m) n f (g ∷ gs) c = let h = last_at d t m n g gs c.1 in (suc h.0, omega arith, h.2)

pub ring_last : (r : Ring) → last_of (request r) (behind_request r) ≡ last_flop r.back
ring_last r = last_of-append (request r) (flops r.there) (acknowledge r) (flops r.back)

pub ne_cases : (a b x : Bool) → a ≢ b → (x ≡ a) ⊎ (x ≡ b)
ne_cases true true x h = absurd (h refl)
ne_cases true false true h = inl refl
ne_cases true false false h = inr refl
ne_cases false true true h = inr refl
ne_cases false true false h = inl refl
ne_cases false false x h = absurd (h refl)

module _ (d : Design) (t : Trees) (laws : AreTrees d t) (syncs : List Sync) (ok : (s : Sync) → Contains syncs s → IsSync d t s) where
  pub beyond_settled : (s : Sync) → Contains syncs s → (j : ℕ) (x : Bit) → settle_of d s.first ≤ j → IsAt j x (flops s) → is_settling d syncs x ≡ false
  beyond_settled s p j x l a = false_from_ne_true (is_settling d syncs x) (λ h.
      let (r, q, i) = settling_sync d t laws syncs ok x h in
      let u = place_unique d t laws syncs ok s r p q j i.0 x a i.2 in
      let e : settle_of d s.first ≡ settle_of d r.first = ap (settle_of d) u.1 in
      let m : i.0 < settle_of d r.first = i.1 in
      omega (arith, u.0))

  pub last_settled : (s : Sync) → Contains syncs s → (is_settling d syncs (last_flop s) ≡ false) × (group d (last_flop s) ≡ group d s.first)
  last_settled s p =
      let h = last_at d t (settle_of d s.first) (3 - settle_of d s.first) s.first s.more (ok s p).chain in
      (beyond_settled s p h.0 (last_flop s) h.1 h.2, group_of_clock d (last_flop s) s.first (at_clock d t laws syncs ok s p h.0 (last_flop s) h.2))

  pub request_settled : (r : Ring) → IsRing d t syncs r → is_settling d syncs (request r) ≡ false
  request_settled r k = source_settled d t laws syncs ok (request r) r.there.first (ok r.there k.there).crossing

  pub acknowledge_settled : (r : Ring) → IsRing d t syncs r → is_settling d syncs (acknowledge r) ≡ false
  acknowledge_settled r k = source_settled d t laws syncs ok (acknowledge r) r.back.first (ok r.back k.back).crossing

  module _ (edges : ℕ → Bool) (old new : State) (step : IsStep d edges old new) (only : OnlySettling d syncs old) where
    -- the flop behind an unsettled bit
    pub next_of : (b : Bit) → 1 ≤ old.left b → (x : Bit) × Follows d t b x
    next_of b u =
        let (s, i, p) = only b u in
        let n = next_at d t (settle_of d s.first) (3 - settle_of d s.first) s.first s.more (ok s i).chain p.0 b (omega (arith, p.2)) p.1 in
        (n.0, n.2)

    -- what an unsettled bit was taken for, by what follows
    abbrev pub before_by : Reading → (b : Bit) → (w : Bool) → nat_lt 0 (old.left b) ≡ w → Bool
    before_by v b true e = let x = next_of b (ltb-true 0 (old.left b) e) in cond (ticks d edges x.0) (v x.0) (v b)
    before_by v b false e = old.values b

    abbrev pub before : Reading → Reading
    before v b = before_by v b (nat_lt 0 (old.left b)) refl

    pub before_seen : (v : Reading) → IsSeen old (before v)
    before_seen v b = go (nat_lt 0 (old.left b)) refl
      where
        go : (w : Bool) (e : nat_lt 0 (old.left b) ≡ w) → (before_by v b w e ≡ old.values b) ⊎ (1 ≤ old.left b)
        go true e = inr (ltb-true 0 (old.left b) e)
        go false e = inl refl

    pub before_settled : (v : Reading) (b : Bit) → old.left b ≡ 0 → before v b ≡ old.values b
    before_settled v b z = elim (before_seen v b) [ inl e ↦ e | inr u ↦ absurd (omega arith) ]

    seen_settled : (v : Reading) → IsSeen new v → (b : Bit) → new.left b ≡ 0 → v b ≡ new.values b
    seen_settled v seen b z = elim (seen b) [ inl e ↦ e | inr u ↦ absurd (omega arith) ]

    -- without an edge
    waits_seen : (v : Reading) → IsSeen new v → (g : Bit) → d.is_register g ≡ true → ticks d edges g ≡ false → v g ≡ before v g
    waits_seen v seen g reg waiting = go (nat_lt 0 (old.left g)) refl
      where
        go : (w : Bool) (e : nat_lt 0 (old.left g) ≡ w) → v g ≡ before_by v g w e
        go false e =
            let h = step.held g reg waiting in
            let l = ltb-false 0 (old.left g) e in
            seen_settled v seen g (omega (arith, h.1)) ∙ h.0
        go true e =
            let x = next_of g (ltb-true 0 (old.left g) e) in
            sym (ap (λ w. cond w (v x.0) (v g)) (ap (λ o. is_in o edges) x.1.clock ∙ waiting))

    follow_moves : (v : Reading) → IsSeen new v → (f g : Bit) → Follows d t f g → (v g ≡ before v g) ⊎ ((v g ≡ before v f) ⊎ (v g ≡ v f))
    follow_moves v seen f g k = by_tick (ticks d edges g) refl
      where
        taken : ticks d edges g ≡ true → (w : Bool) (e : nat_lt 0 (old.left f) ≡ w) → v g ≡ before_by v f w e
        taken ticking false e =
            let l = ltb-false 0 (old.left f) e in
            let c = (copy_takes d t laws syncs ok edges old new step only g f k.register ticking k.copy (sym k.clock)).0 (omega arith) in
            seen_settled v seen g c.1 ∙ c.0
        taken ticking true e =
            let x = next_of f (ltb-true 0 (old.left f) e) in
            let same : g ≡ x.0 = x.1.only g k.register (laws.same_reads [] g f k.register (sym (laws.copied g k.register) ∙ k.copy)) in
            ap v same ∙ sym (ap (λ w. cond w (v x.0) (v f)) (ap (ticks d edges) (sym same) ∙ ticking))

        by_tick : (w : Bool) → ticks d edges g ≡ w → (v g ≡ before v g) ⊎ ((v g ≡ before v f) ⊎ (v g ≡ v f))
        by_tick true ticking = inr (inl (taken ticking (nat_lt 0 (old.left f)) refl))
        by_tick false waiting = inl (waits_seen v seen g k.register waiting)

    chain_moves : (v : Reading) → IsSeen new v → (m n : ℕ) (f : Bit) (gs : List Bit) → IsChain d t m n f gs → Moves (before v) v f gs
    chain_moves v seen m n f [] c = tt
    chain_moves v seen zero zero f (g ∷ gs) c = absurd c
    chain_moves v seen zero (suc n) f (g ∷ gs) c = (follow_moves v seen f g c.0, chain_moves v seen zero n g gs c.1)
    chain_moves v seen (suc m) n f (g ∷ gs) c = (follow_moves v seen f g c.0, chain_moves v seen m n g gs c.1)

    -- a register bit that keeps its value where two settled bits of its group have given ones
    pub keeps : (a b c : Bit) (v w : Bool) → d.is_register c ≡ true → old.left a ≡ 0 → group d a ≡ group d c → old.values a ≡ v → old.left b ≡ 0 → group d b ≡ group d c → old.values b ≡ w
        → ((r : Reading) → r a ≡ v → r b ≡ w → r c ≡ old.values c → d.next r c ≡ old.values c) → old.left c ≡ 0 → new.values c ≡ old.values c
    keeps a b c v w reg sa ga ea sb gb eb law sc = go (ticks d edges c) refl
      where
        go : (u : Bool) → ticks d edges c ≡ u → new.values c ≡ old.values c
        go false waiting = (step.held c reg waiting).0
        go true ticking =
            let p = step.captured c reg ticking in
            p.2 ∙ law (flipped p.0 old.values)
            (flipped_not p.0 old.values a (not_flipped d t laws syncs ok old new.values c a p.0 sa ga p.1) ∙ ea)
            (flipped_not p.0 old.values b (not_flipped d t laws syncs ok old new.values c b p.0 sb gb p.1) ∙ eb)
            (flipped_not p.0 old.values c (not_flipped d t laws syncs ok old new.values c c p.0 sc refl p.1))

    module _ (only_new : OnlySettling d syncs new) where
      sync_moves : (v : Reading) → IsSeen new v → (s : Sync) → Contains syncs s → Moves (before v) v s.from (flops s)
      sync_moves v seen s i = (by_tick (ticks d edges s.first) refl, chain_moves v seen (settle_of d s.first) (3 - settle_of d s.first) s.first s.more k.chain)
        where
          k : IsSync d t s
          k = ok s i

          none : is_settling d syncs s.from ≡ false
          none = source_settled d t laws syncs ok s.from s.first k.crossing

          was : before v s.from ≡ old.values s.from
          was = before_settled v s.from (left_zero d t laws syncs ok old only s.from none)

          is : v s.from ≡ new.values s.from
          is = seen_settled v seen s.from (left_zero d t laws syncs ok new only_new s.from none)

          one : (v s.first ≡ old.values s.from) ⊎ (v s.first ≡ new.values s.from) → (v s.first ≡ before v s.from) ⊎ (v s.first ≡ v s.from)
          one (inl e) = inl (e ∙ sym was)
          one (inr e) = inr (e ∙ sym is)

          by_tick : (w : Bool) → ticks d edges s.first ≡ w → (v s.first ≡ before v s.first) ⊎ ((v s.first ≡ before v s.from) ⊎ (v s.first ≡ v s.from))
          by_tick true ticking =
              let c = first_takes d t laws syncs ok edges old new step only s i ticking in
              inr (one (elim (seen s.first) [
                | inl e ↦ elim c.0 [ inl h ↦ inl (e ∙ h) | inr h ↦ inr (e ∙ h) ]
                | inr u ↦ ne_cases (old.values s.from) (new.values s.from) (v s.first) (c.1 u).0
              ]))
          by_tick false waiting = inl (waits_seen v seen s.first k.crossing.register waiting)

      module _ (r : Ring) (k : IsRing d t syncs r) where
        old_zero : (b : Bit) → is_settling d syncs b ≡ false → old.left b ≡ 0
        old_zero b none = left_zero d t laws syncs ok old only b none

        new_zero : (b : Bit) → is_settling d syncs b ≡ false → new.left b ≡ 0
        new_zero b none = left_zero d t laws syncs ok new only_new b none

        request_stays : (old.values (request r) ≡ old.values (last_flop r.back)) ⊎ (new.values (request r) ≡ old.values (request r))
        request_stays = go (one_of_two (old.values (request r)) (old.values (last_flop r.back)))
          where
            l : (is_settling d syncs (last_flop r.back) ≡ false) × (group d (last_flop r.back) ≡ group d r.back.first)
            l = last_settled r.back k.back

            go : (old.values (last_flop r.back) ≡ old.values (request r)) ⊎ (old.values (last_flop r.back) ≡ not (old.values (request r)))
                → (old.values (request r) ≡ old.values (last_flop r.back)) ⊎ (new.values (request r) ≡ old.values (request r))
            go (inl e) = inl (sym e)
            go (inr e) = inr (keeps (request r) (last_flop r.back) (request r) (old.values (request r)) (not (old.values (request r))) k.registers.0
                (old_zero (request r) (request_settled r k)) refl refl (old_zero (last_flop r.back) l.0) (l.1 ∙ k.back_group) e
                (λ q a b c. laws.known ((request r, old.values (request r)) ∷ (last_flop r.back, not (old.values (request r))) ∷ []) (request r) (old.values (request r)) k.registers.0
                (k.waits (old.values (request r))) q (a, (b, tt)))
                (old_zero (request r) (request_settled r k)))

        acknowledge_moves : (v : Reading) → IsSeen new v → (v (acknowledge r) ≡ before v (acknowledge r)) ⊎ ((v (acknowledge r) ≡ before v (last_flop r.there)) ⊎ (v (acknowledge r) ≡ v (last_flop r.there)))
        acknowledge_moves v seen = go (one_of_two (old.values (acknowledge r)) (old.values (last_flop r.there)))
          where
            l : (is_settling d syncs (last_flop r.there) ≡ false) × (group d (last_flop r.there) ≡ group d r.there.first)
            l = last_settled r.there k.there

            is : v (acknowledge r) ≡ new.values (acknowledge r)
            is = seen_settled v seen (acknowledge r) (new_zero (acknowledge r) (acknowledge_settled r k))

            was : before v (acknowledge r) ≡ old.values (acknowledge r)
            was = before_settled v (acknowledge r) (old_zero (acknowledge r) (acknowledge_settled r k))

            last_was : before v (last_flop r.there) ≡ old.values (last_flop r.there)
            last_was = before_settled v (last_flop r.there) (old_zero (last_flop r.there) l.0)

            go : (old.values (last_flop r.there) ≡ old.values (acknowledge r)) ⊎ (old.values (last_flop r.there) ≡ not (old.values (acknowledge r)))
                → (v (acknowledge r) ≡ before v (acknowledge r)) ⊎ ((v (acknowledge r) ≡ before v (last_flop r.there)) ⊎ (v (acknowledge r) ≡ v (last_flop r.there)))
            go (inl e) = inl (is ∙ keeps (last_flop r.there) (acknowledge r) (acknowledge r) (old.values (acknowledge r)) (old.values (acknowledge r)) k.registers.1
                (old_zero (last_flop r.there) l.0) (l.1 ∙ sym k.there_group) e (old_zero (acknowledge r) (acknowledge_settled r k)) refl refl
                (λ q a b c. laws.known ((last_flop r.there, old.values (acknowledge r)) ∷ (acknowledge r, old.values (acknowledge r)) ∷ []) (acknowledge r) (old.values (acknowledge r)) k.registers.1
                (k.answers (old.values (acknowledge r))) q (a, (b, tt)))
                (old_zero (acknowledge r) (acknowledge_settled r k)) ∙ sym was)
            go (inr e) = elim (one_of_two (old.values (acknowledge r)) (new.values (acknowledge r))) [
              | inl h ↦ inl (is ∙ h ∙ sym was)
              | inr h ↦ inr (inl (is ∙ h ∙ sym e ∙ sym last_was))
            ]

        pub ring_moves : (v : Reading) → IsSeen new v → Moves (before v) v (request r) (behind_request r)
        ring_moves v seen = moves-append (before v) v (request r) (flops r.there) (acknowledge r) (flops r.back)
            (sync_moves v seen r.there k.there) (acknowledge_moves v seen) (sync_moves v seen r.back k.back)

        -- the law of the ring
        pub ring_step : RingTurnsOnce r old → RingTurnsOnce r new
        ring_step h v seen = turns_kept (before v) v (request r) (behind_request r)
            (subst (λ (b : Bit). (before v (request r) ≡ before v b) ⊎ (v (request r) ≡ before v (request r))) (sym (ring_last r)) stays) (h (before v) (before_seen v)) (ring_moves v seen)
          where
            was : before v (request r) ≡ old.values (request r)
            was = before_settled v (request r) (old_zero (request r) (request_settled r k))

            stays : (before v (request r) ≡ before v (last_flop r.back)) ⊎ (v (request r) ≡ before v (request r))
            stays = elim request_stays [
              | inl e ↦ inl (was ∙ e ∙ sym (before_settled v (last_flop r.back) (old_zero (last_flop r.back) (last_settled r.back k.back).0)))
              | inr e ↦ inr (seen_settled v seen (request r) (new_zero (request r) (request_settled r k)) ∙ e ∙ sym was)
            ]
