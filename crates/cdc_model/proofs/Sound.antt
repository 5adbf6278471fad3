-- A justified design is sound.
use Rattle.std.proofs.Common.{◌≡◌, ◌≢◌, ℕ, ◌<◌, ◌-◌, Bool, true, false, not, Option, Some, option_map, List, [], ◌∷◌, Contains, ◌⊎◌, inl, inr, refl, sym, ap, subst, ◌∙◌, map, arith}
use Rattle.std.specs.Prelude.{slice_get}
use Rattle.std.specs.List.{AllByRecursion}
use Rattle.std.proofs.lemmas.Bool.{both_ways, false_from_ne_true}
use Rattle.std.proofs.lemmas.Option.{slice_get-map}
use Rattle.cdc_base.specs.declared.bit.Bit.{Bit}
use Rattle.cell_graph.specs.Reading.{bit_eq, Reading}
use Rattle.cell_graph.proofs.Bits.{bit_eq-true}
use Rattle.cdc_model.specs.declared.scheme.Cover.{Cover}
use Rattle.cdc_model.specs.declared.scheme.Scheme.{Scheme}
use Rattle.cdc_model.specs.declared.scheme.Scheme.TheVariants.{TwoFlop, Gray, Handshake, Recirc}
use Rattle.cdc_model.specs.Design.{Design, word, are_async, group, settle_by, settle_of, is_behind, flipped, AgreeBut}
use Rattle.cdc_model.specs.Runs.{State, Trace, Start, Then, now, IsRun, InEachStep}
use Rattle.cdc_model.specs.declared.scheme.GrayReg.{GrayReg}
use Rattle.cdc_model.specs.declared.scheme.Load.{Load}
use Rattle.cdc_model.specs.Schemes.{IsAt, Trees, AreTrees, IsCrossing, Sync, flops, is_settling, last_flop, Ring, request, behind_request, ring_bits, IsRing, IsHeld, IsLoad, Justified}
use Rattle.cdc_model.specs.Facts.{Facts, TakeWord, AreJustifiedBy}
use Rattle.cdc_model.specs.Sound.{is_synchronized, ring_of, IsSettlingFlop, Covered, IsNext, Settled, CalmStep, HaveWord, WholeStep, KeptSince, HeldStep, HasRings, Sound}
use Rattle.cdc_model.proofs.Flips.{flipped_not, same_group_not_async}
use Rattle.cdc_model.proofs.Chain.{next_at, settling_sync, left_zero}
use Rattle.cdc_model.proofs.Behind.{at_behind, behind_at}
use Rattle.cdc_model.proofs.Turns.{AllAre, one_of_two, not_self, all_kept, all_last}
use Rattle.cdc_model.proofs.Rings.{ring_last, request_settled, before, before_settled, ring_moves}
use Rattle.cdc_model.proofs.Loads.{data_kept, all_agree, gate_agrees, gate_pair, shut}
use Rattle.cdc_model.proofs.Justify.{slice_in}
use Rattle.cdc_model.proofs.Covers.{CoverFacts}
use Rattle.cdc_model.proofs.Whole.{all_start, facts_now, calm_run, whole_run}

no_ring : (s : Scheme) (k : ℕ) → is_synchronized s ≡ true → ring_of s ≡ Some k → ⊥
no_ring (TwoFlop n) k p e = cc
no_ring (Gray n) k p e = cc
no_ring (Handshake n) k p e = cc
no_ring (Recirc n) k p e = cc

unringed : (s : Scheme) (k : ℕ) → ring_of s ≡ Some k → is_synchronized s ≡ false
unringed (TwoFlop n) k e = cc
unringed (Gray n) k e = cc
unringed (Handshake n) k e = refl
unringed (Recirc n) k e = refl

one_number : (a b : ℕ) (o : Option ℕ) → o ≡ Some a → o ≡ Some b → a ≡ b
one_number a b o p q = cc

-- flipping b alone
flip_agrees : (b : Bit) (r : Reading) → AgreeBut b r (flipped (bit_eq b) r)
flip_agrees b r a ne = sym (flipped_not (bit_eq b) r a (false_from_ne_true (bit_eq b a) (λ h. ne (sym (bit_eq-true b a h)))))

module _ (d : Design) (t : Trees) (laws : AreTrees d t) (syncs : List Sync) (grays : List GrayReg) (rings : List Ring) (loads : List Load) (is_extra : Bit → Bit → Bool)
    (ok : Justified d t syncs grays rings loads is_extra) (keeps : State → Type 0) (extra : AreJustifiedBy d syncs grays rings is_extra keeps) where
  facts_at : (run : Trace) → IsRun d run → Facts d syncs grays rings (now run)
  facts_at run h = facts_now d t laws syncs grays rings loads is_extra ok keeps extra run h

  -- while request and last flop back differ, the data is what it was when the request last changed
  kept_since : (r : Ring) → Contains rings r → (b x : Bit) → IsCrossing d t b x → IsHeld d t r b → (run : Trace) → IsRun d run
      → (now run).values (last_flop r.back) ≡ not ((now run).values (request r)) → KeptSince (request r) b run
  kept_since r i b x crossing held (Start s) first differ =
      let k : IsRing d t syncs r = ok.are_rings r i in
      let all = all_start d s first s.values (λ c. inl refl) k.start.0 (ring_bits r) k.start.1 in
      absurd (not_self k.start.0 (sym (all_last k.start.0 s.values (request r) (behind_request r) all.0 all.1) ∙ ap s.values (ring_last r) ∙ differ ∙ ap not all.0))
  kept_since r i b x crossing held (Then past edges new) run differ =
      go (λ e. kept_since r i b x crossing held past run.0 e) (one_of_two (old.values (request r)) (new.values (request r))) (one_of_two (old.values (request r)) (old.values (last_flop r.back)))
    where
      old : State
      old = now past

      k : IsRing d t syncs r
      k = ok.are_rings r i

      facts : Facts d syncs grays rings old
      facts = facts_at past run.0

      prior : Reading
      prior = before d t laws syncs ok.are_syncs edges old new run.1 facts.settled new.values

      prior_is : (c : Bit) → old.left c ≡ 0 → prior c ≡ old.values c
      prior_is c z = before_settled d t laws syncs ok.are_syncs edges old new run.1 facts.settled new.values c z

      prior_all : (v : Bool) (bs : List Bit) → AllByRecursion (λ c. (old.values c ≡ v) × (old.left c ≡ 0)) bs → AllAre v prior bs
      prior_all v [] all = tt
      prior_all v (c ∷ cs) all = (prior_is c all.0.1 ∙ all.0.0, prior_all v cs all.1)

      prior_request : prior (request r) ≡ old.values (request r)
      prior_request = prior_is (request r) (left_zero d t laws syncs ok.are_syncs old facts.settled (request r) (request_settled d t laws syncs ok.are_syncs r k))

      go : (old.values (last_flop r.back) ≡ not (old.values (request r)) → KeptSince (request r) b past)
          → (new.values (request r) ≡ old.values (request r)) ⊎ (new.values (request r) ≡ not (old.values (request r)))
          → (old.values (last_flop r.back) ≡ old.values (request r)) ⊎ (old.values (last_flop r.back) ≡ not (old.values (request r)))
          → KeptSince (request r) b (Then past edges new)
      go ih (inr turned) ends = inl (λ e. not_self (old.values (request r)) (e ∙ turned))
      go ih (inl same) (inr e) = inr (
        elim (data_kept d t laws syncs ok.are_syncs edges old new run.1 facts.settled r k b x crossing held) [
          | inl f ↦ absurd (not_self (old.values (request r)) (f ∙ e))
          | inr f ↦ sym f
        ],
        ih e,
      )
      go ih (inl same) (inl e) =
          let all : AllAre (prior (request r)) prior (behind_request r) = subst (λ (v : Bool). AllAre v prior (behind_request r)) (sym prior_request)
          (prior_all (old.values (request r)) (behind_request r) (all_agree d t laws syncs ok.are_syncs r k old facts.settled (facts.turn r i) (sym e))) in
          let moves = ring_moves d t laws syncs ok.are_syncs edges old new run.1 facts.settled (facts_at (Then past edges new) run).settled r k new.values (λ c. inl refl) in
          let after = all_kept prior new.values (request r) (behind_request r) all (same ∙ sym prior_request) moves in
          let last = all_last (prior (request r)) new.values (request r) (behind_request r) (same ∙ sym prior_request) after in
          absurd (not_self (new.values (request r)) (same ∙ sym prior_request ∙ sym last ∙ ap new.values (ring_last r) ∙ differ))

  module _ (covers : List Cover) (fit : CoverFacts syncs loads covers) where
    -- a settling flop by the synchronizers is one by the covers
    settling_cover : (x : Bit) → is_settling d syncs x ≡ true → IsSettlingFlop d covers x
    settling_cover x h =
        let (s, i, p) = settling_sync d t laws syncs ok.are_syncs x h in
        let (c, c_in, scheme, from, to) = fit.sync s i in
        (c, c_in, scheme, (p.0, subst (λ (f : Bit). p.0 < settle_of d f) (sym to) p.1, subst (λ (f : Bit). is_behind d f p.0 x ≡ true) (sym to) (at_behind d t laws syncs ok.are_syncs s i p.0 x p.2)))

    calm : InEachStep d (λ past edges new. CalmStep d covers edges (now past) new)
    calm past edges new run x reg ticking none =
        calm_run d t laws syncs grays rings loads is_extra ok keeps extra past edges new run x reg ticking
        (false_from_ne_true (is_settling d syncs x) (λ h. none (settling_cover x h))) tt

    -- a flop at a place, by a cover, is one by its synchronizer
    place_of : (s : Sync) → Contains syncs s → (f : Bit) → s.first ≡ f → (j : ℕ) (x : Bit) → j < settle_of d f → is_behind d f j x ≡ true → (j < settle_of d s.first) × IsAt j x (flops s)
    place_of s i f e j x l h =
        let m : j < settle_of d s.first = subst (λ (z : Bit). j < settle_of d z) (sym e) l in
        (m, behind_at d t laws syncs ok.are_syncs s i j x (omega arith) (subst (λ (z : Bit). is_behind d z j x ≡ true) (sym e) h))

    whole : InEachStep d (WholeStep d covers)
    whole past edges new run c word j before after edge l h =
        elim (whole_run d t laws syncs grays rings loads is_extra ok keeps extra (Then past edges new) run c word j before after l h) [
          | inl k ↦ inl (by_cover before.values k)
          | inr k ↦ inr (by_cover after.values k)
        ]
      where
        by_cover : (source : Reading) → TakeWord d syncs c word j new.values source → HaveWord d covers c word j new.values source
        by_cover source k cover x i p e w at =
            let (s, s_in, from, to) = fit.of_sync cover i p in
            let m : j < settle_of d cover.to = subst (λ (n : ℕ). j < n) (sym (ap (settle_by d.settle) e)) l in
            k s x s_in (ap d.clock to ∙ e) (ap (λ (b : Bit). b.sig) from ∙ w) (place_of s s_in cover.to to j x m at).1 ∙ ap source from

    covered : Covered d covers is_extra
    covered b x r q reg async agree ne = go (t.reads [] x b) refl
      where
        go : (v : Bool) → t.reads [] x b ≡ v → ((c : Cover) × Contains covers c × (c.from ≡ b) × (c.to ≡ x)) ⊎ (is_extra b x ≡ true)
        go true reads = by_item (ok.each b x (record { register = reg; reads = reads; async = async }))
          where
            by_item : ((s : Sync) × Contains syncs s × (s.from ≡ b) × (s.first ≡ x)) ⊎ (((l : Load) × Contains loads l × (l.from ≡ b) × (l.to ≡ x)) ⊎ (is_extra b x ≡ true))
                → ((c : Cover) × Contains covers c × (c.from ≡ b) × (c.to ≡ x)) ⊎ (is_extra b x ≡ true)
            by_item (inl s) = let c = fit.sync s.0 s.1 in inl (c.0, c.1, c.3 ∙ s.2, c.4 ∙ s.3)
            by_item (inr (inl l)) = let c = fit.load l.0 l.1 in inl (c.0, c.1, c.3 ∙ l.2, c.4 ∙ l.3)
            by_item (inr (inr e)) = inr e
        go false unread = absurd (ne (laws.reads [] x r q reg tt tt
            (λ a reads. agree a (λ e. both_ways (t.reads [] x b) unread (subst (λ (z : Bit). t.reads [] x z ≡ true) e reads)))))

    settled : Settled d covers
    settled c i p =
        let s = fit.of_sync c i p in
        let k = ok.are_syncs s.0 s.1 in (
          ap d.copied (sym s.3) ∙ k.copy ∙ ap Some s.2,
          subst (λ (a : Bit). are_async d a c.to ≡ true) s.2 (subst (λ (a : Bit). are_async d s.0.from a ≡ true) s.3 k.crossing.async),
          λ j f l h. next_flop s.0 s.1 j f (place_of s.0 s.1 c.to s.3 j f l h),
        )
      where
        next_flop : (s : Sync) → Contains syncs s → (j : ℕ) (f : Bit) → (j < settle_of d s.first) × IsAt j f (flops s) → (g : Bit) × IsNext d f g
        next_flop s i j f at =
            let (g, g_at, follows) = next_at d t (settle_of d s.first) (3 - settle_of d s.first) s.first s.more (ok.are_syncs s i).chain j f at.0 at.1 in (
              g,
              record {
                register = follows.register;
                copy = follows.copy;
                clock = follows.clock;
                only = λ x reg e. follows.only x reg (laws.same_reads [] x f reg (sym (laws.copied x reg) ∙ e));
                others = λ x reg ne r q agree. laws.reads [] x r q reg tt tt
                    (λ a reads. agree a (λ e. ne (follows.only x reg (subst (λ (z : Bit). t.reads [] x z ≡ true) e reads))));
              },
            )

    ringed : HasRings covers (map ring_bits rings)
    ringed c n i e =
        let (l, l_in, from, to, at) = fit.of_load c i (unringed c.scheme n e) in
        let (r, r_at, held, blind) = (ok.are_loads l l_in).ring in
        (request r, behind_request r, ap (slice_get (map ring_bits rings)) (one_number n l.ring (ring_of c.scheme) e at) ∙ slice_get-map ring_bits rings l.ring ∙ ap (option_map ring_bits) r_at)

    held : InEachStep d (HeldStep d covers (map ring_bits rings))
    held past edges new run c n i e ticking (r, but, ne) = (request g, behind_request g, at, c_kept, c_since)
      where
        old : State
        old = now past

        -- the reading with the data flipped
        q : Reading
        q = flipped (bit_eq c.from) r

        agree : AgreeBut c.from r q
        agree = flip_agrees c.from r

        l : (l : Load) × Contains loads l × (l.from ≡ c.from) × (l.to ≡ c.to) × (ring_of c.scheme ≡ Some l.ring)
        l = fit.of_load c i (unringed c.scheme n e)

        j : IsLoad d t rings l.0
        j = ok.are_loads l.0 l.1

        g : Ring
        g = j.ring.0

        g_in : Contains rings g
        g_in = slice_in rings l.0.ring g j.ring.1

        g_ok : IsRing d t syncs g
        g_ok = ok.are_rings g g_in

        facts : Facts d syncs grays rings old
        facts = facts_at past run.0

        -- a bit of the reading group is no source of a load of c.to
        own : (a : Bit) → group d a ≡ group d l.0.to → (b : Bit) → are_async d b c.to ≡ true → b ≢ a
        own a ga b async eq = both_ways (are_async d a c.to) (same_group_not_async d a c.to (ga ∙ ap (group d) l.3)) (subst (λ (z : Bit). are_async d z c.to ≡ true) eq async)

        load_async : (f : Cover) → Contains covers f → is_synchronized f.scheme ≡ false → f.to ≡ c.to → are_async d f.from c.to ≡ true
        load_async f f_in p to =
            let m = fit.of_load f f_in p in
            subst (λ (z : Bit). are_async d f.from z ≡ true) (m.3 ∙ to) (subst (λ (z : Bit). are_async d z m.0.to ≡ true) m.2 (ok.are_loads m.0 m.1).crossing.async)

        r_at : (a : Bit) → group d a ≡ group d l.0.to → r a ≡ old.values a
        r_at a ga = but a (λ f f_in p to. own a ga f.from (load_async f f_in p to))

        q_at : (a : Bit) → group d a ≡ group d l.0.to → q a ≡ old.values a
        q_at a ga = sym (agree a (λ eq. own a ga c.from (load_async c i (unringed c.scheme n e) refl) (sym eq))) ∙ r_at a ga

        one : Bit
        one = j.ring.3.gate.0

        two : Bit
        two = j.ring.3.gate.1

        pair : (group d one ≡ group d l.0.to) × (group d two ≡ group d l.0.to)
        pair = gate_pair d t laws syncs ok.are_syncs g g_ok l.0.gate one two l.0.from l.0.to j.ring.3.gate.2 j.ring.3

        agreed : old.values (last_flop g.back) ≡ old.values (request g) → ⊥
        agreed h =
            let v = gate_agrees d t laws syncs ok.are_syncs g g_ok old facts.settled (facts.turn g g_in) (sym h) l.0.gate one two j.ring.3.gate.2 in
            ne (subst (λ (z : Bit). d.next r z ≡ d.next q z) l.3
            (shut d t laws syncs ok.are_syncs one two l.0.from l.0.to j.crossing.register j.ring.3.gate.3 (old.values (request g)) r q
            (r_at one pair.0 ∙ v.0.0) (r_at two pair.1 ∙ v.1.0) (q_at one pair.0 ∙ v.0.0) (q_at two pair.1 ∙ v.1.0)
            (λ a m. agree a (λ eq. m (eq ∙ sym l.2)))))

        differ : old.values (last_flop g.back) ≡ not (old.values (request g))
        differ = elim (one_of_two (old.values (request g)) (old.values (last_flop g.back))) [ inl h ↦ absurd (agreed h) | inr h ↦ h ]

        c_kept : old.values c.from ≡ new.values c.from
        c_kept = elim (data_kept d t laws syncs ok.are_syncs edges old new run.1 facts.settled g g_ok l.0.from l.0.to j.crossing j.ring.2) [
          | inl h ↦ absurd (not_self (old.values (request g)) (h ∙ differ))
          | inr h ↦ subst (λ (z : Bit). old.values z ≡ new.values z) l.2 (sym h)
        ]

        at : slice_get (map ring_bits rings) n ≡ Some (ring_bits g)
        at = ap (slice_get (map ring_bits rings)) (one_number n l.0.ring (ring_of c.scheme) e l.4) ∙ slice_get-map ring_bits rings l.0.ring ∙ ap (option_map ring_bits) j.ring.1

        c_since : KeptSince (request g) c.from past
        c_since = subst (λ (z : Bit). KeptSince (request g) z past) l.2 (kept_since g g_in l.0.from l.0.to j.crossing j.ring.2 past run.0 differ)

    pub sound : Sound d covers (map ring_bits rings) is_extra
    sound = record { covered = covered; settled = settled; calm = calm; whole = whole; ringed = ringed; held = held }
