-- The induction over runs, and that settling flops take whole words.
use Rattle.std.proofs.Common.{◌≡◌, ◌≢◌, ℕ, zero, suc, ◌-◌, ◌<◌, ◌==◌, ◌&&◌, Bool, true, false, cond, not, Option, Some, None, option_map, List, [], ◌∷◌, Contains, ◌⊎◌, inl, inr, refl, sym, ap, subst, ◌∙◌, map, arith, eq-eqb, eqb-true}
use Rattle.std.specs.Bool.{beq}
use Rattle.std.specs.Prelude.{⊤}
use Rattle.std.specs.List.{AllByRecursion, list_any}
use Rattle.std.proofs.lemmas.Bool.{both_ways, and_parts, and_from}
use Rattle.std.proofs.lemmas.List.Folds.{Any-from_list_any, list_any-from_Any}
use Rattle.cdc_base.specs.declared.bit.Bit.{Bit}
use Rattle.cell_graph.specs.Reading.{Reading}
use Rattle.cdc_model.specs.Design.{Design, word, group, settle_by, settle_of, is_behind}
use Rattle.cdc_model.specs.Runs.{State, Trace, Start, Then, now, is_in, IsStep, IsFirst, IsRun, around, InEachState}
use Rattle.cdc_model.specs.declared.scheme.GrayReg.{GrayReg}
use Rattle.cdc_model.specs.declared.scheme.Shape.{Shape}
use Rattle.cdc_model.specs.declared.scheme.Shape.TheVariants.{G1, G2, G3}
use Rattle.cdc_model.specs.Gray.{gray_code}
use Rattle.cdc_model.specs.declared.scheme.Load.{Load}
use Rattle.cdc_model.specs.Schemes.{IsAt, Trees, AreTrees, Sync, IsChain, flops, Ring, behind_request, ring_bits, IsRing, Justified}
use Rattle.cdc_model.specs.Facts.{OnlySettling, IsSeen, TurnsOnce, RingTurnsOnce, IsCoded, Facts, AllCalm, IsEither, TakeWord, IsWhole, AreJustifiedBy}
use Rattle.cdc_model.proofs.Chain.{same_place}
use Rattle.cdc_model.proofs.Behind.{source_clock, at_behind, behind_at}
use Rattle.cdc_model.proofs.Taken.{pair_parts, settling_holds}
use Rattle.cdc_model.proofs.Turns.{AllAre}
use Rattle.cdc_model.proofs.Codes.{DifferOnce, one_changes, word_has}
use Rattle.cdc_model.proofs.Justify.{first_once, calm_but, facts_step, gray_both}

-- ---- steps of a run

abbrev pub EachStep : (State → State → Type 0) → Trace → Type 0
EachStep P (Start s) = ⊤
EachStep P (Then past edges s) = EachStep P past × P (now past) s

-- what holds in each step holds in the one so many ticks ago
around_step : (P : State → State → Type 0) (c : ℕ) (run : Trace) → EachStep P run → (j : ℕ) (before after : State) → around c j run ≡ Some (before, after) → P before after
around_step P c (Start s) each j before after h = cc
around_step P c (Then past edges new) each zero before after h = go (edges c) refl (around_step P c past each.0 zero before after)
  where
    go : (v : Bool) → edges c ≡ v → (around c zero past ≡ Some (before, after) → P before after) → P before after
    go true k ih =
        let b : Some (now past, new) ≡ Some (before, after) = sym (ap (λ v. cond v (Some (now past, new)) (around c zero past)) k) ∙ h in
        let (g, f) = pair_parts (now past, new) (before, after) b in
        subst (λ (z : State). P z after) g (subst (λ (z : State). P (now past) z) f each.1)
    go false k ih = ih (sym (ap (λ v. cond v (Some (now past, new)) (around c zero past)) k) ∙ h)
around_step P c (Then past edges new) each (suc j) before after h =
    go (edges c) refl (around_step P c past each.0 j before after) (around_step P c past each.0 (suc j) before after)
  where
    go : (v : Bool) → edges c ≡ v → (around c j past ≡ Some (before, after) → P before after) → (around c (suc j) past ≡ Some (before, after) → P before after) → P before after
    go true k ih jh = ih (sym (ap (λ v. cond v (around c j past) (around c (suc j) past)) k) ∙ h)
    go false k ih jh = jh (sym (ap (λ v. cond v (around c j past) (around c (suc j) past)) k) ∙ h)

-- ---- first states

still : (v : Bool) (r : Reading) (bs : List Bit) → AllAre v r bs → TurnsOnce v (map r bs)
still v r [] all = tt
still v r (b ∷ bs) all = inl (all.0, still v r bs all.1)

pub all_start : (d : Design) (s : State) → IsFirst d s → (q : Reading) → IsSeen s q → (v : Bool) (bs : List Bit) → AllByRecursion (λ b. d.start b ≡ Some v) bs → AllAre v q bs
all_start d s first q seen v [] all = tt
all_start d s first q seen v (b ∷ bs) all =
    (elim (seen b) [ inl e ↦ e ∙ first.start b v all.0 | inr u ↦ absurd (omega (arith, first.settled b)) ], all_start d s first q seen v bs all.1)

coded_start : (shape : Shape) (b g : List Bool) → g ≡ gray_code b → IsCoded shape b g
coded_start G1 b g e = e
coded_start G2 b g e = e
coded_start G3 b g e = inl e

-- ---- tests

pub is_in_eq : (o : Option ℕ) (c : ℕ) → is_in o (λ e. e == c) ≡ true → o ≡ Some c
is_in_eq None c h = cc
is_in_eq (Some e) c h = ap Some (eqb-true e c h)

beq_true : (a b : Bool) → not (beq a b) ≡ false → a ≡ b
beq_true true true h = refl
beq_true true false h = cc
beq_true false true h = cc
beq_true false false h = refl

beq_false : (a b : Bool) → not (beq a b) ≡ true → a ≢ b
beq_false true true h e = cc
beq_false true false h e = cc
beq_false false true h e = cc
beq_false false false h e = cc

false_if : (v : Bool) → (v ≡ true → ⊥) → v ≡ false
false_if true h = absurd (h refl)
false_if false h = refl

-- there is a flop at each place that has to be
pub there_is : (d : Design) (t : Trees) (m n : ℕ) (f : Bit) (gs : List Bit) → IsChain d t m n f gs → (j : ℕ) → j < m → (x : Bit) × IsAt j x (f ∷ gs)
there_is d t m n f gs c zero l = (f, refl)
there_is d t zero n f gs c (suc j) l = absurd (omega arith)
there_is d t (suc m) n f [] c (suc j) l = absurd c
there_is d t (suc m) n f (g ∷ gs) c (suc j) l = there_is d t m n g gs c.1 j (omega arith)

-- the value at a place
value_at : Reading → ℕ → List Bit → Bool
value_at r j [] = false
value_at r zero (f ∷ fs) = r f
value_at r (suc j) (f ∷ fs) = value_at r j fs

value_is : (r : Reading) (j : ℕ) (x : Bit) (fs : List Bit) → IsAt j x fs → value_at r j fs ≡ r x
unfolding value_at
value_is r j x [] a = absurd a
value_is r zero x (f ∷ fs) a = ap r (sym a)
value_is r (suc j) x (f ∷ fs) a = value_is r j x fs a

module _ (d : Design) (t : Trees) (laws : AreTrees d t) (syncs : List Sync) (grays : List GrayReg) (rings : List Ring) (loads : List Load) (is_extra : Bit → Bit → Bool)
    (ok : Justified d t syncs grays rings loads is_extra) where
  -- what holds in each state and in each step
  abbrev pub Carried : Trace → Type 0
  Carried (Start s) = Facts d syncs grays rings s
  Carried (Then past edges s) = Carried past × Facts d syncs grays rings s × AllCalm d syncs edges (now past) s (λ x. Unit {0})

  pub facts_of : (run : Trace) → Carried run → Facts d syncs grays rings (now run)
  facts_of (Start s) k = k
  facts_of (Then past edges s) k = k.1

  pub all_settled : (run : Trace) → Carried run → InEachState (OnlySettling d syncs) run
  all_settled (Start s) k = k.settled
  all_settled (Then past edges s) k = (all_settled past k.0, k.1.settled)

  pub all_facts : (run : Trace) → Carried run → InEachState (Facts d syncs grays rings) run
  all_facts (Start s) k = k
  all_facts (Then past edges s) k = (all_facts past k.0, k.1)

  -- at most one bit of a Gray register changes
  abbrev TurnsOneBit : State → State → Type 0
  TurnsOneBit before after = (g : GrayReg) → Contains grays g → DifferOnce (map before.values (word d g.gray)) (map after.values (word d g.gray))

  one_bit_each : (run : Trace) → IsRun d run → Carried run → EachStep TurnsOneBit run
  one_bit_each (Start s) run k = tt
  one_bit_each (Then past edges s) run k =
      (one_bit_each past run.0 k.0, λ g i. (gray_both d t laws syncs grays rings loads is_extra ok edges (now past) s run.1 (facts_of past k.0) k.2 g i).1)

  -- a source whose word is a code is one of its bits
  source_in : (s : Sync) → Contains syncs s → (g : GrayReg) → g.gray ≡ s.from.sig → Contains (word d g.gray) s.from
  source_in s i g e =
      let c = source_clock d s.from s.first (ok.are_syncs s i).crossing.async in
      subst (λ (n : ℕ). Contains (word d n) s.from) (sym e) (word_has s.from 0 (d.width s.from.sig) (omega arith) (let m : s.from.at < d.width s.from.sig = laws.within s.from c.0 c.1 in omega arith))

  -- of the sources of a word's flops in one group, one changes at most
  one_source : (before after : State) → TurnsOneBit before after → (s r : Sync) → Contains syncs s → Contains syncs r → s.from.sig ≡ r.from.sig → group d s.first ≡ group d r.first
      → before.values s.from ≢ after.values s.from → (r.from ≡ s.from) ⊎ (before.values r.from ≡ after.values r.from)
  one_source before after turns s r i j same_word same changed = go (ok.words s r i j same_word same)
    where
      go : (s.from ≡ r.from) ⊎ ((g : GrayReg) × Contains grays g × (g.gray ≡ s.from.sig)) → (r.from ≡ s.from) ⊎ (before.values r.from ≡ after.values r.from)
      go (inl e) = inl (sym e)
      go (inr (g, k, at)) =
          let c = one_changes before.values after.values (word d g.gray) (turns g k) in
          elim (c.1 r.from (source_in r j g (at ∙ same_word))) [
            | inr e ↦ inr e
            | inl e ↦ elim (c.1 s.from (source_in s i g at)) [ inl f ↦ inl (e ∙ sym f) | inr f ↦ absurd (changed f) ]
          ]

  -- the flop is of the clock, its source is of the word, and it hasn't the value before
  abbrev picks : ℕ → ℕ → ℕ → Reading → Reading → Sync → Bool
  picks c word j taken source s = (is_in (d.clock s.first) (λ e. e == c) && (s.from.sig == word)) && not (beq (value_at taken j (flops s)) (source s.from))

  pub whole : (run : Trace) → IsRun d run → Carried run → IsWhole d syncs run
  whole run is_run carried c word j before after l h = by_any (list_any (picks c word j (now run).values before.values) syncs) refl
    where
      turns : TurnsOneBit before after
      turns = around_step TurnsOneBit c run (one_bit_each run is_run carried) j before after h

      holds : (s : Sync) (x : Bit) → Contains syncs s → d.clock s.first ≡ Some c → IsAt j x (flops s) → IsEither (now run) x (before.values s.from) (after.values s.from)
      holds s x i e a = settling_holds d t laws syncs ok.are_syncs s i c e run is_run (all_settled run carried) j x a before after h

      settle_is : (s : Sync) → d.clock s.first ≡ Some c → j < settle_of d s.first
      settle_is s e = subst (λ (m : ℕ). j < m) (sym (ap (settle_by d.settle) e)) l

      picked : (s : Sync) (x : Bit) → Contains syncs s → d.clock s.first ≡ Some c → s.from.sig ≡ word → IsAt j x (flops s)
          → not (beq (value_at (now run).values j (flops s)) (before.values s.from)) ≡ true → list_any (picks c word j (now run).values before.values) syncs ≡ true
      picked s x i e w a n = list_any-from_Any (picks c word j (now run).values before.values) syncs (
        i.0,
        s,
        i.1,
        i.2,
        and_from (is_in (d.clock s.first) (λ e. e == c) && (s.from.sig == word)) (not (beq (value_at (now run).values j (flops s)) (before.values s.from)))
            (and_from (is_in (d.clock s.first) (λ e. e == c)) (s.from.sig == word) (ap (λ o. is_in o (λ e. e == c)) e ∙ eq-eqb c c refl) (eq-eqb s.from.sig word w)) n,
      )

      -- a flop that hasn't the value before: each has the value after
      others : (s : Sync) (x : Bit) → Contains syncs s → d.clock s.first ≡ Some c → s.from.sig ≡ word → IsAt j x (flops s) → (now run).values x ≢ before.values s.from
          → TakeWord d syncs c word j (now run).values after.values
      others s x i e w a ne r y k f v b =
          let taken : (now run).values x ≡ after.values s.from = elim (holds s x i e a).0 [ inl m ↦ absurd (ne m) | inr m ↦ m ] in
          let same : group d s.first ≡ group d r.first = ap (option_map d.group_of) (e ∙ sym f) in
          elim (one_source before after turns s r i k (w ∙ sym v) same (λ m. ne (taken ∙ sym m))) [
            | inl m ↦ ap (now run).values (one_flop r y k f b m (sym same)) ∙ taken ∙ ap after.values (sym m)
            | inr m ↦ elim (holds r y k f b).0 [ inl n ↦ n ∙ m | inr n ↦ n ]
          ]
        where
          one_flop : (r : Sync) (y : Bit) → Contains syncs r → d.clock r.first ≡ Some c → IsAt j y (flops r) → r.from ≡ s.from → group d r.first ≡ group d s.first → y ≡ x
          one_flop r y k f b from same =
              let first : r.first ≡ s.first = first_once d t laws syncs grays rings loads is_extra ok r s k i from same in
              let at : IsAt j y (flops s) = behind_at d t laws syncs ok.are_syncs s i j y (let m : j < settle_of d s.first = settle_is s e in omega arith)
              (subst (λ (z : Bit). is_behind d z j y ≡ true) first (at_behind d t laws syncs ok.are_syncs r k j y b)) in
              same_place j y x (flops s) at a

      by_any : (v : Bool) → list_any (picks c word j (now run).values before.values) syncs ≡ v
          → TakeWord d syncs c word j (now run).values before.values ⊎ TakeWord d syncs c word j (now run).values after.values
      by_any false none = inl (λ s x i e w a. sym (value_is (now run).values j x (flops s) a) ∙ beq_true (value_at (now run).values j (flops s)) (before.values s.from)
          (false_if (not (beq (value_at (now run).values j (flops s)) (before.values s.from))) (λ n.
          both_ways (list_any (picks c word j (now run).values before.values) syncs) none (picked s x i e w a n))))
      by_any true some =
          let (n, s, lt, at, p) = Any-from_list_any (picks c word j (now run).values before.values) syncs some in
          let q = and_parts (is_in (d.clock s.first) (λ e. e == c) && (s.from.sig == word)) (not (beq (value_at (now run).values j (flops s)) (before.values s.from))) p in
          let r = and_parts (is_in (d.clock s.first) (λ e. e == c)) (s.from.sig == word) q.0 in
          let e = is_in_eq (d.clock s.first) c r.0 in
          let x = there_is d t (settle_of d s.first) (3 - settle_of d s.first) s.first s.more (ok.are_syncs s (n, lt, at)).chain j (settle_is s e) in
          inr (others s x.0 (n, lt, at) e (eqb-true s.from.sig word r.1) x.1
          (λ m. beq_false (value_at (now run).values j (flops s)) (before.values s.from) q.1 (value_is (now run).values j x.0 (flops s) x.1 ∙ m)))

  module _ (keeps : State → Type 0) (extra : AreJustifiedBy d syncs grays rings is_extra keeps) where
    pub calm_step : (edges : ℕ → Bool) (old new : State) → IsStep d edges old new → Facts d syncs grays rings old → keeps old → AllCalm d syncs edges old new (λ x. Unit {0})
    calm_step edges old new step facts kept x reg ticking none _ flips loose =
        extra.flip edges old new step kept facts
        (λ y yreg yticking ynone no_extra f l. calm_but d t laws syncs grays rings loads is_extra ok edges old new step facts y yreg ynone f l (λ b h. no_extra b))
        x reg ticking flips loose
        ∙ calm_but d t laws syncs grays rings loads is_extra ok edges old new step facts x reg none (λ b. cond (is_extra b x) false (flips b))
        (λ b h. loose b (rest b (is_extra b x) h)) (λ b h. not_extra b (is_extra b x) h)
      where
        rest : (b : Bit) (v : Bool) → cond v false (flips b) ≡ true → flips b ≡ true
        rest b true h = cc
        rest b false h = h

        not_extra : (b : Bit) (v : Bool) → cond v false (flips b) ≡ true → v ≡ false
        not_extra b true h = sym h
        not_extra b false h = refl

    start_turn : (s : State) → IsFirst d s → (r : Ring) → IsRing d t syncs r → RingTurnsOnce r s
    start_turn s first r k v seen =
        let a = all_start d s first v seen k.start.0 (ring_bits r) k.start.1 in
        subst (λ (w : Bool). TurnsOnce w (map v (behind_request r))) (sym a.0) (still k.start.0 v (behind_request r) a.1)

    start_facts : (s : State) → IsFirst d s → Facts d syncs grays rings s
    start_facts s first = record {
      settled = λ x u. absurd (omega (arith, first.settled x));
      turn = λ r i. start_turn s first r (ok.are_rings r i);
      coded = λ g i. coded_start g.shape (map s.values (word d g.count)) (map s.values (word d g.gray)) ((laws.grays g (ok.are_grays g i)).start s.values first.start);
    }

    -- the induction over runs
    pub carried_run : (run : Trace) → IsRun d run → Carried run × keeps (now run)
    carried_run (Start s) first = (start_facts s first, extra.start s first)
    carried_run (Then past edges s) run =
        let (carried, kept) = carried_run past run.0 in
        let facts = facts_of past carried in
        let calm = calm_step edges (now past) s run.1 facts kept in
        let both : Carried (Then past edges s) = (carried, facts_step d t laws syncs grays rings loads is_extra ok edges (now past) s run.1 facts calm, calm) in
        (both, extra.step past edges s run kept facts calm (whole (Then past edges s) run both))

    pub facts_now : (run : Trace) → IsRun d run → Facts d syncs grays rings (now run)
    facts_now run h = facts_of run (carried_run run h).0

    pub calm_run : (past : Trace) (edges : ℕ → Bool) (new : State) → IsRun d (Then past edges new) → AllCalm d syncs edges (now past) new (λ x. Unit {0})
    calm_run past edges new run = (carried_run (Then past edges new) run).0.2

    pub whole_run : (run : Trace) → IsRun d run → IsWhole d syncs run
    whole_run run h = whole run h (carried_run run h).0
