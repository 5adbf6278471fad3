-- A justified design is sound.
use Rattle.std.proofs.Common.{Option, ◌≡◌, ℕ, zero, suc, ◌+◌, ◌≤◌, Bool, true, false, cond, Some, List, [], ◌∷◌, Contains, ◌⊎◌, inl, inr, refl, sym, ap, subst, ◌∙◌, arith, map}
use Rattle.std.specs.List.{AllByRecursion}
use Rattle.std.specs.Prelude.{slice_get}
use Rattle.std.proofs.lemmas.Bool.{both_ways, false_from_ne_true}
use Rattle.cdc_base.specs.declared.bit.Bit.{Bit}
use Rattle.cell_graph.specs.Reading.{bit_eq}
use Rattle.cell_graph.proofs.Bits.{bit_eq-true, eq-bit_eq}
use Rattle.cdc_model.specs.Design.{Design, group, word, flipped, settle_of}
use Rattle.cdc_model.specs.Runs.{State, ticks, IsLoose, Changes, Unsettled, AreLoose, IsStep}
use Rattle.cdc_model.specs.declared.scheme.Load.{Load}
use Rattle.cdc_model.specs.Schemes.{IsAt, Trees, AreTrees, Sync, is_settling, flops, Ring, IsLoad, Justified}
use Rattle.cdc_model.specs.Facts.{IsCoded, OnlySettling, Facts, AllCalm}
use Rattle.cdc_model.proofs.Flips.{flipped_not}
use Rattle.cdc_model.proofs.Chain.{sync_settling, settling_sync, place_settling, reads_settling}
use Rattle.cdc_model.proofs.Taken.{cycles_left}
use Rattle.cdc_model.proofs.Codes.{DifferOnce, gray_step}
use Rattle.cdc_model.specs.declared.scheme.GrayReg.{GrayReg}
use Rattle.cdc_model.proofs.Rings.{ring_step}
use Rattle.cdc_model.proofs.Loads.{without, without_self, without_less, load_shut, all_of, each_of}

-- ---- sets without the data of x's loads

pub strip : Bit → List Load → (Bit → Bool) → Bit → Bool
strip x [] flips = flips
strip x (l ∷ ls) flips = strip x ls (cond (bit_eq l.to x) (without l.from flips) flips)

cond_less : (v : Bool) (b : Bit) (flips : Bit → Bool) (a : Bit) → cond v (without b flips) flips a ≡ true → flips a ≡ true
cond_less true b flips a h = without_less b flips a h
cond_less false b flips a h = h

strip_less : (x : Bit) (ls : List Load) (flips : Bit → Bool) (a : Bit) → strip x ls flips a ≡ true → flips a ≡ true
unfolding strip
strip_less x [] flips a h = h
strip_less x (l ∷ ls) flips a h = cond_less (bit_eq l.to x) l.from flips a (strip_less x ls (cond (bit_eq l.to x) (without l.from flips) flips) a h)

strip_off : (x : Bit) (ls : List Load) (flips : Bit → Bool) → AllByRecursion (λ l. l.to ≡ x → strip x ls flips l.from ≡ false) ls
unfolding strip
strip_off x [] flips = tt
strip_off x (l ∷ ls) flips = (
  (λ e. false_from_ne_true (strip x (l ∷ ls) flips l.from) (λ h.
      both_ways (without l.from flips l.from) (without_self l.from flips)
      (subst (λ (v : Bool). cond v (without l.from flips) flips l.from ≡ true) (eq-bit_eq l.to x e)
      (strip_less x ls (cond (bit_eq l.to x) (without l.from flips) flips) l.from h)))),
  strip_off x ls (cond (bit_eq l.to x) (without l.from flips) flips),
)

pub slice_in : {X : Type 0} (xs : List X) (k : ℕ) (x : X) → slice_get xs k ≡ Some x → Contains xs x
slice_in [] k x e = cc
slice_in (y ∷ ys) zero x e = (0, omega arith, cc)
slice_in (y ∷ ys) (suc k) x e = let i = slice_in ys k x e in (suc i.0, omega arith, i.2)

pub in_slice : {X : Type 0} (xs : List X) (x : X) → (i : Contains xs x) → slice_get xs i.0 ≡ Some x
in_slice [] x (k, l, e) = absurd (omega arith)
in_slice (y ∷ ys) x (zero, l, e) = ap Some e
in_slice (y ∷ ys) x (suc k, l, e) = in_slice ys x (k, omega arith, e)

one_item : {X : Type 0} (o : Option X) (x y : X) → o ≡ Some x → o ≡ Some y → x ≡ y
one_item o x y h k = cc

module _ (d : Design) (t : Trees) (laws : AreTrees d t) (syncs : List Sync) (grays : List GrayReg) (rings : List Ring) (loads : List Load) (is_extra : Bit → Bit → Bool)
    (ok : Justified d t syncs grays rings loads is_extra) where
  -- one flop of a group copies a bit
  pub first_once : (s r : Sync) → Contains syncs s → Contains syncs r → s.from ≡ r.from → group d s.first ≡ group d r.first → s.first ≡ r.first
  first_once s r i j from same =
      let e = ok.once i.0 j.0 s r (in_slice syncs s i) (in_slice syncs r j) from same in
      ap (λ (x : Sync). x.first) (one_item (slice_get syncs i.0) s r (in_slice syncs s i) (ap (slice_get syncs) e ∙ in_slice syncs r j))

  module _ (edges : ℕ → Bool) (old new : State) (step : IsStep d edges old new) (facts : Facts d syncs grays rings old) where
    -- the data of x's loads may be left out of what is flipped
    strip_same : (x : Bit) (ls : List Load) → AllByRecursion (IsLoad d t rings) ls → (flips : Bit → Bool) → AreLoose d old new.values x flips
        → d.next (flipped flips old.values) x ≡ d.next (flipped (strip x ls flips) old.values) x
    unfolding strip
    strip_same x [] all flips loose = refl
    strip_same x (l ∷ ls) all flips loose =
        one (bit_eq l.to x) refl ∙ strip_same x ls all.1 (cond (bit_eq l.to x) (without l.from flips) flips) (λ a h. loose a (cond_less (bit_eq l.to x) l.from flips a h))
      where
        one : (v : Bool) → bit_eq l.to x ≡ v → d.next (flipped flips old.values) x ≡ d.next (flipped (cond (bit_eq l.to x) (without l.from flips) flips) old.values) x
        one false e = ap (λ (w : Bool). d.next (flipped (cond w (without l.from flips) flips) old.values) x) (sym e)
        one true e =
            let (r, at, held, blind) = all.0.ring in
            let i : Contains rings r = slice_in rings l.ring r at in
            let to : l.to ≡ x = bit_eq-true l.to x e in
            let f : AreLoose d old new.values l.to flips = subst (λ (y : Bit). AreLoose d old new.values y flips) (sym to) loose in
            subst (λ (y : Bit). d.next (flipped flips old.values) y ≡ d.next (flipped (without l.from flips) old.values) y) to
            (load_shut d t laws syncs ok.are_syncs edges old new step facts.settled r (ok.are_rings r i) (facts.turn r i) l.gate l.from l.to all.0.crossing held blind flips f)
            ∙ ap (λ (w : Bool). d.next (flipped (cond w (without l.from flips) flips) old.values) x) (sym e)

    -- a register bit that is no settling flop is calm but for extra crossings
    pub calm_but : (x : Bit) → d.is_register x ≡ true → is_settling d syncs x ≡ false → (flips : Bit → Bool) → AreLoose d old new.values x flips
        → ((b : Bit) → flips b ≡ true → is_extra b x ≡ false) → d.next (flipped flips old.values) x ≡ d.next old.values x
    calm_but x reg none flips loose no_extra =
        strip_same x loads (all_of (IsLoad d t rings) loads ok.are_loads) flips loose
        ∙ laws.reads [] x (flipped (strip x loads flips) old.values) old.values reg tt tt
        (λ b reads. flipped_not (strip x loads flips) old.values b (false_from_ne_true (strip x loads flips b) (λ h. go b reads h (loose b (strip_less x loads flips b h)))))
      where
        go : (b : Bit) → t.reads [] x b ≡ true → strip x loads flips b ≡ true → IsLoose d old new.values x b → ⊥
        go b reads h (Changes async ne) = by_item (ok.each b x (record { register = reg; reads = reads; async = async }))
          where
            by_item : ((s : Sync) × Contains syncs s × (s.from ≡ b) × (s.first ≡ x)) ⊎ (((l : Load) × Contains loads l × (l.from ≡ b) × (l.to ≡ x)) ⊎ (is_extra b x ≡ true)) → ⊥
            by_item (inl s) = both_ways (is_settling d syncs x) none (sync_settling d t laws syncs ok.are_syncs s.0 s.1 x s.3)
            by_item (inr (inl l)) = both_ways (strip x loads flips b)
                (subst (λ (a : Bit). strip x loads flips a ≡ false) l.2 (each_of (λ k. k.to ≡ x → strip x loads flips k.from ≡ false) loads (strip_off x loads flips) l.0 l.1 l.3)) h
            by_item (inr (inr e)) = both_ways (is_extra b x) (no_extra b (strip_less x loads flips b h)) e
        go b reads h (Unsettled u free) =
            let (s, i, p) = facts.settled b u in
            let k = reads_settling d t laws syncs ok.are_syncs s i p.0 b x (omega (arith, p.2)) p.1 reg reads in
            go_last s i p.0 (old.left b) refl u p.2 k
          where
            go_last : (s : Sync) (i : Contains syncs s) (j n : ℕ) → old.left b ≡ n → 1 ≤ old.left b → j + old.left b ≤ settle_of d s.first
                → (d.copied x ≡ Some b) × (d.clock x ≡ d.clock b) × IsAt (suc j) x (flops s) → ⊥
            go_last s i j zero e u l k = omega arith
            go_last s i j (suc zero) e u l k = free (sym k.1) k.0 e
            go_last s i j (suc (suc n)) e u l k = both_ways (is_settling d syncs x) none (place_settling d t laws syncs ok.are_syncs s i (suc j) x (omega arith) k.2)

    -- from calm of all: who is unsettled after the step, and for how long
    settled_step : AllCalm d syncs edges old new (λ x. Unit {0}) → OnlySettling d syncs new
    settled_step calm x u = by_tick (ticks d edges x) refl
      where
        reg : d.is_register x ≡ true
        reg = step.registers_only x u

        by_first : ticks d edges x ≡ true → (v : Bool) → is_settling d syncs x ≡ v → (y : Sync) × Contains syncs y × ((j : ℕ) × IsAt j x (flops y) × (j + new.left x ≤ settle_of d y.first))
        by_first ticking true e =
            let (s, i, p) = settling_sync d t laws syncs ok.are_syncs x e in
            (s, i, (p.0, p.2, cycles_left d t laws syncs ok.are_syncs edges old new step facts.settled s i p.0 x p.1 p.2 ticking u))
        by_first ticking false none =
            let c = step.captured x reg ticking in
            elim (step.metastable x reg ticking) [
              | inl z ↦ absurd (omega arith)
              | inr m ↦ absurd (m.2 (calm x reg ticking none tt m.0 m.1 ∙ sym (c.2 ∙ calm x reg ticking none tt c.0 c.1)))
            ]

        by_tick : (v : Bool) → ticks d edges x ≡ v → (y : Sync) × Contains syncs y × ((j : ℕ) × IsAt j x (flops y) × (j + new.left x ≤ settle_of d y.first))
        by_tick true ticking = by_first ticking (is_settling d syncs x) refl
        by_tick false waiting =
            let e : new.left x ≡ old.left x = (step.held x reg waiting).1 in
            let (s, i, p) = facts.settled x (omega arith) in
            let l : p.0 + old.left x ≤ settle_of d s.first = p.2 in
            (s, i, (p.0, p.1, omega arith))

    pub gray_both : AllCalm d syncs edges old new (λ x. Unit {0}) → (g : GrayReg) → Contains grays g
        → IsCoded g.shape (map new.values (word d g.count)) (map new.values (word d g.gray)) × DifferOnce (map old.values (word d g.gray)) (map new.values (word d g.gray))
    gray_both calm g i = gray_step d t laws syncs ok.are_syncs edges old new step (λ x reg ticking none. calm x reg ticking none tt) g (laws.grays g (ok.are_grays g i)) (facts.coded g i)

    pub facts_step : AllCalm d syncs edges old new (λ x. Unit {0}) → Facts d syncs grays rings new
    facts_step calm = record {
      settled = settled_step calm;
      turn = λ r i. ring_step d t laws syncs ok.are_syncs edges old new step facts.settled (settled_step calm) r (ok.are_rings r i) (facts.turn r i);
      coded = λ g i. (gray_both calm g i).0;
    }
