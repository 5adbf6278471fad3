-- What the flops of synchronizers take in a step from a state in which only settling flops are unsettled.
use Rattle.std.proofs.Common.{◌≡◌, ◌≢◌, ℕ, zero, suc, ◌-◌, ◌<◌, ◌≤◌, Bool, true, false, cond, Option, Some, None, List, [], ◌∷◌, Contains, ◌⊎◌, inl, inr, refl, sym, ap, subst, ◌∙◌, arith, eq-eqb, eqb-true}
use Rattle.std.proofs.lemmas.Bool.{both_ways, false_from_ne_true, or_cases, or_left, or_right}
use Rattle.std.proofs.lemmas.List.Folds.{Any-from_list_any, list_any-from_Any}
use Rattle.cdc_base.specs.declared.bit.Bit.{Bit}
use Rattle.cell_graph.specs.Reading.{bit_eq, Reading}
use Rattle.cell_graph.proofs.Bits.{bit_eq-true, eq-bit_eq}
use Rattle.cdc_model.specs.Design.{Design, are_async, group, flipped, are_equal, settle_by, settle_of}
use Rattle.cdc_model.specs.Runs.{State, ticks, IsLoose, Changes, Unsettled, AreLoose, IsStep, is_in, left_by}
use Rattle.cdc_model.specs.Schemes.{IsAt, Trees, AreTrees, IsCrossing, Follows, Sync, IsSync, IsChain, is_settling, in_first, flops}
use Rattle.cdc_model.specs.Facts.{OnlySettling}
use Rattle.cdc_model.proofs.Flips.{flipped_not, flipped_at, not_of_ne, same_group_not_async, same_clock_not_async}

-- ---- places

at_of_in : (n : ℕ) (x : Bit) (fs : List Bit) → in_first n x fs ≡ true → (j : ℕ) × (j < n) × IsAt j x fs
at_of_in zero x fs h = cc
at_of_in (suc n) x [] h = cc
at_of_in (suc n) x (f ∷ fs) h = go (or_cases (bit_eq f x) (in_first n x fs) h) (at_of_in n x fs)
  where
    go : (bit_eq f x ≡ true) ⊎ (in_first n x fs ≡ true) → (in_first n x fs ≡ true → (j : ℕ) × (j < n) × IsAt j x fs) → (j : ℕ) × (j < suc n) × IsAt j x (f ∷ fs)
    go (inl e) ih = (0, omega arith, sym (bit_eq-true f x e))
    go (inr e) ih = let p = ih e in (suc p.0, omega arith, p.2)

in_of_at : (n : ℕ) (x : Bit) (fs : List Bit) (j : ℕ) → j < n → IsAt j x fs → in_first n x fs ≡ true
in_of_at n x [] j l a = absurd a
in_of_at zero x (f ∷ fs) j l a = absurd (omega arith)
in_of_at (suc n) x (f ∷ fs) zero l a = or_left (bit_eq f x) (in_first n x fs) (eq-bit_eq f x (sym a))
in_of_at (suc n) x (f ∷ fs) (suc j) l a = or_right (bit_eq f x) (in_first n x fs) (in_of_at n x fs j (omega arith) a)

pub same_place : (j : ℕ) (x y : Bit) (fs : List Bit) → IsAt j x fs → IsAt j y fs → x ≡ y
same_place j x y [] a b = absurd a
same_place zero x y (f ∷ fs) a b = a ∙ sym b
same_place (suc j) x y (f ∷ fs) a b = same_place j x y fs a b

-- the flop behind one that has to have one
pub next_at : (d : Design) (t : Trees) (m n : ℕ) (f : Bit) (gs : List Bit) → IsChain d t m n f gs → (j : ℕ) (x : Bit) → j < m → IsAt j x (f ∷ gs)
    → (y : Bit) × IsAt (suc j) y (f ∷ gs) × Follows d t x y
next_at d t zero n f gs c j x l a = absurd (omega arith)
next_at d t (suc m) n f [] c j x l a = absurd c
next_at d t (suc m) n f (g ∷ gs) c zero x l a = (g, refl, subst (λ (z : Bit). Follows d t z g) (sym a) c.0)
next_at d t (suc m) n f (g ∷ gs) c (suc j) x l a = let h = next_at d t m n g gs c.1 j x (omega arith) a in (h.0, h.1, h.2)

-- the flop before a further one
pub before_at : (d : Design) (t : Trees) (m n : ℕ) (f : Bit) (gs : List Bit) → IsChain d t m n f gs → (j : ℕ) (y : Bit) → IsAt (suc j) y (f ∷ gs)
    → (x : Bit) × IsAt j x (f ∷ gs) × Follows d t x y
before_at d t m n f [] c j y a = absurd a
before_at d t zero zero f (g ∷ gs) c j y a = absurd c
before_at d t zero (suc n) f (g ∷ gs) c zero y a = (f, refl, subst (Follows d t f) (sym a) c.0)
before_at d t zero (suc n) f (g ∷ gs) c (suc j) y a = let h = before_at d t zero n g gs c.1 j y a in (h.0, h.1, h.2)
before_at d t (suc m) n f (g ∷ gs) c zero y a = (f, refl, subst (Follows d t f) (sym a) c.0)
before_at d t (suc m) n f (g ∷ gs) c (suc j) y a = let h = before_at d t m n g gs c.1 j y a in (h.0, h.1, h.2)

pub settle_positive : (settle : ℕ → ℕ) → ((c : ℕ) → 1 ≤ settle c) → (o : Option ℕ) → 1 ≤ settle_by settle o
settle_positive settle h None = omega arith
settle_positive settle h (Some c) = h c

pub equal_eq : (a b : Option ℕ) → are_equal a b ≡ true → a ≡ b
equal_eq (Some a) (Some b) h = ap Some (eqb-true a b h)
equal_eq (Some a) None h = cc
equal_eq None b h = cc

equal_ticking : (o p : Option ℕ) (edges : ℕ → Bool) → o ≡ p → is_in p edges ≡ true → are_equal o p ≡ true
equal_ticking o None edges e h = cc
equal_ticking o (Some c) edges e h = ap (λ x. are_equal x (Some c)) e ∙ eq-eqb c c refl

module _ (d : Design) (t : Trees) (laws : AreTrees d t) (syncs : List Sync) (ok : (s : Sync) → Contains syncs s → IsSync d t s) where
  pub settling_sync : (x : Bit) → is_settling d syncs x ≡ true → (s : Sync) × Contains syncs s × ((j : ℕ) × (j < settle_of d s.first) × IsAt j x (flops s))
  settling_sync x h =
      let (k, s, lt, at, p) = Any-from_list_any (λ (s : Sync). in_first (settle_of d s.first) x (flops s)) syncs h in
      (s, (k, lt, at), at_of_in (settle_of d s.first) x (flops s) p)

  pub place_settling : (s : Sync) → Contains syncs s → (j : ℕ) (x : Bit) → j < settle_of d s.first → IsAt j x (flops s) → is_settling d syncs x ≡ true
  place_settling s i j x l a = list_any-from_Any (λ (s : Sync). in_first (settle_of d s.first) x (flops s)) syncs (i.0, s, i.1, i.2, in_of_at (settle_of d s.first) x (flops s) j l a)

  pub sync_settling : (s : Sync) → Contains syncs s → (f : Bit) → s.first ≡ f → is_settling d syncs f ≡ true
  sync_settling s i f e = place_settling s i 0 f (settle_positive d.settle (λ c. (laws.settles c).0) (d.clock s.first)) (sym e)

  pub only_settling : (st : State) → OnlySettling d syncs st → (x : Bit) → 1 ≤ st.left x → is_settling d syncs x ≡ true
  only_settling st only x u = let (s, i, p) = only x u in place_settling s i p.0 x (omega arith) p.1

  -- the flop at a place has the first one's clock
  pub at_clock : (s : Sync) → Contains syncs s → (j : ℕ) (x : Bit) → IsAt j x (flops s) → d.clock x ≡ d.clock s.first
  at_clock s i zero x a = ap d.clock a
  at_clock s i (suc j) x a = let b = before_at d t (settle_of d s.first) (3 - settle_of d s.first) s.first s.more (ok s i).chain j x a in b.2.clock ∙ at_clock s i j b.0 b.1

  -- what reads a settling flop is the next flop
  pub reads_settling : (s : Sync) → Contains syncs s → (j : ℕ) (f x : Bit) → j < settle_of d s.first → IsAt j f (flops s) → d.is_register x ≡ true → t.reads [] x f ≡ true
      → (d.copied x ≡ Some f) × (d.clock x ≡ d.clock f) × IsAt (suc j) x (flops s)
  reads_settling s i j f x l a reg reads =
      let n = next_at d t (settle_of d s.first) (3 - settle_of d s.first) s.first s.more (ok s i).chain j f l a in
      let e : x ≡ n.0 = n.2.only x reg reads in
      (ap d.copied e ∙ n.2.copy, ap d.clock e ∙ n.2.clock, subst (λ (z : Bit). IsAt (suc j) z (flops s)) (sym e) n.1)

  -- the source of a crossing is no settling flop
  pub source_settled : (b x : Bit) → IsCrossing d t b x → is_settling d syncs b ≡ false
  source_settled b x c = false_from_ne_true (is_settling d syncs b) (λ h.
      let (s, i, j, l, a) = flat (settling_sync b h) in
      both_ways (are_async d b x) (same_clock_not_async d b x (sym (reads_settling s i j b x l a c.register c.reads).1)) c.async)
    where
      flat : (s : Sync) × Contains syncs s × ((j : ℕ) × (j < settle_of d s.first) × IsAt j b (flops s)) → (s : Sync) × (i : Contains syncs s) × (j : ℕ) × (j < settle_of d s.first) × IsAt j b (flops s)
      flat (s, i, p) = (s, i, p.0, p.1, p.2)

  -- a settled bit of x's own group isn't loose for x
  pub never_loose : (old : State) (new : Reading) (x b : Bit) → old.left b ≡ 0 → are_async d b x ≡ false → IsLoose d old new x b → ⊥
  never_loose old new x b settled same (Changes async ne) = both_ways (are_async d b x) same async
  never_loose old new x b settled same (Unsettled u free) = omega arith

  pub not_flipped : (old : State) (new : Reading) (x b : Bit) (flips : Bit → Bool) → old.left b ≡ 0 → group d b ≡ group d x → AreLoose d old new x flips → flips b ≡ false
  not_flipped old new x b flips settled same loose =
      false_from_ne_true (flips b) (λ h. never_loose old new x b settled (same_group_not_async d b x same) (loose b h))

  pub left_zero : (st : State) → OnlySettling d syncs st → (x : Bit) → is_settling d syncs x ≡ false → st.left x ≡ 0
  left_zero st only x none = go (st.left x) refl
    where
      go : (n : ℕ) → st.left x ≡ n → n ≡ 0
      go zero e = refl
      go (suc n) e = absurd (both_ways (is_settling d syncs x) none (only_settling st only x (omega arith)))

  -- the source of a first flop is loose for it only where it changes
  loose_source : (old : State) (new : Reading) (s : Sync) → Contains syncs s → OnlySettling d syncs old → IsLoose d old new s.first s.from → old.values s.from ≢ new s.from
  loose_source old new s i only (Changes async ne) = ne
  loose_source old new s i only (Unsettled u free) =
      absurd (both_ways (is_settling d syncs s.from) (source_settled s.from s.first (ok s i).crossing) (only_settling old only s.from u))

  module _ (edges : ℕ → Bool) (old new : State) (step : IsStep d edges old new) (only : OnlySettling d syncs old) where
    copy_next : (x b : Bit) → d.is_register x ≡ true → d.copied x ≡ Some b → (r : Reading) → d.next r x ≡ r b
    copy_next x b reg copy r = laws.same [] x b reg (sym (laws.copied x reg) ∙ copy) r tt

    -- a first flop takes its source's value before or after the step, and is unsettled only where these differ
    pub first_takes : (s : Sync) → Contains syncs s → ticks d edges s.first ≡ true
        → ((new.values s.first ≡ old.values s.from) ⊎ (new.values s.first ≡ new.values s.from))
        × (1 ≤ new.left s.first → (old.values s.from ≢ new.values s.from) × (new.left s.first ≤ settle_of d s.first))
    first_takes s i ticking = (takes (c.0 s.from) refl, settles)
      where
        k : IsSync d t s
        k = ok s i

        c : (flips : Bit → Bool) × AreLoose d old new.values s.first flips × (new.values s.first ≡ d.next (flipped flips old.values) s.first)
        c = step.captured s.first k.crossing.register ticking

        taken : new.values s.first ≡ flipped c.0 old.values s.from
        taken = c.2 ∙ copy_next s.first s.from k.crossing.register k.copy (flipped c.0 old.values)

        takes : (v : Bool) → c.0 s.from ≡ v → (new.values s.first ≡ old.values s.from) ⊎ (new.values s.first ≡ new.values s.from)
        takes true h = inr (taken ∙ flipped_at c.0 old.values s.from h ∙ not_of_ne (old.values s.from) (new.values s.from) (loose_source old new.values s i only (c.1 s.from h)))
        takes false h = inl (taken ∙ flipped_not c.0 old.values s.from h)

        stays : old.values s.from ≡ new.values s.from → (flips : Bit → Bool) → AreLoose d old new.values s.first flips → d.next (flipped flips old.values) s.first ≡ old.values s.from
        stays same flips loose = copy_next s.first s.from k.crossing.register k.copy (flipped flips old.values)
            ∙ flipped_not flips old.values s.from (false_from_ne_true (flips s.from) (λ h. loose_source old new.values s i only (loose s.from h) same))

        not_same : are_equal (d.clock s.from) (d.clock s.first) ≡ false
        not_same = false_from_ne_true (are_equal (d.clock s.from) (d.clock s.first)) (λ h.
            both_ways (are_async d s.from s.first) (same_clock_not_async d s.from s.first (equal_eq (d.clock s.from) (d.clock s.first) h)) k.crossing.async)

        settles : 1 ≤ new.left s.first → (old.values s.from ≢ new.values s.from) × (new.left s.first ≤ settle_of d s.first)
        settles u = elim (step.metastable s.first k.crossing.register ticking) [
          | inl e ↦ absurd (omega arith)
          | inr m ↦ (
            (λ same. m.2 (stays same m.0 m.1 ∙ sym (c.2 ∙ stays same c.0 c.1))),
            omega (arith, m.3 ∙ ap (left_by d old s.first) k.copy ∙ ap (λ v. cond v (old.left s.from - 1) (settle_of d s.first)) not_same),
          )
        ]

    -- a copy within one clock takes the value before the step, or the other value where that needs two cycles or more; only there may it be unsettled, for a cycle less
    pub copy_takes : (x b : Bit) → d.is_register x ≡ true → ticks d edges x ≡ true → d.copied x ≡ Some b → d.clock b ≡ d.clock x
        → (old.left b ≤ 1 → (new.values x ≡ old.values b) × (new.left x ≡ 0)) × (1 ≤ new.left x → new.left x ≡ old.left b - 1)
    copy_takes x b reg ticking copy clock = (
      exact,
      λ u. elim (step.metastable x reg ticking) [
        | inl e ↦ absurd (omega arith)
        | inr m ↦ m.3 ∙ ap (left_by d old x) copy ∙ ap (λ v. cond v (old.left b - 1) (settle_of d x)) (equal_ticking (d.clock b) (d.clock x) edges clock ticking)
      ],
    )
      where
        fixed : old.left b ≤ 1 → IsLoose d old new.values x b → ⊥
        fixed l (Changes async ne) = both_ways (are_async d b x) (same_clock_not_async d b x clock) async
        fixed l (Unsettled u free) = free clock copy (omega arith)

        stays : old.left b ≤ 1 → (flips : Bit → Bool) → AreLoose d old new.values x flips → d.next (flipped flips old.values) x ≡ old.values b
        stays l flips loose = copy_next x b reg copy (flipped flips old.values)
            ∙ flipped_not flips old.values b (false_from_ne_true (flips b) (λ h. fixed l (loose b h)))

        taken : old.left b ≤ 1 → new.values x ≡ old.values b
        taken l = let c = step.captured x reg ticking in c.2 ∙ stays l c.0 c.1

        exact : old.left b ≤ 1 → (new.values x ≡ old.values b) × (new.left x ≡ 0)
        exact l = (taken l, elim (step.metastable x reg ticking) [ inl e ↦ e | inr m ↦ absurd (m.2 (stays l m.0 m.1 ∙ sym (taken l))) ])
