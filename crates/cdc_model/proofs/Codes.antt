-- A Gray register stays the code of its count, and at most one of its bits changes in a step.
use Rattle.std.proofs.Common.{◌≡◌, ℕ, zero, suc, ◌<◌, ◌-◌, arith, eqb-true, ◌==◌, ◌+◌, ◌≤◌, Some, Bool, true, false, List, [], ◌∷◌, Contains, ◌⊎◌, inl, inr, refl, sym, ap, ap₂, subst, ◌∙◌, map}
use Rattle.std.specs.List.{AllByRecursion}
use Rattle.std.specs.Prelude.{⊤}
use Rattle.std.proofs.lemmas.Bool.{eqb-false, both_ways, false_from_ne_true}
use Rattle.std.proofs.lemmas.List.Elements.{All-from_recursion, All-contains}
use Rattle.cdc_base.specs.declared.bit.Bit.{Bit}
use Rattle.cell_graph.specs.Reading.{Reading}
use Rattle.cdc_model.specs.Design.{Design, bits_from, word, are_async, settle_of, flipped}
use Rattle.cdc_model.specs.Runs.{State, is_in, ticks, AreLoose, IsStep}
use Rattle.cdc_model.specs.declared.scheme.GrayReg.{GrayReg}
use Rattle.cdc_model.specs.declared.scheme.Shape.{Shape}
use Rattle.cdc_model.specs.declared.scheme.Shape.TheVariants.{G1, G2, G3}
use Rattle.cdc_model.specs.Gray.{increment, gray_code, DifferInOne, Codes, IsOwn, IsGray}
use Rattle.cdc_model.specs.Schemes.{IsAt, Trees, AreTrees, Sync, IsSync, flops, is_settling}
use Rattle.cdc_model.specs.Facts.{IsCoded}
use Rattle.cdc_model.proofs.Flips.{same_clock_not_async}
use Rattle.cdc_model.proofs.Chain.{before_at, settling_sync, place_settling}
use Rattle.cdc_model.proofs.Behind.{place_unique}

-- the words differ in at most one place
abbrev pub DifferOnce : List Bool → List Bool → Type 0
DifferOnce [] [] = ⊤
DifferOnce [] (y ∷ ys) = ⊥
DifferOnce (x ∷ xs) [] = ⊥
DifferOnce (x ∷ xs) (y ∷ ys) = ((x ≡ y) × DifferOnce xs ys) ⊎ (xs ≡ ys)

pub differ_none : (xs : List Bool) → DifferOnce xs xs
differ_none [] = tt
differ_none (x ∷ xs) = inr refl

-- the codes of a count and of the next one differ in at most one bit
pub gray_steps : (bs : List Bool) → DifferOnce (gray_code bs) (gray_code (increment bs))
gray_steps [] = tt
gray_steps (false ∷ []) = inr refl
gray_steps (true ∷ []) = inr refl
gray_steps (false ∷ c ∷ bs) = inr refl
gray_steps (true ∷ false ∷ bs) = inl (refl, gray_steps (false ∷ bs))
gray_steps (true ∷ true ∷ bs) = inl (refl, gray_steps (true ∷ bs))

-- and in one bit just so, where there is one
pub gray_differs : (b : Bool) (bs : List Bool) → DifferInOne (gray_code (b ∷ bs)) (gray_code (increment (b ∷ bs)))
gray_differs false [] = inr (refl, refl)
gray_differs true [] = inr (refl, refl)
gray_differs false (false ∷ bs) = inr (refl, refl)
gray_differs false (true ∷ bs) = inr (refl, refl)
gray_differs true (false ∷ bs) = inl (refl, gray_differs false bs)
gray_differs true (true ∷ bs) = inl (refl, gray_differs true bs)

-- one bit at most changes
pub one_changes : (old new : Reading) (bits : List Bit) → DifferOnce (map old bits) (map new bits)
    → (c : Bit) × ((b : Bit) → Contains bits b → (b ≡ c) ⊎ (old b ≡ new b))
one_changes old new bits h =
    let r = by_recursion bits h in
    (r.0, λ b i. All-contains (λ b. (b ≡ r.0) ⊎ (old b ≡ new b)) bits b (All-from_recursion (λ b. (b ≡ r.0) ⊎ (old b ≡ new b)) bits r.1) i)
  where
    none : (c : Bit) (bits : List Bit) → map old bits ≡ map new bits → AllByRecursion (λ b. (b ≡ c) ⊎ (old b ≡ new b)) bits
    none c [] e = tt
    none c (b ∷ bs) e = (inr (cc), none c bs (cc))

    by_recursion : (bits : List Bit) → DifferOnce (map old bits) (map new bits) → (c : Bit) × AllByRecursion (λ b. (b ≡ c) ⊎ (old b ≡ new b)) bits
    by_recursion [] h = (record { sig = 0; at = 0 }, tt)
    by_recursion (b ∷ bs) (inl h) = let r = by_recursion bs h.1 in (r.0, (inr h.0, r.1))
    by_recursion (b ∷ bs) (inr h) = (b, (inl refl, none b bs h))

same_map : (P : Bit → Type 0) (f g : Reading) (bits : List Bit) → AllByRecursion P bits → ((b : Bit) → P b → f b ≡ g b) → map f bits ≡ map g bits
same_map P f g [] all h = refl
same_map P f g (b ∷ bs) all h = ap₂ (λ x xs. x ∷ xs) (h b all.0) (same_map P f g bs all.1 h)

ahead : (b g c h : List Bool) → g ≡ gray_code b → (c ≡ b) ⊎ (c ≡ increment b) → h ≡ gray_code c → (h ≡ gray_code c) × DifferOnce g h
ahead b g c h is counts e = (
  e,
  elim counts [
    | inl k ↦ subst (DifferOnce g) (is ∙ ap gray_code (sym k) ∙ sym e) (differ_none g)
    | inr k ↦ subst (λ x. DifferOnce x h) (sym is) (subst (DifferOnce (gray_code b)) (ap gray_code (sym k) ∙ sym e) (gray_steps b))
  ],
)

-- from count b and code g to count c and code h
coded_step : (shape : Shape) (b g c h : List Bool) → IsCoded shape b g → (c ≡ b) ⊎ (c ≡ increment b) → Codes shape b g c h
    → IsCoded shape c h × DifferOnce g h
coded_step G1 b g c h is counts e = ahead b g c h is counts e
coded_step G2 b g c h is counts (inl e) = ahead b g c h is counts e
coded_step G2 b g c h is counts (inr e) = (e.1 ∙ is ∙ ap gray_code (sym e.0), subst (DifferOnce g) (sym e.1) (differ_none g))
coded_step G3 b g c h is counts e = (
  elim counts [ inl k ↦ inl (e ∙ ap gray_code (sym k)) | inr k ↦ inr (b, k, e) ],
  elim is [
    | inl k ↦ subst (DifferOnce g) (k ∙ sym e) (differ_none g)
    | inr k ↦ subst (λ x. DifferOnce x h) (sym k.2) (subst (DifferOnce (gray_code k.0)) (ap gray_code (sym k.1) ∙ sym e) (gray_steps k.0))
  ],
)

-- a bit of a signal is in its word
pub word_has : (b : Bit) (i n : ℕ) → i ≤ b.at → b.at < i + n → Contains (bits_from b.sig i n) b
word_has b i zero l m = absurd (omega arith)
word_has b i (suc n) l m = go (i == b.at) refl (λ k. word_has b (suc i) n k (omega arith))
  where
    go : (v : Bool) → (i == b.at) ≡ v → (suc i ≤ b.at → Contains (bits_from b.sig (suc i) n) b) → Contains (bits_from b.sig i (suc n)) b
    go true e ih = (0, omega arith, ap (λ (k : ℕ). record { sig = b.sig; at = k }) (eqb-true i b.at e))
    go false e ih =
        let ne = eqb-false i b.at e in
        let h = ih (omega (arith, ne)) in
        (suc h.0, omega arith, h.2)

none_in : (a : Bit) → Contains [] a → ⊥
none_in a i = omega (arith, i.1)

module _ (d : Design) (t : Trees) (laws : AreTrees d t) (syncs : List Sync) (ok : (s : Sync) → Contains syncs s → IsSync d t s) where
  -- a bit that copies no bit but itself and unsettled ones of its clock is no settling flop
  pub own_settled : (c : ℕ) (others : List Bit) (b : Bit) → IsOwn d c others b → ((a : Bit) → Contains others a → (d.clock a ≡ Some c) × (is_settling d syncs a ≡ false)) → is_settling d syncs b ≡ false
  own_settled c others b k each = false_from_ne_true (is_settling d syncs b) (λ h. let (s, i, p) = settling_sync d t laws syncs ok b h in go s i p.0 p.1 p.2)
    where
      go : (s : Sync) (i : Contains syncs s) (j : ℕ) → j < settle_of d s.first → IsAt j b (flops s) → ⊥
      go s i zero l at =
          let n = ok s i in
          let async : are_async d s.from b ≡ true = subst (λ (z : Bit). are_async d s.from z ≡ true) (sym at) n.crossing.async in
          both_ways (are_async d s.from b) (same_clock_not_async d s.from b (elim (k.own s.from (ap d.copied at ∙ n.copy)) [
            | inl e ↦ ap d.clock e
            | inr m ↦ (each s.from m).0 ∙ sym k.clock
          ])) async
      go s i (suc j) l at =
          let x = before_at d t (settle_of d s.first) (3 - settle_of d s.first) s.first s.more (ok s i).chain j b at in
          elim (k.own x.0 x.2.copy) [
            | inl e ↦ omega (arith, (place_unique d t laws syncs ok s s i i j (suc j) b (subst (λ (z : Bit). IsAt j z (flops s)) e x.1) at).0)
            | inr m ↦ both_ways (is_settling d syncs x.0) (each x.0 m).1 (place_settling d t laws syncs ok s i j x.0 (omega arith) x.1)
          ]

  pub count_settled : (c : ℕ) (b : Bit) → IsOwn d c [] b → is_settling d syncs b ≡ false
  count_settled c b o = own_settled c [] b o (λ a i. absurd (none_in a i))

  pub code_settled : (c : ℕ) (count : List Bit) → AllByRecursion (IsOwn d c []) count → (b : Bit) → IsOwn d c count b → is_settling d syncs b ≡ false
  code_settled c count all b o = own_settled c count b o (λ a i.
      let p = All-contains (IsOwn d c []) count a (All-from_recursion (IsOwn d c []) count all) i in
      (p.clock, count_settled c a p))

  module _ (edges : ℕ → Bool) (old new : State) (step : IsStep d edges old new)
      (calm : (x : Bit) → d.is_register x ≡ true → ticks d edges x ≡ true → is_settling d syncs x ≡ false → (flips : Bit → Bool) → AreLoose d old new.values x flips
      → d.next (flipped flips old.values) x ≡ d.next old.values x) where
    -- a Gray register is still coded after the step, and at most one bit of its code changes
    pub gray_step : (g : GrayReg) → IsGray d g → IsCoded g.shape (map old.values (word d g.count)) (map old.values (word d g.gray))
        → IsCoded g.shape (map new.values (word d g.count)) (map new.values (word d g.gray)) × DifferOnce (map old.values (word d g.gray)) (map new.values (word d g.gray))
    gray_step g k is = go (edges c) refl
      where
        c : ℕ
        c = k.one_clock.0

        count : List Bit
        count = word d g.count

        gray : List Bit
        gray = word d g.gray

        ticked : edges c ≡ true → (others : List Bit) (b : Bit) → IsOwn d c others b → is_settling d syncs b ≡ false → new.values b ≡ d.next old.values b
        ticked h others b o none =
            let ticking : ticks d edges b ≡ true = ap (λ x. is_in x edges) o.clock ∙ h in
            let p = step.captured b o.register ticking in
            p.2 ∙ calm b o.register ticking none p.0 p.1

        waited : edges c ≡ false → (others : List Bit) (b : Bit) → IsOwn d c others b → new.values b ≡ old.values b
        waited h others b o = (step.held b o.register (ap (λ x. is_in x edges) o.clock ∙ h)).0

        go : (v : Bool) → edges c ≡ v → IsCoded g.shape (map new.values count) (map new.values gray) × DifferOnce (map old.values gray) (map new.values gray)
        go false h =
            let e = same_map (IsOwn d c []) new.values old.values count k.one_clock.1 (waited h []) in
            let f = same_map (IsOwn d c count) new.values old.values gray k.one_clock.2 (waited h count) in (
              subst (λ xs. IsCoded g.shape xs (map new.values gray)) (sym e) (subst (IsCoded g.shape (map old.values count)) (sym f) is),
              subst (DifferOnce (map old.values gray)) (sym f) (differ_none (map old.values gray)),
            )
        go true h =
            let e = same_map (IsOwn d c []) new.values (d.next old.values) count k.one_clock.1 (λ b o. ticked h [] b o (count_settled c b o)) in
            let f = same_map (IsOwn d c count) new.values (d.next old.values) gray k.one_clock.2 (λ b o. ticked h count b o (code_settled c count k.one_clock.1 b o)) in
            coded_step g.shape (map old.values count) (map old.values gray) (map new.values count) (map new.values gray) is
            (subst (λ xs. (xs ≡ map old.values count) ⊎ (xs ≡ increment (map old.values count))) (sym e) (k.counts old.values))
            (subst (λ xs. Codes g.shape (map old.values count) (map old.values gray) xs (map new.values gray)) (sym e)
            (subst (Codes g.shape (map old.values count) (map old.values gray) (map (d.next old.values) count)) (sym f) (k.codes old.values)))
