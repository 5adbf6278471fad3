-- What stands side by side in a sorted list.
use Rattle.std.proofs.Common.{◌≡◌, ◌∙◌, sym, ap, refl, arith, rules, ltb, leb, ltb-true, leb-true, ltb-false, leb-false, ℕ, zero, ◌↔◌, subst, get_or, slice_get, suc, ◌-◌, ◌<◌, ◌≤◌, ◌==◌, eq-eqb, eqb-true, Bool, true, false, cond, List, [], ◌∷◌, length, take, drop, Ordering, Less, Equal, Greater, Option, Some, None, Bor, inl, inr}
use Rattle.std.specs.Prelude.{filter, unwrap_or}
use Rattle.std.specs.Slice.{IsGetRangeResult}
use Rattle.std.specs.Cmp.{IsTotalOrder}
use Rattle.std.specs.Cmp.Rules.{comparing}
use Rattle.std.specs.List.{AllWithin, slice_range}
use Rattle.std.specs.List.Sorted.{IsSortedByKey, IsPartitionedBy, IsPartitionPoint}
use Rattle.std.specs.Ordering.{ordering_index, is_eq, eq_by_cmp}
use Rattle.std.proofs.lemmas.Bool.{le-leb, cases_lt}
use Rattle.std.proofs.lemmas.Option.{slice_get_within, get_or_from_slice_get}
use Rattle.std.proofs.lemmas.List.Sorted.{searchable_from_sorted, IsPartitionedBy-leb, IsPartitionedBy-ltb}
use Rattle.cdc_base.specs.declared.bit.Bit.{Bit}
use Rattle.cdc_base.specs.contracts.bit.BitOrd.TheImpl as bit_order
use Rattle.cell_graph.specs.Reading.{bit_eq}
use Rattle.cell_graph.proofs.Bits.{bit_eq-true, bit_eq-refl}
use Rattle.cdc_model.specs.declared.scheme.Crossing.{Crossing}
use Rattle.cdc_model.proofs.ReadBits.{filter-same}
use Rattle.mux_recirc.specs.contracts.guards.SidesOrd.TheImpl as sides_order
use Rattle.mux_recirc.specs.declared.guards.Joint.{Joint}
use Rattle.mux_recirc.specs.declared.guards.Sides.{Sides}
use Rattle.mux_recirc.specs.declared.parts.Part.{Part}
use Rattle.mux_recirc.specs.Given.{joints_at}
use Rattle.mux_recirc.specs.Parts.{parts_at}
use Rattle.mux_recirc.proofs.Orders.{bit_total, sides_total}

-- ---- a part of a list between two places

wrong : {A : Type 0} → true ≡ false → A
wrong e = cc

module _ {A : Type 0} (n : A → ℕ) (t : ℕ) where
  abbrev test : A → Bool
  test x = n x == t

  passed : (x : A) (xs : List A) → n x ≡ t → filter test (x ∷ xs) ≡ x ∷ filter test xs
  passed x xs e = ap (λ v. cond v (x ∷ filter test xs) (filter test xs)) (eq-eqb (n x) t e)

  left_out : (x : A) (xs : List A) → ((n x ≡ t) → ⊥) → filter test (x ∷ xs) ≡ filter test xs
  left_out x xs h = ap (λ v. cond v (x ∷ filter test xs) (filter test xs)) (go (n x == t) refl)
    where
      go : (v : Bool) → (n x == t) ≡ v → v ≡ false
      go true e = absurd (h (eqb-true (n x) t e))
      go false e = refl

  -- between the place of the first that isn't below t and that of the first above it are those at t
  pub cut : (xs : List A) (m e : ℕ) → m ≤ length xs → e ≤ length xs → AllWithin (λ y. ltb (n y) t ≡ true) xs 0 m → AllWithin (λ y. ltb (n y) t ≡ false) xs m (length xs)
      → AllWithin (λ y. leb (n y) t ≡ true) xs 0 e → AllWithin (λ y. leb (n y) t ≡ false) xs e (length xs) → (m ≤ e) × (slice_range xs m e ≡ filter test xs)
  cut [] m e lm le below above upto beyond = (omega arith, ap (λ k. take (e - m) (drop k [])) (let f : m ≡ 0 = omega arith in f) ∙ ap (λ k. take k []) (let f : e - m ≡ 0 = omega arith in f))
  cut (x ∷ xs) (suc m) (suc e) lm le below above upto beyond =
      let rest = cut xs m e (omega arith) (omega arith) (λ k d l h. below (suc k) d (omega arith) (omega arith)) (λ k d l h. above (suc k) d (omega arith) (omega arith))
      (λ k d l h. upto (suc k) d (omega arith) (omega arith)) (λ k d l h. beyond (suc k) d (omega arith) (omega arith)) in
      let low = ltb-true (n x) t (below 0 x (omega arith) (omega arith)) in (
        (let l = rest.0 in omega arith),
        ap (λ k. take k (drop m xs)) (let f : suc e - suc m ≡ e - m = omega arith in f) ∙ rest.1 ∙ sym (left_out x xs (λ f. omega arith)),
      )
  cut (x ∷ xs) (suc m) zero lm le below above upto beyond =
      let low = ltb-true (n x) t (below 0 x (omega arith) (omega arith)) in wrong (sym (le-leb (n x) t (omega arith)) ∙ beyond 0 x (omega arith) (omega arith))
  cut (x ∷ xs) zero (suc e) lm le below above upto beyond =
      let rest = cut xs zero e (omega arith) (omega arith) (λ k d l h. absurd (omega arith)) (λ k d l h. above (suc k) d (omega arith) (omega arith))
      (λ k d l h. upto (suc k) d (omega arith) (omega arith)) (λ k d l h. beyond (suc k) d (omega arith) (omega arith)) in
      let low = ltb-false (n x) t (above 0 x (omega arith) (omega arith)) in
      let high = leb-true (n x) t (upto 0 x (omega arith) (omega arith)) in (
        omega arith,
        ap (λ k. take k (x ∷ xs)) (let f : suc e - 0 ≡ suc (e - 0) = omega arith in f) ∙ ap (λ ys. x ∷ ys) rest.1 ∙ sym (passed x xs (omega arith)),
      )
  cut (x ∷ xs) zero zero lm le below above upto beyond =
      let rest = cut xs zero zero (omega arith) (omega arith) (λ k d l h. absurd (omega arith)) (λ k d l h. above (suc k) d (omega arith) (omega arith))
      (λ k d l h. absurd (omega arith)) (λ k d l h. beyond (suc k) d (omega arith) (omega arith)) in (
        omega arith,
        rest.1 ∙ sym (left_out x xs (λ f. wrong (sym (le-leb (n x) t (omega arith)) ∙ beyond 0 x (omega arith) (omega arith)))),
      )

  -- the same, as a slice between the two places gives it
  pub between : (xs : List A) (m e : ℕ) → m ≤ length xs → e ≤ length xs → IsPartitionPoint (λ y. ltb (n y) t ≡ true) (λ y. ltb (n y) t ≡ false) xs m
      → IsPartitionPoint (λ y. leb (n y) t ≡ true) (λ y. leb (n y) t ≡ false) xs e
      → (got : Option (Bor (List A))) (other r : Bor (List A)) → IsGetRangeResult xs m e got → r ≡ unwrap_or got other → r.now ≡ filter test xs
  between xs m e lm le first last got other r range is = ap (λ (x : Bor (List A)). x.now) is ∙ go got range
    where
      go : (o : Option (Bor (List A))) → IsGetRangeResult xs m e o → (unwrap_or o other).now ≡ filter test xs
      go None h = let c = cut xs m e lm le first.0 first.1 last.0 last.1 in absurd (elim h.0 [ inl k ↦ (let f = c.0 in omega arith) | inr k ↦ omega arith ])
      go (Some x) h = let c = cut xs m e lm le first.0 first.1 last.0 last.1 in h.0.2 ∙ c.1

-- ---- by a key

module _ {A K : Type 0} (cmp : K → K → Ordering) (total : IsTotalOrder cmp) (key : A → K) (k : K) where
  -- 0 below k, 1 at it, 2 above
  abbrev pub index : A → ℕ
  index x = ordering_index (cmp (key x) k)

  pub below_first : (xs : List A) → IsSortedByKey key cmp xs → IsPartitionedBy (λ x. ltb (index x) 1) xs
  below_first xs sorted = IsPartitionedBy-ltb index xs 1 (searchable_from_sorted total key xs k sorted)

  pub upto_last : (xs : List A) → IsSortedByKey key cmp xs → IsPartitionedBy (λ x. leb (index x) 1) xs
  upto_last xs sorted = IsPartitionedBy-leb index xs 1 (searchable_from_sorted total key xs k sorted)

pub index_is : (o : Ordering) → (ordering_index o == 1) ≡ is_eq o
index_is Less = refl
index_is Equal = refl
index_is Greater = refl

-- ---- parts by their bits

bit_ties : (a b : Bit) → bit_eq a b ≡ eq_by_cmp bit_order.ghosts.cmp a b
bit_ties a b = search (comparing, rules)

pub of_bit : (parts : List Part) (b : Bit) → filter (λ (p : Part). index bit_order.ghosts.cmp bit_total (λ (q : Part). q.bit) b p == 1) parts ≡ parts_at parts b
of_bit parts b = filter-same (λ (p : Part). index bit_order.ghosts.cmp bit_total (λ (q : Part). q.bit) b p == 1) (λ (p : Part). bit_eq p.bit b) parts
    (λ p i. index_is (bit_order.ghosts.cmp p.bit b) ∙ sym (bit_ties p.bit b))

-- ---- rings by the groups that they join

pub of_sides : (joints : List Joint) (s : Sides) → filter (λ (j : Joint). index sides_order.ghosts.cmp sides_total (λ (i : Joint). i.sides) s j == 1) joints ≡ joints_at joints s
of_sides joints s = filter-same (λ (j : Joint). index sides_order.ghosts.cmp sides_total (λ (i : Joint). i.sides) s j == 1) (λ (j : Joint). eq_by_cmp sides_order.ghosts.cmp j.sides s) joints
    (λ j i. index_is (sides_order.ghosts.cmp j.sides s))

-- ---- crossings by their ends

module _ (crossings : List Crossing) (to : Bit) (m e : ℕ)
    (first : IsPartitionPoint (λ k. ltb (index bit_order.ghosts.cmp bit_total (λ (k : Crossing). k.to) to k) 1 ≡ true) (λ k. ltb (index bit_order.ghosts.cmp bit_total (λ (k : Crossing). k.to) to k) 1 ≡ false) crossings m)
    (last : IsPartitionPoint (λ k. leb (index bit_order.ghosts.cmp bit_total (λ (k : Crossing). k.to) to k) 1 ≡ true) (λ k. leb (index bit_order.ghosts.cmp bit_total (λ (k : Crossing). k.to) to k) 1 ≡ false) crossings e) where
  abbrev place : Crossing → ℕ
  place k = index bit_order.ghosts.cmp bit_total (λ (k : Crossing). k.to) to k

  -- a crossing leads to the bit exactly where it stands between the two places
  pub leads_there : (i : ℕ) (k : Crossing) → slice_get crossings i ≡ Some k → (k.to ≡ to) ↔ ((m ≤ i) × (i < e))
  leads_there i k at =
      let l = slice_get_within crossings i k at in
      let same : get_or crossings i k ≡ k = get_or_from_slice_get crossings i k k at in (
        λ f.
            let one : place k ≡ 1 = eqb-true (place k) 1 (index_is (bit_order.ghosts.cmp k.to to) ∙ sym (bit_ties k.to to) ∙ ap (λ b. bit_eq k.to b) (sym f) ∙ bit_eq-refl k.to) in (
              elim (cases_lt i m) [
                | inl h ↦ absurd (let low = ltb-true (place k) 1 (subst (λ (x : Crossing). ltb (place x) 1 ≡ true) same (first.0 i k (omega arith) h)) in omega arith)
                | inr h ↦ h
              ],
              elim (cases_lt i e) [
                | inl h ↦ h
                | inr h ↦ absurd (let high = leb-false (place k) 1 (subst (λ (x : Crossing). leb (place x) 1 ≡ false) same (last.1 i k h l)) in omega arith)
              ],
            ),
        λ h.
            let low = ltb-false (place k) 1 (subst (λ (x : Crossing). ltb (place x) 1 ≡ false) same (first.1 i k h.0 l)) in
            let high = leb-true (place k) 1 (subst (λ (x : Crossing). leb (place x) 1 ≡ true) same (last.0 i k (omega arith) h.1)) in
            bit_eq-true k.to to (bit_ties k.to to ∙ sym (index_is (bit_order.ghosts.cmp k.to to)) ∙ eq-eqb (place k) 1 (omega arith)),
      )
