-- The copyings of a bit stand side by side among sorted copyings.
use Rattle.std.proofs.Common.{◌≡◌, ◌∙◌, sym, ap, refl, arith, rules, ltb, leb, ltb-true, leb-true, ltb-false, ℕ, zero, suc, ◌-◌, ◌<◌, ◌≤◌, ◌==◌, eq-eqb, eqb-true, Bool, true, false, cond, List, [], ◌∷◌, length, take, drop, Ordering, Less, Equal, Greater, Option, Some, None, Bor, inl, inr}
use Rattle.std.specs.Prelude.{filter, unwrap_or}
use Rattle.std.specs.Slice.{IsGetRangeResult}
use Rattle.std.specs.Cmp.Rules.{comparing}
use Rattle.std.specs.List.{AllWithin, slice_range}
use Rattle.std.specs.List.Sorted.{IsSortedBy, IsNonDecreasingBy, IsPartitionedBy, IsPartitionPoint}
use Rattle.std.specs.Ordering.{is_lt, is_le, ordering_then, ordering_index, is_eq, eq_by_cmp}
use Rattle.std.proofs.lemmas.List.Sorted.{searchable_from_sorted, IsPartitionedBy-leb, IsPartitionedBy-ltb}
use Rattle.cdc_base.specs.declared.bit.Bit.{Bit}
use Rattle.cdc_base.specs.contracts.bit.BitOrd.TheImpl as bit_order
use Rattle.cell_graph.specs.Reading.{bit_eq}
use Rattle.cdc_model.specs.Ordered.{IsAscending}
use Rattle.obligations.specs.declared.arrivals.Copying.{Copying}
use Rattle.obligations.specs.Arrivals.{copying_key, copyings_at}
use Rattle.cdc_model.proofs.Keys.{Ends, ends_order, bits_total, sorted}

-- ---- a part of a list between two places

wrong : {A : Type 0} → true ≡ false → A
wrong e = cc

module _ {A : Type 0} (n : A → ℕ) (test : A → Bool) (is : (x : A) → test x ≡ (n x == 1)) where
  passed : (x : A) (xs : List A) → n x ≡ 1 → filter test (x ∷ xs) ≡ x ∷ filter test xs
  passed x xs e = ap (λ v. cond v (x ∷ filter test xs) (filter test xs)) (is x ∙ eq-eqb (n x) 1 e)

  left_out : (x : A) (xs : List A) → ((n x ≡ 1) → ⊥) → filter test (x ∷ xs) ≡ filter test xs
  left_out x xs h = ap (λ v. cond v (x ∷ filter test xs) (filter test xs)) (is x ∙ go (n x == 1) refl)
    where
      go : (v : Bool) → (n x == 1) ≡ v → v ≡ false
      go true e = absurd (h (eqb-true (n x) 1 e))
      go false e = refl

  -- between the place of the first that isn't below 1 and that of the first above it are those at 1
  pub cut : (xs : List A) (m e : ℕ) → m ≤ length xs → e ≤ length xs → AllWithin (λ y. ltb (n y) 1 ≡ true) xs 0 m → AllWithin (λ y. ltb (n y) 1 ≡ false) xs m (length xs)
      → AllWithin (λ y. leb (n y) 1 ≡ true) xs 0 e → AllWithin (λ y. leb (n y) 1 ≡ false) xs e (length xs) → (m ≤ e) × (slice_range xs m e ≡ filter test xs)
  cut [] m e lm le below above upto beyond = (omega arith, ap (λ k. take (e - m) (drop k [])) (let f : m ≡ 0 = omega arith in f) ∙ ap (λ k. take k []) (let f : e - m ≡ 0 = omega arith in f))
  cut (x ∷ xs) (suc m) (suc e) lm le below above upto beyond =
      let rest = cut xs m e (omega arith) (omega arith) (λ k d l h. below (suc k) d (omega arith) (omega arith)) (λ k d l h. above (suc k) d (omega arith) (omega arith))
      (λ k d l h. upto (suc k) d (omega arith) (omega arith)) (λ k d l h. beyond (suc k) d (omega arith) (omega arith)) in
      let low = ltb-true (n x) 1 (below 0 x (omega arith) (omega arith)) in (
        (let l = rest.0 in omega arith),
        ap (λ k. take k (drop m xs)) (let f : suc e - suc m ≡ e - m = omega arith in f) ∙ rest.1 ∙ sym (left_out x xs (λ f. omega arith)),
      )
  cut (x ∷ xs) (suc m) zero lm le below above upto beyond = wrong (sym (small (n x) (ltb-true (n x) 1 (below 0 x (omega arith) (omega arith)))) ∙ beyond 0 x (omega arith) (omega arith))
    where
      small : (k : ℕ) → k < 1 → leb k 1 ≡ true
      small zero l = refl
      small (suc k) l = absurd (omega arith)
  cut (x ∷ xs) zero (suc e) lm le below above upto beyond =
      let rest = cut xs zero e (omega arith) (omega arith) (λ k d l h. absurd (omega arith)) (λ k d l h. above (suc k) d (omega arith) (omega arith))
      (λ k d l h. upto (suc k) d (omega arith) (omega arith)) (λ k d l h. beyond (suc k) d (omega arith) (omega arith)) in
      let low = ltb-false (n x) 1 (above 0 x (omega arith) (omega arith)) in
      let high = leb-true (n x) 1 (upto 0 x (omega arith) (omega arith)) in (
        omega arith,
        ap (λ k. take k (x ∷ xs)) (let f : suc e - 0 ≡ suc (e - 0) = omega arith in f) ∙ ap (λ ys. x ∷ ys) rest.1 ∙ sym (passed x xs (omega arith)),
      )
  cut (x ∷ xs) zero zero lm le below above upto beyond =
      let rest = cut xs zero zero (omega arith) (omega arith) (λ k d l h. absurd (omega arith)) (λ k d l h. above (suc k) d (omega arith) (omega arith))
      (λ k d l h. absurd (omega arith)) (λ k d l h. beyond (suc k) d (omega arith) (omega arith)) in (
        omega arith,
        rest.1 ∙ sym (left_out x xs (λ f. wrong (sym (ap (λ k. leb k 1) f) ∙ beyond 0 x (omega arith) (omega arith)))),
      )

-- ---- copyings by their bits

-- where a copying stands to the bit: 0 before it, 1 at it, 2 behind it
abbrev pub place : Bit → Copying → ℕ
place b c = ordering_index (bit_order.ghosts.cmp c.from b)

by_from : (cs : List Copying) → IsAscending copying_key cs → IsSortedBy (λ (a : Copying) (c : Copying). is_lt (bit_order.ghosts.cmp a.from c.from)) cs
by_from cs up k d l m = first _ _ (sorted _ _ ends_order (λ (c : Copying). let e : Ends = (c.from, c.to) in e) cs up k d l m)
  where
    first : (o p : Ordering) → is_lt (ordering_then o p) ≡ false → is_lt o ≡ false
    first Less p h = h
    first Equal p h = refl
    first Greater p h = refl

rise : (cs : List Copying) (b : Bit) → IsAscending copying_key cs → IsNonDecreasingBy (place b) cs
rise cs b up = searchable_from_sorted bits_total (λ (c : Copying). c.from) cs b (by_from cs up)

ties : (a b : Bit) → bit_eq a b ≡ eq_by_cmp bit_order.ghosts.cmp a b
ties a b = search (comparing, rules)

same_place : (b : Bit) (c : Copying) → bit_eq c.from b ≡ (place b c == 1)
same_place b c = ties c.from b ∙ go (bit_order.ghosts.cmp c.from b)
  where
    go : (o : Ordering) → is_eq o ≡ (ordering_index o == 1)
    go Less = refl
    go Equal = refl
    go Greater = refl

pub less_place : (o : Ordering) → is_lt o ≡ ltb (ordering_index o) 1
less_place Less = refl
less_place Equal = refl
less_place Greater = refl

pub upto_place : (o : Ordering) → is_le o ≡ leb (ordering_index o) 1
upto_place Less = refl
upto_place Equal = refl
upto_place Greater = refl

-- the copyings before and behind those of a bit
pub below_first : (cs : List Copying) (b : Bit) → IsAscending copying_key cs → IsPartitionedBy (λ (c : Copying). ltb (place b c) 1) cs
below_first cs b up = IsPartitionedBy-ltb (place b) cs 1 (rise cs b up)

pub upto_last : (cs : List Copying) (b : Bit) → IsAscending copying_key cs → IsPartitionedBy (λ (c : Copying). leb (place b c) 1) cs
upto_last cs b up = IsPartitionedBy-leb (place b) cs 1 (rise cs b up)

-- what stands between the two places
pub between : (cs : List Copying) (b : Bit) (m e : ℕ) → m ≤ length cs → e ≤ length cs
    → IsPartitionPoint (λ (c : Copying). ltb (place b c) 1 ≡ true) (λ (c : Copying). ltb (place b c) 1 ≡ false) cs m
    → IsPartitionPoint (λ (c : Copying). leb (place b c) 1 ≡ true) (λ (c : Copying). leb (place b c) 1 ≡ false) cs e
    → (got : Option (Bor (List Copying))) (other r : Bor (List Copying)) → IsGetRangeResult cs m e got → r ≡ unwrap_or got other → r.now ≡ copyings_at cs b
between cs b m e lm le first last got other r range is = ap (λ (x : Bor (List Copying)). x.now) is ∙ go got range
  where
    go : (o : Option (Bor (List Copying))) → IsGetRangeResult cs m e o → (unwrap_or o other).now ≡ copyings_at cs b
    go None h = let c = cut (place b) (λ (c : Copying). bit_eq c.from b) (same_place b) cs m e lm le first.0 first.1 last.0 last.1 in
        absurd (elim h.0 [ inl k ↦ (let f = c.0 in omega arith) | inr k ↦ omega arith ])
    go (Some x) h = let c = cut (place b) (λ (c : Copying). bit_eq c.from b) (same_place b) cs m e lm le first.0 first.1 last.0 last.1 in
        h.0.2 ∙ c.1
