-- A stable sort by a key leaves what has one key in its order.
use Rattle.std.proofs.Common.{◌≡◌, ◌∙◌, ◌↔◌, refl, sym, ap, subst, ℕ, suc, Bool, true, false, not, arith, List, [], ◌∷◌, Equal, slice_index_or, inl, inr, ◌+◌}
use Rattle.std.specs.List.Sorted.{IsSortedBy, IsStableBy, ties}
use Rattle.std.specs.Ordering.{is_lt, nat_cmp}
use Rattle.std.proofs.lemmas.Bool.{both_ways, and_parts, and_from, not-true, not_from_false, false_from_ne_true}
use Rattle.std.proofs.lemmas.List.Elements.{filter_agree}
use Rattle.cdc_model.specs.Ordered.{is_before}
use Rattle.cdc_model.proofs.Ascending.{parts, nothing_in}
use Rattle.cdc_model.proofs.Ordered.{never_before}
use Rattle.obligations.specs.Lots.{Rises, AreInLots}
use Rattle.cdc_model.proofs.Keys.{number_before, then_equal}
use Rattle.obligations.proofs.Lots.{tied, before_through}

pub same_test : (u v : Bool) → (u ≡ true → v ≡ true) → (v ≡ true → u ≡ true) → u ≡ v
same_test true true f g = refl
same_test true false f g = sym (f refl)
same_test false true f g = g refl
same_test false false f g = refl

pub last_before : (m n : ℕ) → is_before (m ∷ []) (n ∷ []) ≡ is_lt (nat_cmp m n)
last_before m n = number_before m n Equal [] [] refl ∙ ap is_lt (then_equal (nat_cmp m n))

-- what doesn't come before a key comes before none in front of it
pub never_through : (ks ms ns : List ℕ) → is_before ms ks ≡ false → is_before ns ms ≡ false → is_before ns ks ≡ false
never_through ks ms ns h k = false_from_ne_true (is_before ns ks) (λ e. go (is_before ks ms) refl e)
  where
    go : (v : Bool) → is_before ks ms ≡ v → is_before ns ks ≡ true → ⊥
    go true f e = both_ways (is_before ns ms) k (before_through ns ks ms e f)
    go false f e = both_ways (is_before ns ms) k (ap (is_before ns) (sym (tied ks ms f h)) ∙ e)

module _ {A : Type 0} (key : A → List ℕ) (same : A → A → Bool) (same_is : (x y : A) → (same x y ≡ true) ↔ (key x ≡ key y))
    {lt : A → A → Bool} (agree : (x y : A) → is_before (key x) (key y) ≡ lt x y) where
  rise : (xs : List A) → IsSortedBy lt xs → Rises key xs
  rise [] h = tt
  rise (x ∷ []) h = (λ y i. absurd (nothing_in y i), tt)
  rise (x ∷ y ∷ xs) h = onto (rise (y ∷ xs) behind)
    where
      behind : IsSortedBy lt (y ∷ xs)
      behind k d a b = subst (λ n. lt (slice_index_or (x ∷ y ∷ xs) n d) (slice_index_or (x ∷ y ∷ xs) (suc k) d) ≡ false) (let e : suc k + 1 ≡ suc (k + 1) = omega arith in e)
          (h (suc k) d (omega arith) (omega (arith, b)))

      first : is_before (key y) (key x) ≡ false
      first = agree y x ∙ h 0 x (omega arith) (omega arith)

      onto : Rises key (y ∷ xs) → Rises key (x ∷ y ∷ xs)
      onto ih = (
        λ z i. elim (parts y xs z i) [
          | inl e ↦ subst (λ w. is_before (key w) (key x) ≡ false) e first
          | inr j ↦ never_through (key x) (key y) (key z) first (ih.0 z j)
        ],
        ih,
      )

  tie : (x y : A) → ties lt x y ≡ same x y
  tie x y = same_test (ties lt x y) (same x y)
      (λ e. let p = and_parts (not (lt x y)) (not (lt y x)) e in
      (same_is x y).1 (tied (key x) (key y) (agree x y ∙ not-true (lt x y) p.0) (agree y x ∙ not-true (lt y x) p.1)))
      (λ e. let k = (same_is x y).0 e in
      and_from (not (lt x y)) (not (lt y x))
      (not_from_false (lt x y) (sym (agree x y) ∙ ap (is_before (key x)) (sym k) ∙ never_before (key x)))
      (not_from_false (lt y x) (sym (agree y x) ∙ ap (is_before (key y)) k ∙ never_before (key y))))

  pub in_lots : (xs ys : List A) → IsSortedBy lt ys → IsStableBy lt xs ys → AreInLots same key xs ys
  in_lots xs ys sorted stable = record {
    rises = rise ys sorted;
    kept = λ x. sym (filter_agree (ties lt x) (same x) (tie x) ys) ∙ stable x ∙ filter_agree (ties lt x) (same x) (tie x) xs;
  }
