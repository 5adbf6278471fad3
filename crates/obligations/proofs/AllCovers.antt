-- The sorted covers of synchronizers and loads are all covers, in order.
use Rattle.std.proofs.Common.{◌≡◌, ◌∙◌, inl, inr, refl, sym, ap, subst, arith, ℕ, suc, Bool, true, false, List, [], ◌∷◌, ◌++◌, map, Contains, Ordering, Less, Equal, Greater}
use Rattle.std.specs.List.{AllByRecursion, IsDistinct}
use Rattle.std.specs.List.Sorted.{IsPermutation, IsSortedBy}
use Rattle.std.specs.Ordering.{is_lt, is_eq, ordering_reverse}
use Rattle.std.proofs.lemmas.Bool.{both_ways}
use Rattle.std.proofs.lemmas.List.Elements.{Contains-append_cases, Contains-append_left, Contains-append_right}
use Rattle.std.proofs.lemmas.List.Sorted.{Contains-permutation, IsPermutation-sym}
use Rattle.std.proofs.lemmas.Map.Keys.{IsDistinct-IsPermutation}
use Rattle.cdc_base.specs.declared.bit.Bit.{Bit}
use Rattle.cdc_model.specs.declared.scheme.Cover.{Cover}
use Rattle.cdc_model.specs.declared.scheme.GrayReg.{GrayReg}
use Rattle.cdc_model.specs.declared.scheme.Load.{Load}
use Rattle.cdc_model.specs.Ordered.{IsAll, IsAscending, is_before}
use Rattle.cdc_model.specs.Schemes.{Sync}
use Rattle.cdc_model.specs.Verdict.{IsCover, bit_key, cover_key, load_key, sync_key}
use Rattle.cdc_model.proofs.Ascending.{here, later, in_map, from_map}
use Rattle.cdc_model.proofs.Justify.{in_slice}
use Rattle.cdc_model.proofs.Ordered.{never_before}
use Rattle.obligations.specs.Covers.{cover_by_load, cover_by_sync, covers_by}
use Rattle.cdc_model.proofs.Keys.{Ends, ends_cmp, ends_key, ends_order, ascending}

-- ---- lists without equal items

module _ {A B : Type 0} (equal : B → B → Bool) where
  each_apart : (f : A → B) (b : B) (xs : List A) → ((x : A) → Contains xs x → equal b (f x) ≡ false) → AllByRecursion (λ y. equal b y ≡ false) (map f xs)
  each_apart f b [] h = tt
  each_apart f b (x ∷ xs) h = (h x (here x xs), each_apart f b xs (λ y i. h y (later x xs y i)))

  mapped_distinct : (key : A → List ℕ) (f : A → B) → ((x y : A) → is_before (key x) (key y) ≡ true → equal (f x) (f y) ≡ false) → (xs : List A) → IsAscending key xs → IsDistinct equal (map f xs)
  unfolding IsDistinct
  mapped_distinct key f h [] up = tt
  mapped_distinct key f h (x ∷ xs) up = (
    each_apart f (f x) xs (λ y i. h x y (up 0 (suc i.0) x y (omega arith) refl (in_slice xs y i))),
    mapped_distinct key f h xs (λ i j y z l at there. up (suc i) (suc j) y z (omega arith) at there),
  )

module _ {B : Type 0} (equal : B → B → Bool) where
  both_apart : (b : B) (xs ys : List B) → AllByRecursion (λ y. equal b y ≡ false) xs → ((y : B) → Contains ys y → equal b y ≡ false) → AllByRecursion (λ y. equal b y ≡ false) (xs ++ ys)
  both_apart b [] [] h k = tt
  both_apart b [] (y ∷ ys) h k = (k y (here y ys), both_apart b [] ys tt (λ z i. k z (later y ys z i)))
  both_apart b (x ∷ xs) ys h k = (h.0, both_apart b xs ys h.1 k)

  joined_distinct : (xs ys : List B) → IsDistinct equal xs → IsDistinct equal ys → ((x y : B) → Contains xs x → Contains ys y → equal x y ≡ false) → IsDistinct equal (xs ++ ys)
  unfolding IsDistinct
  joined_distinct [] ys h k apart = k
  joined_distinct (x ∷ xs) ys h k apart = (
    both_apart x xs ys h.0 (λ y i. apart x y (here x xs) i),
    joined_distinct xs ys h.1 k (λ u v i j. apart u v (later x xs u i) j),
  )

-- ---- the covers

abbrev ends_of : Cover → Ends
ends_of c = (c.to, c.from)

same_ends : Cover → Cover → Bool
same_ends c k = is_eq (ends_cmp (ends_of c) (ends_of k))

-- what isn't equal isn't found equal
unlike : (o : Ordering) → (o ≡ Equal → ⊥) → is_eq o ≡ false
unlike Less h = refl
unlike Equal h = absurd (h refl)
unlike Greater h = refl

eq_back : (o : Ordering) → is_eq (ordering_reverse o) ≡ is_eq o
eq_back Less = refl
eq_back Equal = refl
eq_back Greater = refl

flips : (c k : Cover) → same_ends c k ≡ same_ends k c
unfolding same_ends
flips c k = ap is_eq (ends_order.total.antisymm (ends_of c) (ends_of k)) ∙ eq_back (ends_cmp (ends_of k) (ends_of c))

apart_by : (c k : Cover) → (c.to ≡ k.to → c.from ≡ k.from → ⊥) → same_ends c k ≡ false
unfolding same_ends
apart_by c k h = unlike (ends_cmp (ends_of c) (ends_of k)) (λ e. let s = ends_order.same (ends_of c) (ends_of k) e in h (ap (λ (p : Ends). p.0) s) (ap (λ (p : Ends). p.1) s))

-- of two keys of which one comes before the other, neither is the other
not_one : (ks ls : List ℕ) → is_before ks ls ≡ true → ks ≡ ls → ⊥
not_one ks ls h e = both_ways (is_before ls ls) (never_before ls) (ap (λ ms. is_before ms ls) (sym e) ∙ h)

module _ (grays : List GrayReg) (syncs : List Sync) (loads : List Load) (syncs_ascend : IsAscending sync_key syncs) (loads_ascend : IsAscending load_key loads)
    (apart : (s : Sync) (l : Load) → Contains syncs s → Contains loads l → s.first ≡ l.to → s.from ≡ l.from → ⊥) where
  distinct : IsDistinct same_ends (covers_by grays syncs loads)
  distinct = joined_distinct same_ends (map (cover_by_sync grays) syncs) (map cover_by_load loads)
      (mapped_distinct same_ends sync_key (cover_by_sync grays) (λ s r h. apart_by (cover_by_sync grays s) (cover_by_sync grays r) (λ e f. not_one (sync_key s) (sync_key r) h (ap (λ (b : Bit). bit_key b []) e))) syncs syncs_ascend)
      (mapped_distinct same_ends load_key cover_by_load
      (λ l k h. apart_by (cover_by_load l) (cover_by_load k) (λ e f. not_one (load_key l) (load_key k) h (ap (λ (b : Bit). bit_key b (bit_key l.from [])) e ∙ ap (λ (b : Bit). bit_key k.to (bit_key b [])) f))) loads loads_ascend)
      (λ c k i j.
      let s = from_map (cover_by_sync grays) syncs c i in
      let l = from_map cover_by_load loads k j in
      apart_by c k (λ e f. apart s.0 l.0 s.1 l.1 (ap (λ (c : Cover). c.to) s.2 ∙ e ∙ ap (λ (c : Cover). c.to) (sym l.2)) (ap (λ (c : Cover). c.from) s.2 ∙ f ∙ ap (λ (c : Cover). c.from) (sym l.2))))

  by_them : (c : Cover) → IsCover grays syncs loads c → Contains (covers_by grays syncs loads) c
  by_them c (inl s) = Contains-append_left (map (cover_by_sync grays) syncs) (map cover_by_load loads) c (subst (Contains (map (cover_by_sync grays) syncs)) (sym s.2) (in_map (cover_by_sync grays) syncs s.0 s.1))
  by_them c (inr l) = Contains-append_right (map (cover_by_sync grays) syncs) (map cover_by_load loads) c (subst (Contains (map cover_by_load loads)) (sym l.2) (in_map cover_by_load loads l.0 l.1))

  from_them : (c : Cover) → Contains (covers_by grays syncs loads) c → IsCover grays syncs loads c
  from_them c i = elim (Contains-append_cases (map (cover_by_sync grays) syncs) (map cover_by_load loads) c i) [
    | inl j ↦ let s = from_map (cover_by_sync grays) syncs c j in inl (s.0, s.1, sym s.2)
    | inr j ↦ let l = from_map cover_by_load loads c j in inr (l.0, l.1, sym l.2)
  ]

  pub all_covers : (covers : List Cover) → IsPermutation (covers_by grays syncs loads) covers → IsSortedBy (λ (c : Cover) (k : Cover). is_lt (ends_cmp (ends_of c) (ends_of k))) covers
      → IsAll (IsCover grays syncs loads) cover_key covers
  unfolding same_ends
  all_covers covers moved sorted = record {
    all = λ c is. Contains-permutation (covers_by grays syncs loads) covers c moved (by_them c is);
    only = λ c i. from_them c (Contains-permutation covers (covers_by grays syncs loads) c (IsPermutation-sym (covers_by grays syncs loads) covers moved) i);
    ordered = ascending ends_cmp ends_key ends_order ends_of covers sorted (IsDistinct-IsPermutation same_ends flips (covers_by grays syncs loads) covers moved distinct);
  }
