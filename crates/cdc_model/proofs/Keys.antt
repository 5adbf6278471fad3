-- Orders that code sorts and searches by, as keys.
use Rattle.std.proofs.Common.{◌≡◌, ◌∙◌, ◌↔◌, inl, inr, refl, sym, ap, subst, arith, rules, ℕ, zero, suc, ◌+◌, ◌<◌, nat_lt, ◌==◌, ◌&&◌, ◌||◌, Bool, true, false, cond, Option, Some, None, option_map, List, map, [], ◌∷◌, length, get_or, slice_get, Contains, Result, Ok, Err, Ordering, Less, Equal, Greater}
use Rattle.std.specs.Cmp.{IsTotalOrder}
use Rattle.std.specs.Cmp.Lexicographic.{options_total}
use Rattle.std.specs.Cmp.Rules.{comparing}
use Rattle.std.specs.List.{AllByRecursion, IsDistinct, dedup}
use Rattle.std.specs.List.Retain.{IsFiltered, DiffersFromLast}
use Rattle.std.specs.List.Sorted.{IsSorted, IsSortedBy, IsStrictlySortedBy, IsBinarySearchResult, IsSearchInRange}
use Rattle.std.specs.Option.{option_cmp}
use Rattle.std.specs.Ordering.{eq_by_cmp, is_lt, is_eq, ordering_then, ordering_reverse, nat_cmp}
use Rattle.std.specs.Result.{is_ok}
use Rattle.std.proofs.lemmas.Bool.{cases_lt}
use Rattle.std.proofs.lemmas.Cmp.{tied_itself, on_total, then_total}
use Rattle.std.proofs.lemmas.List.Filters.{dedup_is}
use Rattle.std.proofs.lemmas.List.Kept.{IsStrictlySortedBy-dedup}
use Rattle.std.proofs.lemmas.List.Sorted.{ranks_by, searchable_from_sorted, sorted_far}
use Rattle.std.proofs.lemmas.Map.Keys.{apart_from_distinct}
use Rattle.std.proofs.lemmas.Option.{slice_get_cases, slice_get-get_or, slice_get-map, slice_get_within, get_or_from_slice_get}
use Rattle.cdc_base.specs.declared.bit.Bit.{Bit}
use Rattle.cdc_base.specs.contracts.bit.BitOrd.TheImpl as bits
use Rattle.cdc_model.specs.Ordered.{is_before, IsAscending}
use Rattle.cdc_model.specs.Verdict.{bit_key}
use Rattle.cdc_model.proofs.Ascending.{Ascends}
use Rattle.cdc_model.proofs.Justify.{in_slice}

-- A total order that tells all apart, and the keys that go by it.
pub record Orders {K : Type 0} (cmp : K → K → Ordering) (key : K → List ℕ) : Type 0 where
  pub total : IsTotalOrder cmp
  pub same : (a b : K) → cmp a b ≡ Equal → a ≡ b
  pub before : (a b : K) → is_before (key a) (key b) ≡ is_lt (cmp a b)

-- ---- bits, and ends of crossings

-- one number more in front
pub number_before : (m n : ℕ) (o : Ordering) (ms ns : List ℕ) → is_before ms ns ≡ is_lt o → is_before (m ∷ ms) (n ∷ ns) ≡ is_lt (ordering_then (nat_cmp m n) o)
number_before m n o ms ns h = go (nat_lt m n) (m == n)
  where
    go : (p q : Bool) → (p || (q && is_before ms ns)) ≡ is_lt (ordering_then (cond p Less (cond q Equal Greater)) o)
    go true q = refl
    go false true = h
    go false false = refl

then_then : (a b c : Ordering) → ordering_then (ordering_then a b) c ≡ ordering_then a (ordering_then b c)
then_then Less b c = refl
then_then Equal b c = refl
then_then Greater b c = refl

-- one bit more in front
pub bit_before : (a b : Bit) (o : Ordering) (ms ns : List ℕ) → is_before ms ns ≡ is_lt o → is_before (bit_key a ms) (bit_key b ns) ≡ is_lt (ordering_then (bits.ghosts.cmp a b) o)
bit_before a b o ms ns h = number_before a.sig b.sig (ordering_then (nat_cmp a.at b.at) o) (a.at ∷ ms) (b.at ∷ ns) (number_before a.at b.at o ms ns h)
    ∙ ap is_lt (sym (then_then (nat_cmp a.sig b.sig) (nat_cmp a.at b.at) o))

-- by the end, then by the source
abbrev pub Ends : Type 0
Ends = Bit × Bit

abbrev pub ends_cmp : Ends → Ends → Ordering
ends_cmp a b = ordering_then (bits.ghosts.cmp a.0 b.0) (bits.ghosts.cmp a.1 b.1)

abbrev pub ends_key : Ends → List ℕ
ends_key e = bit_key e.0 (bit_key e.1 [])

pub then_equal : (o : Ordering) → ordering_then o Equal ≡ o
then_equal Less = refl
then_equal Equal = refl
then_equal Greater = refl

pub bits_total : IsTotalOrder bits.ghosts.cmp
bits_total = search (comparing, rules) depth 12

pub bits_same : (a b : Bit) → bits.ghosts.cmp a b ≡ Equal → a ≡ b
bits_same a b h = search (comparing, rules)

pub bits_order : Orders bits.ghosts.cmp (λ b. bit_key b [])
bits_order = record {
  total = bits_total;
  same = bits_same;
  before = λ a b. bit_before a b Equal [] [] refl ∙ ap is_lt (then_equal (bits.ghosts.cmp a b));
}

pub ends_order : Orders ends_cmp ends_key
ends_order = record {
  total = then_total (on_total (λ (e : Ends). e.0) bits_total) (on_total (λ (e : Ends). e.1) bits_total);
  same = λ a b h. search (comparing, rules);
  before = λ a b. bit_before a.0 b.0 (bits.ghosts.cmp a.1 b.1) (bit_key a.1 []) (bit_key b.1 []) (bits_order.before a.1 b.1);
}

-- ---- bits that may be there

abbrev pub there_cmp : Option Bit → Option Bit → Ordering
there_cmp = option_cmp bits.ghosts.cmp

abbrev pub there_key : Option Bit → List ℕ
there_key None = []
there_key (Some b) = bit_key b []

there_same : (a b : Option Bit) → there_cmp a b ≡ Equal → a ≡ b
there_same None None h = refl
there_same None (Some b) h = cc
there_same (Some a) None h = cc
there_same (Some a) (Some b) h = ap Some (bits_order.same a b h)

there_before : (a b : Option Bit) → is_before (there_key a) (there_key b) ≡ is_lt (there_cmp a b)
there_before None None = refl
there_before None (Some b) = refl
there_before (Some a) None = refl
there_before (Some a) (Some b) = bits_order.before a b

pub there_order : Orders there_cmp there_key
there_order = record { total = options_total bits_total; same = there_same; before = there_before }

-- ---- a search

other : {A : Type 0} → false ≡ true → A
other e = cc

-- the item at a place
item : {A : Type 0} (xs : List A) (i : ℕ) → i < length xs → (x : A) × (get_or xs i x ≡ x)
item xs i l = elim (slice_get_cases xs i).1 [ inl h ↦ (h.0, h.3) | inr h ↦ absurd (omega (arith, h.0, l)) ]

module _ {A K : Type 0} (cmp : K → K → Ordering) (total : IsTotalOrder cmp) (same : (a b : K) → cmp a b ≡ Equal → a ≡ b) (of : A → K) where
  -- a search in a sorted list ends at an item with the key, or there is none
  pub found : (xs : List A) (k : K) (r : Result ℕ ℕ) → IsSortedBy (λ x y. is_lt (cmp (of x) (of y))) xs → IsSearchInRange r (length xs) → IsBinarySearchResult (λ x. cmp (of x) k) xs r
      → (is_ok r ≡ true) ↔ ((x : A) × Contains xs x × (of x ≡ k))
  found xs k (Ok i) sorted range h = (
    λ e. let t = item xs i range in (t.0, (i, range, t.1), same (of t.0) k (ap (λ (x : A). cmp (of x) k) (sym t.1) ∙ h t.0)),
    λ c. refl,
  )
  found xs k (Err i) sorted range h = (
    λ e. other e,
    λ c.
        let p = h (searchable_from_sorted total of xs k sorted) in
        let is : is_eq (cmp (of (get_or xs c.1.0 c.0)) k) ≡ true = ap (λ (x : A). is_eq (cmp (of x) k)) c.1.2 ∙ ap (λ (j : K). is_eq (cmp j k)) c.2 ∙ ap is_eq (tied_itself total k) in
        elim (cases_lt c.1.0 i) [
          | inl l ↦ other (sym (ap is_eq (p.0 c.1.0 c.0 (omega arith) l)) ∙ is)
          | inr l ↦ other (sym (ap is_eq (p.1 c.1.0 c.0 l c.1.1)) ∙ is)
        ],
  )

-- ---- ascending lists and sorted ones

module _ {A K : Type 0} (cmp : K → K → Ordering) (key : K → List ℕ) (is : Orders cmp key) (of : A → K) where
  less_is : (o : Ordering) → is_lt o ≡ true → is_lt (ordering_reverse o) ≡ false
  less_is Less h = refl
  less_is Equal h = refl
  less_is Greater h = cc

  -- an ascending list is sorted
  pub sorted : (xs : List A) → IsAscending (λ x. key (of x)) xs → IsSortedBy (λ x y. is_lt (cmp (of x) (of y))) xs
  sorted xs up k d l m =
      let x = get_or xs k d in
      let y = get_or xs (k + 1) d in
      ap is_lt (is.total.antisymm (of y) (of x)) ∙ less_is (cmp (of x) (of y)) (sym (is.before (of x) (of y)) ∙ up k (k + 1) x y (omega arith) (slice_get-get_or xs k d (omega arith)) (slice_get-get_or xs (k + 1) d (omega arith)))

  less : (o p : Ordering) → o ≡ ordering_reverse p → is_lt p ≡ false → is_eq o ≡ false → is_lt o ≡ true
  less Less p e l n = refl
  less Equal p e l n = cc
  less Greater Less e l n = cc
  less Greater Equal e l n = cc
  less Greater Greater e l n = cc

  -- a sorted list ascends where all its keys differ
  pub ascending : (xs : List A) → IsSortedBy (λ x y. is_lt (cmp (of x) (of y))) xs → IsDistinct (λ x y. is_eq (cmp (of x) (of y))) xs → IsAscending (λ x. key (of x)) xs
  ascending xs up apart i j x y l at there =
      let m = slice_get_within xs j y there in
      let e : get_or xs i x ≡ x = get_or_from_slice_get xs i x x at in
      let f : get_or xs j x ≡ y = get_or_from_slice_get xs j y x there in
      is.before (of x) (of y) ∙ less (cmp (of x) (of y)) (cmp (of y) (of x)) (is.total.antisymm (of x) (of y))
      (subst (λ (z : A). is_lt (cmp (of z) (of x)) ≡ false) f (subst (λ (z : A). is_lt (cmp (of (get_or xs j x)) (of z)) ≡ false) e (sorted_far (λ u v. is_lt (cmp (of u) (of v))) (ranks_by is.total of) xs up i j x (omega arith) m)))
      (subst (λ (z : A). is_eq (cmp (of x) (of z)) ≡ false) f (subst (λ (z : A). is_eq (cmp (of z) (of (get_or xs j x))) ≡ false) e (apart_from_distinct (λ u v. is_eq (cmp (of u) (of v))) xs i j x apart l m)))

all_get : {A : Type 0} (P : A → Type 0) (xs : List A) (j : ℕ) (d : A) → AllByRecursion P xs → slice_get xs j ≡ Some d → P d
all_get P [] j d h e = absurd (cc)
all_get P (x ∷ xs) zero d h e = let s : x ≡ d = cc in subst P s h.0
all_get P (x ∷ xs) (suc j) d h e = all_get P xs j d h.1 e

module _ {A : Type 0} {cmp : A → A → Ordering} {key : A → List ℕ} (is : Orders cmp key) where
  -- a strictly sorted list ascends
  pub strictly_ascending : (xs : List A) → IsStrictlySortedBy cmp xs → IsAscending key xs
  unfolding IsStrictlySortedBy
  strictly_ascending [] h i j c d lt at there = absurd (cc)
  strictly_ascending (x ∷ xs) h zero zero c d lt at there = absurd (omega arith)
  strictly_ascending (x ∷ xs) h zero (suc j) c d lt at there =
      let s : x ≡ c = cc in
      subst (λ (y : A). is_before (key y) (key d) ≡ true) s (is.before x d ∙ ap is_lt (all_get (λ y. cmp x y ≡ Less) xs j d h.0 there))
  strictly_ascending (x ∷ xs) h (suc i) zero c d lt at there = absurd (omega arith)
  strictly_ascending (x ∷ xs) h (suc i) (suc j) c d lt at there = strictly_ascending xs h.1 i j c d (omega arith) at there

  -- and so does what a sort and a removal of repeated items leave
  pub ordered_items : {eq : A → A → Bool} → ((a b : A) → eq a b ≡ eq_by_cmp cmp a b) → (sorted once : List A) → IsSorted cmp sorted → IsFiltered (DiffersFromLast eq) [] sorted once
      → IsAscending key once
  ordered_items {eq} ties sorted once up kept =
      subst (IsAscending key) (sym (dedup_is eq sorted once kept)) (strictly_ascending (dedup eq sorted) (IsStrictlySortedBy-dedup is.total ties sorted up))

-- what ascends by what it is mapped to, ascends when it is mapped
pub mapped_ascending : {A B : Type 0} (f : A → B) (key : B → List ℕ) (xs : List A) → IsAscending (λ x. key (f x)) xs → IsAscending key (map f xs)
mapped_ascending {A} {B} f key xs up i j y z l at there = go (slice_get xs i) (slice_get xs j) refl refl
  where
    from : (k : ℕ) (y : B) (o : Option A) → slice_get xs k ≡ o → slice_get (map f xs) k ≡ Some y → option_map f o ≡ Some y
    from k y o e h = ap (option_map f) (sym e) ∙ sym (slice_get-map f xs k) ∙ h

    go : (o p : Option A) → slice_get xs i ≡ o → slice_get xs j ≡ p → is_before (key y) (key z) ≡ true
    go (Some u) (Some v) e h = let p : Some (f u) ≡ Some y = from i y (Some u) e at in let q : Some (f v) ≡ Some z = from j z (Some v) h there in
        let r : f u ≡ y = cc in let s : f v ≡ z = cc in
        subst (λ (w : B). is_before (key w) (key z) ≡ true) r (subst (λ (w : B). is_before (key (f u)) (key w) ≡ true) s (up i j u v l e h))
    go (Some u) None e h = let q : None ≡ Some z = from j z None h there in absurd (cc)
    go None p e h = let q : None ≡ Some y = from i y None e at in absurd (cc)

-- each item of an ascending list comes before all behind it
pub ascends : {A : Type 0} (key : A → List ℕ) (xs : List A) → IsAscending key xs → Ascends key xs
ascends key [] up = tt
ascends key (x ∷ xs) up = (λ y i. up 0 (suc i.0) x y (omega arith) refl (in_slice xs y i), ascends key xs (λ i j y z l at there. up (suc i) (suc j) y z (omega arith) at there))
