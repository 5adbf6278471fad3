-- The arrivals that a register bit reads.
use Rattle.std.proofs.Common.{◌≡◌, ◌⊎◌, ◌↔◌, inl, inr, refl, sym, ap, subst, arith, ℕ, zero, suc, ◌+◌, ◌<◌, true, eqb-true, eq-eqb, Some, List, [], ◌∷◌, ◌++◌, take, length, get_or, Contains}
use Rattle.std.proofs.lemmas.List.{take_more}
use Rattle.std.proofs.lemmas.List.Elements.{Contains-append_cases, Contains-append_left, Contains-append_right, Contains-get_or}
use Rattle.cdc_model.specs.Ordered.{IsAll, IsAscending, is_before}
use Rattle.cdc_model.specs.Verdict.{Family as FamilyOf, OfWord, OfBit}
use Rattle.cdc_model.proofs.Ascending.{here, parts, nothing_in, Ascends, ascending, joined_ascend}
use Rattle.obligations.specs.declared.arrivals.Family.{Family}
use Rattle.obligations.specs.declared.arrivals.Read.{Read}
use Rattle.obligations.specs.declared.arrivals.Source.{Source}
use Rattle.obligations.specs.declared.arrivals.Source.TheVariants as source
use Rattle.obligations.specs.Arrivals.{family_as, of_source, of_one_group, group_key}
use Rattle.cdc_model.proofs.Keys.{ascends}

pub of_one_group_is : (r q : Read) → (of_one_group r q ≡ true) ↔ (group_key r ≡ group_key q)
of_one_group_is r q = (λ h. ap (λ n. n ∷ []) (eqb-true r.group q.group h), λ h. eq-eqb r.group q.group (one h))
  where
    one : r.group ∷ [] ≡ q.group ∷ [] → r.group ≡ q.group
    one e = cc

-- ---- lists of all items

module _ {A : Type 0} (key : A → List ℕ) (P Q R : A → Type 0) where
  pub all_joined : (xs ys : List A) → IsAll P key xs → IsAll Q key ys → ((x y : A) → P x → Q y → is_before (key x) (key y) ≡ true)
      → ((z : A) → R z → P z ⊎ Q z) → ((z : A) → P z → R z) → ((z : A) → Q z → R z) → IsAll R key (xs ++ ys)
  all_joined xs ys h k before parted left right = record {
    all = λ z r. elim (parted z r) [ inl p ↦ Contains-append_left xs ys z (h.all z p) | inr q ↦ Contains-append_right xs ys z (k.all z q) ];
    only = λ z i. elim (Contains-append_cases xs ys z i) [ inl j ↦ left z (h.only z j) | inr j ↦ right z (k.only z j) ];
    ordered = ascending key (xs ++ ys) (joined_ascend key xs ys (ascends key xs h.ordered) (ascends key ys k.ordered) (λ x y i j. before x y (h.only x i) (k.only y j)));
  }

pub none_all : {A : Type 0} (key : A → List ℕ) (P : A → Type 0) → ((x : A) → P x → ⊥) → IsAll P key []
none_all key P h = record { all = λ x p. absurd (h x p); only = λ x i. absurd (nothing_in x i); ordered = ascending key [] tt }

pub one_all : {A : Type 0} (key : A → List ℕ) (P : A → Type 0) (x : A) → P x → ((y : A) → P y → x ≡ y) → IsAll P key (x ∷ [])
one_all key P x p h = record {
  all = λ y q. subst (Contains (x ∷ [])) (h y q) (here x []);
  only = λ y i. elim (parts x [] y i) [ inl e ↦ subst P e p | inr j ↦ absurd (nothing_in y j) ];
  ordered = ascending key (x ∷ []) (λ y i. absurd (nothing_in y i), tt);
}

pub only_one : {A : Type 0} (x y : A) → Contains (x ∷ []) y → x ≡ y
only_one x y i = elim (parts x [] y i) [ inl e ↦ e | inr j ↦ absurd (nothing_in y j) ]

-- the items of a longer front
pub taken_more : {A : Type 0} (xs : List A) (i : ℕ) (d x : A) → i < length xs → Contains (take (i + 1) xs) x → Contains (take i xs) x ⊎ Contains (get_or xs i d ∷ []) x
taken_more xs i d x l h = Contains-append_cases (take i xs) (get_or xs i d ∷ []) x (subst (λ ys. Contains ys x) (take_more xs i d l) h)

pub taken_before : {A : Type 0} (xs : List A) (i : ℕ) (d x : A) → i < length xs → Contains (take i xs) x ⊎ Contains (get_or xs i d ∷ []) x → Contains (take (i + 1) xs) x
taken_before xs i d x l h = subst (λ ys. Contains ys x) (sym (take_more xs i d l)) (elim h [
  | inl j ↦ Contains-append_left (take i xs) (get_or xs i d ∷ []) x j
  | inr j ↦ Contains-append_right (take i xs) (get_or xs i d ∷ []) x j
])

-- an item of the front comes before the next one
pub front_before : {A : Type 0} (key : A → List ℕ) (xs : List A) → IsAscending key xs → (i : ℕ) (d x : A) → i < length xs → Contains (take i xs) x → is_before (key x) (key (get_or xs i d)) ≡ true
front_before key xs up i d x l h = go xs (ascends key xs up) i l h
  where
    at : (ys : List _) (k : ℕ) → k < length ys → Contains ys (get_or ys k d)
    at ys k m = Contains-get_or ys k d m

    go : (ys : List _) → Ascends key ys → (k : ℕ) → k < length ys → Contains (take k ys) x → is_before (key x) (key (get_or ys k d)) ≡ true
    go [] a k m i = absurd (omega (arith, m))
    go (y ∷ ys) a zero m i = absurd (nothing_in x i)
    go (y ∷ ys) a (suc k) m i = elim (parts y (take k ys) x i) [
      | inl e ↦ subst (λ z. is_before (key z) (key (get_or ys k d)) ≡ true) e (a.0 (get_or ys k d) (at ys k (omega (arith, m))))
      | inr j ↦ go ys a.1 k (omega (arith, m)) j
    ]

-- ---- reads

some_one : {A : Type 0} (x y : A) → Some x ≡ Some y → x ≡ y
some_one x y e = cc

-- a family by its source's word or bit, as the code keeps it
abbrev pub kept_as : FamilyOf → Family
kept_as (OfWord w g) = record { source = source.Code w; entered = g }
kept_as (OfBit b g) = record { source = source.Bit b; entered = g }

pub as_kept : (f : FamilyOf) → family_as (kept_as f) ≡ f
as_kept (OfWord w g) = refl
as_kept (OfBit b g) = refl

pub kept_is : (f : Family) → kept_as (family_as f) ≡ f
kept_is f = go f.source
  where
    go : (s : Source) → kept_as (of_source s f.entered) ≡ record { source = s; entered = f.entered }
    go (source.Code w) = refl
    go (source.Bit b) = refl
