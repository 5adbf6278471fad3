-- Lists that ascend, and what is in lists that were filtered, mapped and joined.
use Rattle.std.proofs.Common.{◌≡◌, ℕ, zero, suc, ◌<◌, ◌==◌, ◌&&◌, ◌||◌, nat_lt, Bool, true, false, List, [], ◌∷◌, ◌++◌, map, Contains, ◌⊎◌, inl, inr, refl, sym, ap, subst, ◌∙◌, arith, ap₂, lt-ltb, eq-eqb}
use Rattle.std.specs.Prelude.{filter, if◌then◌else◌}
use Rattle.std.proofs.lemmas.List.Elements.{Contains-append_cases}
use Rattle.cdc_model.specs.Ordered.{is_before, IsAscending}
use Rattle.cdc_model.proofs.Justify.{slice_in}

-- ---- what is in a list

pub here : {A : Type 0} (x : A) (xs : List A) → Contains (x ∷ xs) x
here x xs = (0, omega arith, refl)

pub later : {A : Type 0} (x : A) (xs : List A) (y : A) → Contains xs y → Contains (x ∷ xs) y
later x xs y i = (suc i.0, omega (arith, i.1), i.2)

pub parts : {A : Type 0} (x : A) (xs : List A) (y : A) → Contains (x ∷ xs) y → (x ≡ y) ⊎ Contains xs y
parts x xs y (zero, l, e) = inl e
parts x xs y (suc k, l, e) = inr (k, omega arith, e)

pub nothing_in : {A : Type 0} (x : A) → Contains [] x → ⊥
nothing_in x i = omega (arith, i.1)

pub in_map : {A B : Type 0} (f : A → B) (xs : List A) (x : A) → Contains xs x → Contains (map f xs) (f x)
in_map f [] x i = absurd (nothing_in x i)
in_map f (y ∷ ys) x i = elim (parts y ys x i) [
  | inl e ↦ subst (λ z. Contains (f y ∷ map f ys) (f z)) e (here (f y) (map f ys))
  | inr j ↦ later (f y) (map f ys) (f x) (in_map f ys x j)
]

pub from_map : {A B : Type 0} (f : A → B) (xs : List A) (z : B) → Contains (map f xs) z → (x : A) × Contains xs x × (f x ≡ z)
from_map f [] z i = absurd (nothing_in z i)
from_map f (y ∷ ys) z i = elim (parts (f y) (map f ys) z i) [
  | inl e ↦ (y, here y ys, e)
  | inr j ↦ let k = from_map f ys z j in (k.0, later y ys k.0 k.1, k.2)
]

pub in_filter : {A : Type 0} (p : A → Bool) (xs : List A) (x : A) → Contains xs x → p x ≡ true → Contains (filter p xs) x
in_filter p [] x i h = absurd (nothing_in x i)
in_filter {A} p (y ∷ ys) x i h = go (p y) refl (parts y ys x i) (in_filter p ys x)
  where
    go : (v : Bool) → p y ≡ v → (y ≡ x) ⊎ Contains ys x → (Contains ys x → p x ≡ true → Contains (filter p ys) x) → Contains (filter p (y ∷ ys)) x
    go true e (inl same) ih = subst (λ (v : Bool). Contains (if v then y ∷ filter p ys else filter p ys) x) (sym e) (subst (Contains (y ∷ filter p ys)) same (here y (filter p ys)))
    go true e (inr j) ih = subst (λ (v : Bool). Contains (if v then y ∷ filter p ys else filter p ys) x) (sym e) (later y (filter p ys) x (ih j h))
    go false e (inl same) ih = absurd (both (sym e ∙ ap p same ∙ h))
      where
        both : false ≡ true → ⊥
        both f = cc
    go false e (inr j) ih = subst (λ (v : Bool). Contains (if v then y ∷ filter p ys else filter p ys) x) (sym e) (ih j h)

pub from_filter : {A : Type 0} (p : A → Bool) (xs : List A) (x : A) → Contains (filter p xs) x → Contains xs x × (p x ≡ true)
from_filter p [] x i = absurd (nothing_in x i)
from_filter p (y ∷ ys) x i = go (p y) refl i (from_filter p ys x)
  where
    go : (v : Bool) → p y ≡ v → Contains (if v then y ∷ filter p ys else filter p ys) x → (Contains (filter p ys) x → Contains ys x × (p x ≡ true)) → Contains (y ∷ ys) x × (p x ≡ true)
    go true e j ih = elim (parts y (filter p ys) x j) [
      | inl same ↦ (subst (Contains (y ∷ ys)) same (here y ys), ap p (sym same) ∙ e)
      | inr k ↦ let l = ih k in (later y ys x l.0, l.1)
    ]
    go false e j ih = let l = ih j in (later y ys x l.0, l.1)

-- ---- ascending lists

-- each item comes before all behind it
abbrev pub Ascends : {A : Type 0} → (A → List ℕ) → List A → Type 0
Ascends key [] = Unit {0}
Ascends key (x ∷ xs) = ((y : _) → Contains xs y → is_before (key x) (key y) ≡ true) × Ascends key xs

module _ {A : Type 0} (key : A → List ℕ) where
  pub ascending : (xs : List A) → Ascends key xs → IsAscending key xs
  ascending [] h i j x y l e f = cc
  ascending (z ∷ zs) h i zero x y l e f = absurd (omega arith)
  ascending (z ∷ zs) h zero (suc j) x y l e f = let same : z ≡ x = cc in subst (λ (w : A). is_before (key w) (key y) ≡ true) same (h.0 y (slice_in zs j y f))
  ascending (z ∷ zs) h (suc i) (suc j) x y l e f = ascending zs h.1 i j x y (omega arith) e f

  pub joined_ascend : (xs ys : List A) → Ascends key xs → Ascends key ys → ((x y : A) → Contains xs x → Contains ys y → is_before (key x) (key y) ≡ true) → Ascends key (xs ++ ys)
  joined_ascend [] ys h k before = k
  joined_ascend (x ∷ xs) ys h k before = (
    λ y i. elim (Contains-append_cases xs ys y i) [ inl j ↦ h.0 y j | inr j ↦ before x y (here x xs) j ],
    joined_ascend xs ys h.1 k (λ u v i j. before u v (later x xs u i) j),
  )

  pub filtered_ascend : (p : A → Bool) (xs : List A) → Ascends key xs → Ascends key (filter p xs)
  filtered_ascend p [] h = tt
  filtered_ascend p (x ∷ xs) h = go (p x) (filtered_ascend p xs h.1)
    where
      go : (v : Bool) → Ascends key (filter p xs) → Ascends key (if v then x ∷ filter p xs else filter p xs)
      go true k = (λ y i. h.0 y (from_filter p xs y i).0, k)
      go false k = k

pub mapped_ascend : {A B : Type 0} (f : A → B) (key : B → List ℕ) (xs : List A) → Ascends (λ x. key (f x)) xs → Ascends key (map f xs)
mapped_ascend f key [] h = tt
mapped_ascend {A} {B} f key (x ∷ xs) h = (
  λ z i. let k = from_map f xs z i in subst (λ (w : B). is_before (key (f x)) (key w) ≡ true) k.2 (h.0 k.0 k.1),
  mapped_ascend f key xs h.1,
)

pub rekeyed_ascend : {A : Type 0} (key other : A → List ℕ) → ((x y : A) → is_before (key x) (key y) ≡ true → is_before (other x) (other y) ≡ true) → (xs : List A) → Ascends key xs → Ascends other xs
rekeyed_ascend key other h [] k = tt
rekeyed_ascend key other h (x ∷ xs) k = (λ y i. h x y (k.0 y i), rekeyed_ascend key other h xs k.1)

-- ---- keys

pub less_before : (m n : ℕ) (ms ns : List ℕ) → m < n → is_before (m ∷ ms) (n ∷ ns) ≡ true
less_before m n ms ns l = ap (λ v. v || ((m == n) && is_before ms ns)) (lt-ltb m n l)

pub same_before : (m n : ℕ) (ms ns : List ℕ) → m ≡ n → is_before ms ns ≡ true → is_before (m ∷ ms) (n ∷ ns) ≡ true
same_before m n ms ns e h = ap₂ (λ u v. nat_lt m n || (u && v)) (eq-eqb m n e) h ∙ always (nat_lt m n)
  where
    always : (v : Bool) → (v || true) ≡ true
    always true = refl
    always false = refl
