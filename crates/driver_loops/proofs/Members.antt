-- Members of lists by their places, and marks.
use Rattle.std.proofs.Common.{◌≡◌, ◌∙◌, ◌⊎◌, ◌↔◌, inl, inr, sym, ap, subst, refl, arith, ℕ, zero, suc, ◌<◌, ◌≤◌, ◌+◌, List, [], ◌∷◌, ◌++◌, Some, None, slice_get, Bool, true, false, length, take, get_or, set}
use Rattle.std.specs.Prelude.{◌||◌, replicate, OnOk, OnErr, Result, Ok, Err}
use Rattle.std.specs.List.{Contains, AllPairs, list_any}
use Rattle.std.proofs.lemmas.Option.{slice_get_within, slice_get-get_or, get_or_from_slice_get}
use Rattle.std.proofs.lemmas.List.{get_or_append_left, get_or_at, length-append, length-set, take_more}
use Rattle.std.proofs.lemmas.List.Elements.{Contains-push, Contains-push_cases, Contains-append_left}
use Rattle.driver_loops.specs.Walks.{IsMarked, is_unmarked}

pub contains_get : {A : Type 0} (xs : List A) (k : ℕ) (x : A) → slice_get xs k ≡ Some x → Contains xs x
contains_get xs k x e = (k, slice_get_within xs k x e, get_or_from_slice_get xs k x x e)

pub get_contains : {A : Type 0} (xs : List A) (x : A) → Contains xs x → (k : ℕ) × (k < length xs) × (slice_get xs k ≡ Some x)
get_contains xs x h = (h.0, h.1, slice_get-get_or xs h.0 x h.1 ∙ ap Some h.2)

pub nothing_in : {A : Type 0} (x : A) → Contains [] x → ⊥
nothing_in x h = absurd (let l = h.1 in omega arith)

-- ---- a list and one more item

pub get_left : {A : Type 0} (xs ys : List A) (k : ℕ) → k < length xs → slice_get (xs ++ ys) k ≡ slice_get xs k
get_left [] ys k h = absurd (omega arith)
get_left (x ∷ xs) ys zero h = refl
get_left (x ∷ xs) ys (suc k) h = get_left xs ys k (omega arith)

pub get_last : {A : Type 0} (xs : List A) (x y : A) (k : ℕ) → length xs ≤ k → slice_get (xs ++ x ∷ []) k ≡ Some y → (k ≡ length xs) × (x ≡ y)
get_last [] x y zero h e = (refl, cc)
get_last [] x y (suc k) h e = absurd (cc)
get_last (z ∷ xs) x y zero h e = absurd (omega arith)
get_last (z ∷ xs) x y (suc k) h e =
    let r = get_last xs x y k (omega arith) e in
    (ap suc r.0, r.1)

-- a pair of an earlier item and the last one
pub last_pair : {A : Type 0} (R : A → A → Type 0) (xs : List A) (x y : A) → AllPairs R (xs ++ y ∷ []) → Contains xs x → R x y
last_pair R xs x y h (k, lt, e) =
    let first : get_or (xs ++ y ∷ []) k x ≡ x = get_or_append_left xs (y ∷ []) x k lt ∙ e in
    let last : get_or (xs ++ y ∷ []) (length xs) x ≡ y = get_or_at xs y [] x (length xs) refl in
    let n : length (xs ++ y ∷ []) ≡ length xs + 1 = length-append xs (y ∷ []) in
    subst (λ z. R x z) last (subst (λ z. R z (get_or (xs ++ y ∷ []) (length xs) x)) first (h k (length xs) x lt (omega arith)))

pub front_pairs : {A : Type 0} (R : A → A → Type 0) (xs : List A) (y : A) → AllPairs R (xs ++ y ∷ []) → AllPairs R xs
front_pairs R xs y h i j d lt within =
    let n : length (xs ++ y ∷ []) ≡ length xs + 1 = length-append xs (y ∷ []) in
    subst (λ z. R z (get_or xs j d)) (get_or_append_left xs (y ∷ []) d i (omega arith))
    (subst (λ z. R (get_or (xs ++ y ∷ []) i d) z) (get_or_append_left xs (y ∷ []) d j within) (h i j d lt (omega arith)))

pub take_cases : {A : Type 0} (xs : List A) (i : ℕ) (y x : A) → slice_get xs i ≡ Some y → Contains (take (i + 1) xs) x → Contains (take i xs) x ⊎ (y ≡ x)
take_cases xs i y x at h =
    Contains-push_cases (take i xs) y x
    (subst (λ z. Contains (take i xs ++ z ∷ []) x) (get_or_from_slice_get xs i y y at)
    (subst (λ ys. Contains ys x) (take_more xs i y (slice_get_within xs i y at)) h))

-- ---- marks

pub unmarked_at : (marks : List Bool) (v : ℕ) → is_unmarked marks v ≡ true → slice_get marks v ≡ Some false
unmarked_at [] v h = absurd (cc)
unmarked_at (true ∷ ms) zero h = absurd (cc)
unmarked_at (false ∷ ms) zero h = refl
unmarked_at (m ∷ ms) (suc v) h = unmarked_at ms v h

pub marked_at : (marks : List Bool) (v : ℕ) → is_unmarked marks v ≡ false → v < length marks → IsMarked marks v
marked_at [] v h l = absurd (omega arith)
marked_at (true ∷ ms) zero h l = refl
marked_at (false ∷ ms) zero h l = absurd (cc)
marked_at (m ∷ ms) (suc v) h l = marked_at ms v h (omega arith)

pub mark_here : (marks : List Bool) (v : ℕ) → v < length marks → IsMarked (set marks v true) v
mark_here [] v l = absurd (omega arith)
mark_here (m ∷ ms) zero l = refl
mark_here (m ∷ ms) (suc v) l = mark_here ms v (omega arith)

pub mark_stays : (marks : List Bool) (v w : ℕ) → IsMarked marks w → IsMarked (set marks v true) w
mark_stays [] v w h = h
mark_stays (m ∷ ms) zero zero h = refl
mark_stays (m ∷ ms) zero (suc w) h = h
mark_stays (m ∷ ms) (suc v) zero h = h
mark_stays (m ∷ ms) (suc v) (suc w) h = mark_stays ms v w h

pub mark_cases : (marks : List Bool) (v w : ℕ) → IsMarked (set marks v true) w → IsMarked marks w ⊎ (v ≡ w)
mark_cases [] v w h = inl h
mark_cases (m ∷ ms) zero zero h = inr refl
mark_cases (m ∷ ms) zero (suc w) h = inl h
mark_cases (m ∷ ms) (suc v) zero h = inl h
mark_cases (m ∷ ms) (suc v) (suc w) h = elim (mark_cases ms v w h) [ inl k ↦ inl k | inr e ↦ inr (ap suc e) ]

pub unmarked-not : (marks : List Bool) (v : ℕ) → slice_get marks v ≡ Some false → IsMarked marks v → ⊥
unmarked-not marks v e h = cc

pub past_end : {A : Type 0} (xs : List A) (k : ℕ) → slice_get xs k ≡ None → length xs ≤ k
past_end [] k h = omega arith
past_end (x ∷ xs) zero h = absurd (cc)
past_end (x ∷ xs) (suc k) h = let l = past_end xs k h in omega arith

pub none_marked : (n v : ℕ) → IsMarked (replicate n false) v → ⊥
none_marked zero v h = absurd (cc)
none_marked (suc n) zero h = absurd (cc)
none_marked (suc n) (suc v) h = none_marked n v h

-- the first vertices, all marked

module _ (old : List Bool) (vs : List ℕ) where
  abbrev pub AreMarkedUpTo : ℕ → List Bool → Type 0
  AreMarkedUpTo i marks = (v : ℕ) → IsMarked marks v ↔ (IsMarked old v ⊎ (Contains (take i vs) v × (v < length old)))

  pub none_more_marked : AreMarkedUpTo 0 old
  none_more_marked v = (λ h. inl h, λ h. elim h [ inl k ↦ k | inr k ↦ absurd (nothing_in v k.0) ])

  pub one_more_marked : (i : ℕ) (marks : List Bool) → i < length vs → length marks ≡ length old → AreMarkedUpTo i marks → AreMarkedUpTo (i + 1) (set marks (get_or vs i 0) true)
  one_more_marked i marks lt same is v = (there, back)
    where
      x : ℕ
      x = get_or vs i 0

      more : take (i + 1) vs ≡ take i vs ++ x ∷ []
      more = take_more vs i 0 lt

      there : IsMarked (set marks x true) v → IsMarked old v ⊎ (Contains (take (i + 1) vs) v × (v < length old))
      there h = elim (mark_cases marks x v h) [
        | inl k ↦ elim ((is v).0 k) [
          | inl j ↦ inl j
          | inr j ↦ inr (subst (λ ys. Contains ys v) (sym more) (Contains-append_left (take i vs) (x ∷ []) v j.0), j.1)
        ]
        | inr e ↦
            let in' = slice_get_within (set marks x true) v true h in
            let n = length-set marks x true in
            inr (subst (λ ys. Contains ys v) (sym more) (subst (λ y. Contains (take i vs ++ x ∷ []) y) e (Contains-push (take i vs) x)), omega arith)
      ]

      back : IsMarked old v ⊎ (Contains (take (i + 1) vs) v × (v < length old)) → IsMarked (set marks x true) v
      back (inl k) = mark_stays marks x v ((is v).1 (inl k))
      back (inr k) = elim (Contains-push_cases (take i vs) x v (subst (λ ys. Contains ys v) more k.0)) [
        | inl j ↦ mark_stays marks x v ((is v).1 (inr (j, k.1)))
        | inr e ↦ subst (IsMarked (set marks x true)) e (mark_here marks x (let l = k.1 in omega arith))
      ]

-- ---- what some item has

pub any-some : (p : ℕ → Bool) (xs : List ℕ) → list_any p xs ≡ true → (x : ℕ) × Contains xs x × (p x ≡ true)
any-some p [] h = absurd (cc)
any-some p (x ∷ xs) h = go (p x) refl (λ e. any-some p xs (ap (λ b. b || list_any p xs) (sym e) ∙ h))
  where
    go : (b : Bool) → p x ≡ b → (p x ≡ false → (y : ℕ) × Contains xs y × (p y ≡ true)) → (y : ℕ) × Contains (x ∷ xs) y × (p y ≡ true)
    go true e rest = (x, contains_get (x ∷ xs) 0 x refl, e)
    go false e rest =
        let r = rest e in
        let at = get_contains xs r.0 r.1 in
        (r.0, contains_get (x ∷ xs) (suc at.0) r.0 at.2, r.2)

head_false : (a b : Bool) → (a || b) ≡ false → a ≡ false
head_false true b e = absurd (cc)
head_false false b e = refl

tail_false : (a b : Bool) → (a || b) ≡ false → b ≡ false
tail_false true b e = absurd (cc)
tail_false false b e = e

none_at : (p : ℕ → Bool) (x : ℕ) (xs : List ℕ) (k : ℕ) → list_any p xs ≡ false → slice_get xs k ≡ Some x → p x ≡ false
none_at p x [] k e at = absurd (cc)
none_at p x (y ∷ ys) zero e at = let s : y ≡ x = cc in subst (λ z. p z ≡ false) s (head_false (p y) (list_any p ys) e)
none_at p x (y ∷ ys) (suc k) e at = none_at p x ys k (tail_false (p y) (list_any p ys) e) at

pub any-none : (p : ℕ → Bool) (xs : List ℕ) (x : ℕ) → list_any p xs ≡ false → Contains xs x → p x ≡ false
any-none p xs x h within = let at = get_contains xs x within in none_at p x xs at.0 h at.2

-- ---- results

pub on_both : {T E : Type 0} {P Q R : Type 0} (r : Result T E) → (P → Q → R) → OnOk r P → OnOk r Q → OnOk r R
on_both (Ok t) f h k = f h k
on_both (Err e) f h k = tt

pub on_either : {T E : Type 0} {P Q R : Type 0} (r : Result T E) → (P → R) → (Q → R) → OnOk r P → OnErr r Q → R
on_either (Ok t) f g h k = f h
on_either (Err e) f g h k = g k
