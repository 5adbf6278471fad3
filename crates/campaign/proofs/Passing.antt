-- Lists whose items pass a test, and items whose keys differ.
use Rattle.std.proofs.Common.{◌≡◌, ◌≢◌, ◌∙◌, ℕ, zero, suc, Bool, true, false, cond, List, [], ◌∷◌, ◌++◌, map, length, Contains, Some, inl, inr, refl, sym, ap, ap₂, subst, arith, append_assoc, append-nil}
use Rattle.std.specs.Prelude.{filter, AllPairs}
use Rattle.std.specs.List.{find, AllByRecursion}
use Rattle.std.proofs.lemmas.List.Elements.{All-from_recursion}
use Rattle.cdc_model.specs.declared.scheme.Crossing.{Crossing}
use Rattle.cdc_model.proofs.Ascending.{here, later, parts, nothing_in}
use Rattle.campaign.specs.declared.toss.Toss.{Toss}
use Rattle.campaign.specs.Draws.{word, behind, behind_all, with_words}
use Rattle.campaign.specs.Drawn.{toss}
use Rattle.campaign.specs.Tested.{behind_passing, toss_if, tosses_of}

-- a word is drawn for each item that passes
pub behind-passing : {A : Type 0} (test : A → Bool) (xs : List A) (rng : List ℕ) → behind_passing test xs rng ≡ behind_all (length (filter test xs)) rng
behind-passing test [] rng = refl
behind-passing test (x ∷ xs) rng = go (test x) (behind-passing test xs (behind rng)) (behind-passing test xs rng)
  where
    go : (t : Bool) → behind_passing test xs (behind rng) ≡ behind_all (length (filter test xs)) (behind rng) → behind_passing test xs rng ≡ behind_all (length (filter test xs)) rng
        → behind_passing test xs (cond t (behind rng) rng) ≡ behind_all (length (cond t (x ∷ filter test xs) (filter test xs))) rng
    go true a b = a
    go false a b = b

-- the choices of the flops that are torn
pub tosses-are : (torn : Crossing → Bool) (cs : List Crossing) (rng : List ℕ) (ts : List Toss) → tosses_of torn cs rng ts ≡ ts ++ with_words toss rng (filter torn cs)
tosses-are torn [] rng ts = sym (append-nil ts)
tosses-are torn (c ∷ cs) rng ts = go (torn c) (tosses-are torn cs (behind rng) (ts ++ toss (word rng) c ∷ [])) (tosses-are torn cs rng (ts ++ []))
  where
    go : (t : Bool) → tosses_of torn cs (behind rng) (ts ++ toss (word rng) c ∷ []) ≡ (ts ++ toss (word rng) c ∷ []) ++ with_words toss (behind rng) (filter torn cs)
        → tosses_of torn cs rng (ts ++ []) ≡ (ts ++ []) ++ with_words toss rng (filter torn cs)
        → tosses_of torn cs (cond t (behind rng) rng) (ts ++ toss_if t rng c) ≡ ts ++ with_words toss rng (cond t (c ∷ filter torn cs) (filter torn cs))
    go true a b = a ∙ append_assoc ts (toss (word rng) c ∷ []) (with_words toss (behind rng) (filter torn cs))
    go false a b = b ∙ ap (λ us. us ++ with_words toss rng (filter torn cs)) (append-nil ts)

-- tests that agree find the same item
pub find-same : {A : Type 0} (p q : A → Bool) (xs : List A) → ((x : A) → Contains xs x → p x ≡ q x) → find p xs ≡ find q xs
find-same p q [] h = refl
find-same p q (x ∷ xs) h = ap₂ (λ t o. cond t (Some x) o) (h x (here x xs)) (find-same p q xs (λ y i. h y (later x xs y i)))

-- what is found is in the list, and passes
pub found-in : {A : Type 0} (p : A → Bool) (xs : List A) (x : A) → find p xs ≡ Some x → Contains xs x × (p x ≡ true)
found-in p [] x e = cc
found-in p (y ∷ ys) x e = go (p y) refl e (found-in p ys x)
  where
    go : (t : Bool) → p y ≡ t → cond t (Some y) (find p ys) ≡ Some x → (find p ys ≡ Some x → Contains ys x × (p x ≡ true)) → Contains (y ∷ ys) x × (p x ≡ true)
    go true f e ih = let same : y ≡ x = cc in (subst (λ z. Contains (y ∷ ys) z) same (here y ys), ap p (sym same) ∙ f)
    go false f e ih = let r = ih e in (later y ys x r.0, r.1)

-- each key differs from those behind it
abbrev pub AreApart : {A K : Type 0} → (A → K) → List A → Type 0
AreApart key [] = Unit {0}
AreApart key (x ∷ xs) = AllByRecursion (λ y. key x ≢ key y) xs × AreApart key xs

pub each-passing : {A : Type 0} (P : A → Type 0) (test : A → Bool) (xs : List A) → AllByRecursion P xs → AllByRecursion P (filter test xs)
each-passing P test [] h = tt
each-passing P test (x ∷ xs) h = go (test x) (each-passing P test xs h.1)
  where
    go : (t : Bool) → AllByRecursion P (filter test xs) → AllByRecursion P (cond t (x ∷ filter test xs) (filter test xs))
    go true k = (h.0, k)
    go false k = k

-- those that pass do pass
pub all-pass : {A : Type 0} (test : A → Bool) (xs : List A) → AllByRecursion (λ x. test x ≡ true) (filter test xs)
all-pass test [] = tt
all-pass test (x ∷ xs) = go (test x) refl (all-pass test xs)
  where
    go : (t : Bool) → test x ≡ t → AllByRecursion (λ x. test x ≡ true) (filter test xs) → AllByRecursion (λ x. test x ≡ true) (cond t (x ∷ filter test xs) (filter test xs))
    go true e k = (e, k)
    go false e k = k

pub apart-passing : {A K : Type 0} (key : A → K) (test : A → Bool) (xs : List A) → AreApart key xs → AreApart key (filter test xs)
apart-passing key test [] h = tt
apart-passing key test (x ∷ xs) h = go (test x) (apart-passing key test xs h.1)
  where
    go : (t : Bool) → AreApart key (filter test xs) → AreApart key (cond t (x ∷ filter test xs) (filter test xs))
    go true k = (each-passing (λ y. key x ≢ key y) test xs h.0, k)
    go false k = k

pub each-mapped : {A B : Type 0} (P : B → Type 0) (f : A → B) (xs : List A) → AllByRecursion (λ x. P (f x)) xs → AllByRecursion P (map f xs)
each-mapped P f [] h = tt
each-mapped P f (x ∷ xs) h = (h.0, each-mapped P f xs h.1)

pub apart-mapped : {A B K : Type 0} (key : B → K) (f : A → B) (xs : List A) → AreApart (λ x. key (f x)) xs → AreApart key (map f xs)
apart-mapped key f [] h = tt
apart-mapped key f (x ∷ xs) h = (each-mapped (λ y. key (f x) ≢ key y) f xs h.0, apart-mapped key f xs h.1)

pub apart-pairs : {A K : Type 0} (key : A → K) (xs : List A) → AreApart key xs → AllPairs (λ x y. key x ≢ key y) xs
apart-pairs key [] h i j d l m = absurd (omega arith)
apart-pairs key (x ∷ xs) h i zero d l m = absurd (omega arith)
apart-pairs key (x ∷ xs) h zero (suc j) d l m = All-from_recursion (λ y. key x ≢ key y) xs h.0 j d (omega arith)
apart-pairs key (x ∷ xs) h (suc i) (suc j) d l m = apart-pairs key xs h.1 i j d (omega arith) (omega arith)

pub each-weaker : {A : Type 0} (P Q : A → Type 0) → ((x : A) → P x → Q x) → (xs : List A) → AllByRecursion P xs → AllByRecursion Q xs
each-weaker P Q h [] k = tt
each-weaker P Q h (x ∷ xs) k = (h x k.0, each-weaker P Q h xs k.1)

pub each-both : {A : Type 0} (P Q : A → Type 0) (xs : List A) → AllByRecursion P xs → AllByRecursion Q xs → AllByRecursion (λ x. P x × Q x) xs
each-both P Q [] k l = tt
each-both P Q (x ∷ xs) k l = ((k.0, l.0), each-both P Q xs k.1 l.1)

-- what holds of each item holds by recursion
pub each-of : {A : Type 0} (P : A → Type 0) (xs : List A) → ((x : A) → Contains xs x → P x) → AllByRecursion P xs
each-of P [] h = tt
each-of P (x ∷ xs) h = (h x (here x xs), each-of P xs (λ y i. h y (later x xs y i)))

pub of-each : {A : Type 0} (P : A → Type 0) (xs : List A) (x : A) → AllByRecursion P xs → Contains xs x → P x
of-each P [] x h i = absurd (nothing_in x i)
of-each P (y ∷ ys) x h i = elim (parts y ys x i) [ inl e ↦ subst P e h.0 | inr j ↦ of-each P ys x h.1 j ]
