-- Lists that differ at one place.
use Rattle.std.proofs.Common.{◌≡◌, ◌==◌, ℕ, zero, suc, ◌+◌, ◌-◌, ◌<◌, ◌≤◌, Bool, true, false, List, [], ◌∷◌, map, Option, Some, None, refl, sym, ap, ap₂, ◌∙◌, arith, eqb-true, rules}
use Rattle.std.specs.Prelude.{slice_get, option_map}
use Rattle.std.proofs.lemmas.Bool.{eqb-false}
use Rattle.std.proofs.Math.ListN.{set}
use Rattle.flat_unfolding.specs.Names.{Entry}
use Rattle.flat_unfolding.specs.Design.{change_entry, change_from}
use Rattle.flat_unfolding.proofs.Steps.{some_is}

-- ---- a change of one entry

pub no-change : (f : Entry → Entry) (s : ℕ) (es : List Entry) → slice_get es s ≡ None → change_entry f s es ≡ es
no-change f s [] e = refl
no-change f zero (a ∷ es) e = absurd (search (rules, e))
no-change f (suc s) (a ∷ es) e = ap (λ zs. a ∷ zs) (no-change f s es e)

-- a change of one entry that is like another there
pub same-change : (f g : Entry → Entry) (s : ℕ) (es : List Entry) (a : Entry) → slice_get es s ≡ Some a → f a ≡ g a → change_entry f s es ≡ change_entry g s es
same-change f g s [] a at e = refl
same-change f g zero (b ∷ es) a at e = let same = some_is b a at in ap (λ z. z ∷ es) (ap f same ∙ e ∙ ap g (sym same))
same-change f g (suc s) (b ∷ es) a at e = ap (λ zs. b ∷ zs) (same-change f g s es a at e)

-- what a change keeps of each entry
pub told-same : {A : Type 0} (g : Entry → A) (f : Entry → Entry) → ((a : Entry) → g (f a) ≡ g a) → (s : ℕ) (es : List Entry) → map g (change_entry f s es) ≡ map g es
told-same g f k s [] = refl
told-same g f k zero (a ∷ es) = ap (λ b. b ∷ map g es) (k a)
told-same g f k (suc s) (a ∷ es) = ap (λ bs. g a ∷ bs) (told-same g f k s es)

-- one place more of a run of changes, and its end
pub next-change : (f : Entry → Entry) (count s : ℕ) (es : List Entry) → s < count → change_from f (s + 1) (count - (s + 1)) (change_entry f s es) ≡ change_from f s (count - s) es
next-change f count s es l =
    let next : s + 1 ≡ suc s = omega arith in let left : count - s ≡ suc (count - suc s) = omega (arith, l) in
    ap (λ k. change_from f k (count - k) (change_entry f s es)) next ∙ sym (ap (λ k. change_from f s k es) left)

pub no-change-left : (f : Entry → Entry) (count s : ℕ) (es : List Entry) → count ≤ s → change_from f s (count - s) es ≡ es
no-change-left f count s es l = let none : count - s ≡ 0 = omega (arith, l) in ap (λ k. change_from f s k es) none

-- ---- changes place by place

pub same-lists : {A : Type 0} (xs ys : List A) → ((t : ℕ) → slice_get xs t ≡ slice_get ys t) → xs ≡ ys
same-lists [] [] h = refl
same-lists [] (y ∷ ys) h = absurd (let e = h 0 in search (rules, e))
same-lists (x ∷ xs) [] h = absurd (let e = h 0 in search (rules, e))
same-lists (x ∷ xs) (y ∷ ys) h = ap₂ (λ z zs. z ∷ zs) (some_is x y (h 0)) (same-lists xs ys (λ t. h (suc t)))

apart-first : (t : ℕ) → (suc t == 0) ≡ false
apart-first t = go (suc t == 0) refl
  where
    go : (b : Bool) → (suc t == 0) ≡ b → b ≡ false
    go true e = absurd (let n = eqb-true (suc t) 0 e in omega (arith, n))
    go false e = refl

apart-later : (k : ℕ) → (0 == suc k) ≡ false
apart-later k = go (0 == suc k) refl
  where
    go : (b : Bool) → (0 == suc k) ≡ b → b ≡ false
    go true e = absurd (let n = eqb-true 0 (suc k) e in omega (arith, n))
    go false e = refl

both-next : (t k : ℕ) → (suc t == suc k) ≡ (t == k)
both-next t k = go (suc t == suc k) (t == k) refl refl
  where
    go : (a b : Bool) → (suc t == suc k) ≡ a → (t == k) ≡ b → a ≡ b
    go true true e f = refl
    go false false e f = refl
    go true false e f = absurd (let m = eqb-true (suc t) (suc k) e in let n = eqb-false t k f in n (let i : t ≡ k = omega (arith, m) in i))
    go false true e f = absurd (let m = eqb-true t k f in let n = eqb-false (suc t) (suc k) e in n (ap suc m))

module _ {A : Type 0} (f : Bool → A → A) (plain : (x : A) → f false x ≡ x) where
  unchanged : (o : Option A) → option_map (f false) o ≡ o
  unchanged None = refl
  unchanged (Some x) = ap Some (plain x)

  one-set : (k : ℕ) (xs : List A) (x : A) → slice_get xs k ≡ Some x → (t : ℕ) → option_map (f (t == k)) (slice_get xs t) ≡ slice_get (set xs k (f true x)) t
  one-set k [] x e t = absurd (search (rules, e))
  one-set zero (y ∷ xs) x e zero = ap (λ z. Some (f true z)) (some_is y x e)
  one-set zero (y ∷ xs) x e (suc t) = ap (λ b. option_map (f b) (slice_get xs t)) (apart-first t) ∙ unchanged (slice_get xs t)
  one-set (suc k) (y ∷ xs) x e zero = ap (λ b. Some (f b y)) (apart-later k) ∙ ap Some (plain y)
  one-set (suc k) (y ∷ xs) x e (suc t) = ap (λ b. option_map (f b) (slice_get xs t)) (both-next t k) ∙ one-set k xs x e t

  none-set : (k : ℕ) (xs : List A) → slice_get xs k ≡ None → (t : ℕ) → option_map (f (t == k)) (slice_get xs t) ≡ slice_get xs t
  none-set k [] e t = refl
  none-set zero (y ∷ xs) e t = absurd (search (rules, e))
  none-set (suc k) (y ∷ xs) e zero = ap (λ b. Some (f b y)) (apart-later k) ∙ ap Some (plain y)
  none-set (suc k) (y ∷ xs) e (suc t) = ap (λ b. option_map (f b) (slice_get xs t)) (both-next t k) ∙ none-set k xs e t

  pub is-set : (k : ℕ) (xs ys : List A) (x : A) → slice_get xs k ≡ Some x → ((t : ℕ) → slice_get ys t ≡ option_map (f (t == k)) (slice_get xs t)) → ys ≡ set xs k (f true x)
  is-set k xs ys x e h = same-lists ys (set xs k (f true x)) (λ t. h t ∙ one-set k xs x e t)

  pub is-same : (k : ℕ) (xs ys : List A) → slice_get xs k ≡ None → ((t : ℕ) → slice_get ys t ≡ option_map (f (t == k)) (slice_get xs t)) → ys ≡ xs
  is-same k xs ys e h = same-lists ys xs (λ t. h t ∙ none-set k xs e t)
