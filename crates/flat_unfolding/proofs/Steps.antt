-- What a step that refuses nothing tells.
use Rattle.std.proofs.Common.{◌≡◌, ℕ, Bool, true, false, List, [], ◌∷◌, ◌++◌, Option, Some, refl, subst, rules}
use Rattle.std.specs.Prelude.{All}
use Rattle.std.proofs.lemmas.List.Elements.{All-head, All-tail}
use Rattle.cdc_base.specs.declared.fault.Place.{Place}
use Rattle.flat_unfolding.specs.Outcome.{Text, Broken, breaks_if, Outcome, good, bad, then_, each, refused_if, Order, judged}

pub some_is : {A : Type 0} (a b : A) → Some a ≡ Some b → a ≡ b
some_is a b e = search (rules, e)

pub good_is : {A : Type 0} (a b : A) → good a ≡ good b → a ≡ b
good_is a b e = search (rules, e)

pub good_then : {A B : Type 0} (o : Outcome A) (f : A → Outcome B) (b : B) → then_ o f ≡ good b → (a : A) × (o ≡ good a) × (f a ≡ good b)
good_then (good a) f b e = (a, refl, e)
good_then (bad x) f b e = absurd (search (rules, e))

-- an item that is accepted breaks no rule
pub judged_is : {A : Type 0} (order : Order) (p : Place) (bs : List Broken) (a t : A) → judged order p bs a ≡ good t → (bs ≡ []) × (a ≡ t)
judged_is order p [] a t e = (refl, good_is a t e)
judged_is order p (b ∷ bs) a t e = absurd (search (rules, e))

pub not_refused : (b : Bool) (n : ℕ) (p : Option Place) (x : Text) (u : Unit {0}) → refused_if b n p x ≡ good u → b ≡ false
not_refused true n p x u e = absurd (search (rules, e))
not_refused false n p x u e = refl

pub not_broken : (b : Bool) (n : ℕ) (x : Text) → breaks_if b n x ≡ [] → b ≡ false
not_broken true n x e = absurd (search (rules, e))
not_broken false n x e = refl

pub none_of_both : {A : Type 0} (xs ys : List A) → xs ++ ys ≡ [] → (xs ≡ []) × (ys ≡ [])
none_of_both [] ys e = (refl, e)
none_of_both (x ∷ xs) ys e = absurd (search (rules, e))

-- what each step keeps, all steps keep
pub each_keeps : {A S : Type 0} (P : S → Type 0) (f : S → A → Outcome S) → ((s : S) (a : A) (t : S) → f s a ≡ good t → P s → P t)
    → (s : S) (xs : List A) (t : S) → each f s xs ≡ good t → P s → P t
each_keeps P f h s [] t e p = subst P (good_is s t e) p
each_keeps P f h s (x ∷ xs) t e p = let g = good_then (f s x) (λ u. each f u xs) t e in each_keeps P f h g.0 xs t g.2 (h s x g.0 g.1 p)

-- so they do where each is over what has a property
pub each_all : {A S : Type 0} (Q : A → Type 0) (P : S → Type 0) (f : S → A → Outcome S) → ((s : S) (a : A) (t : S) → Q a → f s a ≡ good t → P s → P t)
    → (s : S) (xs : List A) (t : S) → All Q xs → each f s xs ≡ good t → P s → P t
each_all Q P f h s [] t q e p = subst P (good_is s t e) p
each_all Q P f h s (x ∷ xs) t q e p =
    let g = good_then (f s x) (λ u. each f u xs) t e in each_all Q P f h g.0 xs t (All-tail Q x xs q) g.2 (h s x g.0 (All-head Q x xs q) g.1 p)
