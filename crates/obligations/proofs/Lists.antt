-- What a loop over a list has made of it, and what is to come.
use Rattle.std.proofs.Common.{◌≡◌, ◌∙◌, refl, sym, ap, ℕ, ◌+◌, ◌<◌, ◌≤◌, Option, Some, None, option_map, List, [], ◌∷◌, ◌++◌, map, drop, length, get_or, slice_get, append_assoc, append-nil}
use Rattle.std.proofs.lemmas.List.{drop_more, drop_all}
use Rattle.std.proofs.lemmas.Option.{slice_get-map, slice_get-get_or, slice_get_within, get_or_from_slice_get}

-- an item of a mapped list comes from the item there
pub item_of : {A B : Type 0} (f : A → B) (ys : List B) (xs : List A) (i : ℕ) (y : B) → ys ≡ map f xs → i < length ys → y ≡ get_or ys i y
    → (x : A) × (y ≡ f x) × (slice_get xs i ≡ Some x)
item_of {A} {B} f ys xs i y same l is = go (slice_get xs i) refl
  where
    at : slice_get ys i ≡ Some y
    at = slice_get-get_or ys i y l ∙ ap Some (sym is)

    mapped : option_map f (slice_get xs i) ≡ Some y
    mapped = sym (slice_get-map f xs i) ∙ ap (λ zs. slice_get zs i) (sym same) ∙ at

    go : (o : Option A) → slice_get xs i ≡ o → (x : A) × (y ≡ f x) × (slice_get xs i ≡ Some x)
    go (Some x) e = let h : Some (f x) ≡ Some y = ap (option_map f) (sym e) ∙ mapped in (x, cc, e)
    go None e = let h : None ≡ Some y = ap (option_map f) (sym e) ∙ mapped in absurd (cc)

-- the next item's part goes to the end
pub one_more : {A C : Type 0} (f : A → C) (list : List A) (all now : List C) (i : ℕ) (x : A) → slice_get list i ≡ Some x
    → all ≡ now ++ map f (drop i list) → all ≡ (now ++ f x ∷ []) ++ map f (drop (i + 1) list)
one_more {A} f list all now i x at e = e ∙ ap (λ xs. now ++ map f xs) (drop_more list i x (slice_get_within list i x at) ∙ ap (λ (y : A). y ∷ drop (i + 1) list) (get_or_from_slice_get list i x x at))
    ∙ sym (append_assoc now (f x ∷ []) (map f (drop (i + 1) list)))

-- and in the end all parts are there
pub no_more : {A C : Type 0} (f : A → C) (list : List A) (all now : List C) (i : ℕ) → length list ≤ i → all ≡ now ++ map f (drop i list) → all ≡ now
no_more f list all now i l e = e ∙ ap (λ xs. now ++ map f xs) (drop_all i list l) ∙ append-nil now
