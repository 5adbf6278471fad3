-- Two lists side by side, one pair more.
use Rattle.std.proofs.Common.{◌≡◌, ◌+◌, ◌<◌, ℕ, List, [], ◌∷◌, ◌++◌, take, get_or, length, subst, sym, ap, refl, suc}
use Rattle.std.specs.List.{AllZip}
use Rattle.std.proofs.lemmas.List.{take_more}

pub zip-push : {A B : Type 0} (R : A → B → Type 0) (xs : List A) (ys : List B) (x : A) (y : B) → AllZip R xs ys → R x y → AllZip R (xs ++ x ∷ []) (ys ++ y ∷ [])
zip-push R [] [] x y z h = (h, tt)
zip-push R [] (b ∷ ys) x y z h = absurd z
zip-push R (a ∷ xs) [] x y z h = absurd z
zip-push R (a ∷ xs) (b ∷ ys) x y z h = (z.0, zip-push R xs ys x y z.1 h)

pub zip-more : {A B : Type 0} (R : A → B → Type 0) (xs : List A) (ys : List B) (i : ℕ) (d : A) (y : B) → i < length xs → AllZip R (take i xs) ys → R (get_or xs i d) y
    → AllZip R (take (i + 1) xs) (ys ++ y ∷ [])
zip-more R xs ys i d y l z h = subst (λ ts. AllZip R ts (ys ++ y ∷ [])) (sym (take_more xs i d l)) (zip-push R (take i xs) ys (get_or xs i d) y z h)

pub zip-length : {A B : Type 0} (R : A → B → Type 0) (xs : List A) (ys : List B) → AllZip R xs ys → length xs ≡ length ys
zip-length R [] [] z = refl
zip-length R [] (b ∷ ys) z = absurd z
zip-length R (a ∷ xs) [] z = absurd z
zip-length R (a ∷ xs) (b ∷ ys) z = ap suc (zip-length R xs ys z.1)
