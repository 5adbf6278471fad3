-- What is left of a list behind a place.
use Rattle.std.proofs.Common.{◌≡◌, ℕ, suc, ◌+◌, ◌<◌, List, ◌∷◌, length, drop, get_or, sym, ap, ap₂, ◌∙◌, arith}
use Rattle.std.proofs.Math.Seq.{drop-cons}

pub left-is : {A : Type 0} (xs : List A) (i : ℕ) (x : A) → i < length xs → x ≡ get_or xs i x → drop i xs ≡ x ∷ drop (i + 1) xs
left-is xs i x l e = drop-cons xs i x l ∙ ap₂ (λ y ys. y ∷ ys) (sym e) (ap (λ j. drop j xs) (let d : suc i ≡ i + 1 = omega arith in d))
