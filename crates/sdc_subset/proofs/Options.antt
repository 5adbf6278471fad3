-- Readings one after another that may fail.
use Rattle.std.proofs.Common.{◌≡◌, ◌∙◌, sym, ap, refl, List, [], ◌∷◌, ◌++◌, Option, Some, None, append_assoc}
use Rattle.std.specs.Prelude.{option_map, option_and_then}

-- what is read behind a list, and then more
pub read-behind : {A : Type 0} (done new : List A) (a b : Option (List A)) → option_map (λ xs. done ++ xs) a ≡ Some new
    → option_map (λ rest. done ++ rest) (option_and_then (λ xs. option_map (λ rest. xs ++ rest) b) a) ≡ option_map (λ rest. new ++ rest) b
read-behind done new None b h = absurd (cc)
read-behind done new (Some xs) None h = refl
read-behind done new (Some xs) (Some ys) h =
    let same : done ++ xs ≡ new = cc in
    ap Some (sym (append_assoc done xs ys) ∙ ap (λ zs. zs ++ ys) same)

-- one more behind a list
pub one-more : {A : Type 0} (done : List A) (x : A) (rest : Option (List A))
    → option_map (λ ys. done ++ ys) (option_map (λ ys. x ∷ ys) rest) ≡ option_map (λ ys. (done ++ x ∷ []) ++ ys) rest
one-more done x None = refl
one-more done x (Some ys) = ap Some (sym (append_assoc done (x ∷ []) ys))
