-- The walk from first flops to their copies, and to the copies of these.
use Rattle.std.proofs.Common.{◌≡◌, ◌∙◌, refl, sym, ap, arith, ℕ, zero, suc, ◌+◌, ◌≤◌, Some, List, [], ◌∷◌, ◌++◌, take, length, slice_get, append_assoc}
use Rattle.std.specs.List.{flat_map}
use Rattle.std.proofs.lemmas.List.{take_more}
use Rattle.std.proofs.lemmas.List.Concat.{flat_map-append}
use Rattle.std.proofs.lemmas.List.{append-nil}
use Rattle.std.proofs.lemmas.Option.{slice_get_within, get_or_from_slice_get}

module _ {A : Type 0} (f : A → List A) where
  -- the items of the longer list up to a place within the shorter
  take_left : (xs ys : List A) (n : ℕ) → n ≤ length xs → take n (xs ++ ys) ≡ take n xs
  take_left [] ys zero l = refl
  take_left [] ys (suc n) l = absurd (omega (arith, l))
  take_left (x ∷ xs) ys zero l = refl
  take_left (x ∷ xs) ys (suc n) l = ap (λ zs. x ∷ zs) (take_left xs ys n (omega (arith, l)))

  length_left : (xs ys : List A) → length xs ≤ length (xs ++ ys)
  length_left [] ys = omega arith
  length_left (x ∷ xs) ys = omega (arith, length_left xs ys)

  at_left : (xs ys : List A) (n : ℕ) (x : A) → slice_get xs n ≡ Some x → slice_get (xs ++ ys) n ≡ Some x
  at_left [] ys n x e = cc
  at_left (y ∷ xs) ys zero x e = e
  at_left (y ∷ xs) ys (suc n) x e = at_left xs ys n x e

  -- what follows from one item more goes to the end
  pub walk_more : (first old new : List A) (n : ℕ) (x : A) → slice_get old n ≡ Some x → new ≡ old ++ f x → old ≡ first ++ flat_map f (take n old) → new ≡ first ++ flat_map f (take (n + 1) new)
  walk_more first old new n x at more is =
      more ∙ ap (λ xs. xs ++ f x) is ∙ append_assoc first (flat_map f (take n old)) (f x) ∙ ap (λ xs. first ++ xs) (sym longer)
    where
      longer : flat_map f (take (n + 1) new) ≡ flat_map f (take n old) ++ f x
      longer =
          ap (λ xs. flat_map f (take (n + 1) xs)) more
          ∙ ap (flat_map f) (take_more (old ++ f x) n x (slice_get_within (old ++ f x) n x (at_left old (f x) n x at))
          ∙ ap (λ (y : A). take n (old ++ f x) ++ y ∷ []) (get_or_from_slice_get (old ++ f x) n x x (at_left old (f x) n x at))
          ∙ ap (λ xs. xs ++ x ∷ []) (take_left old (f x) n (let l = slice_get_within old n x at in omega (arith, l))))
          ∙ flat_map-append f (take n old) (x ∷ [])
          ∙ ap (λ xs. flat_map f (take n old) ++ xs) (append-nil (f x))
