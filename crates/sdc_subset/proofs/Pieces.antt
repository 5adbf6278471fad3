-- The pieces of a text, behind a piece that isn't whole yet.
use Rattle.std.proofs.Common.{rules, ◌≡◌, ◌∙◌, sym, ap, refl, ℕ, Bool, true, false, cond, List, [], ◌∷◌, ◌++◌, append_assoc}
use Rattle.std.specs.List.{slice_split, onto_first}

-- the pieces of what is left, of which the first goes on with this one
abbrev pub pieces_behind : (ℕ → Bool) → List ℕ → List ℕ → List (List ℕ)
pieces_behind p piece [] = piece ∷ []
pieces_behind p piece (b ∷ bs) = cond (p b) (piece ∷ pieces_behind p [] bs) (pieces_behind p (piece ++ b ∷ []) bs)

abbrev before_first : List ℕ → List (List ℕ) → List (List ℕ)
before_first piece [] = piece ∷ []
before_first piece (q ∷ qs) = (piece ++ q) ∷ qs

onto : (piece : List ℕ) (b : ℕ) (qs : List (List ℕ)) → before_first piece (onto_first b qs) ≡ before_first (piece ++ b ∷ []) qs
onto piece b [] = refl
onto piece b (q ∷ qs) = ap (λ x. x ∷ qs) (sym (append_assoc piece (b ∷ []) q))

starting : (p : ℕ → Bool) (bs : List ℕ) → before_first [] (slice_split p bs) ≡ slice_split p bs
starting p [] = refl
starting p (b ∷ bs) = go (p b) (slice_split p bs)
  where
    go : (t : Bool) (qs : List (List ℕ)) → before_first [] (cond t ([] ∷ qs) (onto_first b qs)) ≡ cond t ([] ∷ qs) (onto_first b qs)
    go true qs = refl
    go false [] = refl
    go false (q ∷ qs) = refl

behind : (p : ℕ → Bool) (piece bs : List ℕ) → pieces_behind p piece bs ≡ before_first piece (slice_split p bs)
behind p piece [] = search rules
behind p piece (b ∷ bs) = go (p b) (behind p [] bs ∙ starting p bs) (behind p (piece ++ b ∷ []) bs ∙ sym (onto piece b (slice_split p bs)))
  where
    go : (t : Bool) → pieces_behind p [] bs ≡ slice_split p bs
        → pieces_behind p (piece ++ b ∷ []) bs ≡ before_first piece (onto_first b (slice_split p bs))
        → cond t (piece ∷ pieces_behind p [] bs) (pieces_behind p (piece ++ b ∷ []) bs)
        ≡ before_first piece (cond t ([] ∷ slice_split p bs) (onto_first b (slice_split p bs)))
    go true whole next = search rules
    go false whole next = next

pub pieces-whole : (p : ℕ → Bool) (bs : List ℕ) → pieces_behind p [] bs ≡ slice_split p bs
pieces-whole p bs = behind p [] bs ∙ starting p bs
