-- What was added to an output in two goes.
use Rattle.std.proofs.Common.{◌≡◌, ◌∙◌, ap, sym, ◌++◌, List, ℕ, Option, Some, None, append_assoc}
use Rattle.cdc_base.specs.Causes.{IsAdded, IsFrontAdded}

pub added_twice : (a b c : Option (List ℕ)) (f g : List ℕ) → IsAdded a f b → IsAdded b g c → IsAdded a (f ++ g) c
added_twice None b c f g first second = rw (← first) at second
added_twice (Some w) b c f g first second = ap Some (sym (append_assoc w f g)) ∙ (rw (← first) at second)

-- the front of the last piece that was added makes a front of the whole
pub front_added : (a b c : Option (List ℕ)) (done line rest text : List ℕ) → done ++ (line ++ rest) ≡ text → IsAdded a done b
    → IsFrontAdded b line c → IsFrontAdded a text c
front_added a b c done line rest text whole first (front, left, is, second) =
    let pieces : (done ++ front) ++ (left ++ rest) ≡ text
    = append_assoc done front (left ++ rest)
    ∙ ap (λ w. done ++ w) (sym (append_assoc front left rest) ∙ ap (λ w. w ++ rest) is) ∙ whole in
    (done ++ front, left ++ rest, pieces, added_twice a b c done front first second)

-- a whole piece was added, and this is left
pub piece_added : (a b c : Option (List ℕ)) (done left line rest text : List ℕ) → done ++ left ≡ text → line ++ rest ≡ left
    → IsAdded a done b → IsAdded b line c → (front : List ℕ) × (front ++ rest ≡ text) × IsAdded a front c
piece_added a b c done left line rest text whole split first second =
    (done ++ line, append_assoc done line rest ∙ ap (λ w. done ++ w) split ∙ whole, added_twice a b c done line first second)
