-- Marks once one assignment more is noted.
use Rattle.std.proofs.Common.{◌≡◌, ℕ, ◌+◌, ◌<◌, List, [], ◌∷◌, ◌++◌, length, map, take, Option, Some, None, refl, sym, ap, ◌∙◌, subst, rules, arith, slice_get, get_or}
use Rattle.std.specs.Prelude.{option_map}
use Rattle.std.proofs.lemmas.List.{take_more, length-take-le}
use Rattle.flat_form.specs.declared.flat.FlatAssign.{FlatAssign}
use Rattle.flat_form.specs.View.{target_of, expr_of}
use Rattle.reset_nets.specs.declared.drives.Drive.{Drive}
use Rattle.reset_nets.specs.Finding.{pair_of, noted, Tells}
use Rattle.reset_nets.proofs.Marks.{tells_more}

map_push : (xs : List FlatAssign) (x : FlatAssign) → map pair_of (xs ++ x ∷ []) ≡ map pair_of xs ++ pair_of x ∷ []
map_push [] x = refl
map_push (y ∷ xs) x = ap (λ ys. pair_of y ∷ ys) (map_push xs x)

map_count : (xs : List FlatAssign) → length (map pair_of xs) ≡ length xs
map_count [] = refl
map_count (y ∷ xs) = let e = map_count xs in omega (arith, e)

pub noted_more : (all : List FlatAssign) (k : ℕ) (a : FlatAssign) → k < length all → a ≡ get_or all k a → (old new : List Drive) (s : ℕ)
    → slice_get new s ≡ option_map (noted s k (target_of a.target)) (slice_get old s) → ((d : Drive) → slice_get old s ≡ Some d → Tells (map pair_of (take k all)) s d)
    → (d : Drive) → slice_get new s ≡ Some d → Tells (map pair_of (take (k + 1) all)) s d
noted_more all k a l is old new s change h d at = go (slice_get old s) refl (sym change ∙ at)
  where
    longer : map pair_of (take (k + 1) all) ≡ map pair_of (take k all) ++ (target_of a.target, expr_of a.value) ∷ []
    longer = ap (map pair_of) (take_more all k a l ∙ ap (λ (z : FlatAssign). take k all ++ z ∷ []) (sym is)) ∙ map_push (take k all) a

    count : length (map pair_of (take k all)) ≡ k
    count = map_count (take k all) ∙ length-take-le k all (omega (arith, l))

    go : (o : Option Drive) → slice_get old s ≡ o → option_map (noted s k (target_of a.target)) o ≡ Some d → Tells (map pair_of (take (k + 1) all)) s d
    go None e f = absurd (search (rules, f))
    go (Some x) e f =
        let more = tells_more (map pair_of (take k all)) s (target_of a.target) (expr_of a.value) x (h x e) in
        let told = subst (λ n. Tells (map pair_of (take k all) ++ (target_of a.target, expr_of a.value) ∷ []) s (noted s n (target_of a.target) x)) count more in
        let here = subst (λ y. Tells (map pair_of (take k all) ++ (target_of a.target, expr_of a.value) ∷ []) s y) (some-is (noted s k (target_of a.target) x) d f) told in
        subst (λ ys. Tells ys s d) (sym longer) here
      where
        some-is : (x y : Drive) → Some x ≡ Some y → x ≡ y
        some-is x y e = search (rules, e)
