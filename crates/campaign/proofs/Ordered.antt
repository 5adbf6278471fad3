-- The orders of a step's lists.
use Rattle.std.proofs.Common.{◌≡◌, ◌∙◌, ℕ, zero, suc, ◌+◌, ◌<◌, ◌≤◌, ◌^◌, ◌==◌, ◌||◌, ◌++◌, Bool, true, false, List, [], ◌∷◌, length, map, set, get_or, replicate, Some, Ok, Err, refl, sym, ap, ap₂, subst, arith, eqb-true}
use Rattle.std.specs.Prelude.{Result, IfOk}
use Rattle.std.specs.List.Sorted.{IsSortedByKey}
use Rattle.std.specs.Ordering.{is_lt}
use Rattle.std.specs.declared.cmp.Ordering.{Ordering}
use Rattle.std.proofs.lemmas.Bool.{eqb-false}
use Rattle.std.proofs.lemmas.List.{length-set, get_or-set_same, get_or-set_other, get_or-replicate, length-replicate, length-map}
use Rattle.std.proofs.lemmas.Option.{unwrap_or-slice_get}
use Rattle.cdc_model.specs.Replay.{has_edge}
use Rattle.settling_sim.specs.Edges.{mark_in, is_marked}
use Rattle.settling_sim.proofs.Ticks.{marked}
use Rattle.campaign.specs.Numbers.{numbers_from, one_if}

map-at : {A B : Type 0} (f : A → B) (xs : List A) (k : ℕ) (d : A) (e : B) → k < length xs → get_or (map f xs) k e ≡ f (get_or xs k d)
map-at f [] k d e h = absurd (omega arith)
map-at f (x ∷ xs) zero d e h = refl
map-at f (x ∷ xs) (suc k) d e h = map-at f xs k d e (omega arith)

item : {A : Type 0} (xs : List A) (k : ℕ) → k < length xs → A
item [] k h = absurd (omega arith)
item (x ∷ xs) zero h = x
item (x ∷ xs) (suc k) h = item xs k (omega arith)

-- what a list of images is sorted by, the list is sorted by
pub sorted-map : {A B K : Type 0} (f : A → B) (key : B → K) (cmp : K → K → Ordering) (xs : List A) → IsSortedByKey (λ a. key (f a)) cmp xs → IsSortedByKey key cmp (map f xs)
sorted-map f key cmp xs h k e low high =
    let n = length-map xs f in
    let lt : k + 1 < length xs = omega arith in
    let d = item xs k (omega arith) in
    ap₂ (λ x y. is_lt (cmp (key x) (key y))) (map-at f xs (k + 1) d e lt) (map-at f xs k d e (omega arith)) ∙ h k d low lt

-- numbers that pass like tests are the same
pub numbers-same : (f g : ℕ → Bool) (j n : ℕ) → ((c : ℕ) → c < j + n → f c ≡ g c) → numbers_from f j n ≡ numbers_from g j n
numbers-same f g j zero h = refl
numbers-same f g j (suc n) h = ap₂ (λ b ns. one_if b j ++ ns) (h j (omega arith)) (numbers-same f g (suc j) n (λ c l. h c (omega arith)))

pub marked-clocks : {E : Type 0} (n : ℕ) (es : List ℕ) (ticking : List Bool) (r : Result (List ℕ) E) → ticking ≡ mark_in (replicate n false) es
    → IfOk r (λ listed. n ≤ 2 ^ 32 → listed ≡ numbers_from (λ c. is_marked ticking (Some c)) 0 n) → IfOk r (λ listed. n ≤ 2 ^ 32 → listed ≡ numbers_from (has_edge es) 0 n)
marked-clocks n es ticking (Ok listed) is h = λ small.
    h small ∙ ap (λ ts. numbers_from (λ c. is_marked ts (Some c)) 0 n) is
    ∙ numbers-same (λ c. is_marked (mark_in (replicate n false) es) (Some c)) (has_edge es) 0 n (λ c l. marked n es c (omega arith))
marked-clocks n es ticking (Err e) is h = h
