-- Names in the order of their first mention, one by one.
use Rattle.std.proofs.Common.{◌≡◌, ◌∙◌, sym, ap, refl, append_assoc, ℕ, zero, suc, Bool, true, false, cond, List, [], ◌∷◌, ◌++◌, Some, slice_get, map, Bor}
use Rattle.std.proofs.lemmas.List.{map-append}
use Rattle.clock_constraints.proofs.Places.{list_any-map}
use Rattle.std.specs.List.{AllZip, list_any}
use Rattle.std.specs.Str.{bytes_eq}
use Rattle.clock_constraints.specs.Refusals.{Text}
use Rattle.clock_constraints.specs.declared.ClockPin.{ClockPin}
use Rattle.domains.specs.Groups.{mentions, with_name, IsInGroup}

-- what is mentioned, once one more name was looked at
pub mentions-step : (before : List Text) (n : Text) (ns : List Text) → before ++ mentions before (n ∷ ns) ≡ with_name before n ++ mentions (with_name before n) ns
mentions-step before n ns = go (list_any (bytes_eq n) before)
  where
    go : (b : Bool) → before ++ cond b (mentions before ns) (n ∷ mentions (before ++ n ∷ []) ns)
        ≡ cond b before (before ++ n ∷ []) ++ mentions (cond b before (before ++ n ∷ [])) ns
    go true = refl
    go false = sym (append_assoc before (n ∷ []) (mentions (before ++ n ∷ []) ns))

get-front : (xs ys : List Text) (k : ℕ) (x : Text) → slice_get xs k ≡ Some x → slice_get (xs ++ ys) k ≡ Some x
get-front [] ys k x h = absurd (cc)
get-front (y ∷ xs) ys zero x h = h
get-front (y ∷ xs) ys (suc k) x h = get-front xs ys k x h

get-with_name : (names : List Text) (n : Text) (k : ℕ) (x : Text) → slice_get names k ≡ Some x → slice_get (with_name names n) k ≡ Some x
get-with_name names n k x h = go (list_any (bytes_eq n) names)
  where
    go : (b : Bool) → slice_get (cond b names (names ++ n ∷ [])) k ≡ Some x
    go true = h
    go false = get-front names (n ∷ []) k x h

-- clocks stay in their groups as names are added
pub in_groups-more : (names : List Text) (n : Text) (cs : List ClockPin) (ks : List ℕ) → AllZip (IsInGroup names) cs ks → AllZip (IsInGroup (with_name names n)) cs ks
in_groups-more names n [] [] h = tt
in_groups-more names n [] (k ∷ ks) h = h
in_groups-more names n (c ∷ cs) [] h = h
in_groups-more names n (c ∷ cs) (k ∷ ks) h = (get-with_name names n k c.group h.0, in_groups-more names n cs ks h.1)

-- what is inserted, as texts
pub names-insert : (ks : List (Bor Text)) (k : Bor Text) → map (λ (n : Bor Text). n.now) (cond (list_any (λ (n : Bor Text). bytes_eq k.now n.now) ks) ks (ks ++ k ∷ []))
    ≡ with_name (map (λ (n : Bor Text). n.now) ks) k.now
names-insert ks k =
    go (list_any (λ (n : Bor Text). bytes_eq k.now n.now) ks)
    ∙ ap (λ b. cond b (map (λ (n : Bor Text). n.now) ks) (map (λ (n : Bor Text). n.now) ks ++ k.now ∷ [])) (sym (list_any-map (bytes_eq k.now) (λ (n : Bor Text). n.now) ks))
  where
    go : (b : Bool) → map (λ (n : Bor Text). n.now) (cond b ks (ks ++ k ∷ [])) ≡ cond b (map (λ (n : Bor Text). n.now) ks) (map (λ (n : Bor Text). n.now) ks ++ k.now ∷ [])
    go true = refl
    go false = map-append (λ (n : Bor Text). n.now) ks (k ∷ [])
