-- Different names among some are no more than those.
use Rattle.std.proofs.Common.{◌≡◌, suc, ◌≤◌, Bool, true, false, cond, List, [], ◌∷◌, length, map, Some, refl, sym, ap, ◌∙◌, arith, rules, find, bytes_eq}
use Rattle.std.proofs.lemmas.Slice.Eq.{bytes_eq-Decides}
use Rattle.cdc_base.specs.Words.{is_in}
use Rattle.verilog_reading.specs.SourceTree.{ModuleTree}
use Rattle.flat_unfolding.specs.Outcome.{Text}

abbrev pub AllIn : List Text → List Text → Type 0
AllIn [] ys = Unit {0}
AllIn (x ∷ xs) ys = (is_in ys x ≡ true) × AllIn xs ys

abbrev pub AreDistinct : List Text → Type 0
AreDistinct [] = Unit {0}
AreDistinct (x ∷ xs) = (is_in xs x ≡ false) × AreDistinct xs

-- without the first x
abbrev removed : Text → List Text → List Text
removed x [] = []
removed x (n ∷ ns) = cond (bytes_eq n x) ns (n ∷ removed x ns)

fewer : (x : Text) (ns : List Text) → is_in ns x ≡ true → length ns ≡ suc (length (removed x ns))
fewer x [] e = absurd (search (rules, e))
fewer x (n ∷ ns) e = go (bytes_eq n x) e (fewer x ns)
  where
    go : (b : Bool) → cond b true (is_in ns x) ≡ true → (is_in ns x ≡ true → length ns ≡ suc (length (removed x ns))) → length (n ∷ ns) ≡ suc (length (cond b ns (n ∷ removed x ns)))
    go true e h = refl
    go false e h = ap suc (h e)

stays : (x y : Text) (ns : List Text) → bytes_eq y x ≡ false → is_in ns y ≡ true → is_in (removed x ns) y ≡ true
stays x y [] d e = absurd (search (rules, e))
stays x y (n ∷ ns) d e = go (bytes_eq n x) (bytes_eq n y) refl refl e (stays x y ns d)
  where
    go : (b c : Bool) → bytes_eq n x ≡ b → bytes_eq n y ≡ c → cond c true (is_in ns y) ≡ true → (is_in ns y ≡ true → is_in (removed x ns) y ≡ true)
        → is_in (cond b ns (n ∷ removed x ns)) y ≡ true
    go true true h k e i =
        let same : y ≡ x = sym ((bytes_eq-Decides n y).0 k) ∙ (bytes_eq-Decides n x).0 h in
        let t : bytes_eq y x ≡ true = (bytes_eq-Decides y x).1 same in absurd (search (rules, sym d ∙ t))
    go true false h k e i = e
    go false true h k e i = ap (λ c. cond c true (is_in (removed x ns) y)) k
    go false false h k e i = ap (λ c. cond c true (is_in (removed x ns) y)) k ∙ i e

not_in_both : (b c : Bool) → cond b true c ≡ false → (b ≡ false) × (c ≡ false)
not_in_both true c e = absurd (search (rules, e))
not_in_both false c e = (refl, e)

all_stay : (x : Text) (xs ns : List Text) → is_in xs x ≡ false → AllIn xs ns → AllIn xs (removed x ns)
all_stay x [] ns e h = tt
all_stay x (y ∷ ys) ns e h = let k = not_in_both (bytes_eq y x) (is_in ys x) e in (stays x y ns k.0 h.0, all_stay x ys ns k.1 h.1)

pub no_more_than : (xs ns : List Text) → AreDistinct xs → AllIn xs ns → length xs ≤ length ns
no_more_than [] ns d h = let l : 0 ≤ length ns = omega arith in l
no_more_than (x ∷ xs) ns d h = let l = no_more_than xs (removed x ns) d.1 (all_stay x xs ns d.0 h.1) in let f = fewer x ns h.0 in omega arith

pub found_is_in : (x : Text) (ms : List ModuleTree) (m : ModuleTree) → find (λ (n : ModuleTree). bytes_eq n.name x) ms ≡ Some m → is_in (map (λ (n : ModuleTree). n.name) ms) m.name ≡ true
found_is_in x [] m e = absurd (search (rules, e))
found_is_in x (n ∷ ms) m e = go (bytes_eq n.name x) e (found_is_in x ms m)
  where
    if_either : (b c : Bool) → c ≡ true → cond b true c ≡ true
    if_either true c e = refl
    if_either false c e = e

    some_is : (a b : ModuleTree) → Some a ≡ Some b → a ≡ b
    some_is a b e = search (rules, e)

    go : (b : Bool) → cond b (Some n) (find (λ (n : ModuleTree). bytes_eq n.name x) ms) ≡ Some m
        → (find (λ (n : ModuleTree). bytes_eq n.name x) ms ≡ Some m → is_in (map (λ (n : ModuleTree). n.name) ms) m.name ≡ true)
        → is_in (map (λ (n : ModuleTree). n.name) (n ∷ ms)) m.name ≡ true
    go true e h = let same = (bytes_eq-Decides n.name m.name).1 (ap (λ (k : ModuleTree). k.name) (some_is n m e)) in
        ap (λ c. cond c true (is_in (map (λ (n : ModuleTree). n.name) ms) m.name)) same
    go false e h = if_either (bytes_eq n.name m.name) _ (h e)
