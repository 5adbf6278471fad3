-- The first waiver that matches a line.
use Rattle.std.proofs.Common.{◌≡◌, ◌∙◌, ℕ, ◌+◌, ◌<◌, ◌≤◌, nat_lt, Bool, true, false, not, ◌&&◌, ◌||◌, cond, List, [], ◌∷◌, ◌++◌, length, take, get_or, map, Option, Some, None, ap, sym, refl, arith}
use Rattle.std.specs.Cmp.Lexicographic.{bytes_decides}
use Rattle.std.specs.List.{list_any}
use Rattle.std.specs.Str.{bytes_eq}
use Rattle.std.proofs.lemmas.Bool.Decides.{nat_tests}
use Rattle.std.proofs.lemmas.List.{take_more}
use Rattle.clock_constraints.specs.declared.Waiver.{Waiver}
use Rattle.report.specs.Greedy.{has_star}
use Rattle.report.specs.Search.{earliest, exact_match, is_before, starred}
use Rattle.report.specs.Waived.{first_match, matches}
use Rattle.report.proofs.Patterns.{matches-same, same-test}

bytes-turned : (a b : List ℕ) → bytes_eq a b ≡ bytes_eq b a
bytes-turned a b =
    same-test (bytes_eq a b) (bytes_eq b a) (λ h. (bytes_decides b a).1 (sym ((bytes_decides a b).0 h))) (λ h. (bytes_decides a b).1 (sym ((bytes_decides b a).0 h)))

-- a waiver is found at the place or behind it
exact-late : (line : List ℕ) (place : ℕ) (ws : List Waiver) (k : ℕ) → exact_match line place ws ≡ Some k → place ≤ k
exact-late line place [] k h = cc
exact-late line place (w ∷ ws) k h = go (not (has_star w.finding) && bytes_eq line w.finding) h (exact-late line (place + 1) ws k)
  where
    go : (t : Bool) → cond t (Some place) (exact_match line (place + 1) ws) ≡ Some k → (exact_match line (place + 1) ws ≡ Some k → place + 1 ≤ k) → place ≤ k
    go true e later = let same : place ≡ k = cc in omega arith
    go false e later = let far = later e in omega arith

-- an earlier place stays
early : (line : List ℕ) (k place : ℕ) (ws : List Waiver) → k < place → earliest line (Some k) (starred place ws) ≡ Some k
early line k place [] h = refl
early line k place (w ∷ ws) h = go (has_star w.finding) (early line k (place + 1) ws (omega arith))
  where
    before : nat_lt k place ≡ true
    before = grind (arith, nat_tests)

    go : (t : Bool) → earliest line (Some k) (starred (place + 1) ws) ≡ Some k
        → earliest line (Some k) (cond t ((place, w.finding) ∷ starred (place + 1) ws) (starred (place + 1) ws)) ≡ Some k
    go true e = ap (λ t. cond t (Some k) (cond (matches w.finding line) (Some place) (earliest line (Some k) (starred (place + 1) ws)))) before
    go false e = e

not-before : (o : Option ℕ) (place : ℕ) → ((k : ℕ) → o ≡ Some k → place + 1 ≤ k) → is_before o place ≡ false
not-before None place h = refl
not-before (Some k) place h = let late : place + 1 ≤ k = h k refl in grind (arith, nat_tests)

pub earliest-first : (line : List ℕ) (place : ℕ) (ws : List Waiver) → earliest line (exact_match line place ws) (starred place ws) ≡ first_match line place ws
earliest-first line place [] = refl
earliest-first line place (w ∷ ws) = go (has_star w.finding) refl (earliest-first line (place + 1) ws)
  where
    same : (t : Bool) → earliest line (exact_match line (place + 1) ws) (starred (place + 1) ws) ≡ first_match line (place + 1) ws
        → earliest line (cond t (Some place) (exact_match line (place + 1) ws)) (starred (place + 1) ws) ≡ cond t (Some place) (first_match line (place + 1) ws)
    same true e = early line place (place + 1) ws (omega arith)
    same false e = e

    go : (t : Bool) → has_star w.finding ≡ t → earliest line (exact_match line (place + 1) ws) (starred (place + 1) ws) ≡ first_match line (place + 1) ws
        → earliest line (cond (not t && bytes_eq line w.finding) (Some place) (exact_match line (place + 1) ws)) (cond t ((place, w.finding) ∷ starred (place + 1) ws) (starred (place + 1) ws))
        ≡ cond (matches w.finding line) (Some place) (first_match line (place + 1) ws)
    go true h e =
        ap (λ t. cond t (exact_match line (place + 1) ws) (cond (matches w.finding line) (Some place) (earliest line (exact_match line (place + 1) ws) (starred (place + 1) ws))))
        (not-before (exact_match line (place + 1) ws) place (exact-late line (place + 1) ws))
        ∙ ap (λ o. cond (matches w.finding line) (Some place) o) e
    go false h e =
        same (bytes_eq line w.finding) e
        ∙ ap (λ t. cond t (Some place) (first_match line (place + 1) ws)) (bytes-turned line w.finding ∙ sym (matches-same w.finding line h))

-- without a star a waiver matches the line that it is
pub any-same : (f : List ℕ) (lines : List (List ℕ)) → has_star f ≡ false → list_any (bytes_eq f) lines ≡ list_any (matches f) lines
any-same f [] h = refl
any-same f (l ∷ ls) h =
    ap (λ t. t || list_any (bytes_eq f) ls) (sym (matches-same f l h)) ∙ ap (λ t. matches f l || t) (any-same f ls h)

map-push : (f : List ℕ → Option ℕ) (xs : List (List ℕ)) (x : List ℕ) → map f (xs ++ x ∷ []) ≡ map f xs ++ f x ∷ []
map-push f [] x = refl
map-push f (y ∷ ys) x = ap (λ rest. f y ∷ rest) (map-push f ys x)

-- the answer of the next line
pub line-more : (f : List ℕ → Option ℕ) (lines : List (List ℕ)) (i : ℕ) (line : List ℕ) (done longer : List (Option ℕ)) (x : Option ℕ) → i < length lines → line ≡ get_or lines i line
    → done ≡ map f (take i lines) → longer ≡ done ++ x ∷ [] → x ≡ f line → longer ≡ map f (take (i + 1) lines)
line-more f lines i line done longer x within is before added found =
    added ∙ ap (λ d. d ++ x ∷ []) before ∙ ap (λ o. map f (take i lines) ++ o ∷ []) (found ∙ ap f is) ∙ sym (map-push f (take i lines) (get_or lines i line))
    ∙ ap (map f) (sym (take_more lines i line within))
