-- Names of a module, in the table and in the list, as further ones are declared.
use Rattle.std.proofs.Common.{◌≡◌, ◌≢◌, ℕ, zero, suc, ◌+◌, ◌^◌, ◌<◌, ◌≤◌, Bool, true, false, cond, ◌==◌, List, [], ◌∷◌, ◌++◌, length, Some, None, refl, sym, ap, subst, ◌∙◌, arith, rules, bytes_eq, eqb-true}
use Rattle.std.specs.Prelude.{is_some, option_map, decimal, codes}
use Rattle.std.specs.Cmp.Lexicographic.{pointwise}
use Rattle.std.specs.Str.Parse.{digits_value}
use Rattle.std.proofs.lemmas.Bool.{eqb-false}
use Rattle.std.proofs.lemmas.Slice.Eq.{bytes_eq-Decides}
use Rattle.std.proofs.lemmas.List.{append_cancel_left, append_cancel_right, length-append}
use Rattle.std.proofs.lemmas.Fmt.{decimal_is_IsNumeral}
use Rattle.indexmap.specs.IndexMap.{IndexMap}
use Rattle.cdc_base.specs.Words.{found_in}
use Rattle.flat_meaning.proofs.Words.{by_lt}
use Rattle.flat_unfolding.specs.Outcome.{Text, breaks_if}
use Rattle.flat_unfolding.specs.Names as n
use Rattle.flat_unfolding.specs.Names.{is_declared, no_value, word_name}
use Rattle.flat_unfolding.specs.Memories.{word_names, taken}
use Rattle.flat_unfolding.specs.Declarations.{taken_names}
use Rattle.flat_unfolding.proofs.Steps.{none_of_both, not_broken}
use Rattle.flat_names.specs.declared.scope.Meaning.{Meaning}
use Rattle.flat_names.specs.Looks.{meaning_of, kept_in}
use Rattle.flat_names.specs.Designs.{ShowsNames}

one-name : (x y : Text) → bytes_eq x y ≡ true → x ≡ y
one-name x y e = (bytes_eq-Decides x y).0 e

other-name : (x y : Text) → x ≢ y → bytes_eq x y ≡ false
other-name x y h = go (bytes_eq x y) refl
  where
    go : (b : Bool) → bytes_eq x y ≡ b → b ≡ false
    go true e = absurd (h (one-name x y e))
    go false e = refl

-- ---- further names behind some

found-behind : {A : Type 0} (names more : List (Text × A)) (x : Text) → is_some (found_in names x) ≡ false → found_in (names ++ more) x ≡ found_in more x
found-behind [] more x e = refl
found-behind {A} (p ∷ names) more x e = go (bytes_eq p.0 x) e (found-behind names more x)
  where
    go : (b : Bool) → is_some (cond b (Some p.1) (found_in names x)) ≡ false → (is_some (found_in names x) ≡ false → found_in (names ++ more) x ≡ found_in more x)
        → cond b (Some p.1) (found_in (names ++ more) x) ≡ found_in more x
    go true e f = absurd (search (rules, e))
    go false e f = f e

found-other : {A : Type 0} (names : List (Text × A)) (x : Text) (a : A) (y : Text) → bytes_eq x y ≡ false → found_in (names ++ ((x, a) ∷ [])) y ≡ found_in names y
found-other [] x a y e = ap (λ b. cond b (Some a) None) e
found-other (p ∷ names) x a y e = ap (λ o. cond (bytes_eq p.0 y) (Some p.1) o) (found-other names x a y e)

found-last : {A : Type 0} (names : List (Text × A)) (x : Text) (a : A) → is_some (found_in names x) ≡ false → found_in (names ++ ((x, a) ∷ [])) x ≡ Some a
found-last names x a e = found-behind names ((x, a) ∷ []) x e ∙ ap (λ b. cond b (Some a) None) ((bytes_eq-Decides x x).1 refl)

-- a name that isn't declared is in the table and in the list alike
pub defined : {S : Type 0} (old new : IndexMap Text Meaning S) (names : n.Names) (x : Text) (v : Meaning) → ShowsNames old names → is_declared names x ≡ false
    → ((y : Text) → kept_in new y ≡ cond (pointwise ◌==◌ x y) (Some v) (kept_in old y)) → ShowsNames new (names ++ ((x, meaning_of v) ∷ []))
defined old new names x v h d e = record { kept = λ y. ap (option_map meaning_of) (e y) ∙ kept (bytes_eq x y) y refl }
  where
    kept : (b : Bool) (y : Text) → bytes_eq x y ≡ b → option_map meaning_of (cond b (Some v) (kept_in old y)) ≡ found_in (names ++ ((x, meaning_of v) ∷ [])) y
    kept true y k = sym (ap (found_in (names ++ ((x, meaning_of v) ∷ []))) (sym (one-name x y k)) ∙ found-last names x (meaning_of v) d)
    kept false y k = h.kept y ∙ sym (found-other names x (meaning_of v) y k)

-- ---- names of a memory's words

word-apart : (x : Text) (j k : ℕ) → j < 2 ^ 64 → k < 2 ^ 64 → word_name x j ≡ word_name x k → j ≡ k
word-apart x j k a b e =
    let inner : x ++ codes "[" ++ decimal j ≡ x ++ codes "[" ++ decimal k = append_cancel_right _ _ (codes "]") e in
    let digits : decimal j ≡ decimal k = append_cancel_left (x ++ codes "[") _ _ inner in
    sym (decimal_is_IsNumeral j a).1 ∙ ap (digits_value 10) digits ∙ (decimal_is_IsNumeral k b).1

word-longer : (x : Text) (k : ℕ) → word_name x k ≢ x
word-longer x k e =
    let a = length-append (x ++ codes "[" ++ decimal k) (codes "]") in
    let b = length-append (x ++ codes "[") (decimal k) in
    let c = length-append x (codes "[") in
    let d : length (word_name x k) ≡ length x = ap length e in
    let one : length (codes "]") ≡ 1 = refl in
    absurd (omega (arith, a, b, c, d, one))

-- words one after another
word-names-more : (x : Text) (a k : ℕ) → word_names x a (suc k) ≡ word_names x a k ++ (word_name x (a + k) ∷ [])
word-names-more x a zero = ap (λ i. word_name x i ∷ []) (let e : a ≡ a + 0 = omega arith in e)
word-names-more x a (suc k) = ap (λ r. word_name x a ∷ r) (word-names-more x (suc a) k ∙ ap (λ i. word_names x (suc a) k ++ (word_name x i ∷ [])) (let e : suc a + k ≡ a + suc k = omega arith in e))

pub first-words : (x : Text) (k : ℕ) → word_names x 0 (suc k) ≡ word_names x 0 k ++ (word_name x k ∷ [])
first-words x k = word-names-more x 0 k ∙ ap (λ i. word_names x 0 k ++ (word_name x i ∷ [])) (let e : 0 + k ≡ k = omega arith in e)

pub word-count : (x : Text) (a k : ℕ) → length (word_names x a k) ≡ k
word-count x a zero = refl
word-count x a (suc k) = ap suc (word-count x (suc a) k)

-- none of these names is y
words-apart : (x : Text) (a k : ℕ) (y : Text) → ((j : ℕ) → a ≤ j → j < a + k → word_name x j ≢ y) → is_declared (taken_names (word_names x a k)) y ≡ false
words-apart x a zero y h = refl
words-apart x a (suc k) y h =
    ap (λ b. is_some (cond b (Some no_value) (found_in (taken_names (word_names x (suc a) k)) y))) (other-name (word_name x a) y (h a (let l : a ≤ a = omega arith in l) (let l : a < a + suc k = omega arith in l)))
    ∙ words-apart x (suc a) k y (λ j l r. h j (let l : a ≤ j = omega (arith, l) in l) (let r : j < a + suc k = omega (arith, r) in r))

-- a name that stands in neither list
in-neither : (names more : n.Names) (y : Text) → is_declared names y ≡ false → is_declared more y ≡ false → is_declared (names ++ more) y ≡ false
in-neither names more y a b = ap is_some (found-behind names more y a) ∙ b

by-cases : (j a : ℕ) → a ≤ j → (j ≡ a → ⊥) → suc a ≤ j
by-cases j a l h = by_lt (λ b. suc a ≤ j) a j (λ k. omega (arith, k)) (λ k. absurd (h (omega (arith, k, l))))

-- no word is taken
not-taken : (names : n.Names) (x : Text) (a k : ℕ) → taken names (word_names x a k) ≡ [] → (j : ℕ) → a ≤ j → j < a + k → is_declared names (word_name x j) ≡ false
not-taken names x a zero e j l r = absurd (omega (arith, l, r))
not-taken names x a (suc k) e j l r =
    let both = none_of_both (breaks_if (is_declared names (word_name x a)) 304 (word_name x a)) (taken names (word_names x (suc a) k)) e in
    go (j == a) refl (not_broken (is_declared names (word_name x a)) 304 (word_name x a) both.0) (not-taken names x (suc a) k both.1 j)
  where
    go : (b : Bool) → (j == a) ≡ b → is_declared names (word_name x a) ≡ false → (suc a ≤ j → j < suc a + k → is_declared names (word_name x j) ≡ false) → is_declared names (word_name x j) ≡ false
    go true d f h = subst (λ i. is_declared names (word_name x i) ≡ false) (sym (eqb-true j a d)) f
    go false d f h = h (by-cases j a l (eqb-false j a d)) (let q : j < suc a + k = omega (arith, r) in q)

-- the next word's name is free where the words before it are declared
pub next-free : (names : n.Names) (x : Text) (words k : ℕ) → words ≤ 1024 → k < words → taken names (word_names x 0 words) ≡ [] → is_declared (names ++ taken_names (word_names x 0 k)) (word_name x k) ≡ false
next-free names x words k w l e = in-neither names (taken_names (word_names x 0 k)) (word_name x k)
    (not-taken names x 0 words e k (let a : 0 ≤ k = omega arith in a) (let a : k < 0 + words = omega (arith, l) in a))
    (words-apart x 0 k (word_name x k) (λ j a b d. absurd (let i = word-apart x j k (omega (arith, b, l, w)) (omega (arith, l, w)) d in omega (arith, b, i))))

-- the memory's own name is free behind its words
pub own-free : (names : n.Names) (x : Text) (words : ℕ) → is_declared names x ≡ false → is_declared (names ++ taken_names (word_names x 0 words)) x ≡ false
own-free names x words e = in-neither names (taken_names (word_names x 0 words)) x e (words-apart x 0 words x (λ j a b d. word-longer x j d))
