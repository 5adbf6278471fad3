-- Lines and words, byte by byte.
use Rattle.std.proofs.Common.{◌≡◌, ◌≢◌, ◌∙◌, refl, sym, ap, subst, arith, ℕ, zero, suc, ◌+◌, ◌-◌, ◌*◌, ◌<◌, ◌≤◌, ◌==◌, eqb-true, eq-eqb, Bool, true, false, Some, None, List, [], ◌∷◌, ◌++◌, length, take, drop, get_or, append_assoc}
use Rattle.std.specs.Prelude.{if◌then◌else◌}
use Rattle.std.proofs.lemmas.List.{drop_more, append-nil}
use Rattle.clock_constraints.specs.Refusals.{Text}
use Rattle.cert_text.specs.Texts.{is_empty}
use Rattle.cert_text.specs.Words.{HasNoFeed, lines_of, onto_line, onto_word, words_from, parts_words, stays_escaped, value_from}

-- ---- lines

not_ten : (b : ℕ) → b ≢ 10 → (b == 10) ≡ false
not_ten b h = go (b == 10) refl
  where
    go : (v : Bool) → (b == 10) ≡ v → (b == 10) ≡ false
    go true e = absurd (h (eqb-true b 10 e))
    go false e = e

line_more : (b : ℕ) (bs : Text) → b ≢ 10 → lines_of (b ∷ bs) ≡ onto_line b (lines_of bs)
line_more b bs h = ap (λ v. if v then Some [] ∷ lines_of bs else onto_line b (lines_of bs)) (not_ten b h)

-- a line up to its line feed
pub cut_at : (xs : Text) (n : ℕ) → n < length xs → get_or xs n 0 ≡ 10 → HasNoFeed xs n → lines_of xs ≡ Some (take n xs) ∷ lines_of (drop (suc n) xs)
cut_at [] n l e h = absurd (omega arith)
cut_at (b ∷ bs) zero l e h = ap (λ v. if v then Some [] ∷ lines_of bs else onto_line b (lines_of bs)) (eq-eqb b 10 e)
cut_at (b ∷ bs) (suc n) l e h = line_more b bs (h 0 (omega arith)) ∙ ap (onto_line b) (cut_at bs n (omega arith) e (λ k m. h (suc k) (omega arith)))

-- a last line that no line feed ends
pub cut_none : (xs : Text) → xs ≢ [] → HasNoFeed xs (length xs) → lines_of xs ≡ None ∷ []
cut_none [] ne h = absurd (ne refl)
cut_none (b ∷ []) ne h = line_more b [] (h 0 (omega arith))
cut_none (b ∷ c ∷ bs) ne h = line_more b (c ∷ bs) (h 0 (omega arith)) ∙ ap (onto_line b) (cut_none (c ∷ bs) (λ e. cc) (λ k m. h (suc k) (omega arith)))

-- a text that isn't empty
pub not_empty : (t : Text) → is_empty t ≡ false → t ≢ []
not_empty [] h e = cc
not_empty (b ∷ bs) h e = cc

pub some_length : (t : Text) → is_empty t ≡ false → 0 < length t
some_length [] h = cc
some_length (b ∷ bs) h = omega arith

-- ---- words

-- there is always a word
data IsMore : List Text → Type 0 where
  More : (w : Text) (ws : List Text) → IsMore (w ∷ ws)

onto_more : (p : Text) (xs : List Text) → IsMore (onto_word p xs)
onto_more p [] = More p []
onto_more p (w ∷ ws) = More (p ++ w) ws

words_more : (e : Bool) (t : Text) → IsMore (words_from e t)
words_more e [] = More [] []
words_more e (b ∷ bs) = go (parts_words e b)
  where
    go : (v : Bool) → IsMore (if v then [] ∷ words_from false bs else onto_word (b ∷ []) (words_from (stays_escaped e b) bs))
    go true = More [] (words_from false bs)
    go false = onto_more (b ∷ []) (words_from (stays_escaped e b) bs)

onto_nothing : (xs : List Text) → IsMore xs → onto_word [] xs ≡ xs
onto_nothing [] h = elim h [ ]
onto_nothing (w ∷ ws) h = refl

pub onto_none : (e : Bool) (t : Text) → onto_word [] (words_from e t) ≡ words_from e t
onto_none e t = onto_nothing (words_from e t) (words_more e t)

onto_twice : (p q : Text) (xs : List Text) → onto_word p (onto_word q xs) ≡ onto_word (p ++ q) xs
onto_twice p q [] = refl
onto_twice p q (w ∷ ws) = ap (λ v. v ∷ ws) (sym (append_assoc p q w))

-- a space that ends a word
pub word_ends : (whole : List Text) (ws : List Text) (w line : Text) (i : ℕ) (e : Bool) → i < length line → parts_words e (get_or line i 0) ≡ true
    → whole ≡ ws ++ onto_word w (words_from e (drop i line)) → whole ≡ (ws ++ w ∷ []) ++ onto_word [] (words_from false (drop (i + 1) line))
word_ends whole ws w line i e l t h =
    h ∙ ap (λ xs. ws ++ onto_word w (words_from e xs)) (drop_more line i 0 l)
    ∙ ap (λ v. ws ++ onto_word w (if v then [] ∷ words_from false (drop (i + 1) line) else onto_word (get_or line i 0 ∷ []) (words_from (stays_escaped e (get_or line i 0)) (drop (i + 1) line)))) t
    ∙ ap (λ v. ws ++ v ∷ words_from false (drop (i + 1) line)) (append-nil w)
    ∙ ap (λ xs. ws ++ w ∷ xs) (sym (onto_none false (drop (i + 1) line)))
    ∙ sym (append_assoc ws (w ∷ []) (onto_word [] (words_from false (drop (i + 1) line))))

-- any other byte
pub word_more : (whole : List Text) (ws : List Text) (w line : Text) (i : ℕ) (e : Bool) → i < length line → parts_words e (get_or line i 0) ≡ false
    → whole ≡ ws ++ onto_word w (words_from e (drop i line)) → whole ≡ ws ++ onto_word (w ++ get_or line i 0 ∷ []) (words_from (stays_escaped e (get_or line i 0)) (drop (i + 1) line))
word_more whole ws w line i e l t h =
    h ∙ ap (λ xs. ws ++ onto_word w (words_from e xs)) (drop_more line i 0 l)
    ∙ ap (λ v. ws ++ onto_word w (if v then [] ∷ words_from false (drop (i + 1) line) else onto_word (get_or line i 0 ∷ []) (words_from (stays_escaped e (get_or line i 0)) (drop (i + 1) line)))) t
    ∙ ap (λ xs. ws ++ xs) (onto_twice w (get_or line i 0 ∷ []) (words_from (stays_escaped e (get_or line i 0)) (drop (i + 1) line)))

-- ---- numbers

-- more digits make no smaller number
pub value_grows : (n : ℕ) (ds : Text) → n ≤ value_from n ds
value_grows n [] = omega arith
value_grows n (d ∷ ds) = let h = value_grows (n * 10 + (d - 48)) ds in omega arith

pub value_over : (n bound : ℕ) (ds : Text) (i : ℕ) → i < length ds → bound ≤ n * 10 + (get_or ds i 0 - 48) → bound ≤ value_from n (drop i ds)
value_over n bound ds i l h = subst (λ xs. bound ≤ value_from n xs) (sym (drop_more ds i 0 l)) (let k = value_grows (n * 10 + (get_or ds i 0 - 48)) (drop (i + 1) ds) in omega arith)
