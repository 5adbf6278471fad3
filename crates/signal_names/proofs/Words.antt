-- The names of a memory's words.
use Rattle.std.proofs.Common.{◌≡◌, ℕ, zero, suc, ◌+◌, ◌^◌, ◌<◌, ◌≤◌, Bool, true, false, ◌&&◌, nat_le, List, [], ◌∷◌, ◌++◌, All, refl, sym, ap, ◌∙◌, arith, rules, codes, decimal, le-leb}
use Rattle.std.specs.List.{list_all}
use Rattle.std.specs.Str.Parse.{AllDigits}
use Rattle.std.proofs.lemmas.Bool.{and_parts}
use Rattle.std.proofs.lemmas.List.{same_from_push}
use Rattle.std.proofs.lemmas.List.Elements.{All-cons, All-nil}
use Rattle.std.proofs.lemmas.Fmt.{decimal_injective, decimal_is_IsNumeral}
use Rattle.std.proofs.lemmas.Str.Parse.{digit_from_value}
use Rattle.cdc_base.specs.Bytes.{in_class}
use Rattle.cdc_base.specs.declared.bytes.Class.TheVariants.{Visible}
use Rattle.flat_unfolding.specs.Outcome.{Text}
use Rattle.flat_unfolding.specs.Names.{word_name}
use Rattle.flat_unfolding.specs.Memories.{word_names}
use Rattle.signal_names.specs.Paths.{is_visible}
use Rattle.signal_names.specs.Laws.{IsNotAmong, AreDifferent}
use Rattle.signal_names.proofs.Cuts.{in_a_row, same_behind}

both : (a b : Bool) → a ≡ true → b ≡ true → (a && b) ≡ true
both true b e f = f
both false b e f = absurd (search (rules, e))

all_in_both : (xs ys : List ℕ) → list_all (in_class Visible) xs ≡ true → list_all (in_class Visible) ys ≡ true → list_all (in_class Visible) (xs ++ ys) ≡ true
all_in_both [] ys h k = k
all_in_both (x ∷ xs) ys h k = let p = and_parts (in_class Visible x) (list_all (in_class Visible) xs) h in
    both (in_class Visible x) (list_all (in_class Visible) (xs ++ ys)) p.0 (all_in_both xs ys p.1 k)

digits_visible : (ds : List ℕ) → AllDigits 10 ds → list_all (in_class Visible) ds ≡ true
digits_visible [] d = refl
digits_visible (c ∷ cs) d = let k = digit_from_value c d.0 in
    both (in_class Visible c) (list_all (in_class Visible) cs) (both (nat_le 33 c) (nat_le c 126) (le-leb 33 c (omega arith)) (le-leb c 126 (omega arith))) (digits_visible cs d.1)

-- its index stands in brackets behind the memory's name
abbrev behind_name : ℕ → List ℕ
behind_name k = 91 ∷ (decimal k ++ (93 ∷ []))

word_is : (x : Text) (k : ℕ) → word_name x k ≡ x ++ behind_name k
word_is x k = in_a_row (x ++ codes "[") (decimal k) (codes "]") ∙ in_a_row x (codes "[") (decimal k ++ codes "]")

pub word_visible : (x : Text) (k : ℕ) → is_visible x ≡ true → k < 2 ^ 64 → is_visible (word_name x k) ≡ true
word_visible [] k v l = absurd (search (rules, v))
word_visible (b ∷ bs) k v l =
    ap is_visible (word_is (b ∷ bs) k) ∙ all_in_both (b ∷ bs) (behind_name k) v
    (all_in_both (codes "[") (decimal k ++ codes "]") refl (all_in_both (decimal k) (codes "]") (digits_visible (decimal k) (decimal_is_IsNumeral k l).0.1) refl))

word_same : (x : Text) (i j : ℕ) → i < 2 ^ 64 → j < 2 ^ 64 → word_name x i ≡ word_name x j → i ≡ j
word_same x i j l m e =
    let f = same_behind (codes "[") (decimal i ++ codes "]") (decimal j ++ codes "]") (same_behind x (behind_name i) (behind_name j) (sym (word_is x i) ∙ e ∙ word_is x j)) in
    decimal_injective i j l m (same_from_push (decimal i) (decimal j) 93 93 f).0

word_not_among : (x : Text) (n m more : ℕ) → n < m → m + more ≤ 2 ^ 64 → IsNotAmong (word_name x n) (word_names x m more)
word_not_among x n m zero l k = tt
word_not_among x n m (suc more) l k =
    ((λ e. let f = word_same x n m (omega arith) (omega arith) e in omega arith), word_not_among x n (suc m) more (omega arith) (omega arith))

pub words_differ : (x : Text) (n more : ℕ) → n + more ≤ 2 ^ 64 → AreDifferent (word_names x n more)
words_differ x n zero k = tt
words_differ x n (suc more) k = (word_not_among x n (suc n) more (omega arith) (omega arith), words_differ x (suc n) more (omega arith))

pub words_visible : (x : Text) (n more : ℕ) → is_visible x ≡ true → n + more ≤ 2 ^ 64 → All (λ w. is_visible w ≡ true) (word_names x n more)
words_visible x n zero v k = All-nil (λ w. is_visible w ≡ true)
words_visible x n (suc more) v k =
    All-cons (λ w. is_visible w ≡ true) (word_name x n) (word_names x (suc n) more) (word_visible x n v (omega arith)) (words_visible x (suc n) more v (omega arith))
