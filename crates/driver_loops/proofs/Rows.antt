-- Each vertex's ends, where all stand in one list.
use Rattle.std.proofs.Common.{◌≡◌, ◌∙◌, sym, ap, refl, arith, ℕ, zero, suc, ◌≤◌, ◌-◌, ◌+◌, List, [], ◌∷◌, ◌++◌, append-nil, append_assoc, length, take, drop}
use Rattle.std.proofs.lemmas.List.{take_rest, drop-append-le, take-append-le, length-drop}
use Rattle.std.specs.Prelude.{slice_range}
use Rattle.driver_loops.specs.Links.{ends_of, rows, start_at, extended, AreStarts}

pub length-rows : (ss es : List ℕ) → length (rows ss es) ≡ length ss
length-rows [] es = refl
length-rows (s ∷ ss) es = ap suc (length-rows ss es)

none_between : (n : ℕ) (es : List ℕ) → slice_range es n n ≡ []
none_between n es = let e : n - n ≡ 0 = omega arith in ap (λ k. take k (drop n es)) e

pub row_is : (ss es : List ℕ) (v : ℕ) → ends_of (rows ss es) v ≡ slice_range es (start_at ss v (length es)) (start_at ss (suc v) (length es))
row_is [] es v = sym (none_between (length es) es)
row_is (s ∷ []) es zero = refl
row_is (s ∷ t ∷ ss) es zero = refl
row_is (s ∷ ss) es (suc v) = row_is ss es v

pub start-within : (ss : List ℕ) (n v : ℕ) → AreStarts ss n → start_at ss v n ≤ n
start-within [] n v h = omega arith
start-within (s ∷ []) n zero h = h.0
start-within (s ∷ t ∷ ss) n zero h = let l = start-within (t ∷ ss) n zero h.1 in let k = h.0 in omega arith
start-within (s ∷ ss) n (suc v) h = start-within ss n v h.1

pub starts-ascend : (ss : List ℕ) (n v : ℕ) → AreStarts ss n → start_at ss v n ≤ start_at ss (suc v) n
starts-ascend [] n v h = omega arith
starts-ascend (s ∷ []) n zero h = h.0
starts-ascend (s ∷ t ∷ ss) n zero h = h.0
starts-ascend (s ∷ ss) n (suc v) h = starts-ascend ss n v h.1

-- ---- links that are added

pub starts-begin : (ss : List ℕ) (n : ℕ) → AreStarts ss n → AreStarts (ss ++ n ∷ []) n
starts-begin [] n h = (omega arith, tt)
starts-begin (s ∷ []) n h = (h.0, starts-begin [] n tt)
starts-begin (s ∷ t ∷ ss) n h = (h.0, starts-begin (t ∷ ss) n h.1)

pub starts-add : (ss : List ℕ) (n : ℕ) → AreStarts ss n → AreStarts ss (n + 1)
starts-add [] n h = tt
starts-add (s ∷ []) n h = ((let l = h.0 in omega arith), tt)
starts-add (s ∷ t ∷ ss) n h = (h.0, starts-add (t ∷ ss) n h.1)

pub rows-begin : (ss es : List ℕ) → rows (ss ++ length es ∷ []) es ≡ rows ss es ++ [] ∷ []
rows-begin [] es = ap (λ r. r ∷ []) (none_between (length es) es)
rows-begin (s ∷ []) es = ap (λ rs. slice_range es s (length es) ∷ rs) (rows-begin [] es)
rows-begin (s ∷ t ∷ ss) es = ap (λ rs. slice_range es s t ∷ rs) (rows-begin (t ∷ ss) es)

range_more : (es : List ℕ) (e s : ℕ) → s ≤ length es → slice_range (es ++ e ∷ []) s (length (es ++ e ∷ [])) ≡ slice_range es s (length es) ++ e ∷ []
range_more es e s h = take_rest (es ++ e ∷ []) s ∙ drop-append-le s es (e ∷ []) h ∙ ap (λ xs. xs ++ e ∷ []) (sym (take_rest es s))

range_same : (es : List ℕ) (e s t : ℕ) → s ≤ t → t ≤ length es → slice_range (es ++ e ∷ []) s t ≡ slice_range es s t
range_same es e s t h k =
    ap (take (t - s)) (drop-append-le s es (e ∷ []) (omega arith)) ∙ take-append-le (t - s) (drop s es) (e ∷ []) (let n = length-drop s es in omega arith)

pub rows-add : (ss es : List ℕ) (e : ℕ) → AreStarts ss (length es) → rows ss (es ++ e ∷ []) ≡ extended (rows ss es) (e ∷ [])
rows-add [] es e h = refl
rows-add (s ∷ []) es e h = ap (λ r. r ∷ []) (range_more es e s h.0)
rows-add (s ∷ t ∷ ss) es e h =
    ap (λ r. r ∷ rows (t ∷ ss) (es ++ e ∷ [])) (range_same es e s t h.0 (start-within (t ∷ ss) (length es) zero h.1))
    ∙ ap (λ rs. slice_range es s t ∷ rs) (rows-add (t ∷ ss) es e h.1)

pub extended-nothing : (rs : List (List ℕ)) → extended rs [] ≡ rs
extended-nothing [] = refl
extended-nothing (r ∷ []) = ap (λ x. x ∷ []) (append-nil r)
extended-nothing (r ∷ s ∷ rs) = ap (λ x. r ∷ x) (extended-nothing (s ∷ rs))

pub extended-twice : (rs : List (List ℕ)) (xs ys : List ℕ) → extended (extended rs xs) ys ≡ extended rs (xs ++ ys)
extended-twice [] xs ys = refl
extended-twice (r ∷ []) xs ys = ap (λ x. x ∷ []) (append_assoc r xs ys)
extended-twice (r ∷ s ∷ []) xs ys = ap (λ x. r ∷ x) (extended-twice (s ∷ []) xs ys)
extended-twice (r ∷ s ∷ t ∷ rs) xs ys = ap (λ x. r ∷ x) (extended-twice (s ∷ t ∷ rs) xs ys)

pub extended-begun : (rs : List (List ℕ)) (xs : List ℕ) → extended (rs ++ [] ∷ []) xs ≡ rs ++ xs ∷ []
extended-begun [] xs = refl
extended-begun (r ∷ []) xs = refl
extended-begun (r ∷ s ∷ rs) xs = ap (λ x. r ∷ x) (extended-begun (s ∷ rs) xs)
