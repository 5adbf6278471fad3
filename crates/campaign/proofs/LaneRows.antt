-- Rows of eight words, and the words of one lane.
use Rattle.std.proofs.Common.{◌≡◌, ◌≢◌, ◌∙◌, ℕ, zero, suc, ◌+◌, ◌<◌, ◌≤◌, List, [], ◌∷◌, length, set, get_or, take, refl, sym, ap, ap₂, subst, arith, below_more, get_or-set_same, get_or-set_other, length-set}
use Rattle.campaign.specs.Lanes.{lane}

-- one more word of a row is what it should be
abbrev pub IsStored : (ℕ → ℕ) → ℕ → List ℕ → Type 0
IsStored f i out = (length out ≡ 8) × ((k : ℕ) → k < i → get_or out k 0 ≡ f k)

pub stored : (f : ℕ → ℕ) (out : List ℕ) (i v : ℕ) → i < 8 → v ≡ f i → IsStored f i out → IsStored f (i + 1) (set out i v)
stored f out i v lt is before =
    let at : i < length out = omega (arith, before.0) in (
      length-set out i v ∙ before.0,
      below_more _ _ (λ k h. let ne : k ≢ i = omega arith in get_or-set_other out i k v 0 ne ∙ before.1 k h) (get_or-set_same out i v 0 at ∙ is),
    )

-- a row replaced is a word replaced in each lane
pub lane-set : (i : ℕ) (rows : List (List ℕ)) (n : ℕ) (row : List ℕ) → lane i (set rows n row) ≡ set (lane i rows) n (get_or row i 0)
lane-set i [] n row = refl
lane-set i (r ∷ rs) zero row = refl
lane-set i (r ∷ rs) (suc n) row = ap (λ ws. get_or r i 0 ∷ ws) (lane-set i rs n row)

pub length-lane : (i : ℕ) (rows : List (List ℕ)) → length (lane i rows) ≡ length rows
length-lane i [] = refl
length-lane i (r ∷ rs) = ap suc (length-lane i rs)

lane-at : (i : ℕ) (rows : List (List ℕ)) (n : ℕ) → get_or (lane i rows) n 0 ≡ get_or (get_or rows n []) i 0
lane-at i [] n = refl
lane-at i (r ∷ rs) zero = refl
lane-at i (r ∷ rs) (suc n) = lane-at i rs n

set-self : (xs : List ℕ) (n : ℕ) → set xs n (get_or xs n 0) ≡ xs
set-self [] n = refl
set-self (x ∷ xs) zero = refl
set-self (x ∷ xs) (suc n) = ap (λ ys. x ∷ ys) (set-self xs n)

-- a row with the same word in a lane leaves the lane's words
pub lane-kept : (i : ℕ) (rows : List (List ℕ)) (n : ℕ) (row : List ℕ) → get_or row i 0 ≡ get_or (get_or rows n []) i 0 → lane i (set rows n row) ≡ lane i rows
lane-kept i rows n row e = lane-set i rows n row ∙ ap (set (lane i rows) n) (e ∙ sym (lane-at i rows n)) ∙ set-self (lane i rows) n

-- and one with another word changes one of them
pub lane-put : (i : ℕ) (rows : List (List ℕ)) (n : ℕ) (row : List ℕ) (word : ℕ) → get_or row i 0 ≡ word → lane i (set rows n row) ≡ set (lane i rows) n word
lane-put i rows n row word e = lane-set i rows n row ∙ ap (set (lane i rows) n) e

one-more : (xs ws : List ℕ) (n w : ℕ) → n < length ws → length xs ≡ length ws → w ≡ get_or ws n 0 → take n xs ≡ take n ws → take (suc n) (set xs n w) ≡ take (suc n) ws
one-more [] ws n w l e is h = absurd (omega arith)
one-more (x ∷ xs) [] n w l e is h = absurd (omega arith)
one-more (x ∷ xs) (y ∷ ys) zero w l e is h = ap (λ z. z ∷ []) is
one-more (x ∷ xs) (y ∷ ys) (suc n) w l e is h =
    let same : x ≡ y = cc in
    let rest : take n xs ≡ take n ys = cc in
    ap₂ (λ z zs. z ∷ zs) same (one-more xs ys n w (omega arith) (omega arith) is rest)

-- one more word stands as it should
pub one-word : (xs ws : List ℕ) (n w : ℕ) → n < length ws → length xs ≡ length ws → w ≡ get_or ws n 0 → take n xs ≡ take n ws → take (n + 1) (set xs n w) ≡ take (n + 1) ws
one-word xs ws n w l e is h = subst (λ (k : ℕ). take k (set xs n w) ≡ take k ws) (let f : suc n ≡ n + 1 = omega arith in f) (one-more xs ws n w l e is h)

pub all-words : (xs ws : List ℕ) (n : ℕ) → length ws ≤ n → length xs ≡ length ws → take n xs ≡ take n ws → xs ≡ ws
all-words [] [] n l e h = refl
all-words [] (y ∷ ys) n l e h = absurd (omega arith)
all-words (x ∷ xs) [] n l e h = absurd (omega arith)
all-words (x ∷ xs) (y ∷ ys) zero l e h = absurd (omega arith)
all-words (x ∷ xs) (y ∷ ys) (suc n) l e h =
    let same : x ≡ y = cc in
    let rest : take n xs ≡ take n ys = cc in
    ap₂ (λ z zs. z ∷ zs) same (all-words xs ys n (omega arith) (omega arith) rest)
