-- The items of lists of feeds.
use Rattle.std.proofs.Common.{◌≡◌, ◌≢◌, ◌∙◌, ap, refl, arith, ℕ, zero, suc, ◌+◌, ◌*◌, ◌/◌, ◌%◌, ◌<◌, ◌≤◌, List, [], ◌∷◌, ◌++◌, length, Some, None, slice_get}
use Rattle.std.proofs.lemmas.Option.{slice_get_past}
use Rattle.cell_graph.specs.declared.cell.CellId.{CellId}
use Rattle.cell_graph.specs.declared.cell.Node.{Node}
use Rattle.cell_graph.specs.Feeds.{node, bits_from, pairs_from}

pub bits_from-get : (a : CellId) (k n i : ℕ) → k < n → slice_get (bits_from a i n) k ≡ Some (node a (i + k))
bits_from-get a k zero i h = absurd (omega arith)
bits_from-get a zero (suc n) i h = ap (λ m. Some (node a m)) (let e : i ≡ i + 0 = omega arith in e)
bits_from-get a (suc k) (suc n) i h = bits_from-get a k n (suc i) (omega arith) ∙ ap (λ m. Some (node a m)) (let e : suc i + k ≡ i + suc k = omega arith in e)

pub length-bits_from : (a : CellId) (n i : ℕ) → length (bits_from a i n) ≡ n
length-bits_from a zero i = refl
length-bits_from a (suc n) i = ap suc (length-bits_from a n (suc i))

pub bits_from-past : (a : CellId) (k n i : ℕ) → n ≤ k → slice_get (bits_from a i n) k ≡ None
bits_from-past a k n i h = slice_get_past (bits_from a i n) k (let l = length-bits_from a n i in omega arith)

-- the items of two lists, one after the other
pub both-left : (xs ys : List Node) (k : ℕ) → k < length xs → slice_get (xs ++ ys) k ≡ slice_get xs k
both-left [] ys k h = absurd (omega arith)
both-left (x ∷ xs) ys zero h = refl
both-left (x ∷ xs) ys (suc k) h = both-left xs ys k (omega arith)

pub both-right : (xs ys : List Node) (k n : ℕ) → k ≡ length xs + n → slice_get (xs ++ ys) k ≡ slice_get ys n
both-right [] ys k n h = ap (slice_get ys) (let e : k ≡ n = omega arith in e)
both-right (x ∷ xs) ys zero n h = absurd (omega arith)
both-right (x ∷ xs) ys (suc k) n h = both-right xs ys k n (omega arith)

pub pairs_from-first : (a b : CellId) (k n i : ℕ) → k / 2 < n → k % 2 ≡ 0 → slice_get (pairs_from a b i n) k ≡ Some (node a (i + k / 2))
pairs_from-first a b k zero i h p = absurd (omega arith)
pairs_from-first a b zero (suc n) i h p = ap (λ m. Some (node a m)) (let e : i ≡ i + 0 / 2 = omega arith in e)
pairs_from-first a b (suc zero) (suc n) i h p = absurd (omega arith)
pairs_from-first a b (suc (suc k)) (suc n) i h p =
    pairs_from-first a b k n (suc i) (omega arith) (omega arith) ∙ ap (λ m. Some (node a m)) (let e : suc i + k / 2 ≡ i + suc (suc k) / 2 = omega arith in e)

pub pairs_from-second : (a b : CellId) (k n i : ℕ) → k / 2 < n → k % 2 ≡ 1 → slice_get (pairs_from a b i n) k ≡ Some (node b (i + k / 2))
pairs_from-second a b k zero i h p = absurd (omega arith)
pairs_from-second a b zero (suc n) i h p = absurd (omega arith)
pairs_from-second a b (suc zero) (suc n) i h p = ap (λ m. Some (node b m)) (let e : i ≡ i + 1 / 2 = omega arith in e)
pairs_from-second a b (suc (suc k)) (suc n) i h p =
    pairs_from-second a b k n (suc i) (omega arith) (omega arith) ∙ ap (λ m. Some (node b m)) (let e : suc i + k / 2 ≡ i + suc (suc k) / 2 = omega arith in e)

pub length-pairs_from : (a b : CellId) (n i : ℕ) → length (pairs_from a b i n) ≡ 2 * n
length-pairs_from a b zero i = refl
length-pairs_from a b (suc n) i = let l = length-pairs_from a b n (suc i) in omega arith

pub pairs_from-past : (a b : CellId) (k n i : ℕ) → n ≤ k / 2 → slice_get (pairs_from a b i n) k ≡ None
pairs_from-past a b k n i h = slice_get_past (pairs_from a b i n) k (let l = length-pairs_from a b n i in omega arith)

-- the same from bit 0 on
pub bit_at-is : (a : CellId) (k n : ℕ) → k < n → slice_get (bits_from a 0 n) k ≡ Some (node a k)
bit_at-is a k n h = bits_from-get a k n 0 h ∙ ap (λ m. Some (node a m)) (let e : 0 + k ≡ k = omega arith in e)

pub pair-first : (a b : CellId) (k n : ℕ) → k / 2 < n → k % 2 ≡ 0 → slice_get (pairs_from a b 0 n) k ≡ Some (node a (k / 2))
pair-first a b k n h p = pairs_from-first a b k n 0 h p ∙ ap (λ m. Some (node a m)) (let e : 0 + k / 2 ≡ k / 2 = omega arith in e)

pub pair-second : (a b : CellId) (k n : ℕ) → k / 2 < n → k % 2 ≢ 0 → slice_get (pairs_from a b 0 n) k ≡ Some (node b (k / 2))
pair-second a b k n h p = pairs_from-second a b k n 0 h (omega arith) ∙ ap (λ m. Some (node b m)) (let e : 0 + k / 2 ≡ k / 2 = omega arith in e)
