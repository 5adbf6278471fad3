-- Numbers that come down in steps, before and after the words that hold them move on.
use Rattle.std.proofs.Common.{◌≡◌, ℕ, zero, suc, ◌≤◌, List, [], ◌∷◌, refl, arith}
use Rattle.fifo_laws.specs.Keeps.{FallsTo, last_number}

-- each number moves on by one place; the first place takes another one
abbrev pub shifted : ℕ → List ℕ → List ℕ
shifted f [] = []
shifted f (n ∷ ns) = f ∷ shifted n ns

abbrev pub zeros : ℕ → List ℕ
zeros zero = []
zeros (suc k) = 0 ∷ zeros k

pub falls_last : (low n : ℕ) (ns : List ℕ) → FallsTo low n ns → low ≤ last_number n ns
falls_last low n [] h = h
falls_last low n (m ∷ ms) h = falls_last low m ms h.1

pub falls_low : (low high n : ℕ) (ns : List ℕ) → FallsTo low n ns → high ≤ last_number n ns → FallsTo high n ns
falls_low low high n [] h l = l
falls_low low high n (m ∷ ms) h l = (h.0, falls_low low high m ms h.1 l)

pub falls_first : (low n k : ℕ) (ns : List ℕ) → FallsTo low n ns → n ≤ k → FallsTo low k ns
falls_first low n k [] h l = omega (arith, h, l)
falls_first low n k (m ∷ ms) h l = (omega (arith, h.0, l), h.1)

pub shifted_falls : (low n f : ℕ) (ns : List ℕ) → FallsTo low n ns → n ≤ f → FallsTo low f (shifted f ns)
shifted_falls low n f [] h l = omega (arith, h, l)
shifted_falls low n f (m ∷ ms) h l = (omega arith, falls_first low m f (shifted m ms) (shifted_falls low m m ms h.1 (omega arith)) (omega (arith, h.0, l)))

pub shifted_last : (low n f k : ℕ) (ns : List ℕ) → FallsTo low n ns → n ≤ f → n ≤ k → last_number n ns ≤ last_number k (shifted f ns)
shifted_last low n f k [] h l m = m
shifted_last low n f k (i ∷ is) h l m = shifted_last low i i f is h.1 (omega arith) (omega (arith, h.0, l))

pub last_more : (n k : ℕ) (ns : List ℕ) → n ≤ k → last_number n ns ≤ last_number k ns
last_more n k [] l = l
last_more n k (m ∷ ms) l = omega arith

pub zeros_fall : (k : ℕ) → FallsTo 0 0 (zeros k)
zeros_fall zero = omega arith
zeros_fall (suc k) = (omega arith, zeros_fall k)

pub zeros_last : (k : ℕ) → last_number 0 (zeros k) ≡ 0
zeros_last zero = refl
zeros_last (suc k) = zeros_last k
