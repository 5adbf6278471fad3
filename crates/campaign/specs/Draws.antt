-- The words that a lane draws.
use Rattle.std.specs.Prelude.{ℕ, zero, suc, List, [], ◌∷◌}
use Rattle.rand_xoshiro.specs.SplitMix64.{splitmix_seed}
use Rattle.rand_xoshiro.specs.Xoshiro256.{of_seed, plus_plus}

-- the generator of a seed
unfoldable pub seeded : ℕ → List ℕ
seeded seed = of_seed (splitmix_seed 32 seed)

-- the next word of a generator
unfoldable pub word : List ℕ → ℕ
word rng = (plus_plus rng).0

-- the generator behind its next word
unfoldable pub behind : List ℕ → List ℕ
behind rng = (plus_plus rng).1

-- the generator behind its next n words
abbrev pub behind_all : ℕ → List ℕ → List ℕ
behind_all zero rng = rng
behind_all (suc n) rng = behind_all n (behind rng)

-- a word for each item in turn, and what the two make
abbrev pub with_words : {A B : Type 0} → (ℕ → A → B) → List ℕ → List A → List B
with_words make rng [] = []
with_words make rng (x ∷ xs) = make (word rng) x ∷ with_words make (behind rng) xs
