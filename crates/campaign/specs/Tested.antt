-- What the code draws, by tests on its tables.
use Rattle.std.specs.Prelude.{ℕ, ◌%◌, ◌^◌, Bool, cond, not, List, [], ◌∷◌, ◌++◌, set}
use Rattle.std.specs.Bool.{beq}
use Rattle.std.specs.List.{flat_map}
use Rattle.cdc_base.specs.declared.signal.Signal.{Signal}
use Rattle.cell_graph.specs.Values.{word_at, reading_of}
use Rattle.cdc_model.specs.declared.record.Given.{Given}
use Rattle.cdc_model.specs.declared.scheme.Crossing.{Crossing}
use Rattle.cdc_model.specs.Nets.{bit_count}
use Rattle.settling_sim.specs.Words.{put_bit}
use Rattle.campaign.specs.declared.toss.Toss.{Toss}
use Rattle.campaign.specs.Draws.{word, behind}
use Rattle.campaign.specs.Drawn.{toss}

-- the generator behind a word for each item that passes a test
abbrev pub behind_passing : {A : Type 0} → (A → Bool) → List A → List ℕ → List ℕ
behind_passing test [] rng = rng
behind_passing test (x ∷ xs) rng = behind_passing test xs (cond (test x) (behind rng) rng)

-- the words drawn for signals that pass, each at its place
abbrev pub put_drawn : (ℕ → Bool) → List ℕ → List ℕ → List ℕ → List ℕ
put_drawn test [] rng drawn = drawn
put_drawn test (s ∷ ss) rng drawn = put_drawn test ss (cond (test s) (behind rng) rng) (cond (test s) (set drawn s (word rng)) drawn)

-- a signal with the low bits of its drawn word
abbrev pub given_in : List Signal → List ℕ → ℕ → Given
given_in signals drawn sig = record { sig = sig; value = word_at drawn sig % 2 ^ bit_count signals sig }

-- those of the signals that pass
abbrev pub given_if : List Signal → List ℕ → Bool → ℕ → List Given
given_if signals drawn passes sig = cond passes (given_in signals drawn sig ∷ []) []

abbrev pub givens_in : List Signal → List ℕ → (ℕ → Bool) → List ℕ → List Given
givens_in signals drawn test sigs = flat_map (λ s. given_if signals drawn (test s) s) sigs

-- the toss of a flop that is torn, and those of all that are
abbrev pub toss_if : Bool → List ℕ → Crossing → List Toss
toss_if torn rng c = cond torn (toss (word rng) c ∷ []) []

abbrev pub tosses_of : (Crossing → Bool) → List Crossing → List ℕ → List Toss → List Toss
tosses_of torn [] rng ts = ts
tosses_of torn (c ∷ cs) rng ts = tosses_of torn cs (cond (torn c) (behind rng) rng) (ts ++ toss_if (torn c) rng c)

-- the words once the flops have taken what they take
abbrev pub put_tosses : List ℕ → List Toss → List ℕ → List ℕ
put_tosses before [] words = words
put_tosses before (t ∷ ts) words = put_tosses before ts (put_bit words t.flop (not (beq (reading_of before t.source) t.other)))
