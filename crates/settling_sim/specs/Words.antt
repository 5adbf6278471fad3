-- Bits in the words of the signals.
use Rattle.std.specs.Prelude.{ℕ, ◌^◌, Bool, not, ◌&&◌, cond, nat_lt, List, [], ◌∷◌, set, bit_xor}
use Rattle.std.specs.Bool.{beq}
use Rattle.cdc_base.specs.declared.bit.Bit.{Bit}
use Rattle.cell_graph.specs.Tree.{bit_at}
use Rattle.cell_graph.specs.Values.{word_at, reading_of}

-- the word with this value for a bit; a word has 64 bits
abbrev pub with_bit : ℕ → ℕ → Bool → ℕ
with_bit word at value = cond (nat_lt at 64 && not (beq (bit_at word at) value)) (bit_xor word (2 ^ at)) word

-- the words with this value for a bit of a signal
abbrev pub put_bit : List ℕ → Bit → Bool → List ℕ
put_bit words b value = set words b.sig (with_bit (word_at words b.sig) b.at value)

-- the bits of a list set to the other values than they have in `words`
abbrev pub flip_in : List ℕ → List ℕ → List Bit → List ℕ
flip_in words flipped [] = flipped
flip_in words flipped (b ∷ bs) = flip_in words (put_bit flipped b (not (reading_of words b))) bs
