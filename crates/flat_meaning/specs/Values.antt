-- Values of signals, bit by bit.
use Rattle.std.specs.Prelude.{ℕ, Bool}

-- a value: bit i of it; only the bits below its size count
abbrev pub Word : Type 0
Word = ℕ → Bool

-- a value for each signal
abbrev pub Words : Type 0
Words = ℕ → Word
