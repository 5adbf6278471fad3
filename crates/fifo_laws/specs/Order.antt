-- FIFO order: which push a reader sees.
use Rattle.std.specs.Prelude.{◌≡◌, ◌≢◌, ℕ, ◌+◌, ◌<◌, ◌≤◌, ◌%◌, ◌==◌, Bool, true, cond, not, ◌&&◌, Option, Some, None, List, [], ◌∷◌, slice_get, Contains}
use Rattle.std.specs.Bool.{beq}
use Rattle.cdc_base.specs.declared.bit.Bit.{Bit}
use Rattle.cell_graph.specs.Reading.{bit_eq, Reading}
use Rattle.cell_graph.specs.Origin.{tree_bit}
use Rattle.cdc_model.specs.Design.{Design, bits_from, flipped}
use Rattle.cdc_model.specs.Runs.{State, Trace, Start, Then, now, ticks}
use Rattle.fifo_laws.specs.Fifos.{Fifo}
use Rattle.fifo_laws.specs.Words.{Column}

-- the bits have the same values in both readings
abbrev pub agree_on : List Bit → Reading → Reading → Bool
agree_on [] r q = true
agree_on (b ∷ bs) r q = beq (r b) (q b) && agree_on bs r q

-- in how many steps of the run the word changed
abbrev pub changes : List Bit → Trace → ℕ
changes bits (Start s) = 0
changes bits (Then past edges s) = changes bits past + cond (agree_on bits (now past).values s.values) 0 1

-- the state before the step of the run in which the word changed for the n-th time, from 1 on
abbrev pub before_change : List Bit → ℕ → Trace → Option State
before_change bits n (Start s) = None
before_change bits n (Then past edges s) = cond (not (agree_on bits (now past).values s.values) && (changes bits past + 1 == n)) (Some (now past)) (before_change bits n past)

-- how often was pushed and popped in the run: in a push the count on the write side changes, in a pop that on the read side
abbrev pub pushes : Fifo → Trace → ℕ
pushes f run = changes (bits_from f.wb 0 f.width) run

abbrev pub pops : Fifo → Trace → ℕ
pops f run = changes (bits_from f.rb 0 f.width) run

-- the value that a column's word takes at the n-th push, from 1 on
abbrev pub IsPushed : Fifo → Column → ℕ → Trace → Bool → Type 0
IsPushed f c n run v = (s : State) × (before_change (bits_from f.wb 0 f.width) n run ≡ Some s) × (tree_bit s.values c.value ≡ v)

-- no more is popped than was pushed, and no more is pushed than has room
abbrev pub IsWithinDepth : Fifo → Trace → Type 0
IsWithinDepth f run = (pops f run ≤ pushes f run) × (pushes f run ≤ pops f run + f.depth)

-- A word bit that matters to a reader in the next step is that of the oldest push not yet popped, and has what was pushed, before and after the step.
pub record IsOldest (f : Fifo) (past : Trace) (new : State) (c : Column) (b : Bit) : Type 0 where
  pub pushed : pops f past < pushes f past
  pub word : slice_get c.words (pops f past % f.depth) ≡ Some b
  pub before : IsPushed f c (pops f past + 1) past ((now past).values b)
  pub after : new.values b ≡ (now past).values b

-- each word bit that matters to a reader in the next step is the oldest
abbrev pub ReadsOldest : Design → Fifo → Trace → (ℕ → Bool) → State → Type 0
ReadsOldest d f past edges new = (x b : Bit) (c : Column) → Contains f.readers x → ticks d edges x ≡ true → Contains f.columns c → Contains c.words b
    → d.next (now past).values x ≢ d.next (flipped (bit_eq b) (now past).values) x → IsOldest f past new c b
