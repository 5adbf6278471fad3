-- The values of all cells in one reading, given by a word for each signal.
use Rattle.std.specs.Prelude.{◌≡◌, ℕ, ◌+◌, ◌-◌, ◌*◌, ◌/◌, ◌%◌, ◌<◌, ◌^◌, min, cond, nat_lt, ◌==◌, List, length, map, Some, slice_get, unwrap_or, bit_and, bit_or, bit_xor, count_ones}
use Rattle.cdc_base.specs.declared.signal.Signal.{Signal}
use Rattle.cell_graph.specs.declared.cell.Cell.{Cell}
use Rattle.cell_graph.specs.declared.cell.Cell.TheVariants.{Var, Const, Not, And, Or, Xor, Add, Sub, Eq, Lt, Shl, Shr, Mux, Concat, Slice, Extend, Reduce}
use Rattle.cell_graph.specs.declared.cell.ReduceKind.{ReduceKind}
use Rattle.cell_graph.specs.declared.cell.ReduceKind.TheVariants as kind
use Rattle.cell_graph.specs.Cells.{Cells, cell_width}
use Rattle.cell_graph.specs.Reading.{Reading}
use Rattle.cell_graph.specs.Tree.{Tree, width, bit_at, bit, number}
use Rattle.cell_graph.specs.Unfolded.{trees}

-- the word at a place; 0 where there is none
abbrev pub word_at : List ℕ → ℕ → ℕ
word_at words place = unwrap_or (slice_get words place) 0

-- the reading that the words of the signals give
abbrev pub reading_of : List ℕ → Reading
reading_of words b = bit_at (word_at words b.sig) b.at

-- one word for each signal, below 2 to its width
pub record AreWordsOf (signals : List Signal) (words : List ℕ) : Type 0 where
  pub counted : length words ≡ length signals
  pub fit : (sig : ℕ) (s : Signal) → slice_get signals sig ≡ Some s → word_at words sig < 2 ^ s.width

-- the word that the bits of a tree make
abbrev pub tree_value : Reading → Tree → ℕ
tree_value r t = number (bit r t) (width t)

-- the value of each cell of a graph: that of its tree
abbrev pub values_of : Cells → List ℕ → List ℕ
values_of g words = map (tree_value (reading_of words)) (trees g)

abbrev pub reduced_word : ReduceKind → ℕ → ℕ → ℕ
reduced_word kind.And w v = cond (v == 2 ^ min w 64 - 1) 1 0
reduced_word kind.Or w v = cond (v == 0) 0 1
reduced_word kind.Xor w v = count_ones v % 2

-- the value of a cell of w bits in arithmetic of words, by the words of the signals and the values of the cells before it
abbrev pub cell_word : Cells → List ℕ → List ℕ → ℕ → Cell → ℕ
cell_word g words vs w (Var sig) = word_at words sig
cell_word g words vs w (Const width value) = value
cell_word g words vs w (Not a) = (2 ^ 64 - 1 - word_at vs a.0) % 2 ^ w
cell_word g words vs w (And a b) = bit_and (word_at vs a.0) (word_at vs b.0)
cell_word g words vs w (Or a b) = bit_or (word_at vs a.0) (word_at vs b.0)
cell_word g words vs w (Xor a b) = bit_xor (word_at vs a.0) (word_at vs b.0)
cell_word g words vs w (Add a b) = (word_at vs a.0 + word_at vs b.0) % 2 ^ 64 % 2 ^ w
cell_word g words vs w (Sub a b) = (word_at vs a.0 + (2 ^ 64 - word_at vs b.0)) % 2 ^ 64 % 2 ^ w
cell_word g words vs w (Eq a b) = cond (word_at vs a.0 == word_at vs b.0) 1 0
cell_word g words vs w (Lt a b) = cond (nat_lt (word_at vs a.0) (word_at vs b.0)) 1 0
cell_word g words vs w (Shl a by) = word_at vs a.0 * 2 ^ word_at vs by.0 % 2 ^ 64 % 2 ^ w
cell_word g words vs w (Shr a by) = word_at vs a.0 / 2 ^ word_at vs by.0
cell_word g words vs w (Mux c x y) = cond (word_at vs c.0 == 0) (word_at vs y.0) (word_at vs x.0)
cell_word g words vs w (Concat high low) = bit_or (word_at vs high.0 * 2 ^ cell_width g low % 2 ^ 64) (word_at vs low.0)
cell_word g words vs w (Slice a at width) = word_at vs a.0 / 2 ^ at % 2 ^ w
cell_word g words vs w (Extend a width) = word_at vs a.0
cell_word g words vs w (Reduce k a) = reduced_word k (cell_width g a) (word_at vs a.0)
