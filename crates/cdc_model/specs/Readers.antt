-- Who reads each state bit of a net, and where the code keeps that.
use Rattle.std.specs.Prelude.{◌≡◌, ℕ, ◌+◌, ◌<◌, Bool, true, cond, nat_lt, Option, Some, None, is_some, option_and_then, unwrap_or, List, [], ◌∷◌, filter, length, slice_get}
use Rattle.std.specs.Option.{option_map_or}
use Rattle.cdc_base.specs.declared.bit.Bit.{Bit}
use Rattle.cdc_base.specs.declared.signal.Signal.{Signal}
use Rattle.cdc_base.specs.declared.signal.SigKind.{SigKind}
use Rattle.cdc_base.specs.declared.signal.SigKind.TheVariants.{Input, Register, Wire}
use Rattle.cell_graph.specs.declared.cell.CellId.{CellId}
use Rattle.cell_graph.specs.declared.net.Net.{Net}
use Rattle.cell_graph.specs.Cells.{Cells}
use Rattle.cell_graph.specs.Cofactor.{reads}
use Rattle.cell_graph.specs.Reading.{bit_eq}
use Rattle.cell_graph.specs.Tree.{width, any_below}
use Rattle.cell_graph.specs.Unfolded.{tree_of}
use Rattle.cdc_model.specs.declared.below.Marks.{Marks}
use Rattle.cdc_model.specs.declared.readers.Reader.{Reader}
use Rattle.cdc_model.specs.declared.readers.Reader.TheVariants.{Nobody, Alone, Others}
use Rattle.cdc_model.specs.declared.readers.Span.{Span}
use Rattle.cdc_model.specs.Marked.{mark_of, ShowsMarks}
use Rattle.cdc_model.specs.Nets.{next_tree, bits_of_registers, is_read_by_output}

-- who reads a bit, by the register bits that do
abbrev pub reader_among : List Bit → Reader
reader_among [] = Nobody
reader_among (x ∷ []) = Alone x
reader_among (x ∷ y ∷ zs) = Others

-- the register bits that read the bit, ascending
abbrev pub registers_reading : Net → Bit → List Bit
registers_reading net b = filter (λ x. reads [] (next_tree net x.sig) x.at b) (bits_of_registers net.graph.signals net.regs)

-- who reads a bit: a top output, several register bits, one, or nobody
abbrev pub readers_of : Net → Bit → Reader
readers_of net b = cond (is_read_by_output net b) Others (reader_among (registers_reading net b))

-- ---- state bits

-- the state bits of a signal: all of a register or a top input
abbrev pub state_bits : SigKind → ℕ → ℕ
state_bits Input w = w
state_bits Register w = w
state_bits Wire w = 0

abbrev pub state_width : Signal → ℕ
state_width s = state_bits s.kind s.width

abbrev pub IsStateBit : List Signal → Bit → Type 0
IsStateBit signals b = b.at < option_map_or (λ (s : Signal). state_width s) (slice_get signals b.sig) 0

-- the signal has a mark
abbrev pub IsMarked : List (Option ℕ) → ℕ → Type 0
IsMarked marks sig = is_some (mark_of marks sig) ≡ true

-- no mark is left out below any cell of the net
abbrev pub ShowsBelow : Net → List (Option ℕ) → List Marks → Type 0
ShowsBelow net marks below = (id : CellId) → id.0 < length net.graph.cells → ShowsMarks net.graph marks below id

-- ---- how the code keeps readers

-- the spans of the signals, and a reader for each state bit
pub record Kept : Type 0 where
  pub spans : List Span
  pub readers : List Reader

-- the place of a bit of a span
abbrev pub place_in : Option Span → ℕ → Option ℕ
place_in None at = None
place_in (Some s) at = cond (nat_lt at s.width) (Some (s.start + at)) None

abbrev pub place_of : List Span → Bit → Option ℕ
place_of spans b = place_in (slice_get spans b.sig) b.at

abbrev pub HasPlace : List Span → Bit → Type 0
HasPlace spans b = is_some (place_of spans b) ≡ true

-- who reads a bit, as it is kept
abbrev pub reader_at : Kept → Bit → Reader
reader_at k b = unwrap_or (option_and_then (slice_get k.readers) (place_of k.spans b)) Nobody

-- the spans follow one another, from one place up to another
abbrev pub AreLaid : ℕ → List Span → ℕ → Type 0
AreLaid start [] end = start ≡ end
AreLaid start (s ∷ ss) end = (s.start ≡ start) × AreLaid (start + s.width) ss end

-- the readers when one more is met
abbrev pub more_readers : Reader → Reader → Reader
more_readers Nobody more = more
more_readers (Alone x) more = Others
more_readers Others more = Others

-- a bit's readers when this one is met at each bit of a list
abbrev pub noted_in : Bit → List Bit → Reader → Reader → Reader
noted_in b [] reader old = old
noted_in b (a ∷ bits) reader old = noted_in b bits reader (cond (bit_eq a b) (more_readers old reader) old)

-- an output reads the bit
abbrev pub output_reads : Cells → Bit → CellId → Bool
output_reads g b o = any_below (λ i. reads [] (tree_of g o) i b) (width (tree_of g o))
