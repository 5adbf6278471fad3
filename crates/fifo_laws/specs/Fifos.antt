-- FIFOs over listed synchronizers and Gray registers.
use Rattle.std.specs.Prelude.{◌≡◌, ◌≢◌, ℕ, zero, suc, ◌≤◌, ◌-◌, ◌^◌, Bool, true, false, ◌&&◌, Some, None, List, [], ◌∷◌, map, length, Contains}
use Rattle.std.specs.List.{list_any}
use Rattle.cdc_base.specs.declared.bit.Bit.{Bit}
use Rattle.cell_graph.specs.Reading.{bit_eq}
use Rattle.cell_graph.specs.Tree.{Tree}
use Rattle.cell_graph.specs.Cofactor.{reads}
use Rattle.cdc_model.specs.declared.scheme.Crossing.{Crossing}
use Rattle.cdc_model.specs.declared.scheme.GrayReg.{GrayReg}
use Rattle.cdc_model.specs.Design.{Design}
use Rattle.cdc_model.specs.Ordered.{IsAll}
use Rattle.cdc_model.specs.Schemes.{Sync, flops}
use Rattle.cdc_model.specs.Verdict.{bit_key, crossing_key}
use Rattle.fifo_laws.specs.Sides.{Side, IsSide, side_width}
use Rattle.fifo_laws.specs.Tests.{HasFullTest, HasEmptyTest}
use Rattle.fifo_laws.specs.Words.{IsWord, Column, IsReadOf}
use Rattle.fifo_laws.specs.Ways.{Marks, Passes, Leads}

-- what is looked for on the ways of a reader
abbrev pub marks_of : Design → (ℕ → Tree) → (write read : Side) → Marks
marks_of d tree write read = record {
  word = IsWord d tree write read;
  read = λ t i. (c : Column) × IsReadOf d tree write read c (Some (t, i));
  test = HasEmptyTest d tree write read;
}

-- A reader: a register bit, no plain copy, that reads a word, and each of whose ways to words passes a guard and below it a read.
pub record IsReader (d : Design) (tree : ℕ → Tree) (write read : Side) (x : Bit) : Type 0 where
  pub register : d.is_register x ≡ true
  pub clock : d.clock x ≡ Some read.clock
  pub own : d.copied x ≡ None
  pub reads : (b : Bit) × IsWord d tree write read b × (reads [] (tree x.sig) x.at b ≡ true)
  pub passes : Passes (marks_of d tree write read) false (tree x.sig) x.at

-- a column that a reader's way passes
abbrev pub IsPassed : Design → (ℕ → Tree) → (write read : Side) → Column → Type 0
IsPassed d tree write read c = (x : Bit) × IsReader d tree write read x × Leads (λ t i. IsReadOf d tree write read c (Some (t, i))) (tree x.sig) x.at

-- A FIFO: its counters and Gray registers, how wide they are, its words, its readers and its crossings.
pub record Fifo : Type 0 where
  pub wb : ℕ
  pub wg : ℕ
  pub rb : ℕ
  pub rg : ℕ
  pub width : ℕ
  pub depth : ℕ
  pub columns : List Column
  pub readers : List Bit
  pub crossings : List Crossing
  -- the words of the flops behind wg and behind rg, those of the first flops first
  pub there : List (List Bit)
  pub back : List (List Bit)

-- the flop at place j of a synchronizer
abbrev pub nth_flop : ℕ → Bit → List Bit → Bit
nth_flop zero f gs = f
nth_flop (suc j) f [] = f
nth_flop (suc j) f (g ∷ gs) = nth_flop j g gs

-- n words of flops, from place j on
abbrev pub flop_words : List Sync → (j n : ℕ) → List (List Bit)
flop_words over j zero = []
flop_words over j (suc n) = map (λ y. nth_flop j y.first y.more) over ∷ flop_words over (suc j) n

-- how many flops the synchronizers have, by the first of them
abbrev pub flop_count : List Sync → ℕ
flop_count [] = 0
flop_count (y ∷ ys) = length (flops y)

abbrev pub all_flops : Side → List (List Bit)
all_flops s = flop_words s.over 0 (flop_count s.over)

-- the order of bits and columns
abbrev pub one_bit_key : Bit → List ℕ
one_bit_key b = bit_key b []

abbrev pub bits_key : List Bit → List ℕ
bits_key [] = []
bits_key (b ∷ bs) = bit_key b (bits_key bs)

abbrev pub column_key : Column → List ℕ
column_key c = bits_key c.words

-- the bit is of one of the columns
abbrev pub IsOfColumns : List Column → Bit → Type 0
IsOfColumns cs b = (c : Column) × Contains cs c × Contains c.words b

-- A crossing from a bit of a column to a reader.
pub record IsFrom (tree : ℕ → Tree) (columns : List Column) (readers : List Bit) (c : Crossing) : Type 0 where
  pub from : IsOfColumns columns c.from
  pub to : Contains readers c.to
  pub reads : reads [] (tree c.to.sig) c.to.at c.from ≡ true

-- A FIFO over listed synchronizers and Gray registers.
pub record IsFifo (d : Design) (tree : ℕ → Tree) (syncs : List Sync) (grays : List GrayReg) (f : Fifo) : Type 0 where
  -- the side that is written and the side that is read
  pub write : Side
  pub read : Side
  pub named : (write.reg.count ≡ f.wb) × (write.reg.gray ≡ f.wg) × (read.reg.count ≡ f.rb) × (read.reg.gray ≡ f.rg)
  pub writes : IsSide d tree syncs grays read.clock write
  pub reads : IsSide d tree syncs grays write.clock read
  -- the clocks are of two groups, and flops settle in one cycle
  pub apart : d.group_of write.clock ≢ d.group_of read.clock
  pub settles : (d.settle write.clock ≡ 1) × (d.settle read.clock ≡ 1)
  -- one width from 2 to 11, and the depth is half the round of a count
  pub wide : (2 ≤ f.width) × (f.width ≤ 11) × (side_width d write ≡ f.width) × (side_width d read ≡ f.width)
  pub deep : f.depth ≡ 2 ^ (f.width - 1)
  -- a push needs a test for full, and a pop one for empty
  pub pushes : HasFullTest d tree write read write.under
  pub pops : HasEmptyTest d tree write read read.under
  -- exactly the readers, at least one, the columns that their ways pass, and the crossings between them
  pub readers : IsAll (IsReader d tree write read) one_bit_key f.readers
  pub reader : f.readers ≢ []
  pub columns : IsAll (IsPassed d tree write read) column_key f.columns
  pub crossings : IsAll (IsFrom tree f.columns f.readers) crossing_key f.crossings
  pub flops : (f.there ≡ all_flops write) × (f.back ≡ all_flops read)

-- each is a FIFO
abbrev pub AreFifos : Design → (ℕ → Tree) → List Sync → List GrayReg → List Fifo → Type 0
AreFifos d tree syncs grays fifos = (f : Fifo) → Contains fifos f → IsFifo d tree syncs grays f

-- the crossing from b to x is one of the FIFOs'
abbrev pub is_crossing_between : Bit → Bit → Crossing → Bool
is_crossing_between b x c = bit_eq c.from b && bit_eq c.to x

abbrev pub is_fifo_crossing : List Fifo → Bit → Bit → Bool
is_fifo_crossing fifos b x = list_any (λ (f : Fifo). list_any (is_crossing_between b x) f.crossings) fifos
