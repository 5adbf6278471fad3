-- Two sides that a search judges, and what it finds of the FIFO that they may make.
use Rattle.std.specs.Prelude.{◌≡◌, ◌≢◌, ◌↔◌, ℕ, ◌<◌, ◌≤◌, Bool, true, cond, Option, Some, None, option_map, List, [], ◌∷◌, ◌++◌, map, filter, slice_get, Contains}
use Rattle.std.specs.HashMap as hash
use Rattle.std.specs.HashMap.{HashMap}
use Rattle.std.specs.declared.vec.Vec.{Vec}
use Rattle.cdc_base.specs.declared.bit.Bit.{Bit}
use Rattle.cell_graph.specs.declared.cell.Node.{Node}
use Rattle.cell_graph.specs.declared.net.Net.{Net}
use Rattle.cell_graph.specs.Unfolded.{IsNodeOf, bit_of}
use Rattle.cofactor.specs.Shown.{Shown as Rows}
use Rattle.domains.specs.declared.Domains.{Domains}
use Rattle.cdc_model.specs.declared.scheme.Crossing.{Crossing}
use Rattle.cdc_model.specs.declared.scheme.GrayReg.{GrayReg}
use Rattle.cdc_model.specs.Design.{Design}
use Rattle.cdc_model.specs.Nets.{design_of, is_register_bit, next_node_of, next_tree}
use Rattle.cdc_model.specs.Ordered.{IsAll}
use Rattle.cdc_model.specs.Schemes.{Sync}
use Rattle.cell_graph.specs.Origin.{TreeBit}
use Rattle.cell_graph.specs.Tree.{Tree}
use Rattle.fifo_terms.specs.Takes.{taken}
use Rattle.gray_pointer.specs.Words.{IsIn}
use Rattle.fifo_laws.specs.Fifos.{IsReader, IsPassed, column_key}
use Rattle.fifo_laws.specs.Sides.{Side, IsSide, side_width}
use Rattle.fifo_laws.specs.Tests.{HasFullTest, HasEmptyTest}
use Rattle.fifo_laws.specs.Words.{IsWord, IsWordBit, IsColumn, IsReadOf, Column}
use Rattle.fifo_nodes.specs.declared.shows.Apart.{Apart}
use Rattle.fifo_ways.specs.Marked.{same_bit, same_node}
use Rattle.fifo_scheme.specs.declared.found.Column.{Column as ColumnEntry}
use Rattle.fifo_scheme.specs.declared.index.Index.{Index}
use Rattle.fifo_scheme.specs.declared.index.Reading.{Reading}
use Rattle.fifo_scheme.specs.declared.judge.FoundRead.{FoundRead}
use Rattle.fifo_scheme.specs.declared.judge.Numbered.{Numbered}
use Rattle.fifo_scheme.specs.declared.judge.Reads.{Reads}
use Rattle.fifo_parts.specs.declared.pair.Pair.{Pair}
use Rattle.fifo_parts.specs.declared.pair.Teller.{Teller}
use Rattle.fifo_parts.specs.declared.reads.Read.{Read}
use Rattle.fifo_parts.specs.declared.side.Side.{Side as SideEntry}
use Rattle.fifo_parts.specs.declared.words.Taking.{Taking}
use Rattle.fifo_parts.specs.Brought.{AreBrought}
use Rattle.fifo_scheme.specs.Entries.{column_of}
use Rattle.fifo_scheme.specs.Indexed.{IsIndex, IsCounter}
use Rattle.fifo_parts.specs.Tellers.{IsPair, IsShown, IsSideOf, IsTeller}
use Rattle.fifo_parts.specs.Words.{IsTaking, IsWordOf}

-- ---- two sides

-- Two sides over the lists that fit each other: all that a FIFO asks of its sides.
pub record IsMatch (d : Design) (tree : ℕ → Tree) (syncs : List Sync) (grays : List GrayReg) (write read : Side) : Type 0 where
  pub writes : IsSide d tree syncs grays read.clock write
  pub reads : IsSide d tree syncs grays write.clock read
  pub apart : d.group_of write.clock ≢ d.group_of read.clock
  pub settles : (d.settle write.clock ≡ 1) × (d.settle read.clock ≡ 1)
  pub wide : (2 ≤ side_width d write) × (side_width d write ≤ 11) × (side_width d read ≡ side_width d write)
  pub pushes : HasFullTest d tree write read write.under
  pub pops : HasEmptyTest d tree write read read.under

-- the pair is that of sides with these Gray registers; or no two such fit each other
abbrev pub IsPaired : Net → Domains → List Sync → List GrayReg → (write read : GrayReg) → Option Pair → Type 0
IsPaired net domains syncs grays write read None = (w r : Side) → w.reg ≡ write → r.reg ≡ read → IsMatch (design_of net domains) (next_tree net) syncs grays w r → ⊥
IsPaired net domains syncs grays write read (Some p) =
    (w r : Side) × (w.reg ≡ write) × (r.reg ≡ read) × IsMatch (design_of net domains) (next_tree net) syncs grays w r × IsPair net domains p w r

-- What is told of the near side, where the far side's code comes over.
pub record IsTold (net : Net) (domains : Domains) (syncs : List Sync) (near far : SideEntry) (apart : Apart) (t : Teller) : Type 0 where
  pub over : List Sync
  pub brought : AreBrought net domains syncs far.reg.gray near.clock over
  pub given : (t.side.now ≡ near) × (t.apart ≡ apart)
  pub tells : (n f : Side) → IsSideOf net domains near n → f.over ≡ over → IsTeller net domains t n f

-- it is told, or the far side's code doesn't come over
abbrev pub MayTell : Net → Domains → List Sync → (near far : SideEntry) → Apart → Option Teller → Type 0
MayTell net domains syncs near far apart None = (over : List Sync) → AreBrought net domains syncs far.reg.gray near.clock over → ⊥
MayTell net domains syncs near far apart (Some t) = IsTold net domains syncs near far apart t

-- What a search has found, and two sides of two groups with what they tell, of which the one that writes is among those found.
pub record IsMet (net : Net) (domains : Domains) (table : Rows) (syncs : List Sync) (grays : List GrayReg) (i : Index) (p : Pair) (write read : Side) : Type 0 where
  pub shown : IsShown net table
  pub index : IsIndex net domains syncs grays i
  pub pair : IsPair net domains p write read
  pub apart : (design_of net domains).group_of write.clock ≢ (design_of net domains).group_of read.clock
  pub listed : IsCounter i.sides.items write.reg.count

-- P holds of the sides of the pair
abbrev pub ForMet : Net → Domains → Rows → Index → Pair → (Side → Side → Type 0) → Type 0
ForMet net domains table i p P = (syncs : List Sync) (grays : List GrayReg) (write read : Side) → IsMet net domains table syncs grays i p write read → P write read

-- ---- what is gathered

-- the one thing of which P holds; or it holds of none
abbrev pub IsOne : {A : Type 0} → (A → Type 0) → Option A → Type 0
IsOne {A} P None = (x : A) → P x → ⊥
IsOne {A} P (Some x) = P x × ((y : A) → P y → y ≡ x)

-- exactly the things to which one of these leads
abbrev pub AreGathered : {A B : Type 0} → (A → B → Type 0) → List A → List B → Type 0
AreGathered {A} {B} F xs ys = (y : B) → Contains ys y ↔ ((x : A) × Contains xs x × F x y)

-- ---- words and reads

-- exactly the word bits
abbrev pub AreWords : Net → Domains → (write read : Side) → List Bit → Type 0
AreWords net domains write read words = (b : Bit) → Contains words b ↔ IsWord (design_of net domains) (next_tree net) write read b

-- each bit that is there is a word bit for its number
abbrev pub AreNumbers : {S : Type 0} → Net → Domains → (write read : Side) → HashMap Bit ℕ S → Type 0
AreNumbers net domains write read numbers = (b : Bit) (n : ℕ) → hash.get same_bit numbers b ≡ Some n
    → (value : TreeBit) × IsWordBit (design_of net domains) (next_tree net) write read n value b

-- what was told of the last register bit is so
abbrev pub IsLast : Net → Domains → (write read : Side) → Option Numbered → Type 0
IsLast net domains write read None = Unit {0}
IsLast net domains write read (Some k) = IsTaking net k.taking.now × IsWordOf net domains write read k.taking.now k.number

-- the word bit at a place of what register bits take
abbrev pub IsWordAt : Net → Domains → Index → (write read : Side) → ℕ → Bit → Type 0
IsWordAt net domains i write read n b = (t : Taking) × (slice_get i.takings n ≡ Some t) × (b ≡ t.bit) × IsWord (design_of net domains) (next_tree net) write read t.bit

-- the node that a register bit takes, if it is there; or the bit is no register's
abbrev pub IsTakenBy : Net → Bit → Option (Option Node) → Type 0
IsTakenBy net b None = is_register_bit net b ≡ true → ⊥
IsTakenBy net b (Some value) = ((taken b (next_tree net b.sig) b.at).node ≡ option_map (bit_of net.graph) value) × IsIn net.graph value

-- words with the node that they take, if it is there
abbrev pub column : Net → List Bit → Option Node → Column
column net words value = column_of net.graph (record { words = words; value = value })

-- the words are those of a column with this value; or of none
abbrev pub IsValue : Net → Domains → (write read : Side) → List Bit → Option (Option Node) → Type 0
IsValue net domains write read words None = (c : Column) → c.words ≡ words → IsColumn (design_of net domains) (next_tree net) write read c → ⊥
IsValue net domains write read words (Some value) = IsColumn (design_of net domains) (next_tree net) write read (column net words value) × IsIn net.graph value

-- the node reads some column
abbrev pub IsReadNode : Net → Domains → (write read : Side) → Node → Type 0
IsReadNode net domains write read n = (c : Column) × IsReadOf (design_of net domains) (next_tree net) write read c (Some (bit_of net.graph n))

-- What is kept of a read: its place among the reads, and the node that its words take.
pub record IsKept (net : Net) (domains : Domains) (i : Index) (write read : Side) (n : Node) (kept : Option (ℕ × Option Node)) : Type 0 where
  pub place : ℕ
  pub value : Option Node
  pub is : kept ≡ Some (place, value)
  pub entry : Read
  pub there : slice_get i.reads place ≡ Some entry
  pub reads : IsReadOf (design_of net domains) (next_tree net) write read (column net entry.words value) (Some (bit_of net.graph n))
  pub within : IsIn net.graph value

-- the read at a place is one of a column; or its words are those of none
abbrev pub IsFoundRead : Net → Domains → Index → (write read : Side) → ℕ → Option FoundRead → Type 0
IsFoundRead net domains i write read place None = (r : Read) (c : Column) → slice_get i.reads place ≡ Some r → c.words ≡ r.words → IsColumn (design_of net domains) (next_tree net) write read c → ⊥
IsFoundRead net domains i write read place (Some f) = IsNodeOf net.graph f.node × IsKept net domains i write read f.node (Some (place, f.value))
    × ((r : Read) → slice_get i.reads place ≡ Some r → r.node ≡ f.node)

-- Exactly the nodes that read columns, with what is kept of each.
pub record AreReadsOf (net : Net) (domains : Domains) (i : Index) (write read : Side) (reads : Reads) : Type 0 where
  pub nodes : (n : Node) → Contains reads.nodes n → IsNodeOf net.graph n
  pub kept : (n : Node) → Contains reads.nodes n → IsKept net domains i write read n (hash.get same_node reads.columns n)
  pub all : (n : Node) → IsNodeOf net.graph n → IsReadNode net domains write read n → Contains reads.nodes n

-- ---- readers

-- The bit is a register's on the clock, and no plain copy.
pub record IsOwnOn (net : Net) (domains : Domains) (on : ℕ) (x : Bit) : Type 0 where
  pub clock : (design_of net domains).clock x ≡ Some on
  pub own : (design_of net domains).copied x ≡ None

-- the places ascend
abbrev pub ArePlacesInOrder : List ℕ → Type 0
ArePlacesInOrder places = (i j m n : ℕ) → i < j → slice_get places i ≡ Some m → slice_get places j ≡ Some n → m < n

-- The places ascend, and are those of the register bits of which P holds.
pub record ArePlacesOf (i : Index) (P : Reading → Type 0) (places : List ℕ) : Type 0 where
  pub ascend : ArePlacesInOrder places
  pub only : (n : ℕ) → Contains places n → (r : Reading) × (slice_get i.readings n ≡ Some r) × P r
  pub all : (n : ℕ) (r : Reading) → slice_get i.readings n ≡ Some r → P r → Contains places n

-- a bit on a clock, and no plain copy, at a place
abbrev pub IsOwnAt : Net → Domains → Index → ℕ → ℕ → Type 0
IsOwnAt net domains i clock n = (r : Reading) × (slice_get i.readings n ≡ Some r) × IsOwnOn net domains clock r.bit

-- such a bit that reads a word
abbrev pub ReadsAt : Net → Domains → Index → ℕ → Bit → ℕ → Type 0
ReadsAt net domains i clock word n = (r : Reading) × (slice_get i.readings n ≡ Some r) × Contains r.reads word × IsOwnOn net domains clock r.bit

-- a bit on a clock which isn't a plain copy and reads one of the words
abbrev pub MayRead : Net → Domains → ℕ → List Bit → Reading → Type 0
MayRead net domains clock words r = IsOwnOn net domains clock r.bit × ((b : Bit) × Contains words b × Contains r.reads b)

abbrev pub AreReadersAt : Net → Domains → Index → (write read : Side) → List ℕ → Type 0
AreReadersAt net domains i write read places = ArePlacesOf i (λ r. IsReader (design_of net domains) (next_tree net) write read r.bit) places

-- the bits at places
abbrev pub bit_there : Option Reading → List Bit → List Bit
bit_there None bs = bs
bit_there (Some r) bs = r.bit ∷ bs

abbrev pub bits_at : List Reading → List ℕ → List Bit
bits_at rs [] = []
bits_at rs (n ∷ ns) = bit_there (slice_get rs n) (bits_at rs ns)

-- the nodes of the next values of bits
abbrev pub node_there : Option Node → List Node → List Node
node_there None ns = ns
node_there (Some n) ns = n ∷ ns

abbrev pub roots_at : Net → List Bit → List Node
roots_at net [] = []
roots_at net (b ∷ bs) = node_there (next_node_of net b) (roots_at net bs)

-- those of the places that have the answer true
abbrev pub kept_by : List ℕ → List Bool → List ℕ
kept_by [] answers = []
kept_by (n ∷ ns) [] = []
kept_by (n ∷ ns) (b ∷ bs) = cond b (n ∷ kept_by ns bs) (kept_by ns bs)

-- ---- columns and crossings

-- the column of an entry by its words
abbrev pub entry_column : {Z : Type 0} → Vec Bit Z × Option Node → ColumnEntry
entry_column e = record { words = e.0.items; value = e.1 }

-- the column of what is kept of a read
abbrev pub with_words : Option Node → Option Read → Option ColumnEntry
with_words value None = None
with_words value (Some r) = Some (record { words = r.words; value = value })

abbrev pub kept_column : Index → Option (ℕ × Option Node) → Option ColumnEntry
kept_column i None = None
kept_column i (Some k) = with_words k.1 (slice_get i.reads k.0)

-- the column of a node
abbrev pub column_at : Index → Reads → Node → Option ColumnEntry
column_at i reads n = kept_column i (hash.get same_node reads.columns n)

-- one value for one list of words
abbrev pub HaveOneValue : Index → Reads → List Node → Type 0
HaveOneValue i reads ns = (n m : Node) (c e : ColumnEntry) → Contains ns n → Contains ns m → column_at i reads n ≡ Some c → column_at i reads m ≡ Some e → c.words ≡ e.words → c.value ≡ e.value

-- Exactly the columns that the readers' ways pass.
pub record ArePassed (net : Net) (domains : Domains) (write read : Side) (listed : List ColumnEntry) : Type 0 where
  pub columns : IsAll (IsPassed (design_of net domains) (next_tree net) write read) column_key (map (column_of net.graph) listed)
  pub each : (c : ColumnEntry) → Contains listed c → IsColumn (design_of net domains) (next_tree net) write read (column_of net.graph c) × IsIn net.graph c.value

-- the bit is of one of the columns
abbrev pub IsOfEntries : List ColumnEntry → Bit → Type 0
IsOfEntries columns b = (c : ColumnEntry) × Contains columns c × Contains c.words b

-- the crossings into a register bit from the bits that pass a test
abbrev pub crossings_into : (Bit → Bool) → Reading → List Crossing
crossings_into test r = map (λ (b : Bit). record { from = b; to = r.bit }) (filter test r.reads)

abbrev pub crossings_there : (Bit → Bool) → Option Reading → List Crossing
crossings_there test None = []
crossings_there test (Some r) = crossings_into test r

abbrev pub crossings_at : (Bit → Bool) → List Reading → List ℕ → List Crossing
crossings_at test rs [] = []
crossings_at test rs (n ∷ ns) = crossings_there test (slice_get rs n) ++ crossings_at test rs ns
