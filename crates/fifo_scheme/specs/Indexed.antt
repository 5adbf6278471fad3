-- What a search for FIFOs has found in a net before it judges sides.
use Rattle.std.specs.Prelude.{◌≡◌, ◌↔◌, ◌⊎◌, ℕ, Bool, true, is_some, Option, Some, None, List, [], filter, slice_get, Contains}
use Rattle.std.specs.HashMap as hash
use Rattle.std.specs.HashMap.{HashMap}
use Rattle.std.specs.declared.vec.Vec.{Vec}
use Rattle.cdc_base.specs.contracts.bit.BitPartialEq.TheImpl as equality
use Rattle.cdc_base.specs.declared.bit.Bit.{Bit}
use Rattle.cell_graph.specs.declared.net.Net.{Net}
use Rattle.domains.specs.declared.Domains.{Domains}
use Rattle.domains.specs.Assignment.{group_of}
use Rattle.cdc_model.specs.declared.scheme.GrayReg.{GrayReg}
use Rattle.cdc_model.specs.Found.{bits_read_by}
use Rattle.cdc_model.specs.Design.{differ}
use Rattle.cdc_model.specs.Schemes.{Sync}
use Rattle.fifo_terms.specs.Terms as rules
use Rattle.fifo_scheme.specs.declared.index.Index.{Index}
use Rattle.fifo_scheme.specs.declared.index.Reading.{Reading}
use Rattle.fifo_parts.specs.declared.reads.Read.{Read}
use Rattle.fifo_parts.specs.declared.side.Outline.{Outline}
use Rattle.fifo_parts.specs.declared.side.Side.{Side}
use Rattle.fifo_parts.specs.declared.words.Taking.{Taking}
use Rattle.fifo_parts.specs.Brought.{AreSources, places_at}
use Rattle.fifo_parts.specs.Comparisons.{AreComparisons}
use Rattle.fifo_scheme.specs.Judged.{AreReadings, ArePlaces}
use Rattle.fifo_parts.specs.Sides.{IsSomeSide, MakesSide}
use Rattle.fifo_parts.specs.Words.{lowest, SaysLowest, AreReads, AreTakings}

-- the list has the Gray register in one shape alone
abbrev pub HasOneShape : List GrayReg → GrayReg → Type 0
HasOneShape grays reg = (other : GrayReg) → Contains grays other → other.count ≡ reg.count → other.gray ≡ reg.gray → other ≡ reg

-- The sides are some of those that the Gray registers make, and all that are made by one in one shape alone.
pub record AreSides (net : Net) (domains : Domains) (grays : List GrayReg) (sides : List Side) : Type 0 where
  pub only : (s : Side) → Contains sides s → IsSomeSide net domains s × Contains grays s.reg
  pub all : (reg : GrayReg) (o : Outline) (ts : List rules.Term) → Contains grays reg → HasOneShape grays reg → MakesSide net domains reg o ts → (s : Side) × Contains sides s × (s.reg ≡ reg)

-- some side has the counter
abbrev pub IsCounter : List Side → ℕ → Type 0
IsCounter sides count = (s : Side) × Contains sides s × (s.reg.count ≡ count)

-- some side has the counter, of which the terms say the lowest bit
abbrev pub IsFoundFrom : {Z S : Type 0} → Net → HashMap Bit (Vec ℕ Z) S → ℕ → Taking → Type 0
IsFoundFrom net sides count t = (is_some (hash.get equality.ghosts.eq sides (lowest count)) ≡ true) × SaysLowest net count t

-- a place is added at the keys of which Q holds
abbrev pub AddsAt : {Z S : Type 0} → (Bit → Type 0) → ℕ → HashMap Bit (Vec ℕ Z) S → HashMap Bit (Vec ℕ Z) S → Type 0
AddsAt Q place old new = (b : Bit) (n : ℕ) → Contains (places_at new b) n ↔ (Contains (places_at old b) n ⊎ ((n ≡ place) × Q b))

-- the bit is of another group than x
abbrev pub is_apart : Domains → Bit → Bit → Bool
is_apart domains x b = differ (group_of domains b) (group_of domains x)

-- the bits of other groups that a register bit reads
abbrev pub reads_apart : Net → Domains → Bit → List Bit
reads_apart net domains x = filter (is_apart domains x) (bits_read_by net [] x)

-- the register bit with them; or it reads none
abbrev pub IsReading : Net → Domains → Bit → Option Reading → Type 0
IsReading net domains x None = reads_apart net domains x ≡ []
IsReading net domains x (Some r) = (r.bit ≡ x) × (r.reads ≡ reads_apart net domains x)

-- the place is that of what the bit takes; or the list has nothing of it
abbrev pub IsPlaceOf : List Taking → Bit → Option ℕ → Type 0
IsPlaceOf ts b None = (t : Taking) → Contains ts t → t.bit ≡ b → ⊥
IsPlaceOf ts b (Some n) = (t : Taking) × (slice_get ts n ≡ Some t) × (t.bit ≡ b)

-- What was found is so, and the places are those of what is looked up.
pub record IsIndex (net : Net) (domains : Domains) (syncs : List Sync) (grays : List GrayReg) (i : Index) : Type 0 where
  pub sources : AreSources syncs i.sources.places
  pub comparisons : AreComparisons net domains i.comparisons.by_bit i.comparisons.by_clock
  pub sides : AreSides net domains grays i.sides.items
  pub takings : AreTakings net i.takings
  pub reads : AreReads net domains i.reads
  pub readings : AreReadings net domains i.readings
  pub sides_at : (count : ℕ) → ArePlaces (λ (s : Side). s.reg.count ≡ count) i.sides.items (places_at i.sides_by_count (lowest count))
  pub takings_at : (count : ℕ) → IsCounter i.sides.items count → ArePlaces (SaysLowest net count) i.takings (places_at i.takings_by_count (lowest count))
  pub taking_at : (b : Bit) → IsPlaceOf i.takings b (hash.get equality.ghosts.eq i.taking_by_bit b)
  pub reads_at : (count : ℕ) → ArePlaces (λ (r : Read). r.count ≡ count) i.reads (places_at i.reads_by_count (lowest count))
  pub readings_at : (b : Bit) → ArePlaces (λ (r : Reading). Contains r.reads b) i.readings (places_at i.readings_by_word b)
