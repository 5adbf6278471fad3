-- What leads from a register to the counters whose code it may hold.
use Rattle.std.specs.Prelude.{◌≡◌, ℕ, ◌≤◌, ◌<◌, ◌^◌, Option, Some, None, List, Contains, slice_get}
use Rattle.std.specs.HashMap as hash
use Rattle.std.specs.HashMap.{HashMap}
use Rattle.std.specs.declared.vec.Vec.{Vec}
use Rattle.cell_graph.specs.declared.cell.CellId.{CellId}
use Rattle.cell_graph.specs.Cells.{Cells}
use Rattle.cell_graph.specs.Origin.{TreeBit}
use Rattle.cdc_model.specs.declared.scheme.Shape.{Shape}
use Rattle.cdc_model.specs.Word.{IsCount, IsGrayWord}
use Rattle.gray_pointer.specs.contracts.candidates.KeyPartialEq.TheImpl as equality
use Rattle.gray_pointer.specs.declared.candidates.Form.{Form}
use Rattle.gray_pointer.specs.declared.candidates.Form.TheVariants as form
use Rattle.gray_pointer.specs.declared.candidates.Key.{Key}
use Rattle.gray_pointer.specs.declared.register.Register.{Register}
use Rattle.gray_pointer.specs.declared.word.Choice.{Choice}
use Rattle.gray_pointer.specs.Grays.{Follows}
use Rattle.gray_pointer.specs.Shapes.{IsRegisterIn}
use Rattle.gray_pointer.specs.Taken.{IsChange}
use Rattle.gray_pointer.specs.Words.{word_of, IsChoice}

-- registers of the graph, of 2 bits or more, that start with words of 64 bits
abbrev pub AreRegistersIn : Cells → List Register → Type 0
AreRegistersIn g rs = (r : Register) → Contains rs r → IsRegisterIn g r × (2 ≤ r.width) × (r.start < 2 ^ 64)

-- the word of the cell is the Gray code of a count word
abbrev pub IsCodeOf : Cells → ℕ → ℕ → CellId → Type 0
IsCodeOf g sig w x = (n : List TreeBit) × IsCount sig w n × IsGrayWord (word_of g x w) n

-- the register never changes
abbrev pub IsIdle : Cells → Register → Type 0
IsIdle g r = (x : CellId) → IsChange g r (Some x) → ⊥

-- the outermost form of the register's next value
abbrev pub HasForm : Cells → Register → Form → Type 0
HasForm g r form.Own = IsChoice g r.next r.width None
HasForm g r (form.Choice cond) = (b : Choice) × IsChoice g r.next r.width (Some b) × (b.cond ≡ cond)

-- The key of an idle register, as a counter that starts with the word or as one that holds the code of such a counter.
pub record IsKey (g : Cells) (r : Register) (word : ℕ) (key : Key) : Type 0 where
  pub clock : key.clock ≡ r.clock
  pub width : key.width ≡ r.width
  pub start : key.start ≡ word
  pub form : HasForm g r key.form

-- the place is one of these
abbrev pub IsAmong : {Z : Type 0} → Option (Vec ℕ Z) → ℕ → Type 0
IsAmong None place = ⊥
IsAmong (Some places) place = Contains places.items place

-- the place stands at the register's key
abbrev pub IsPlaced : {S Z : Type 0} → Cells → Register → HashMap Key (Vec ℕ Z) S → ℕ → Type 0
IsPlaced g r idle place = (key : Key) × IsKey g r r.start key × IsAmong (hash.get equality.ghosts.eq idle key) place

-- so does that of each idle register
abbrev pub HasIdle : {S Z : Type 0} → Cells → List Register → HashMap Key (Vec ℕ Z) S → Type 0
HasIdle g rs idle = (place : ℕ) (r : Register) → slice_get rs place ≡ Some r → IsIdle g r → IsPlaced g r idle place

-- the place of each counter whose code the register holds is among these
abbrev pub HasCounters : Cells → List Register → Register → List ℕ → Type 0
HasCounters g rs gray places = (place : ℕ) (count : Register) (s : Shape) → slice_get rs place ≡ Some count → Follows g count gray s → Contains places place
