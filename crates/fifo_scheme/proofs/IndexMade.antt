-- What an index looks up, by what its parts found.
use Rattle.std.proofs.Common.{◌≡◌, ℕ, List}
use Rattle.std.specs.HashMap.{HashMap}
use Rattle.std.specs.declared.vec.Vec.{Vec}
use Rattle.cdc_base.specs.declared.bit.Bit.{Bit}
use Rattle.cell_graph.specs.declared.net.Net.{Net}
use Rattle.fifo_parts.specs.declared.side.Side.{Side}
use Rattle.fifo_parts.specs.declared.words.Taking.{Taking}
use Rattle.fifo_parts.specs.Brought.{places_at}
use Rattle.fifo_parts.specs.Words.{SaysLowest, lowest}
use Rattle.fifo_scheme.specs.Indexed.{IsCounter, IsFoundFrom}
use Rattle.fifo_scheme.specs.Judged.{ArePlaces}
use Rattle.fifo_scheme.proofs.IndexPlaces.{counter_there, places_iff}

module _ {Z S : Type 0} (net : Net) (sides : List Side) (by : HashMap Bit (Vec ℕ Z) S) (ts : List Taking)
    (at : (count : ℕ) → ArePlaces (λ (s : Side). s.reg.count ≡ count) sides (places_at by (lowest count))) where
  pub said_at : (count : ℕ) → IsCounter sides count → (places : List ℕ) → ArePlaces (IsFoundFrom net by count) ts places
      → ArePlaces (SaysLowest net count) ts places
  said_at count counter places h = places_iff (IsFoundFrom net by count) (SaysLowest net count) ts places
      (λ t. ((λ k. k.1), λ k. (counter_there sides by count (at count) counter, k))) h
