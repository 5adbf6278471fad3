-- The synchronizers that bring codes to other clocks, by their sources.
use Rattle.std.specs.Prelude.{◌≡◌, ℕ, suc, Bool, cond, Option, Some, None, List, [], ◌∷◌, map, length, slice_get}
use Rattle.std.specs.List.{AllByRecursion}
use Rattle.std.specs.HashMap as hash
use Rattle.std.specs.HashMap.{HashMap}
use Rattle.std.specs.declared.vec.Vec.{Vec}
use Rattle.cdc_base.specs.contracts.bit.BitPartialEq.TheImpl as equality
use Rattle.cdc_base.specs.declared.bit.Bit.{Bit}
use Rattle.cell_graph.specs.declared.net.Net.{Net}
use Rattle.cell_graph.specs.Reading.{bit_eq}
use Rattle.domains.specs.declared.Domains.{Domains}
use Rattle.cdc_model.specs.declared.scheme.Sync.{Sync as SyncEntry}
use Rattle.cdc_model.specs.Design.{are_equal, word}
use Rattle.cdc_model.specs.Listed.{sync_entry}
use Rattle.cdc_model.specs.Nets.{clock_of_bit, design_of}
use Rattle.cdc_model.specs.Schemes.{Sync, flops, last_flop}
use Rattle.fifo_laws.specs.Sides.{StartAtZero, syncs_on}
use Rattle.fifo_parts.specs.declared.brought.Arrival.{Arrival}
use Rattle.fifo_parts.specs.Sides.{AllStartAtZero}

-- the places that are kept, if any are
abbrev pub places_in : {Z : Type 0} → Option (Vec ℕ Z) → List ℕ
places_in None = []
places_in (Some v) = v.items

-- the places at a key
abbrev pub places_at : {S Z : Type 0} → HashMap Bit (Vec ℕ Z) S → Bit → List ℕ
places_at places key = places_in (hash.get equality.ghosts.eq places key)

-- the places of the synchronizers from a bit, counted from n
abbrev pub places_from : Bit → ℕ → List Sync → List ℕ
places_from b n [] = []
places_from b n (s ∷ ss) = cond (bit_eq s.from b) (n ∷ places_from b (suc n) ss) (places_from b (suc n) ss)

-- the places are those of the synchronizers, by their sources
abbrev pub AreSources : {S Z : Type 0} → List Sync → HashMap Bit (Vec ℕ Z) S → Type 0
AreSources syncs places = (b : Bit) → places_at places b ≡ places_from b 0 syncs

-- the synchronizer that is there, in front of others
abbrev pub in_front : Option Sync → List Sync → List Sync
in_front None ss = ss
in_front (Some s) ss = s ∷ ss

-- the synchronizers at these places
abbrev pub at_places : List Sync → List ℕ → List Sync
at_places syncs [] = []
at_places syncs (n ∷ ns) = in_front (slice_get syncs n) (at_places syncs ns)

-- the first flop is on the clock
abbrev pub is_on : Net → Domains → ℕ → Sync → Bool
is_on net domains clock s = are_equal (clock_of_bit net domains s.first) (Some clock)

-- the one that is there, where the test holds of it
abbrev pub tested : (Sync → Bool) → Option Sync → Option Sync
tested test None = None
tested test (Some s) = cond (test s) (Some s) None

-- the list has exactly one synchronizer, with this entry; or it hasn't exactly one
abbrev pub IsOnly : List Sync → Option SyncEntry → Type 0
IsOnly ss None = (y : Sync) → ss ≡ y ∷ [] → ⊥
IsOnly ss (Some e) = (y : Sync) × (ss ≡ y ∷ []) × (e ≡ sync_entry y)

-- the list has one synchronizer whose flops start at 0: its last flop, and how many they are; or it hasn't
abbrev pub IsArrival : Net → List Sync → Option Arrival → Type 0
IsArrival net ss None = (y : Sync) → ss ≡ y ∷ [] → AllStartAtZero net.graph.signals (flops y) → ⊥
IsArrival net ss (Some a) = (y : Sync) × (ss ≡ y ∷ []) × AllStartAtZero net.graph.signals (flops y) × (a.last ≡ last_flop y) × (a.flops ≡ length (flops y))

-- One synchronizer of the list leads from each bit of a code to a clock, they have one number of flops, and these start at 0.
pub record AreBrought (net : Net) (domains : Domains) (syncs : List Sync) (gray clock : ℕ) (over : List Sync) : Type 0 where
  pub over_are : map (syncs_on (design_of net domains) syncs clock) (word (design_of net domains) gray) ≡ map (λ y. y ∷ []) over
  pub one_length : (n : ℕ) × AllByRecursion (λ y. length (flops y) ≡ n) over
  pub start : AllByRecursion (λ y. StartAtZero (design_of net domains) (flops y)) over

-- the bits are the last flops of such synchronizers; or there are none
abbrev pub IsOver : Net → Domains → List Sync → (gray clock : ℕ) → Option (List Bit) → Type 0
IsOver net domains syncs gray clock None = (over : List Sync) → AreBrought net domains syncs gray clock over → ⊥
IsOver net domains syncs gray clock (Some bits) = (over : List Sync) × AreBrought net domains syncs gray clock over × (bits ≡ map last_flop over)
