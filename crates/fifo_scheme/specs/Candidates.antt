-- Sides that may make FIFOs, by their counters and Gray registers, and what comes of them.
use Rattle.std.specs.Prelude.{◌≡◌, ◌⊎◌, ℕ, ◌<◌, ◌==◌, ◌++◌, Bool, cond, option_map, Option, Some, None, option_and_then, List, [], ◌∷◌, slice_get, Contains}
use Rattle.std.specs.List.{list_any}
use Rattle.std.specs.Option.{IsSome}
use Rattle.std.specs.BTreeMap as tree
use Rattle.std.specs.BTreeMap.{BTreeMap}
use Rattle.std.specs.HashMap as hash
use Rattle.cdc_base.specs.contracts.bit.BitPartialEq.TheImpl as equality
use Rattle.cdc_base.specs.declared.bit.Bit.{Bit}
use Rattle.cell_graph.specs.declared.net.Net.{Net}
use Rattle.domains.specs.declared.Domains.{Domains}
use Rattle.domains.specs.Assignment.{clock_of}
use Rattle.cdc_model.specs.declared.scheme.GrayReg.{GrayReg}
use Rattle.cdc_model.specs.declared.scheme.Sync.{Sync as SyncEntry}
use Rattle.cdc_model.specs.Nets.{design_of, next_tree}
use Rattle.cdc_model.specs.Ordered.{IsAscending}
use Rattle.cdc_model.specs.Schemes.{Sync}
use Rattle.fifo_laws.specs.Fifos.{Fifo, IsFifo}
use Rattle.fifo_scheme.specs.contracts.finder.KeyOrd.TheImpl as order
use Rattle.fifo_scheme.specs.declared.finder.Key.{Key}
use Rattle.fifo_scheme.specs.declared.finder.Sides.{Sides}
use Rattle.fifo_scheme.specs.declared.finder.Way.{Way}
use Rattle.fifo_scheme.specs.declared.found.Fifo.{Fifo as Entry}
use Rattle.fifo_scheme.specs.declared.found.FifoPair.{FifoPair}
use Rattle.fifo_scheme.specs.declared.index.Index.{Index}
use Rattle.fifo_parts.specs.declared.reads.Read.{Read}
use Rattle.fifo_parts.specs.declared.side.Side.{Side}
use Rattle.fifo_parts.specs.declared.words.Taking.{Taking}
use Rattle.fifo_scheme.specs.Entries.{IsListedFifo, fifo_key}
use Rattle.fifo_parts.specs.Brought.{places_at}
use Rattle.fifo_parts.specs.Words.{lowest, SaysLowest}
use Rattle.fifo_scheme.specs.Judged.{ArePlaces, IsJudged}
use Rattle.fifo_scheme.specs.Pairs.{StandsFor}

-- ---- whether there is anything to search

-- the word is a listed Gray register
abbrev pub is_code_word : List GrayReg → ℕ → Bool
is_code_word grays sig = list_any (λ (g : GrayReg). g.gray == sig) grays

-- the clocks of a synchronizer's source and of its first flop
abbrev pub way_of : Domains → SyncEntry → Option Way
way_of domains s = option_and_then (λ (x : Bit). option_and_then (λ (from : ℕ). option_map (λ (to : ℕ). record { from = from; to = to }) (clock_of domains x)) (clock_of domains s.from)) (slice_get s.flops 0)

-- what there is, as a list
abbrev pub listed : {A : Type 0} → Option A → List A
listed None = []
listed (Some x) = x ∷ []

-- the ways of the synchronizers from bits of listed Gray registers
abbrev pub ways_of : Domains → List SyncEntry → List GrayReg → List Way
ways_of domains [] grays = []
ways_of domains (s ∷ ss) grays = cond (is_code_word grays s.from.sig) (listed (way_of domains s)) [] ++ ways_of domains ss grays

-- some way leads from the clock
abbrev pub is_left : List Way → ℕ → Bool
is_left ways clock = list_any (λ (w : Way). w.from == clock) ways

-- one of these ways leads to a clock from which one of all ways leads
abbrev pub leads_back : List Way → List Way → Bool
leads_back ways these = list_any (λ (w : Way). is_left ways w.to) these

abbrev pub is_returned : List Way → Bool
is_returned ways = leads_back ways ways

-- ---- keys and places

abbrev pub key_of : Side → Side → Key
key_of write read = record { wb = write.reg.count; wg = write.reg.gray; rb = read.reg.count; rg = read.reg.gray }

-- the places are those of two sides with this key
abbrev pub HasKey : List Side → Key → Sides → Type 0
HasKey sides k p = (write : Side) × (read : Side) × (slice_get sides p.write ≡ Some write) × (slice_get sides p.read ≡ Some read) × (key_of write read ≡ k)

-- the places that are kept at a key
abbrev pub kept : BTreeMap Key Sides → Key → Option Sides
kept m k = tree.get order.ghosts.cmp m k

-- Sides are kept at each key of which P holds, and at no others but those at which some were.
pub record Grows (sides : List Side) (P : Key → Type 0) (old new : BTreeMap Key Sides) : Type 0 where
  pub only : (k : Key) (p : Sides) → kept new k ≡ Some p → (kept old k ≡ Some p) ⊎ (HasKey sides k p × P k)
  pub stays : (k : Key) → IsSome (kept old k) → IsSome (kept new k)
  pub all : (k : Key) → P k → IsSome (kept new k)

-- Sides are kept at exactly the keys of which P holds.
pub record AreAt (sides : List Side) (P : Key → Type 0) (m : BTreeMap Key Sides) : Type 0 where
  pub only : (k : Key) (p : Sides) → kept m k ≡ Some p → HasKey sides k p × P k
  pub all : (k : Key) → P k → IsSome (kept m k)

-- what is kept at a key are the places of two sides with it
abbrev pub AreKept : List Side → BTreeMap Key Sides → Type 0
AreKept sides m = (k : Key) (p : Sides) → kept m k ≡ Some p → HasKey sides k p

-- sides with this key are at these places
abbrev pub IsAt : List Side → (write read : ℕ) → Key → Type 0
IsAt sides write read k = HasKey sides k (record { write = write; read = read })

-- F leads from one of the list to the key
abbrev pub OfOne : {A : Type 0} → (A → Key → Type 0) → List A → Key → Type 0
OfOne {A} F xs k = (x : A) × Contains xs x × F x k

-- ---- which keys there are

-- the places of the sides are looked up by their counters
abbrev pub AreLookedUp : Index → Type 0
AreLookedUp i = (count : ℕ) → ArePlaces (λ (s : Side). s.reg.count ≡ count) i.sides.items (places_at i.sides_by_count (lowest count))

-- what is looked up of what a bit takes
abbrev pub taking_found : Index → Bit → Option Taking
taking_found i b = option_and_then (slice_get i.takings) (hash.get equality.ghosts.eq i.taking_by_bit b)

-- some sides have these counters
abbrev pub AreBy : List Side → (wb rb : ℕ) → Key → Type 0
AreBy sides wb rb k = (write : Side) × (read : Side) × Contains sides write × Contains sides read
    × (write.reg.count ≡ wb) × (read.reg.count ≡ rb) × (key_of write read ≡ k)

-- the terms of a register bit say the lowest bit of the counter
abbrev pub WordSays : Net → Index → Bit → ℕ → Type 0
WordSays net i b wb = (t : Taking) × (taking_found i b ≡ Some t) × SaysLowest net wb t

-- a read by the one counter of words of which the first says the other
abbrev pub IsWordTo : Net → Index → (rb : ℕ) → Bit → Key → Type 0
IsWordTo net i rb b k = (wb : ℕ) × WordSays net i b wb × AreBy i.sides.items wb rb k

abbrev pub IsReadTo : Net → Index → Read → Key → Type 0
IsReadTo net i r k = (word : Bit) × (slice_get r.words 0 ≡ Some word) × IsWordTo net i r.count word k

-- ---- what comes of them

abbrev pub numbers_of : Key → List ℕ
numbers_of k = k.wb ∷ k.wg ∷ k.rb ∷ k.rg ∷ []

-- the sides at two places make this FIFO, or none
abbrev pub IsJudgedAt : Net → Domains → List Sync → List GrayReg → List Side → Sides → Option Entry → Type 0
IsJudgedAt net domains syncs grays sides p found = (write read : Side) → slice_get sides p.write ≡ Some write → slice_get sides p.read ≡ Some read
    → IsJudged net domains syncs grays write read found

-- a FIFO between two Gray registers
abbrev pub IsFifoOf : Net → Domains → List Sync → List GrayReg → (write read : GrayReg) → Type 0
IsFifoOf net domains syncs grays write read = (f : Fifo) × ((is : IsFifo (design_of net domains) (next_tree net) syncs grays f) × (is.write.reg ≡ write) × (is.read.reg ≡ read))

-- The FIFOs that these sides make, in the order of their keys.
pub record AreMade (net : Net) (domains : Domains) (syncs : List Sync) (grays : List GrayReg) (sides : List Side) (entries : List (Key × Sides)) (fifos : List Entry) : Type 0 where
  pub only : (e : Entry) → Contains fifos e → IsListedFifo net domains syncs grays e × ((k : Key) × (p : Sides) × Contains entries (k, p) × (fifo_key e ≡ numbers_of k))
  pub all : (k : Key) (p : Sides) (write read : Side) → Contains entries (k, p) → slice_get sides p.write ≡ Some write → slice_get sides p.read ≡ Some read
      → IsFifoOf net domains syncs grays write.reg read.reg → (e : Entry) × Contains fifos e × (fifo_key e ≡ numbers_of k)
  pub ordered : IsAscending fifo_key fifos

-- ---- pairs that stand for FIFOs

-- some FIFO of the list is one for which the pair stands
abbrev pub IsThere : List Entry → FifoPair → Type 0
IsThere fifos p = (e : Entry) × Contains fifos e × StandsFor p e

-- the place is that of the first pair that stands for none; or each stands for one
abbrev pub IsFirst : List Entry → List FifoPair → Option ℕ → Type 0
IsFirst fifos pairs None = (p : FifoPair) → Contains pairs p → IsThere fifos p
IsFirst fifos pairs (Some n) = (p : FifoPair) × (slice_get pairs n ≡ Some p) × (IsThere fifos p → ⊥)
    × ((i : ℕ) (q : FifoPair) → i < n → slice_get pairs i ≡ Some q → IsThere fifos q)
