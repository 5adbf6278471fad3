-- Pairs of synchronizers that may make a ring, and the rings among them.
use Rattle.std.specs.Prelude.{◌≡◌, ◌<◌, ◌&&◌, ℕ, Bool, true, false, not, cond, Option, Some, None, option_map, option_and_then, is_some, List, [], ◌∷◌, ◌++◌, length, ◌≤◌, Contains, slice_get}
use Rattle.std.specs.Option.{option_map_or}
use Rattle.cdc_base.specs.declared.bit.Bit.{Bit}
use Rattle.cell_graph.specs.declared.net.Net.{Net}
use Rattle.cell_graph.specs.Cofactor.{known}
use Rattle.cell_graph.specs.Reading.{Cube, bit_eq}
use Rattle.domains.specs.declared.Domains.{Domains}
use Rattle.domains.specs.Assignment.{group_of}
use Rattle.cdc_model.specs.Design.{are_equal}
use Rattle.cdc_model.specs.Found.{bits_read_by}
use Rattle.cdc_model.specs.Nets.{next_cell, next_tree, bit_count, start_of}
use Rattle.cdc_model.specs.Schemes.{Sync, flops, last_flop, Ring, request, acknowledge}
use Rattle.cdc_model.specs.Verdict.{bit_key}
use Rattle.handshake.specs.declared.candidates.Pair.{Pair}

-- ---- the synchronizers by their last flops

-- the place of a synchronizer that ends with the bit, or none does
abbrev pub IsPlaceAmong : List Sync → ℕ → Bit → Option ℕ → Type 0
IsPlaceAmong ss n b (Some i) = (s : Sync) × (slice_get ss i ≡ Some s) × (last_flop s ≡ b)
IsPlaceAmong ss n b None = (i : ℕ) (s : Sync) → i < n → slice_get ss i ≡ Some s → last_flop s ≡ b → ⊥

abbrev pub IsPlaceOf : List Sync → Bit → Option ℕ → Type 0
IsPlaceOf ss b (Some i) = (s : Sync) × (slice_get ss i ≡ Some s) × (last_flop s ≡ b)
IsPlaceOf ss b None = (i : ℕ) (s : Sync) → slice_get ss i ≡ Some s → last_flop s ≡ b → ⊥

-- no two synchronizers have one last flop
abbrev pub HaveOwnEnds : List Sync → Type 0
HaveOwnEnds ss = (i j : ℕ) (s r : Sync) → slice_get ss i ≡ Some s → slice_get ss j ≡ Some r → last_flop s ≡ last_flop r → i ≡ j

-- each source lies in its signal
abbrev pub AreSourcesWithin : Net → List Sync → Type 0
AreSourcesWithin net ss = (i : ℕ) (s : Sync) → slice_get ss i ≡ Some s → s.from.at < bit_count net.graph.signals s.from.sig

-- no synchronizer has more than four flops
abbrev pub AreShort : List Sync → Type 0
AreShort ss = (i : ℕ) (s : Sync) → slice_get ss i ≡ Some s → length (flops s) ≤ 4

-- ---- pairs

-- a value that is known, and this one
abbrev pub is_value : Option Bool → Bool → Bool
is_value None v = false
is_value (Some true) v = v
is_value (Some false) v = not v

abbrev pub starts_at : Net → Bit → Bool → Bool
starts_at net b v = is_value (start_of net.graph.signals b) v

abbrev pub all_start : Net → List Bit → Bool → Bool
all_start net [] v = true
all_start net (b ∷ bs) v = starts_at net b v && all_start net bs v

-- the bits of a ring have one known start value
abbrev pub start_alike : Net → Ring → Bool
start_alike net r = option_map_or (λ v. (starts_at net (acknowledge r) v && all_start net (flops r.there) v) && all_start net (flops r.back) v) (start_of net.graph.signals (request r)) false

-- request and acknowledgement are bits of registers
abbrev pub are_registers : Net → Ring → Bool
are_registers net r = is_some (next_cell net.regs (request r).sig) && is_some (next_cell net.regs (acknowledge r).sig)

-- the acknowledgement is not the last flop there
abbrev pub are_apart : Ring → Bool
are_apart r = not (bit_eq (acknowledge r) (last_flop r.there))

-- each of the two is in the group that the other's synchronizer enters
abbrev pub are_crossed : Domains → Ring → Bool
are_crossed domains r = are_equal (group_of domains (acknowledge r)) (group_of domains (last_flop r.there)) && are_equal (group_of domains (last_flop r.back)) (group_of domains (request r))

abbrev pub are_closed : Net → Domains → Ring → Bool
are_closed net domains r = (are_registers net r && are_apart r) && are_crossed domains r

-- two synchronizers meet each condition of a ring but those on next values
abbrev pub may_turn : Net → Domains → Ring → Bool
may_turn net domains r = are_closed net domains r && start_alike net r

-- two synchronizers by their places
abbrev pub ring_at : List Sync → ℕ → ℕ → Option Ring
ring_at ss i j = option_and_then (λ (s : Sync). option_map (λ (b : Sync). record { there = s; back = b }) (slice_get ss j)) (slice_get ss i)

abbrev pub pair_there : ℕ → ℕ → Ring → Pair
pair_there i j r = record { request = request r; there = i; acknowledge = acknowledge r; back = j }

abbrev pub pair_of : Net → Domains → List Sync → ℕ → ℕ → Option Pair
pair_of net domains ss i j = option_and_then (λ (r : Ring). cond (may_turn net domains r) (Some (pair_there i j r)) None) (ring_at ss i j)

-- a pair with this synchronizer there, and one back that ends with the bit
abbrev pub IsPairAt : Net → Domains → List Sync → ℕ → Bit → Pair → Type 0
IsPairAt net domains ss there b p = (r : Ring) × (ring_at ss there p.back ≡ Some r) × (last_flop r.back ≡ b) × (may_turn net domains r ≡ true) × (p ≡ pair_there there p.back r)

-- a pair with this synchronizer there, and one back whose last flop the request reads
abbrev pub IsPairFrom : Net → Domains → List Sync → ℕ → Pair → Type 0
IsPairFrom net domains ss there p = (b : Bit) × Contains (bits_read_by net [] p.request) b × IsPairAt net domains ss there b p

-- a pair by its request, its synchronizer there, its acknowledgement and its synchronizer back
abbrev pub pair_key : Pair → List ℕ
pair_key p = bit_key p.request (p.there ∷ bit_key p.acknowledge (p.back ∷ []))

-- ---- rings

-- the next value of a bit is known to be this
abbrev pub is_known : Net → Cube → Bit → Bool → Bool
is_known net cube x v = is_value (known cube (next_tree net x.sig) x.at) v

-- the request stays while the last flop back differs, and the acknowledgement while the last flop there agrees
abbrev pub waits_at : Net → Ring → Bool → Bool
waits_at net r v = is_known net ((request r, v) ∷ (last_flop r.back, not v) ∷ []) (request r) v

abbrev pub answers_at : Net → Ring → Bool → Bool
answers_at net r v = is_known net ((last_flop r.there, v) ∷ (acknowledge r, v) ∷ []) (acknowledge r) v

abbrev pub waits : Net → Ring → Bool
waits net r = waits_at net r false && waits_at net r true

abbrev pub answers : Net → Ring → Bool
answers net r = answers_at net r false && answers_at net r true

abbrev pub turns : Net → Ring → Bool
turns net r = waits net r && answers net r

-- the rings among pairs of synchronizers
abbrev pub ring_from : Net → List Sync → Pair → List Ring
ring_from net ss p = option_map_or (λ (r : Ring). cond (turns net r) (r ∷ []) []) (ring_at ss p.there p.back) []

abbrev pub rings_among : Net → List Sync → List Pair → List Ring
rings_among net ss [] = []
rings_among net ss (p ∷ ps) = ring_from net ss p ++ rings_among net ss ps
