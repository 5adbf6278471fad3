-- The lists of a plan, by tests.
use Rattle.std.specs.Prelude.{ℕ, ◌<◌, Bool, false, cond, Option, List, [], ◌∷◌, ◌++◌}
use Rattle.std.specs.List.{Contains, flat_map, list_any}
use Rattle.cdc_base.specs.declared.bit.Bit.{Bit}
use Rattle.cell_graph.specs.declared.net.Net.{Net}
use Rattle.domains.specs.declared.Domains.{Domains}
use Rattle.domains.specs.Assignment.{clock_of}
use Rattle.cdc_model.specs.declared.scheme.Crossing.{Crossing}
use Rattle.cdc_model.specs.declared.scheme.Sync.{Sync}
use Rattle.cdc_model.specs.Found.{bits_read_by}
use Rattle.cdc_model.specs.Nets.{settle_at}
use Rattle.cdc_model.specs.Schemes.{in_first}
use Rattle.campaign.specs.Plan.{copy_from, is_watched}

-- the bit is one of the first flops of a chain, as many as the chain's clock needs cycles to settle
abbrev pub settles_in : Domains → Bit → List Bit → Bool
settles_in domains x [] = false
settles_in domains x (f ∷ fs) = in_first (settle_at domains (clock_of domains f)) x (f ∷ fs)

-- it is so in one of the synchronizers
abbrev pub is_settling_in : Domains → List Sync → Bit → Bool
is_settling_in domains syncs x = list_any (λ s. settles_in domains x s.flops) syncs

-- each bit has a place in words of so many signals
abbrev pub HavePlaces : ℕ → List Bit → Type 0
HavePlaces n bs = (b : Bit) → Contains bs b → (b.sig < n) × (b.at < 64)

-- the copies among the bits that pass
abbrev pub flops_in : (Bit → Option Bit) → (Bit → Bool) → List Bit → List Crossing
flops_in copied test [] = []
flops_in copied test (x ∷ xs) = cond (test x) (copy_from x (copied x)) [] ++ flops_in copied test xs

-- the pair, if it is watched
abbrev pub pair_if : Bool → Crossing → List Crossing
pair_if watched c = cond watched (c ∷ []) []

-- what is watched of some bits that a bit reads
abbrev pub watched_among : Domains → (Bit → Bool) → Bit → List Bit → List Crossing
watched_among domains settling x bs = flat_map (λ (b : Bit). pair_if (is_watched domains settling (record { from = b; to = x })) (record { from = b; to = x })) bs

-- and of all that it reads
abbrev pub watched_reads : Net → Domains → (Bit → Bool) → Bit → List Crossing
watched_reads net domains settling x = watched_among domains settling x (bits_read_by net [] x)

-- what is watched of what the bits read that don't pass
abbrev pub watched_in : Net → Domains → (Bit → Bool) → List Bit → List Crossing
watched_in net domains settling [] = []
watched_in net domains settling (x ∷ xs) = cond (settling x) [] (watched_reads net domains settling x) ++ watched_in net domains settling xs
