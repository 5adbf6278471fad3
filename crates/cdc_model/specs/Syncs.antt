-- All synchronizers of a net, as one list.
use Rattle.std.specs.Prelude.{ℕ, zero, suc, Bool, cond, ◌&&◌, nat_lt, Option, Some, None, List, [], ◌∷◌, ◌++◌, length}
use Rattle.std.specs.Option.{option_map_or}
use Rattle.cdc_base.specs.declared.bit.Bit.{Bit}
use Rattle.cell_graph.specs.declared.net.Net.{Net}
use Rattle.cell_graph.specs.Cofactor.{same}
use Rattle.cell_graph.specs.Reading.{bit_eq}
use Rattle.domains.specs.declared.Domains.{Domains}
use Rattle.domains.specs.Assignment.{clock_of}
use Rattle.cdc_model.specs.declared.readers.Reader.{Reader}
use Rattle.cdc_model.specs.declared.readers.Reader.TheVariants.{Nobody, Alone, Others}
use Rattle.cdc_model.specs.declared.scheme.Crossing.{Crossing}
use Rattle.cdc_model.specs.Design.{are_equal, at_bit, settle_of}
use Rattle.cdc_model.specs.Found.{crossings_of}
use Rattle.cdc_model.specs.Nets.{next_tree, design_of}
use Rattle.cdc_model.specs.Readers.{readers_of}
use Rattle.cdc_model.specs.Schemes.{Sync, flops}

-- x is a plain copy of b
abbrev pub copies : Net → Bit → Bit → Bool
copies net x b = at_bit (same [] (next_tree net x.sig) x.at) (λ a. bit_eq a b)

-- both have a clock, and it is one
abbrev pub on_one_clock : Domains → Bit → Bit → Bool
on_one_clock domains a b = are_equal (clock_of domains a) (clock_of domains b)

-- the one reader of a bit, where that is a plain copy on the bit's clock
abbrev pub copy_among : Net → Domains → Bit → Reader → Option Bit
copy_among net domains f Nobody = None
copy_among net domains f (Alone g) = cond (copies net g f && on_one_clock domains g f) (Some g) None
copy_among net domains f Others = None

abbrev pub next_flop : Net → Domains → Bit → Option Bit
next_flop net domains f = copy_among net domains f (readers_of net f)

-- the flops behind a flop, n at most
abbrev pub flops_behind : Net → Domains → ℕ → Bit → List Bit
flops_behind net domains zero f = []
flops_behind net domains (suc n) f = option_map_or (λ (g : Bit). g ∷ flops_behind net domains n g) (next_flop net domains f) []

-- the chain of flops from a crossing on, up to four
abbrev pub sync_of : Net → Domains → Crossing → Sync
sync_of net domains k = record { from = k.from; first = k.to; more = flops_behind net domains 3 k.to }

-- it begins with a plain copy, and has more flops than its clock needs cycles to settle
abbrev pub is_sync : Net → Domains → Crossing → Bool
is_sync net domains k = copies net k.to k.from && nat_lt (settle_of (design_of net domains) k.to) (length (flops (sync_of net domains k)))

abbrev pub syncs_from : Net → Domains → Crossing → List Sync
syncs_from net domains k = cond (is_sync net domains k) (sync_of net domains k ∷ []) []

-- the synchronizers that begin with these crossings
abbrev pub syncs_among : Net → Domains → List Crossing → List Sync
syncs_among net domains [] = []
syncs_among net domains (k ∷ ks) = syncs_from net domains k ++ syncs_among net domains ks

-- all synchronizers, in the order of their crossings
abbrev pub syncs_of : Net → Domains → List Sync
syncs_of net domains = syncs_among net domains (crossings_of net domains)
