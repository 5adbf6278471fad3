-- What stays in a campaign.
use Rattle.std.specs.Prelude.{ℕ, Bool, not, ◌||◌, Option, Some, None, List, [], ◌∷◌, ◌++◌, map, filter, length}
use Rattle.std.specs.List.Sorted.{IsPermutation, IsSortedByKey}
use Rattle.std.specs.Ordering.{nat_cmp}
use Rattle.std.specs.Cmp.Lexicographic.{slice_cmp}
use Rattle.cdc_base.specs.declared.bit.Bit.{Bit}
use Rattle.cell_graph.specs.declared.net.Net.{Net}
use Rattle.domains.specs.declared.Domains.{Domains}
use Rattle.domains.specs.Assignment.{group_of}
use Rattle.cdc_model.specs.declared.scheme.Crossing.{Crossing}
use Rattle.cdc_model.specs.Design.{Design, differ}
use Rattle.cdc_model.specs.Found.{bits_read_by}
use Rattle.cdc_model.specs.Nets.{bits_of_registers, design_of}
use Rattle.cdc_model.specs.Schemes.{is_settling}
use Rattle.cdc_model.specs.Syncs.{syncs_of}
use Rattle.settling_sim.specs.State.{is_clocked_input}
use Rattle.campaign.specs.Numbers.{numbers_from}
use Rattle.campaign.specs.Names.{name_of}

-- the clocked inputs, by signal
abbrev pub inputs_of : Net → Domains → List ℕ
inputs_of net domains = numbers_from (is_clocked_input net domains) 0 (length net.graph.signals)

-- the clocked inputs in the byte order of their names
pub record AreNamed (net : Net) (domains : Domains) (named : List ℕ) : Type 0 where
  pub same : IsPermutation (inputs_of net domains) named
  pub sorted : IsSortedByKey (name_of net.graph.signals) (slice_cmp nat_cmp) named

-- a settling flop of the design's synchronizers
abbrev pub settles : Net → Domains → Bit → Bool
settles net domains x = is_settling (design_of net domains) (syncs_of net domains) x

-- the bit, and the one that it copies, if it copies one
abbrev pub copy_from : Bit → Option Bit → List Crossing
copy_from x None = []
copy_from x (Some b) = record { from = b; to = x } ∷ []

-- the copies that a design's bits make of others
abbrev pub copies_among : Design → List Bit → List Crossing
copies_among d [] = []
copies_among d (x ∷ xs) = copy_from x (d.copied x) ++ copies_among d xs

-- the settling flops with the bits that they copy, by bit
abbrev pub flops_of : Net → Domains → List Crossing
flops_of net domains = copies_among (design_of net domains) (filter (settles net domains) (bits_of_registers net.graph.signals net.regs))

-- the bits that a bit reads
abbrev pub reads_of : Net → Bit → List Crossing
reads_of net x = map (λ (b : Bit). record { from = b; to = x }) (bits_read_by net [] x)

-- those that each of some bits reads
abbrev pub reads_among : Net → List Bit → List Crossing
reads_among net [] = []
reads_among net (x ∷ xs) = reads_of net x ++ reads_among net xs

-- what the register bits read that are no settling flops, by reader, then by bit
abbrev pub pairs_of : Net → Domains → List Crossing
pairs_of net domains = reads_among net (filter (λ x. not (settles net domains x)) (bits_of_registers net.graph.signals net.regs))

-- the pair is one of two groups, or its source is a settling flop: no other bit is ever loose
abbrev pub is_watched : Domains → (Bit → Bool) → Crossing → Bool
is_watched domains settling c = differ (group_of domains c.from) (group_of domains c.to) || settling c.from

-- those of them that may ever be loose
abbrev pub watched_of : Net → Domains → List Crossing
watched_of net domains = filter (is_watched domains (settles net domains)) (pairs_of net domains)
