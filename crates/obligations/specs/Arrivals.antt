-- Synchronized copies, and the register bits that read several families of them.
use Rattle.std.specs.Prelude.{◌≡◌, ℕ, suc, ◌==◌, Bool, true, not, cond, Option, Some, None, option_and_then, List, [], ◌∷◌, ◌++◌, map, filter, Contains}
use Rattle.std.specs.List.{list_any, flat_map, AllByRecursion}
use Rattle.std.specs.Option.{option_to_list}
use Rattle.cdc_base.specs.declared.bit.Bit.{Bit}
use Rattle.cell_graph.specs.declared.net.Net.{Net}
use Rattle.cell_graph.specs.Cofactor.{same}
use Rattle.cell_graph.specs.Reading.{bit_eq}
use Rattle.domains.specs.declared.Domains.{Domains}
use Rattle.domains.specs.Assignment.{group_of}
use Rattle.cdc_model.specs.declared.scheme.Arrival.{Arrival}
use Rattle.cdc_model.specs.declared.scheme.GrayReg.{GrayReg}
use Rattle.cdc_model.specs.declared.verdict.Finding.{Finding as FindingEntry}
use Rattle.cdc_model.specs.declared.verdict.Finding.TheVariants.{V6}
use Rattle.cdc_model.specs.Design.{Design, group, is_behind}
use Rattle.cdc_model.specs.Nets.{next_tree, is_register_bit}
use Rattle.cdc_model.specs.Ordered.{IsAll}
use Rattle.cdc_model.specs.Readers.{IsMarked}
use Rattle.cdc_model.specs.Schemes.{Sync, Ring}
use Rattle.cdc_model.specs.Syncs.{on_one_clock}
use Rattle.cdc_model.specs.Verdict.{Family as FamilyOf, OfWord, OfBit, family, bit_key, is_code, Finding, V6 as OfReader, IsFinding, finding_key}
use Rattle.obligations.specs.declared.arrivals.Copying.{Copying}
use Rattle.obligations.specs.declared.arrivals.Family.{Family}
use Rattle.obligations.specs.declared.arrivals.Read.{Read}
use Rattle.obligations.specs.declared.arrivals.Source.{Source}
use Rattle.obligations.specs.declared.arrivals.Source.TheVariants as source
use Rattle.obligations.specs.declared.Found.{Found}
use Rattle.obligations.specs.Findings.{finding_of, number_of, IsShownBy}
use Rattle.obligations.specs.Given.{design_in, trees_in, syncs_in}
use Rattle.obligations.specs.Lots.{found_in}

-- ---- plain copies

-- a register bit that plainly copies a bit of its own clock
abbrev pub IsCopying : Net → Domains → Copying → Type 0
IsCopying net domains c = (is_register_bit net c.to ≡ true) × (same [] (next_tree net c.to.sig) c.to.at ≡ Some c.from) × (on_one_clock domains c.to c.from ≡ true)

abbrev pub copying_of : Net → Domains → Bit → Option Copying
copying_of net domains x = option_and_then (λ (b : Bit). cond (on_one_clock domains x b) (Some (record { from = b; to = x })) None) (same [] (next_tree net x.sig) x.at)

-- the plain copies among these register bits
abbrev pub copyings_among : Net → Domains → List Bit → List Copying
copyings_among net domains bits = flat_map (λ x. option_to_list (copying_of net domains x)) bits

-- by the bit that is copied, then by the copy
abbrev pub copying_key : Copying → List ℕ
copying_key c = bit_key c.from (bit_key c.to [])

-- ---- arrivals

-- a bit some flops behind the first flop of a synchronizer, with its source and its depth
abbrev pub IsArrival : Design → List Sync → Arrival → Type 0
IsArrival d syncs a = (s : Sync) × (n : ℕ) × Contains syncs s × (is_behind d s.first n a.bit ≡ true) × (a.source ≡ s.from) × (a.depth ≡ suc n)

abbrev pub arrival_key : Arrival → List ℕ
arrival_key a = bit_key a.bit []

abbrev pub first_arrival : Sync → Arrival
first_arrival s = record { bit = s.first; source = s.from; depth = 1 }

-- the copy of an arrival, and all its copies
abbrev pub copy_of : Arrival → Copying → Arrival
copy_of a c = record { bit = c.to; source = a.source; depth = suc a.depth }

abbrev pub copyings_at : List Copying → Bit → List Copying
copyings_at copyings b = filter (λ (c : Copying). bit_eq c.from b) copyings

abbrev pub copies_of : List Copying → Arrival → List Arrival
copies_of copyings a = map (copy_of a) (copyings_at copyings a.bit)

-- the arrival at the bit, if there is one
abbrev pub IsArrivalAt : List Arrival → Bit → Option Arrival → Type 0
IsArrivalAt arrivals b None = (a : Arrival) → Contains arrivals a → a.bit ≡ b → ⊥
IsArrivalAt arrivals b (Some a) = Contains arrivals a × (a.bit ≡ b)

-- the signal of each arrival has a mark
abbrev pub AreMarked : List Arrival → List (Option ℕ) → Type 0
AreMarked arrivals marks = (a : Arrival) → Contains arrivals a → IsMarked marks a.bit.sig

-- ---- what a register bit reads

abbrev pub of_source : Source → Option ℕ → FamilyOf
of_source (source.Code w) g = OfWord w g
of_source (source.Bit b) g = OfBit b g

abbrev pub family_as : Family → FamilyOf
family_as f = of_source f.source f.entered

-- the family of an arrival, by its source's word or bit and by its own group
abbrev pub family_at : Domains → List GrayReg → Arrival → FamilyOf
family_at domains grays a = cond (is_code grays a.source.sig) (OfWord a.source.sig (group_of domains a.bit)) (OfBit a.source (group_of domains a.bit))

-- an arrival with its family and the group that it came from
abbrev pub IsRead : Design → List GrayReg → List Sync → Read → Type 0
IsRead d grays syncs r = (s : Sync) × (n : ℕ) × Contains syncs s × (is_behind d s.first n r.arrival.bit ≡ true) × (r.arrival.source ≡ s.from) × (r.arrival.depth ≡ suc n)
    × (group d s.from ≡ Some r.group) × (family_as r.family ≡ family d grays s)

abbrev pub by_bit : Bit → List ℕ
by_bit b = bit_key b []

abbrev pub read_key : Read → List ℕ
read_key r = by_bit r.arrival.bit

-- exactly the arrivals at these bits, in order
abbrev pub AreReadsIn : Design → List GrayReg → List Sync → List Bit → List Read → Type 0
AreReadsIn d grays syncs bits reads = IsAll (λ r. IsRead d grays syncs r × Contains bits r.arrival.bit) read_key reads

abbrev pub group_key : Read → List ℕ
group_key r = r.group ∷ []

abbrev pub of_one_group : Read → Read → Bool
of_one_group r q = r.group == q.group

abbrev pub arrival_of : Read → Arrival
arrival_of r = r.arrival

-- several families among a lot that begins with r, by an equality of families
abbrev pub has_several_families : (Family → Family → Bool) → Read → List Read → Bool
has_several_families equal r rs = list_any (λ q. not (equal q.family r.family)) rs

-- what a lot of arrivals that a register bit reads is a finding of
abbrev pub v6_of : (Family → Family → Bool) → Bit → List Read → List FindingEntry
v6_of equal x = found_in (has_several_families equal) (λ r rs. V6 x r.group (map arrival_of rs))

-- ---- findings

-- it is a finding of one of these register bits
abbrev pub IsOfBits : List Bit → Finding → Type 0
IsOfBits bits f = (x : Bit) × (g : ℕ) × Contains bits x × (f ≡ OfReader x g)

module _ (grays : GrayReg → Bool) (rings : List Ring) (is_extra : Bit → Bit → Bool) (found : Found) where
  -- exactly the findings of readers among these register bits, in order, each with its arrivals
  pub record AreReaders (bits : List Bit) (entries : List FindingEntry) : Type 0 where
    pub all : IsAll (λ f. IsFinding (design_in found) (trees_in grays found) found.grays.now (syncs_in found) rings found.loads.now is_extra f × (number_of f ≡ 6) × IsOfBits bits f)
        finding_key (map finding_of entries)
    pub shown : AllByRecursion (IsShownBy (design_in found) (trees_in grays found) (syncs_in found)) entries

  -- and they have been added to the old ones
  abbrev pub AddsReaders : List Bit → List FindingEntry → List FindingEntry → Type 0
  AddsReaders bits old new = (more : List FindingEntry) × (new ≡ old ++ more) × AreReaders bits more
