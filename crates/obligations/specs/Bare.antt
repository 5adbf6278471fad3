-- Crossings that nothing guards, by what they lack.
use Rattle.std.specs.Prelude.{◌≡◌, ◌==◌, ◌<◌, ℕ, Bool, true, List, [], ◌++◌, length, map, filter, Contains, ◌↔◌}
use Rattle.cdc_base.specs.declared.bit.Bit.{Bit}
use Rattle.cell_graph.specs.declared.net.Net.{Net}
use Rattle.cell_graph.specs.Cofactor.{reads}
use Rattle.cofactor.specs.Shown.{Shown}
use Rattle.domains.specs.Nets.{IsNet}
use Rattle.cdc_model.specs.declared.scheme.Cover.{Cover}
use Rattle.cdc_model.specs.declared.scheme.Crossing.{Crossing}
use Rattle.cdc_model.specs.declared.scheme.GrayReg.{GrayReg}
use Rattle.cdc_model.specs.declared.verdict.Finding.{Finding as FindingEntry}
use Rattle.cdc_model.specs.Nets.{HasNextCells, bit_count, next_tree}
use Rattle.cdc_model.specs.Ordered.{IsAll, IsAscending}
use Rattle.cdc_model.specs.Schemes.{Ring}
use Rattle.cdc_model.specs.Tables.{ShowsNet}
use Rattle.cdc_model.specs.Verdict.{Finding, V1, V2, V7, V8, IsCover, cover_key, crossing_key}
use Rattle.obligations.specs.declared.Found.{Found}
use Rattle.obligations.specs.declared.bare.Lack.{Lack}
use Rattle.obligations.specs.declared.bare.Lack.TheVariants.{Flops, Hold, Gate, Scheme}
use Rattle.obligations.specs.declared.bare.Uncovered.{Uncovered}
use Rattle.obligations.specs.Findings.{finding_of, number_of}
use Rattle.obligations.specs.Given.{AreFound, syncs_in}

-- what is found of a crossing that lacks this
abbrev pub finding_by : Crossing → Lack → Finding
finding_by k Flops = V2 k.from k.to
finding_by k (Hold ring) = V7 k.from k.to ring
finding_by k (Gate ring) = V8 k.from k.to ring
finding_by k Scheme = V1 k.from k.to

abbrev pub finding_at : Uncovered → Finding
finding_at u = finding_by u.crossing u.lack

-- uncovered crossings go as crossings do
abbrev pub uncovered_key : Uncovered → List ℕ
uncovered_key u = crossing_key u.crossing

-- All covers of what was found, and the list of the further crossings, in order.
pub record AreHanded (grays : GrayReg → Bool) (rings : List Ring) (is_extra : Bit → Bit → Bool) (found : Found) (covers : List Cover) (extra : List Crossing) : Type 0 where
  pub are_found : AreFound grays rings found
  pub all_covers : IsAll (IsCover found.grays.now (syncs_in found) found.loads.now) cover_key covers
  pub listed : (b x : Bit) → (is_extra b x ≡ true) ↔ Contains extra (record { from = b; to = x })
  pub ordered : IsAscending crossing_key extra

-- the crossing ends in a bit of its signal, which reads the source
abbrev pub ReadsSource : Net → Crossing → Type 0
ReadsSource net k = (k.to.at < bit_count net.graph.signals k.to.sig) × (reads [] (next_tree net k.to.sig) k.to.at k.from ≡ true)

-- What paths of a net are looked for by: its table without a cube, and a word for each of its cells.
pub record CanWalk (net : Net) (plain : Shown) (paths : List ℕ) : Type 0 where
  pub is_net : IsNet net
  pub has_next : HasNextCells net
  pub shown : ShowsNet net [] plain
  pub sized : length paths ≡ length net.graph.cells

-- the findings of uncovered crossings that have the number have been added
abbrev pub AddsCrossings : (number : ℕ) → List Uncovered → List FindingEntry → List FindingEntry → Type 0
AddsCrossings number uncovered old new = (more : List FindingEntry) × (new ≡ old ++ more) × (map finding_of more ≡ filter (λ f. number_of f == number) (map finding_at uncovered))
