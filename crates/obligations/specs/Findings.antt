-- Findings as the code lists them.
use Rattle.std.specs.Prelude.{◌≡◌, ℕ, Bool, List, ◌++◌, map}
use Rattle.std.specs.List.{AllByRecursion}
use Rattle.cdc_base.specs.declared.bit.Bit.{Bit}
use Rattle.cell_graph.specs.declared.net.Net.{Net}
use Rattle.cdc_model.specs.declared.scheme.GrayReg.{GrayReg}
use Rattle.cdc_model.specs.declared.scheme.Load.{Load}
use Rattle.cdc_model.specs.declared.verdict.Finding.{Finding as FindingEntry}
use Rattle.cdc_model.specs.declared.verdict.Finding.TheVariants as entry
use Rattle.cdc_model.specs.Design.{Design}
use Rattle.cdc_model.specs.Listed.{IsPathOf}
use Rattle.cdc_model.specs.Ordered.{IsAll}
use Rattle.cdc_model.specs.Schemes.{Trees, Sync, Ring}
use Rattle.cdc_model.specs.Verdict.{Finding, V1, V2, V3, V4, V5, V6, V7, V8, IsFinding, finding_key, flops_listed, AreArrivalsListed}
use Rattle.obligations.specs.declared.Found.{Found}
use Rattle.obligations.specs.Given.{design_in, trees_in, syncs_in}

-- what an entry is a finding of, without its path, flops or arrivals
abbrev pub finding_of : FindingEntry → Finding
finding_of (entry.V1 b x path) = V1 b x
finding_of (entry.V2 b x path) = V2 b x
finding_of (entry.V3 w g flops) = V3 w g
finding_of (entry.V4 b g flops) = V4 b g
finding_of (entry.V5 w g flops) = V5 w g
finding_of (entry.V6 x g arrivals) = V6 x g
finding_of (entry.V7 b x n path) = V7 b x n
finding_of (entry.V8 b x n path) = V8 b x n

-- the V number
abbrev pub number_of : Finding → ℕ
number_of (V1 b x) = 1
number_of (V2 b x) = 2
number_of (V3 w g) = 3
number_of (V4 b g) = 4
number_of (V5 w g) = 5
number_of (V6 x g) = 6
number_of (V7 b x n) = 7
number_of (V8 b x n) = 8

-- a crossing's entry has the crossing's path
abbrev pub HasPath : Net → FindingEntry → Type 0
HasPath net (entry.V1 b x path) = IsPathOf net b x path
HasPath net (entry.V2 b x path) = IsPathOf net b x path
HasPath net (entry.V3 w g flops) = Unit {0}
HasPath net (entry.V4 b g flops) = Unit {0}
HasPath net (entry.V5 w g flops) = Unit {0}
HasPath net (entry.V6 x g arrivals) = Unit {0}
HasPath net (entry.V7 b x n path) = IsPathOf net b x path
HasPath net (entry.V8 b x n path) = IsPathOf net b x path

abbrev pub HavePaths : Net → List FindingEntry → Type 0
HavePaths net = AllByRecursion (HasPath net)

-- an entry of another kind lists exactly the first flops or arrivals that its finding names
abbrev pub IsShownBy : Design → Trees → List Sync → FindingEntry → Type 0
IsShownBy d t syncs (entry.V1 b x path) = Unit {0}
IsShownBy d t syncs (entry.V2 b x path) = Unit {0}
IsShownBy d t syncs (entry.V3 w g flops) = flops ≡ flops_listed d syncs (V3 w g)
IsShownBy d t syncs (entry.V4 b g flops) = flops ≡ flops_listed d syncs (V4 b g)
IsShownBy d t syncs (entry.V5 w g flops) = flops ≡ flops_listed d syncs (V5 w g)
IsShownBy d t syncs (entry.V6 x g arrivals) = AreArrivalsListed d t syncs x g arrivals
IsShownBy d t syncs (entry.V7 b x n path) = Unit {0}
IsShownBy d t syncs (entry.V8 b x n path) = Unit {0}

module _ (d : Design) (t : Trees) (grays : List GrayReg) (syncs : List Sync) (rings : List Ring) (loads : List Load) (is_extra : Bit → Bit → Bool) where
  -- these are exactly the findings with that number, in order, each with what shows it
  pub record AreNumbered (number : ℕ) (entries : List FindingEntry) : Type 0 where
    pub all : IsAll (λ f. IsFinding d t grays syncs rings loads is_extra f × (number_of f ≡ number)) finding_key (map finding_of entries)
    pub shown : AllByRecursion (IsShownBy d t syncs) entries

  -- all findings, in order, each with what shows it
  pub record AreFindings (entries : List FindingEntry) : Type 0 where
    pub all : IsAll (IsFinding d t grays syncs rings loads is_extra) finding_key (map finding_of entries)
    pub shown : AllByRecursion (IsShownBy d t syncs) entries

  -- those with the number have been added to the old ones
  abbrev pub AreAdded : ℕ → List FindingEntry → List FindingEntry → Type 0
  AreAdded number old new = (more : List FindingEntry) × (new ≡ old ++ more) × AreNumbered number more

-- of what was found in a design: what is a finding, that those with a number have been added, and that these are all
abbrev pub IsFindingIn : (grays : GrayReg → Bool) → List Ring → (is_extra : Bit → Bit → Bool) → Found → Finding → Type 0
IsFindingIn grays rings is_extra found = IsFinding (design_in found) (trees_in grays found) found.grays.now (syncs_in found) rings found.loads.now is_extra

abbrev pub AddsFindings : (grays : GrayReg → Bool) → List Ring → (is_extra : Bit → Bit → Bool) → Found → (number : ℕ) → List FindingEntry → List FindingEntry → Type 0
AddsFindings grays rings is_extra found = AreAdded (design_in found) (trees_in grays found) found.grays.now (syncs_in found) rings found.loads.now is_extra

abbrev pub AreFindingsIn : (grays : GrayReg → Bool) → List Ring → (is_extra : Bit → Bit → Bool) → Found → List FindingEntry → Type 0
AreFindingsIn grays rings is_extra found = AreFindings (design_in found) (trees_in grays found) found.grays.now (syncs_in found) rings found.loads.now is_extra
