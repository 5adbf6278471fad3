-- Pairs of counts that stand for FIFOs.
use Rattle.std.specs.Prelude.{◌≡◌, ◌↔◌, ℕ, ◌<◌, List, [], Some, slice_get, Contains}
use Rattle.cell_graph.specs.declared.net.Net.{Net}
use Rattle.domains.specs.declared.Domains.{Domains}
use Rattle.cdc_model.specs.declared.scheme.Crossing.{Crossing}
use Rattle.cdc_model.specs.declared.scheme.GrayReg.{GrayReg}
use Rattle.cdc_model.specs.Design.{Design}
use Rattle.cdc_model.specs.Ordered.{IsAll}
use Rattle.cdc_model.specs.Schemes.{Trees, Sync}
use Rattle.fifo_scheme.specs.declared.found.Fifo.{Fifo as Entry}
use Rattle.fifo_scheme.specs.declared.found.FifoPair.{FifoPair}
use Rattle.fifo_scheme.specs.declared.found.FifosOf.{FifosOf}
use Rattle.fifo_scheme.specs.declared.found.FifosOf.TheVariants as answer
use Rattle.fifo_scheme.specs.Entries.{IsCrossingOfOne, IsListedFifo, fifo_key}
use Rattle.fifo_scheme.specs.Found.{IsFoundFor}

-- the pair stands for the FIFO
abbrev pub StandsFor : FifoPair → Entry → Type 0
StandsFor p e = (p.wb ≡ e.wb) × (p.rb ≡ e.rb)

-- one of the pairs stands for it
abbrev pub IsStoodFor : List FifoPair → Entry → Type 0
IsStoodFor pairs e = (p : FifoPair) × Contains pairs p × StandsFor p e

-- the pair stands for some FIFO over the lists
abbrev pub StandsForOne : Net → Domains → List Sync → List GrayReg → FifoPair → Type 0
StandsForOne net domains syncs grays p = (e : Entry) × IsListedFifo net domains syncs grays e × StandsFor p e

-- the place is that of the first pair that stands for none
pub record IsFirstMissing (net : Net) (domains : Domains) (syncs : List Sync) (grays : List GrayReg) (pairs : List FifoPair) (place : ℕ) : Type 0 where
  pub pair : FifoPair
  pub at : slice_get pairs place ≡ Some pair
  pub missing : StandsForOne net domains syncs grays pair → ⊥
  pub first : (i : ℕ) (p : FifoPair) → i < place → slice_get pairs i ≡ Some p → StandsForOne net domains syncs grays p

-- the FIFOs of an answer
abbrev pub fifos_in : FifosOf → List Entry
fifos_in (answer.Found fifos) = fifos.fifos
fifos_in (answer.Missing place) = []

-- Each pair stands for some FIFO, and the list has exactly those for which some pair stands.
pub record AreStoodFor (net : Net) (domains : Domains) (syncs : List Sync) (grays : List GrayReg) (pairs : List FifoPair) (fifos : List Entry) : Type 0 where
  pub each : (p : FifoPair) → Contains pairs p → StandsForOne net domains syncs grays p
  pub exactly : IsAll (λ (e : Entry). IsListedFifo net domains syncs grays e × IsStoodFor pairs e) fifo_key fifos

-- the FIFOs for which the pairs stand, or the first pair that stands for none
abbrev pub IsAnswer : Net → Domains → List Sync → List GrayReg → List FifoPair → FifosOf → Type 0
IsAnswer net domains syncs grays pairs (answer.Found fifos) = AreStoodFor net domains syncs grays pairs fifos.fifos
IsAnswer net domains syncs grays pairs (answer.Missing place) = IsFirstMissing net domains syncs grays pairs place

-- FIFOs that are answered fit the design and the lists
abbrev pub DoesFit : FifosOf → Design → Trees → List Sync → List GrayReg → Type 0
DoesFit (answer.Found fifos) d t syncs grays = IsFoundFor fifos d t syncs grays
DoesFit (answer.Missing place) d t syncs grays = Unit {0}

-- FIFOs that are answered guard exactly their own crossings
abbrev pub GuardsThose : FifosOf → Type 0
GuardsThose (answer.Found fifos) = (c : Crossing) → Contains fifos.crossings c ↔ IsCrossingOfOne fifos.fifos c
GuardsThose (answer.Missing place) = Unit {0}
