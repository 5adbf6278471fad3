-- FIFOs that were found, as something that guards crossings.
use Rattle.std.specs.Prelude.{◌≡◌, ℕ, Bool, List, map}
use Rattle.std.specs.List.{list_any}
use Rattle.cdc_base.specs.declared.bit.Bit.{Bit}
use Rattle.cell_graph.specs.declared.net.Net.{Net}
use Rattle.domains.specs.declared.Domains.{Domains}
use Rattle.cdc_model.specs.declared.scheme.Crossing.{Crossing}
use Rattle.cdc_model.specs.declared.scheme.GrayReg.{GrayReg}
use Rattle.cdc_model.specs.declared.scheme.Sync.{Sync as SyncEntry}
use Rattle.cdc_model.specs.Design.{Design}
use Rattle.cdc_model.specs.Listed.{sync_entry}
use Rattle.cdc_model.specs.Nets.{design_of, next_tree}
use Rattle.cdc_model.specs.Runs.{State, Trace, Then}
use Rattle.cdc_model.specs.Schemes.{Trees, Sync, Ring}
use Rattle.fifo_laws.specs.Fifos.{Fifo, IsFifo, AreFifos, is_crossing_between, is_fifo_crossing}
use Rattle.fifo_laws.specs.Keeps.{KeepsAll}
use Rattle.fifo_laws.specs.Laws.{AreLists, IsSoundRun}
use Rattle.fifo_laws.specs.Order.{IsWithinDepth, ReadsOldest}
use Rattle.fifo_scheme.specs.declared.found.Fifo.{Fifo as Entry}
use Rattle.fifo_scheme.specs.Entries.{IsEntry}

-- FIFOs of a net over listed synchronizers and Gray registers, and all their crossings.
pub record Found : Type 0 where
  pub net : Net
  pub domains : Domains
  pub syncs : List SyncEntry
  pub grays : List GrayReg
  pub fifos : List Entry
  pub crossings : List Crossing

-- the crossing from b to x is listed
abbrev pub is_listed : List Crossing → Bit → Bit → Bool
is_listed crossings b x = list_any (is_crossing_between b x) crossings

-- FIFOs of whose crossings the list has exactly those
pub record AreThose (d : Design) (net : Net) (syncs : List Sync) (grays : List GrayReg) (crossings : List Crossing) : Type 0 where
  pub fifos : List Fifo
  pub are_fifos : AreFifos d (next_tree net) syncs grays fifos
  pub crossings_are : (b x : Bit) → is_listed crossings b x ≡ is_fifo_crossing fifos b x

-- The FIFOs were found for this design, of the net, and these lists.
pub record IsFoundFor (found : Found) (d : Design) (t : Trees) (syncs : List Sync) (grays : List GrayReg) : Type 0 where
  pub design : design_of found.net found.domains ≡ d
  pub lists : AreLists d (next_tree found.net) t syncs grays
  pub listed : (found.syncs ≡ map sync_entry syncs) × (found.grays ≡ grays)
  pub those : AreThose d found.net syncs grays found.crossings

-- what a state keeps of all FIFOs over these synchronizers
abbrev pub KeepsOver : Found → List Sync → State → Type 0
KeepsOver found syncs s = (fifos : List Fifo) → AreFifos (design_of found.net found.domains) (next_tree found.net) syncs found.grays fifos
    → KeepsAll (design_of found.net found.domains) (next_tree found.net) syncs found.grays fifos s

-- what a state keeps of the FIFOs over the lists
abbrev pub KeepsFound : Found → State → Type 0
KeepsFound found s = (syncs : List Sync) → found.syncs ≡ map sync_entry syncs → KeepsOver found syncs s

-- FIFO order holds of the entry's FIFO in every run in which the carried facts, Calm and Whole hold.
pub record HasOrder (net : Net) (domains : Domains) (syncs : List Sync) (grays : List GrayReg) (rings : List Ring) (e : Entry) : Type 0 where
  pub fifo : Fifo
  pub is_fifo : IsFifo (design_of net domains) (next_tree net) syncs grays fifo
  pub entry : IsEntry net.graph fifo e
  pub within : (run : Trace) → IsSoundRun (design_of net domains) syncs grays rings run → IsWithinDepth fifo run
  pub oldest : (past : Trace) (edges : ℕ → Bool) (new : State) → IsSoundRun (design_of net domains) syncs grays rings (Then past edges new)
      → ReadsOldest (design_of net domains) fifo past edges new
