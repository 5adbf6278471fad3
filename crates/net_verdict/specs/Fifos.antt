-- All FIFOs of a net, the crossings that they guard, and the order in which words go through them.
use Rattle.std.specs.Prelude.{Bool, ℕ, List}
use Rattle.std.specs.List.{list_any}
use Rattle.cdc_base.specs.declared.bit.Bit.{Bit}
use Rattle.cell_graph.specs.declared.net.Net.{Net}
use Rattle.domains.specs.declared.Domains.{Domains}
use Rattle.cdc_model.specs.declared.scheme.GrayReg.{GrayReg}
use Rattle.cdc_model.specs.Nets.{design_of, next_tree}
use Rattle.cdc_model.specs.Ordered.{IsAll}
use Rattle.cdc_model.specs.Runs.{State, Trace, Then, IsRun}
use Rattle.cdc_model.specs.Syncs.{syncs_of}
use Rattle.fifo_laws.specs.Fifos.{Fifo, IsFifo, is_crossing_between}
use Rattle.fifo_laws.specs.Order.{IsWithinDepth, ReadsOldest}
use Rattle.fifo_scheme.specs.declared.found.Fifo.{Fifo as Entry}
use Rattle.fifo_scheme.specs.Entries.{IsEntry, IsListedFifo, fifo_key}

-- these are exactly the FIFOs over all synchronizers of the net and these Gray registers, in order
abbrev pub AreFifosOf : Net → Domains → List GrayReg → List Entry → Type 0
AreFifosOf net domains grays fifos = IsAll (IsListedFifo net domains (syncs_of net domains) grays) fifo_key fifos

-- the crossing from b to x is one of a FIFO's
abbrev pub is_of_fifo : List Entry → Bit → Bit → Bool
is_of_fifo fifos b x = list_any (λ (e : Entry). list_any (is_crossing_between b x) e.crossings) fifos

-- In every run no more is popped from the FIFO than was pushed, no more is pushed than has room, and what its readers take is the oldest word.
pub record IsInOrder (net : Net) (domains : Domains) (grays : List GrayReg) (e : Entry) : Type 0 where
  pub fifo : Fifo
  pub is_fifo : IsFifo (design_of net domains) (next_tree net) (syncs_of net domains) grays fifo
  pub entry : IsEntry net.graph fifo e
  pub within : (run : Trace) → IsRun (design_of net domains) run → IsWithinDepth fifo run
  pub oldest : (past : Trace) (edges : ℕ → Bool) (new : State) → IsRun (design_of net domains) (Then past edges new)
      → ReadsOldest (design_of net domains) fifo past edges new
