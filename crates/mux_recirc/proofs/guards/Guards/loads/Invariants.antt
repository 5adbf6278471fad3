-- The loads of the crossings so far are there, in order.
use Rattle.std.proofs.Common.{List}
use Rattle.cell_graph.specs.declared.net.Net.{Net}
use Rattle.domains.specs.declared.Domains.{Domains}
use Rattle.cdc_model.specs.Schemes.{Ring}
use Rattle.mux_recirc.specs.Given.{AreGuards}
use Rattle.mux_recirc.proofs.AllLoads.{AreLoadsBelow}
use Rattle.mux_recirc.proofs.guards.Guards.loads.Given as goal

abbrev pub invariant-loop-place : goal.invariant-loop-place
invariant-loop-place l = (net : Net) (domains : Domains) (rings : List Ring) → AreGuards net domains l.crossings rings l.self → AreLoadsBelow net domains l.crossings rings l.place l.loads
