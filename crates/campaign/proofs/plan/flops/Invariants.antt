use Rattle.std.proofs.Common.{◌≡◌, ◌++◌, drop}
use Rattle.cell_graph.specs.Values.{reading_of}
use Rattle.settling_sim.specs.Design.{copied_in}
use Rattle.campaign.specs.Planned.{flops_in}
use Rattle.campaign.proofs.plan.flops.Given as goal

abbrev pub invariant-loop-bit : goal.invariant-loop-bit
invariant-loop-bit l =
    flops_in (copied_in l.design.cells.items l.design.copies) (reading_of l.settling) l.bits
    ≡ l.flops.items ++ flops_in (copied_in l.design.cells.items l.design.copies) (reading_of l.settling) (drop l.bit-index l.bits)
