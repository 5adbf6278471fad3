use Rattle.std.proofs.Common.{List, map}
use Rattle.std.specs.Prelude.{Ok, All}
use Rattle.cdc_base.specs.declared.signal.ResetPin.{ResetPin}
use Rattle.verilog_reading.specs.SourceTree.{module_of}
use Rattle.flat_unfolding.specs.Design.{Design}
use Rattle.flat_unfolding.specs.Formed.{IsModuleFormed}
use Rattle.flat_design.specs.Visiting.{Frame, rest_of, IsLibrary, IsVisiting, Goes, ShowsPins}
use Rattle.flat_design.proofs.visit.visit_open.Given as goal

abbrev pub invariant-loop : goal.invariant-loop
invariant-loop l = (pins : List ResetPin) (frames : List Frame) (d : Design) → IsLibrary l.library.modules.now l.library.by_name → ShowsPins l.library.pins pins
    → All IsModuleFormed (map module_of l.library.modules.now)
    → IsVisiting pins l.library.modules.now l.initial.visit.open.items l.initial.visit.is_open.items l.initial.visit.design frames d
    → Goes l.library.wires_only pins l.library.modules.now (rest_of l.library.wires_only (map module_of l.library.modules.now) frames d) (Ok tt) l.visit
