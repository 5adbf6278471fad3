use Rattle.std.proofs.Common.{List}
use Rattle.cdc_base.specs.declared.signal.ResetPin.{ResetPin}
use Rattle.verilog_reading.specs.SourceTree.{DeclTree, module_of}
use Rattle.flat_unfolding.specs.Outcome.{then_, each}
use Rattle.flat_unfolding.specs.Declarations.{Site, header_of, declaration, directed, declarations}
use Rattle.flat_unfolding.specs.Design.{Stage, look_of}
use Rattle.flat_unfolding.specs.Formed.{IsDeclFormed, IsModuleFormed}
use Rattle.flat_names.specs.Looks.{IsFit}
use Rattle.flat_names.specs.Designs.{ShowsStage}
use Rattle.flat_declarations.proofs.Ended.{IsWalk}
use Rattle.flat_declarations.proofs.Walks.{sites_left, inner_sites}
use Rattle.flat_declarations.proofs.declare.add_declarations.Given as goal

abbrev pub invariant-loop-port : goal.invariant-loop-port
invariant-loop-port l = (pins : List ResetPin) (s : Stage) → ShowsStage pins l.initial.names l.initial.design s → IsFit (look_of s) → IsModuleFormed (module_of l.module)
    → IsWalk pins (declarations l.prefix (module_of l.module) s) declaration (λ t. each (directed (module_of l.module)) t (header_of (module_of l.module))) (λ (q : Site × DeclTree). IsDeclFormed q.1)
    l.names l.design (sites_left l.prefix l.module l.port-index)

-- from the stage that the first loop reaches
abbrev pub invariant-loop-item : goal.invariant-loop-item
invariant-loop-item l = (pins : List ResetPin) (s : Stage) → ShowsStage pins l.initial.names l.initial.design s → IsFit (look_of s) → IsModuleFormed (module_of l.module)
    → IsWalk pins (then_ (each declaration s (inner_sites l.prefix l.module 0)) (λ t. each (directed (module_of l.module)) t (header_of (module_of l.module)))) declaration
    (λ t. each (directed (module_of l.module)) t (header_of (module_of l.module))) (λ (q : Site × DeclTree). IsDeclFormed q.1) l.names l.design (inner_sites l.prefix l.module l.item-index)
