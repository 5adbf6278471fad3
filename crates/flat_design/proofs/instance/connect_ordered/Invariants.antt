use Rattle.std.proofs.Common.{◌≡◌, List, [], map, drop}
use Rattle.std.specs.Prelude.{All}
use Rattle.cdc_base.specs.declared.signal.ResetPin.{ResetPin}
use Rattle.verilog_reading.specs.ExprTree.{tree_of}
use Rattle.verilog_reading.specs.SourceTree.{maybe, port_of, ModuleTree}
use Rattle.flat_unfolding.specs.Names.{Look}
use Rattle.flat_unfolding.specs.Declarations.{header_of}
use Rattle.flat_unfolding.specs.Instances.{Joint, ordered_joints, linked}
use Rattle.flat_unfolding.specs.Formed.{IsFormedIf}
use Rattle.flat_names.specs.Looks.{Shows, IsFit}
use Rattle.flat_design.specs.Visiting.{ShowsPorts, ShowsResets, AreLinked}
use Rattle.flat_design.proofs.Joints.{SoFar}
use Rattle.flat_design.proofs.instance.connect_ordered.Given as goal

abbrev pub invariant-loop-k : goal.invariant-loop-k
invariant-loop-k l = (pins : List ResetPin) (k : Look) (m : ModuleTree) → Shows l.look k → ShowsResets pins l.look.entries.now k.entries → IsFit k → ShowsPorts l.ports m → m.ports ≡ map port_of l.header
    → All IsFormedIf (map (maybe tree_of) l.values) → AreLinked pins k m l.ports [] l.initial.connected
    → SoFar (AreLinked pins k m l.ports) (λ (j : Joint). (linked k m j).broken) (ordered_joints (header_of m) (map (maybe tree_of) l.values)) (ordered_joints (drop l.k (header_of m)) (map (maybe tree_of) (drop l.k l.values)))
    l.connected l.initial.faults l.faults
