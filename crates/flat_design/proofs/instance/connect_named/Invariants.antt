use Rattle.std.proofs.Common.{List, [], map, drop}
use Rattle.std.specs.Prelude.{filter_map}
use Rattle.cdc_base.specs.declared.signal.ResetPin.{ResetPin}
use Rattle.verilog_reading.specs.SourceTree.{conn_of, named, ModuleTree}
use Rattle.flat_unfolding.specs.Names.{Look}
use Rattle.flat_unfolding.specs.Declarations.{header_of}
use Rattle.flat_unfolding.specs.Instances.{Joint, named_joint, linked}
use Rattle.flat_unfolding.specs.Formed.{AreConnsFormed}
use Rattle.flat_names.specs.Looks.{Shows, IsFit}
use Rattle.flat_design.specs.Visiting.{ShowsPorts, ShowsResets, AreLinked}
use Rattle.flat_design.proofs.Joints.{SoFar}
use Rattle.flat_design.proofs.instance.connect_named.Given as goal

abbrev pub invariant-loop-conn : goal.invariant-loop-conn
invariant-loop-conn l = (pins : List ResetPin) (k : Look) (m : ModuleTree) → Shows l.look k → ShowsResets pins l.look.entries.now k.entries → IsFit k → ShowsPorts l.ports m
    → AreConnsFormed (named (map conn_of l.conns)) → AreLinked pins k m l.ports [] l.initial.connected
    → SoFar (AreLinked pins k m l.ports) (λ (j : Joint). (linked k m j).broken) (filter_map (named_joint (header_of m)) (map conn_of l.conns)) (filter_map (named_joint (header_of m)) (map conn_of (drop l.conn-index l.conns)))
    l.connected l.initial.faults l.faults
