use Rattle.std.proofs.Common.{◌≡◌, ◌++◌, map, drop}
use Rattle.verilog_ast.specs.declared.Edge.{Edge}
use Rattle.process_names.proofs.rules.add_edge_names.Given as goal

abbrev pub invariant-loop-edge : goal.invariant-loop-edge
invariant-loop-edge l = map (λ n. n.now) l.initial.names.items ++ map (λ (e : Edge). e.name) l.edges ≡ map (λ n. n.now) l.names.items ++ map (λ (e : Edge). e.name) (drop l.edge-index l.edges)
