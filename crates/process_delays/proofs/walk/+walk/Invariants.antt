use Rattle.std.proofs.Common.{drop, option_map}
use Rattle.process_delays.specs.Paths.{under}
use Rattle.process_delays.proofs.Walks.{RowsSoFar, ArmsSoFar}
use Rattle.process_delays.proofs.walk.+walk.Given as goal

abbrev pub invariant-walk_all-loop-stmt : goal.invariant-walk_all-loop-stmt
invariant-walk_all-loop-stmt l = RowsSoFar l.stmts (drop l.stmt-index l.stmts) (under l.initial.paths) (under l.paths) (option_map (λ n. n.now) l.clash)

abbrev pub invariant-walk_items-loop-item : goal.invariant-walk_items-loop-item
invariant-walk_items-loop-item l = ArmsSoFar (under l.before) l.items (drop l.item-index l.items) (under l.initial.after) (under l.after) (option_map (λ n. n.now) l.clash)
