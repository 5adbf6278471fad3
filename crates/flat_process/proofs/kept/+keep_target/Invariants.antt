use Rattle.std.proofs.Common.{map, drop}
use Rattle.flat_meaning.specs.Flat.{Stmt}
use Rattle.flat_form.specs.View.{target_of, targets_of}
use Rattle.flat_unfolding.specs.Names.{Look, width_at}
use Rattle.flat_unfolding.specs.Processes.{all_kept}
use Rattle.flat_names.specs.Looks.{Shows}
use Rattle.flat_process.specs.Kept.{AreAssigned, Grow}
use Rattle.flat_process.proofs.kept.+keep_target.Given as goal

abbrev pub invariant-keep_targets-loop-target : goal.invariant-keep_targets-loop-target
invariant-keep_targets-loop-target l = (k : Look) (body : Stmt) → Shows l.look k → AreAssigned body l.assigned
    → Grow (all_kept (width_at k.entries) body (targets_of (map target_of (drop l.target-index l.targets)))) (all_kept (width_at k.entries) body (targets_of (map target_of l.targets))) l.initial.rows.items l.rows.items
