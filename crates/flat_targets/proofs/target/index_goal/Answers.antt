use Rattle.verilog_reading.specs.ExprTree.{tree_of}
use Rattle.flat_unfolding.specs.Expressions.{read}
use Rattle.flat_unfolding.specs.Targets.{name_rules}
use Rattle.flat_targets.specs.Aims.{use_of, chosen}
use Rattle.std.proofs.Common.{◌++◌}
use Rattle.flat_targets.proofs.Aimed.{ok-then, then-noted}
use Rattle.flat_targets.proofs.AimedWords.{after-gives}
use Rattle.flat_targets.proofs.target.index_goal.Goals as goal

pub returns : goal.returns
returns c = λ l h is formed.
    let x = c.args.name.now in
    let u = use_of c.args.assigned in
    let t = read l (tree_of c.args.index.now) in
    let i = c.in_ok-index.ensures l h is formed in
    let f = c.args.faults.now in
    ok-then c.index_aim.result _ _
    (λ r k. after-gives l u (name_rules l u x ++ t.broken) (chosen l u x t) r f c.resolve.new.faults c.index_aim.new.faults
    (then-noted f c.note_kind.new.faults c.resolve.new.faults (name_rules l u x) t.broken (c.in_ok-note_kind.ensures l h) i.1) k)
    (c.index_aim.ensures l t u h is i.0)
