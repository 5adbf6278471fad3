use Rattle.std.proofs.Common.{◌≡◌, ◌+◌, ◌∷◌, drop, sym, ap, subst, ◌∙◌}
use Rattle.std.proofs.lemmas.List.{drop_more}
use Rattle.verilog_ast.specs.declared.Target.{Target}
use Rattle.verilog_reading.specs.ExprTree.{join_of, target_tree_of}
use Rattle.flat_unfolding.specs.Formed.{IsTargetFormed, AreTargetsFormed}
use Rattle.flat_unfolding.specs.Targets.{aim, aims}
use Rattle.flat_targets.specs.Aims.{use_of, trees_in}
use Rattle.flat_targets.proofs.Aimed.{ok-then}
use Rattle.flat_targets.proofs.AimedParts.{SoFar, so-more}
use Rattle.flat_targets.proofs.AimedWords.{join-tree, join-gives}
use Rattle.flat_targets.proofs.target.+target.Goals as goal

pub fixed_target-returns-in_ok-parts-in-Join : goal.fixed_target-returns-in_ok-parts-in-Join
fixed_target-returns-in_ok-parts-in-Join t c = λ l h is formed.
    let u = use_of c.args.assigned in
    let ts = trees_in c.as_slice.result.now in
    let tree : target_tree_of c.args.target.now ≡ join_of ts = ap target_tree_of c.in-Join.is ∙ join-tree c.in-Join.parts ∙ ap (λ xs. join_of (trees_in xs)) (sym c.as_slice.ensures) in
    let g = c.in_ok-parts-in-Join.ensures l h is (subst IsTargetFormed tree formed).1 in
    ok-then c.joined.result _ _ (λ r k. join-gives l u ts (target_tree_of c.args.target.now) tree c.args.faults.now c.fixed_targets.new.faults c.joined.new.faults c.in_ok-parts-in-Join.parts g r k)
    (c.joined.ensures (aims l u ts) g.are)

pub fixed_targets-loop-target-preserved : goal.fixed_targets-loop-target-preserved
fixed_targets-loop-target-preserved t c = λ l h is formed.
    let u = use_of c.args.assigned in
    let all = c.args.targets.now in
    let i = c.loop-target.target-index in
    let x = c.target-item.result in
    let rest = drop (i + 1) all in
    let next : drop i all ≡ x ∷ rest = drop_more all i x c.loop-target-test.true ∙ ap (λ (z : Target). z ∷ rest) (sym c.target-item.is) in
    let before = subst (λ ts. SoFar l u (trees_in all) (trees_in ts) c.args.faults.now c.loop-target.faults c.loop-target.parts × AreTargetsFormed (trees_in ts)) next (c.loop-target.invariant l h is formed) in
    let part = c.in_ok-part.ensures l h is before.1.0 in (
      so-more l u (trees_in all) (trees_in rest) (target_tree_of x) c.args.faults.now c.loop-target.faults c.fixed_target.new.faults c.loop-target.parts c.add.new.self before.0
          (c.in_ok-add.ensures before.0.done (aim l u (target_tree_of x)) before.0.are part.0) part.1,
      before.1.1,
    )
