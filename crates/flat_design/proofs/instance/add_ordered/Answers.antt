use Rattle.std.proofs.Common.{◌≡◌, ◌+◌, ◌∷◌, Option, map, drop, sym, ap, subst, ◌∙◌}
use Rattle.std.specs.Prelude.{slice_get, option_copied}
use Rattle.std.proofs.lemmas.List.{drop_more}
use Rattle.verilog_ast.specs.declared.Expr.{Expr}
use Rattle.verilog_reading.specs.ExprTree.{tree_of}
use Rattle.verilog_reading.specs.SourceTree.{maybe}
use Rattle.flat_unfolding.specs.Expressions.{as_constant, read}
use Rattle.flat_unfolding.specs.Instances.{Joint, ordered_joints}
use Rattle.flat_unfolding.specs.Formed.{IsFormedIf}
use Rattle.flat_design.specs.Visiting.{joint_if, AreOverridden}
use Rattle.flat_design.proofs.Joints.{item-at, ordered-next, so-far-more}
use Rattle.flat_design.proofs.Overrides.{IsGiven}
use Rattle.flat_design.proofs.Places.{copied-at}
use Rattle.flat_design.proofs.instance.add_ordered.Goals as goal

pub loop-k-preserved : goal.loop-k-preserved
loop-k-preserved c = λ l h is formed given.
    let names = c.args.names.now in
    let all = c.args.values.now in
    let k = c.loop-k.k in
    let x = c.index-values-k.result in
    let rest = drop (k + 1) all in
    let joints = λ (i : _) (es : _). ordered_joints (drop i names) (map (maybe tree_of) es) in
    let next : drop k all ≡ x ∷ rest = drop_more all k x c.loop-k-test.true ∙ ap (λ (z : Option Expr). z ∷ rest) (sym c.index-values-k.is) in
    let before = c.loop-k.invariant l h is formed given in
    let value = item-at IsFormedIf (maybe tree_of) all k x formed c.loop-k-test.true c.index-values-k.is in
    let named : option_copied c.get.result ≡ slice_get names k = let found = c.get.ensures.lookup in copied-at names k c.get.result found.0 found.1 in
    let one = subst (λ o. IsGiven l before.done c.add_override.new.overridden c.loop-k.faults c.add_override.new.faults o (maybe tree_of x)) named (c.in_ok-add_override.ensures l before.done h is value before.holds) in
    so-far-more (AreOverridden l) (λ (j : Joint). (as_constant (read l j.value)).broken) (ordered_joints names (map (maybe tree_of) all)) (joints k (drop k all)) (joint_if (slice_get names k) (maybe tree_of x)) (joints (k + 1) rest) c.loop-k.overridden
    c.add_override.new.overridden c.args.faults.now c.loop-k.faults c.add_override.new.faults (ap (joints k) next ∙ ordered-next names k (maybe tree_of x) (map (maybe tree_of) rest)) before one.0 one.1
