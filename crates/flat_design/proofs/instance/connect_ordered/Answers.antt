use Rattle.std.proofs.Common.{◌≡◌, ◌+◌, [], ◌∷◌, Option, map, drop, sym, ap, subst, ◌∙◌}
use Rattle.std.specs.Prelude.{slice_get}
use Rattle.std.proofs.lemmas.List.{drop_more, drop_all}
use Rattle.verilog_ast.specs.declared.Expr.{Expr}
use Rattle.verilog_reading.specs.ExprTree.{tree_of}
use Rattle.verilog_reading.specs.SourceTree.{maybe}
use Rattle.flat_unfolding.specs.Declarations.{header_of}
use Rattle.flat_unfolding.specs.Instances.{Joint, ordered_joints, linked}
use Rattle.flat_unfolding.specs.Formed.{IsFormedIf}
use Rattle.flat_design.specs.Visiting.{joint_if, AreLinked}
use Rattle.flat_design.proofs.Joints.{item-at, ordered-next, SoFar, so-far-more, so-far-all}
use Rattle.flat_design.proofs.instance.connect_ordered.Goals as goal

pub loop-k-preserved : goal.loop-k-preserved
loop-k-preserved c = λ pins l m h resets is shown header formed given.
    let ports = c.args.ports.now in
    let names = header_of m in
    let all = c.args.values.now in
    let k = c.loop-k.k in
    let x = c.index-values-k.result in
    let rest = drop (k + 1) all in
    let joints = λ (i : _) (es : _). ordered_joints (drop i names) (map (maybe tree_of) es) in
    let next : drop k all ≡ x ∷ rest = drop_more all k x c.loop-k-test.true ∙ ap (λ (z : Option Expr). z ∷ rest) (sym c.index-values-k.is) in
    let before = c.loop-k.invariant pins l m h resets is shown header formed given in
    let value = item-at IsFormedIf (maybe tree_of) all k x formed c.loop-k-test.true c.index-values-k.is in
    let one = c.in_ok-connect.ensures pins l m (slice_get names k) before.done h resets is shown (c.port_at-port.ensures m shown header) value before.holds in
    so-far-more (AreLinked pins l m ports) (λ (j : Joint). (linked l m j).broken) (ordered_joints names (map (maybe tree_of) all)) (joints k (drop k all)) (joint_if (slice_get names k) (maybe tree_of x)) (joints (k + 1) rest)
    c.loop-k.connected c.connect.new.connected c.args.faults.now c.loop-k.faults c.connect.new.faults (ap (joints k) next ∙ ordered-next names k (maybe tree_of x) (map (maybe tree_of) rest)) before one.0 one.1

pub returns : goal.returns
returns c = λ pins l m h resets is shown header formed given.
    let ports = c.args.ports.now in
    let names = header_of m in
    let all = c.args.values.now in
    let k = c.loop-k.k in
    let joints = λ (es : _). ordered_joints (drop k names) (map (maybe tree_of) es) in
    let whole = ordered_joints names (map (maybe tree_of) all) in
    let broken = λ (j : Joint). (linked l m j).broken in
    let none : drop k all ≡ [] = drop_all k all c.loop-k-test.false in
    so-far-all (AreLinked pins l m ports) broken whole c.loop-k.connected c.args.faults.now c.loop-k.faults
    (subst (λ es. SoFar (AreLinked pins l m ports) broken whole (joints es) c.loop-k.connected c.args.faults.now c.loop-k.faults) none (c.loop-k.invariant pins l m h resets is shown header formed given))
