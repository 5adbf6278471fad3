use Rattle.std.proofs.Common.{◌+◌, List, map, drop, sym, subst}
use Rattle.std.specs.Prelude.{All}
use Rattle.std.proofs.lemmas.List.{drop_all}
use Rattle.std.proofs.lemmas.List.Elements.{All-head}
use Rattle.verilog_ast.specs.declared.Expr.{Expr}
use Rattle.verilog_reading.specs.ExprTree.{tree_of}
use Rattle.flat_form.specs.declared.flat.FExpr.{FExpr}
use Rattle.flat_unfolding.specs.Formed.{IsFormed}
use Rattle.flat_names.proofs.Options.{ok-both}
use Rattle.flat_targets.proofs.Aimed.{ok-then}
use Rattle.flat_statements.proofs.Lefts.{left-is}
use Rattle.flat_process.proofs.Wires.{InputsSoFar, inputs-step, inputs-end}
use Rattle.flat_process.proofs.assign.gate_value.Goals as goal

pub loop-input-preserved : goal.loop-input-preserved
loop-input-preserved c = λ k h fit formed.
    let kind = c.args.kind in
    let all = c.args.inputs.now in
    let i = c.loop-input.input-index in
    let x = c.input-item.result in
    let rest = drop (i + 1) all in
    let so = c.loop-input.invariant k h fit formed in
    let left = left-is all i x c.loop-input-test.true c.input-item.is in
    let one : IsFormed (tree_of x) = All-head IsFormed (tree_of x) (map tree_of rest) (subst (λ (ys : List Expr). All IsFormed (map tree_of ys)) left so.formed) in
    let r = c.in_ok-input.ensures k h fit one in
    subst (λ (xs : List FExpr). InputsSoFar k kind all rest xs c.args.faults.now c.one_bit.new.faults) (sym c.in_ok-push.ensures.pushed)
    (inputs-step k kind all rest (drop i all) x c.loop-input.bits.items c.in_ok-input.input c.args.faults.now c.loop-input.faults c.one_bit.new.faults so left r.0 r.1)

pub returns : goal.returns
returns c = λ l h fit formed.
    let kind = c.args.kind in
    let all = c.args.inputs.now in
    let xs = c.loop-input.bits.items in
    let f = c.args.faults.now in
    let g = c.loop-input.faults in
    let so = subst (λ (ys : List Expr). InputsSoFar l kind all ys xs f g) (drop_all c.loop-input.input-index all c.loop-input-test.false) (c.loop-input.invariant l h fit formed) in
    ok-then c.folded.result _ _ (λ r p. inputs-end l kind all xs f g r so p.0 p.1) (ok-both _ _ c.folded.result c.folded.ensures.value c.folded.ensures.sizes)
