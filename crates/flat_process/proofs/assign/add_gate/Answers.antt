use Rattle.std.proofs.Common.{◌≡◌, ◌++◌, ◌∷◌, List, length, map, sym, ap, subst, ◌∙◌}
use Rattle.std.specs.Prelude.{All, flat_map}
use Rattle.std.proofs.lemmas.List.{length-map}
use Rattle.std.proofs.lemmas.List.Elements.{All-head, All-tail}
use Rattle.verilog_ast.specs.declared.Expr.{Expr}
use Rattle.verilog_reading.specs.ExprTree.{tree_of}
use Rattle.flat_unfolding.specs.Outcome.{by_number}
use Rattle.flat_unfolding.specs.Expressions.{read}
use Rattle.flat_unfolding.specs.Targets.{driven}
use Rattle.flat_unfolding.specs.Wires.{count_rule, output_rule, input_rules, gate_value, gate_item}
use Rattle.flat_unfolding.specs.Design.{look_of, assigned}
use Rattle.flat_unfolding.specs.Formed.{IsFormed}
use Rattle.flat_names.specs.Noting.{all_noted}
use Rattle.flat_names.specs.Designs.{ShowsNames, Meets}
use Rattle.flat_process.specs.Assigns.{fresh}
use Rattle.flat_process.proofs.Ended.{look-shown, stage-ends}
use Rattle.flat_process.proofs.Wires.{made-behind}
use Rattle.flat_process.proofs.assign.add_gate.Goals as goal

pub returns-clause-meets : goal.returns-clause-meets
returns-clause-meets c = λ pins s sh fit formed.
    let kind = c.args.kind in
    let names = c.args.names.now in
    let l = look_of s in
    let x = c.in-Some.output.now in
    let rest = c.in-Some.inputs.now in
    let split : c.args.terminals.now ≡ x ∷ rest = c.in-Some.ensures.cases.0 in
    let each = subst (λ (ys : List Expr). All IsFormed (map tree_of ys)) split formed in
    let a = driven l (tree_of x) in
    let value = gate_value kind (map (read l) (map tree_of rest)) in
    let cs = count_rule kind (length (tree_of x ∷ map tree_of rest)) in
    let os = output_rule kind a.bits in
    let bs = flat_map (input_rules kind) (map (read l) (map tree_of rest)) in
    let all = cs ++ a.broken ++ os ++ bs in
    let shows = look-shown pins c.look-look.result c.args.design.now s (subst (λ t. ShowsNames t s.names) (sym c.look-look.ensures.names) sh.names) sh.design c.look-look.ensures.entries c.look-look.ensures.active in
    let is = c.in_ok-assign.ensures l shows fit (All-head IsFormed (tree_of x) (map tree_of rest) each) (All-tail IsFormed (tree_of x) (map tree_of rest) each) in
    let counted : c.note_count.new.faults ≡ all_noted fresh cs = c.in_ok-note_count.ensures ∙ ap (λ n. all_noted n (count_rule kind (length c.args.terminals.now))) c.new-faults.ensures
    ∙ ap (λ n. all_noted fresh (count_rule kind n)) (sym (length-map c.args.terminals.now tree_of) ∙ ap (λ (ys : List Expr). length (map tree_of ys)) split) in
    let made = made-behind a.target value cs a.broken os bs c.in_ok-assign.assign fresh c.note_count.new.faults c.gate.new.faults counted is.1 is.0 in
    subst (λ (ys : List Expr). Meets pins names (gate_item s c.args.place kind (map tree_of ys)) c.keep_assign.result c.keep_assign.new.design) (sym split)
    (stage-ends pins names c.keep_assign.new.design s by_number c.args.place all (assigned s.design a.target value) c.keep_assign.result sh.names
    (c.keep_assign.ensures.kept pins s.design a.target value all sh.design made.1 made.0))
