use Rattle.std.proofs.Common.{◌≡◌, List, map, None, sym, ap, subst, ◌∙◌}
use Rattle.std.specs.Prelude.{All}
use Rattle.verilog_ast.specs.declared.Label.{Label}
use Rattle.verilog_reading.specs.ExprTree.{tree_of}
use Rattle.verilog_reading.specs.StmtTree.{label_tree_of}
use Rattle.flat_form.specs.View.{expr_of}
use Rattle.flat_unfolding.specs.Expressions.{read}
use Rattle.flat_unfolding.specs.Formed.{IsLabelFormed}
use Rattle.flat_unfolding.specs.Resets.{labels_broken}
use Rattle.flat_unfolding.specs.Statements.{clocked, mask_of}
use Rattle.flat_names.specs.declared.fault.Order.TheVariants as k
use Rattle.flat_names.specs.Noting.{Noted, all_noted}
use Rattle.flat_names.proofs.Notes.{then-noted}
use Rattle.flat_statements.specs.declared.masks.MaskLabel.{MaskLabel}
use Rattle.flat_statements.specs.Masks.{AreMasks, AreRight, IsLargest}
use Rattle.flat_statements.proofs.MetLabels.{rule-noted, ways_in, met_of, all_broken, met-is, unmet-is, first-labels, is-clean, is-broken}
use Rattle.flat_statements.proofs.masks.first_labels_met.Goals as goal

pub returns-then-is_some : goal.returns-then-is_some
returns-then-is_some c = λ l h is e f.
    let xs = c.args.items.now in
    let t = read l (tree_of c.args.subject.now) in
    let s = c.in_ok-subject.ensures l h is e in
    let w = c.in_ok-size.ensures l h is f in
    let fresh : Noted = record { order = k.Other; found = None } in
    let noted = then-noted fresh c.resolve.new.faults c.largest_of_all.new.faults t.broken (labels_broken (ways_in l xs)) (s.1 ∙ ap (λ g. all_noted g t.broken) c.new-faults.ensures) w.1 in
    unmet-is l (tree_of c.args.subject.now) xs _ _ c.in-Some.ensures.cases.0 (is-broken (all_broken l (tree_of c.args.subject.now) xs) (sym (rule-noted (all_broken l (tree_of c.args.subject.now) xs) k.Other c.largest_of_all.new.faults c.rule.result noted c.rule.ensures) ∙ sym c.is_some.ensures ∙ c.if-is_some.true))

pub returns : goal.returns
returns c = λ l h is e f.
    let xs = c.args.items.now in
    let t = read l (tree_of c.args.subject.now) in
    let r = c.in_ok-subject.subject in
    let s = c.in_ok-subject.ensures l h is e in
    let w = c.in_ok-size.ensures l h is f in
    let fresh : Noted = record { order = k.Other; found = None } in
    let noted = then-noted fresh c.resolve.new.faults c.largest_of_all.new.faults t.broken (labels_broken (ways_in l xs)) (s.1 ∙ ap (λ g. all_noted g t.broken) c.new-faults.ensures) w.1 in
    let clean = is-clean (all_broken l (tree_of c.args.subject.now) xs) (sym (rule-noted (all_broken l (tree_of c.args.subject.now) xs) k.Other c.largest_of_all.new.faults c.rule.result noted c.rule.ensures) ∙ sym c.is_some.ensures ∙ c.if-is_some.false) in
    let masks = λ (ls : List Label). map (mask_of l clocked) (map label_tree_of ls) in
    let labels = c.in_ok-labels.ensures l clocked h is (subst (λ (ls : List Label). All IsLabelFormed (map label_tree_of ls)) (sym c.as_slice.ensures) (first-labels xs _ _ c.in-Some.ensures.cases.0 f)) in
    let cs = c.in_ok-labels.labels.items in
    met-is l (tree_of c.args.subject.now) xs _ _ r cs c.in_ok-size.size c.in_ok-met.met.items c.in-Some.ensures.cases.0 clean s.0 (subst (λ n. IsLargest n (ways_in l xs) c.in_ok-size.size) c.width_of.ensures.kept w.0)
    (subst (λ (ls : List Label). AreMasks (masks ls) cs) c.as_slice.ensures labels.0)
    (λ right. subst (λ (ys : List MaskLabel). AreRight c.in_ok-size.size r.expr ys → c.in_ok-met.met.items ≡ met_of c.in_ok-size.size (expr_of r.expr) ys) c.as_slice-2.ensures.value c.in_ok-met.ensures right)
