use Rattle.std.proofs.Common.{◌≡◌, ◌+◌, List, [], map, drop, sym, ap, subst, ◌∙◌}
use Rattle.std.specs.Prelude.{All}
use Rattle.std.proofs.lemmas.List.{drop_all}
use Rattle.verilog_ast.specs.declared.CaseItem.{CaseItem}
use Rattle.verilog_ast.specs.declared.Label.{Label}
use Rattle.verilog_reading.specs.StmtTree.{arms_of, label_tree_of}
use Rattle.flat_unfolding.specs.Formed.{IsLabelFormed, AreArmsFormed}
use Rattle.flat_unfolding.specs.Statements.{clocked, mask_of, masks_broken}
use Rattle.flat_names.specs.Noting.{all_noted}
use Rattle.flat_statements.specs.Statements.{arm_tree_of}
use Rattle.flat_statements.specs.Masks.{AreMasks, labels_width}
use Rattle.flat_statements.proofs.Lefts.{left-is}
use Rattle.flat_statements.proofs.MetLabels.{SizeSoFar, size-start, size-step, size-end}
use Rattle.flat_statements.proofs.Written.{item-formed}
use Rattle.flat_statements.proofs.masks.largest_of_all.Goals as goal

pub loop-item-init : goal.loop-item-init
loop-item-init c = λ l h is f. size-start l c.args.width c.args.items.now c.args.faults.now f

pub loop-item-preserved : goal.loop-item-preserved
loop-item-preserved c = λ l h is f.
    let xs = c.args.items.now in
    let i = c.loop-item.item-index in
    let x = c.item-item.result in
    let rest = drop (i + 1) xs in
    let before = c.loop-item.invariant l h is f in
    let left = left-is xs i x c.loop-item-test.true c.item-item.is in
    let formed = item-formed x rest (subst (λ (ys : List CaseItem). AreArmsFormed (arms_of (map arm_tree_of ys))) left before.formed) in
    let labels = c.in_ok-labels.ensures l clocked h is (subst (λ (ls : List Label). All IsLabelFormed (map label_tree_of ls)) (sym c.as_slice.ensures) formed.0) in
    let masks = λ (ls : List Label). map (mask_of l clocked) (map label_tree_of ls) in
    size-step l c.args.width xs rest (drop i xs) x c.in_ok-labels.labels.items c.loop-item.size c.largest-size.result c.args.faults.now c.loop-item.faults c.mask_labels.new.faults before left
    (subst (λ (ls : List Label). AreMasks (masks ls) c.in_ok-labels.labels.items) c.as_slice.ensures labels.0)
    (labels.1 ∙ ap (λ (ls : List Label). all_noted c.loop-item.faults (masks_broken (masks ls))) c.as_slice.ensures)
    (c.largest-size.ensures ∙ ap (labels_width c.loop-item.size) c.as_slice-in-loop-item.ensures.value)

pub returns : goal.returns
returns c = λ l h is f.
    let xs = c.args.items.now in
    let i = c.loop-item.item-index in
    let none : drop i xs ≡ [] = drop_all i xs c.loop-item-test.false in
    size-end l c.args.width xs c.loop-item.size c.args.faults.now c.loop-item.faults
    (subst (λ (ys : List CaseItem). SizeSoFar l c.args.width xs ys c.loop-item.size c.args.faults.now c.loop-item.faults) none (c.loop-item.invariant l h is f))
