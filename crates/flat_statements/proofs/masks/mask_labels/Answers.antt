use Rattle.std.proofs.Common.{◌≡◌, ◌+◌, List, [], map, drop, sym, subst}
use Rattle.std.specs.Prelude.{All}
use Rattle.std.proofs.lemmas.List.{drop_all}
use Rattle.std.proofs.lemmas.List.Elements.{All-head}
use Rattle.verilog_ast.specs.declared.Label.{Label}
use Rattle.verilog_reading.specs.StmtTree.{label_tree_of}
use Rattle.flat_unfolding.specs.Formed.{IsLabelFormed}
use Rattle.flat_statements.specs.declared.masks.MaskLabel.{MaskLabel}
use Rattle.flat_statements.proofs.Lefts.{left-is}
use Rattle.flat_statements.proofs.Items.{MasksSoFar, masks-step, masks-end}
use Rattle.flat_statements.proofs.masks.mask_labels.Goals as goal

pub loop-label-preserved : goal.loop-label-preserved
loop-label-preserved c = λ l k sh fit f.
    let xs = c.args.labels.now in
    let i = c.loop-label.label-index in
    let x = c.label-item.result in
    let h = c.loop-label.invariant l k sh fit f in
    let left = left-is xs i x c.loop-label-test.true c.label-item.is in
    let formed : IsLabelFormed (label_tree_of x) = All-head IsLabelFormed (label_tree_of x) (map label_tree_of (drop (i + 1) xs)) (subst (λ (ys : List Label). All IsLabelFormed (map label_tree_of ys)) left h.formed) in
    let r = c.in_ok-label.ensures l k sh fit formed in
    subst (λ (ys : List MaskLabel). MasksSoFar l k xs (drop (i + 1) xs) ys c.args.faults.now c.mask_label.new.faults) (sym c.in_ok-push.ensures.pushed)
    (masks-step l k xs (drop (i + 1) xs) (drop i xs) x c.loop-label.all.items c.in_ok-label.label c.args.faults.now c.loop-label.faults c.mask_label.new.faults h left r.0 r.1)

pub returns : goal.returns
returns c = λ l k sh fit f.
    let xs = c.args.labels.now in
    let i = c.loop-label.label-index in
    let none : drop i xs ≡ [] = drop_all i xs c.loop-label-test.false in
    masks-end l k xs c.loop-label.all.items c.args.faults.now c.loop-label.faults
    (subst (λ (ys : List Label). MasksSoFar l k xs ys c.loop-label.all.items c.args.faults.now c.loop-label.faults) none (c.loop-label.invariant l k sh fit f))
