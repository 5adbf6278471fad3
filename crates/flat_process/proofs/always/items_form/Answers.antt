use Rattle.std.proofs.Common.{◌≡◌, Bool, length, None, sym, ap, subst, ◌∙◌, rules}
use Rattle.verilog_reading.specs.ExprTree.{tree_of}
use Rattle.verilog_reading.specs.StmtTree.{subject_of, stmt_tree_of}
use Rattle.flat_unfolding.specs.Resets.{form_with, items_form}
use Rattle.flat_unfolding.specs.Statements.{clocked, done}
use Rattle.flat_names.proofs.Options.{ok-map}
use Rattle.flat_process.specs.Processes.{IsFormIf}
use Rattle.flat_process.proofs.Processes.{item_rows, unmasked-form, no-items-form, first-form, first-formed}
use Rattle.flat_process.proofs.always.items_form.Goals as goal

pub returns-then-not-masks : goal.returns-then-not-masks
returns-then-not-masks c = λ l h fit e rows all.
    let t = stmt_tree_of c.args.all.now in
    let e = tree_of c.args.subject.now in
    subst (λ f. IsFormIf l (done l clocked t).broken f None) (sym (ap (λ (m : Bool). items_form l (subject_of m e) (item_rows c.args.items.now) t) c.if-not-masks.true ∙ unmasked-form l e t c.args.items.now)) tt

pub returns-in_default : goal.returns-in_default
returns-in_default c = λ l h fit e rows all.
    let t = stmt_tree_of c.args.all.now in
    let none : length c.args.items.now ≡ 0 = search rules in
    subst (λ f. IsFormIf l (done l clocked t).broken f None) (sym (no-items-form l (tree_of c.args.subject.now) t c.args.masks c.args.items.now none)) tt

pub returns : goal.returns
returns c = λ l h fit e rows all.
    let t = stmt_tree_of c.args.all.now in
    let xs = c.args.items.now in
    let x = c.in-Some.first.now in
    let e' = tree_of c.args.subject.now in
    let is = c.in-Some.ensures.cases.0 in
    let form = ap (λ o. form_with l o (stmt_tree_of x.body) t) (c.in_ok-tested.ensures l h fit e rows) ∙ first-form l e' t x xs _ is ∙ ap (λ (m : Bool). items_form l (subject_of m e') (item_rows xs) t) (sym c.if-not-masks.false) in
    ok-map c.form_with.result (λ o k. subst (λ f. IsFormIf l (done l clocked t).broken f o) form k) (c.form_with.ensures l h fit (first-formed l e' t x xs _ is rows) all)
