use Rattle.std.proofs.Common.{◌≡◌, ◌≤◌, ◌&&◌, true, None, List, sym, ap, subst, ◌∙◌, arith}
use Rattle.std.proofs.lemmas.Result.{IfOk-weaker}
use Rattle.flat_meaning.specs.Flat.{case_size, largest_label}
use Rattle.flat_meaning.specs.Full.{is_full}
use Rattle.flat_form.specs.declared.flat.FCaseItem.{FCaseItem}
use Rattle.flat_form.specs.View.{expr_of}
use Rattle.flat_form.specs.Sizes.{are_labels_sized}
use Rattle.flat_statements.specs.Statements.{items_in}
use Rattle.flat_statements.proofs.Done.{three-hold, case-small}
use Rattle.flat_statements.proofs.statement.takes_all.Goals as goal

pub returns : goal.returns
returns c = λ s z.
    let e = c.args.subject.now in
    let a = c.args.cases.now in
    let is = a.items.items in
    let js = c.as_slice-items.result.now in
    let same : js ≡ is = c.as_slice-items.ensures.value in
    let held : c.is_plain.result ≡ true = grind (arith, c.if-not-is_plain.false) in
    let plain : (e.is_sound && a.is_sound && a.is_constant) ≡ true = sym c.is_plain.ensures ∙ held in
    let p = three-hold e.is_sound a.is_sound a.is_constant plain in
    let sized = s p.0 in
    let labels = z p.1 in
    let labels_there : are_labels_sized js ≡ true = ap are_labels_sized same ∙ labels in
    let size : c.case_size-size.result ≡ case_size (expr_of e.expr) (items_in js) = c.case_size-size.ensures None sized labels_there in
    let small = case-small e.expr js sized labels_there in
    IfOk-weaker c.is_full.result _ _ (λ x h. h ∙ ap (λ n. is_full n (items_in js)) size ∙ ap (λ (ys : List FCaseItem). is_full (case_size (expr_of e.expr) (items_in ys)) (items_in ys)) same
    ∙ sym (ap (λ b. b && is_full (case_size (expr_of e.expr) (items_in is)) (items_in is)) plain))
    (c.is_full.ensures None labels_there (subst (λ n. largest_label (items_in js) ≤ n) (sym size) small.1) (subst (λ n. n ≤ 64) (sym size) small.0))
