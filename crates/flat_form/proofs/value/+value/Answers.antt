use Rattle.std.proofs.Common.{rules, ◌≡◌, ℕ, ◌+◌, ◌*◌, ◌%◌, ◌^◌, ◌≤◌, true, false, not, List, ◌∷◌, drop, length, subst, sym, ap, ap₂, ◌∙◌, arith, eq-eqb, ne_eqb}
use Rattle.std.specs.Prelude.{bit_or}
use Rattle.std.proofs.lemmas.List.{drop_more, drop_all}
use Rattle.flat_meaning.specs.Flat.{size}
use Rattle.cell_graph.specs.Tree.{number}
use Rattle.flat_meaning.specs.Meaning.{value, unary_at, left_at, right_at}
use Rattle.flat_meaning.specs.Full.{nothing}
use Rattle.flat_meaning.proofs.Words.{never_same}
use Rattle.flat_form.specs.declared.flat.FExpr.{FExpr}
use Rattle.flat_form.specs.View.{expr_of, unary_of, binary_of}
use Rattle.flat_form.specs.Sizes.{kept_of}
use Rattle.flat_form.proofs.Constants.{Joins, joins-none, joins-all, joins-step, parts_width, own, Folded, GateGives, JoinGives, OnceGives, gate-none, gate-first, gate-step, gate-all, head-sized, none-left}
use Rattle.flat_form.proofs.ConstantForms.{Values, number-form, read-form, at-form, unary-form, binary-form, choose-form, gate-form, join-form, repeat-form}
use Rattle.flat_form.proofs.value.+value.Goals as goal

abbrev width : FExpr → ℕ
width x = (kept_of x).width

pub value_at-returns-in-Number : goal.value_at-returns-in-Number
value_at-returns-in-Number t c = subst (λ (x : FExpr). Values x c.args.size c.in-Number.value) (sym c.in-Number.is) (number-form c.in-Number.value c.in-Number.width c.args.size)

pub value_at-returns-in-Read : goal.value_at-returns-in-Read
value_at-returns-in-Read t c = subst (λ (x : FExpr). Values x c.args.size 0) (sym c.in-Read.is) (read-form c.in-Read.sig c.in-Read.at c.in-Read.width c.args.size)

pub value_at-returns-in-At : goal.value_at-returns-in-At
value_at-returns-in-At t c = subst (λ (x : FExpr). Values x c.args.size 0) (sym c.in-At.is) (at-form c.in-At.sig c.in-At.index c.in-At.width c.args.size)

pub value_at-returns-in-Unary : goal.value_at-returns-in-Unary
value_at-returns-in-Unary t c = subst (λ (x : FExpr). Values x c.args.size c.unary_value.result) (sym c.in-Unary.is)
    (unary-form c.in-Unary.op c.in-Unary.a c.in-Unary.width c.args.size c.operand_size-at.result c.unary_value.result c.value_at.result
    (subst (λ (x : FExpr). Values x c.operand_size-at.result c.value_at.result) c.deref-in-Unary.ensures c.value_at.ensures)
    (c.operand_size-at.ensures ∙ ap (unary_at (unary_of c.in-Unary.op) c.args.size) (c.width_of.ensures.kept ∙ ap width c.deref.ensures)) c.unary_value.ensures)

pub value_at-returns-in-Binary : goal.value_at-returns-in-Binary
value_at-returns-in-Binary t c =
    let o = binary_of c.in-Binary.op in
    let left = c.left_size-left.result in
    let right = c.right_size-right.result in
    subst (λ (x : FExpr). Values x c.args.size c.binary_value.result) (sym c.in-Binary.is)
    (binary-form c.in-Binary.op c.in-Binary.a c.in-Binary.b c.in-Binary.width c.args.size left right c.binary_value.result c.value_at-in-Binary.result c.value_at-in-Binary-2.result
    (subst (λ (x : FExpr). Values x left c.value_at-in-Binary.result) c.deref-in-Binary-5.ensures c.value_at-in-Binary.ensures)
    (subst (λ (x : FExpr). Values x right c.value_at-in-Binary-2.result) c.deref-in-Binary-6.ensures c.value_at-in-Binary-2.ensures)
    (c.left_size-left.ensures ∙ ap₂ (left_at o c.args.size) (c.width_of-in-Binary.ensures.kept ∙ ap width c.deref-in-Binary.ensures) (c.width_of-in-Binary-2.ensures.kept ∙ ap width c.deref-in-Binary-2.ensures))
    (c.right_size-right.ensures ∙ ap₂ (right_at o c.args.size) (c.width_of-in-Binary-3.ensures.kept ∙ ap width c.deref-in-Binary-3.ensures) (c.width_of-in-Binary-4.ensures.kept ∙ ap width c.deref-in-Binary-4.ensures))
    c.binary_value.ensures)

pub value_at-returns-then-value_at-ne0 : goal.value_at-returns-then-value_at-ne0
value_at-returns-then-value_at-ne0 t c =
    let i = c.in-Choose in
    let r = c.value_at-then-value_at-ne0.result in
    let rc = c.value_at-in-Choose.result in
    let wc = c.width_of-in-Choose.result in
    subst (λ (x : FExpr). Values x c.args.size r) (sym i.is)
    (choose-form true i.cond i.yes i.other i.width c.args.size wc r rc (c.width_of-in-Choose.ensures.kept ∙ ap width c.deref-in-Choose-2.ensures)
    (subst (λ (x : FExpr). Values x wc rc) c.deref-in-Choose.ensures c.value_at-in-Choose.ensures) (ap not (ne_eqb rc 0 c.if-value_at-ne0.true))
    (λ h. subst (λ (x : FExpr). Values x c.args.size r) c.deref-then-value_at-ne0.ensures c.value_at-then-value_at-ne0.ensures) (λ h. never_same h))

pub value_at-returns-else-value_at-ne0 : goal.value_at-returns-else-value_at-ne0
value_at-returns-else-value_at-ne0 t c =
    let i = c.in-Choose in
    let r = c.value_at-else-value_at-ne0.result in
    let rc = c.value_at-in-Choose.result in
    let wc = c.width_of-in-Choose.result in
    subst (λ (x : FExpr). Values x c.args.size r) (sym i.is)
    (choose-form false i.cond i.yes i.other i.width c.args.size wc r rc (c.width_of-in-Choose.ensures.kept ∙ ap width c.deref-in-Choose-2.ensures)
    (subst (λ (x : FExpr). Values x wc rc) c.deref-in-Choose.ensures c.value_at-in-Choose.ensures) (ap not (eq-eqb rc 0 c.if-value_at-ne0.false))
    (λ h. never_same (sym h)) (λ h. subst (λ (x : FExpr). Values x c.args.size r) c.deref-else-value_at-ne0.ensures c.value_at-else-value_at-ne0.ensures))

pub value_at-returns-in-Gate : goal.value_at-returns-in-Gate
value_at-returns-in-Gate t c = subst (λ (x : FExpr). Values x c.args.size c.gate_value.result) (sym c.in-Gate.is)
    (gate-form c.in-Gate.op c.in-Gate.inputs c.args.size c.gate_value.result
    (subst (λ (es : List FExpr). GateGives (binary_of c.in-Gate.op) es c.args.size c.gate_value.result) c.as_slice.ensures c.gate_value.ensures))

pub value_at-returns-in-Join : goal.value_at-returns-in-Join
value_at-returns-in-Join t c = subst (λ (x : FExpr). Values x c.args.size c.joined_value.result) (sym c.in-Join.is)
    (join-form c.in-Join.parts c.in-Join.width c.args.size c.joined_value.result (subst (λ (es : List FExpr). JoinGives es c.joined_value.result) c.as_slice-in-Join.ensures c.joined_value.ensures))

pub value_at-returns-in-Repeat : goal.value_at-returns-in-Repeat
value_at-returns-in-Repeat t c = subst (λ (x : FExpr). Values x c.args.size c.repeated.result) (sym c.in-Repeat.is)
    (repeat-form c.in-Repeat.count c.in-Repeat.parts c.in-Repeat.width c.args.size c.repeated.result c.joined_value-in-Repeat.result c.width_of_all-once.result
    (subst (λ (es : List FExpr). JoinGives es c.joined_value-in-Repeat.result) c.as_slice-in-Repeat-2.ensures c.joined_value-in-Repeat.ensures)
    (subst (λ (es : List FExpr). OnceGives es c.width_of_all-once.result) c.as_slice-in-Repeat.ensures c.width_of_all-once.ensures) c.repeated.ensures)

pub joined_value-loop-part-init : goal.joined_value-loop-part-init
joined_value-loop-part-init t c = λ h s. joins-none c.args.parts.now h

pub joined_value-loop-part-preserved : goal.joined_value-loop-part-preserved
joined_value-loop-part-preserved t c = λ h s.
    let all = c.args.parts.now in
    let i = c.loop-part.part-index in
    let part = c.part-item.result in
    let next : drop i all ≡ part ∷ drop (i + 1) all = drop_more all i part c.loop-part-test.true ∙ ap (λ (k : FExpr). k ∷ drop (i + 1) all) (sym c.part-item.is) in
    let before : Joins c.loop-part.word (part ∷ drop (i + 1) all) all = subst (λ (es : List FExpr). Joins c.loop-part.word es all) next (c.loop-part.invariant h s) in
    let sized = head-sized part (drop (i + 1) all) before.right in
    let w : c.width_of-width.result ≡ size (expr_of part) = c.width_of-width.ensures.size sized in
    let v = c.value_at.ensures sized (omega (arith, c.width_of-width.ensures.kept)) (c.width_of-width.ensures.most sized) in
    let x : c.value_at.result ≡ own part = subst (λ (n : ℕ). c.value_at.result ≡ number (value nothing (expr_of part) n) n) w v.0 in
    let moved : c.shifted_left.result ≡ c.loop-part.word * 2 ^ size (expr_of part) % 2 ^ 64 = c.shifted_left.ensures ∙ ap (λ (n : ℕ). c.loop-part.word * 2 ^ n % 2 ^ 64) (c.from.ensures ∙ w) in
    subst (λ (n : ℕ). Joins (bit_or n c.value_at.result) (drop (i + 1) all) all) (sym moved)
    (joins-step c.loop-part.word c.value_at.result part (drop (i + 1) all) all before (subst (λ (n : ℕ). n ≤ 64) (parts_width all h) s) x)

pub joined_value-returns : goal.joined_value-returns
joined_value-returns t c = λ h s.
    let all = c.args.parts.now in
    joins-all c.loop-part.word all (subst (λ (es : List FExpr). Joins c.loop-part.word es all) (drop_all c.loop-part.part-index all c.loop-part-test.false) (c.loop-part.invariant h s))

pub gate_value-returns-in_default : goal.gate_value-returns-in_default
gate_value-returns-in_default t c = λ h b some small. gate-none (binary_of c.args.op) c.args.inputs.now c.args.size (none-left c.args.inputs.now (let z : length c.args.inputs.now ≡ 0 = search rules in z))

pub gate_value-loop-input-init : goal.gate_value-loop-input-init
gate_value-loop-input-init t c = λ h b some small. let is : c.args.inputs.now ≡ c.in-Some.first.now ∷ c.in-Some.others.now = search rules in
    gate-first (binary_of c.args.op) c.args.size c.value_at-word.result c.in-Some.first.now c.in-Some.others.now c.args.inputs.now c.value_at-word.ensures is h b some small

pub gate_value-loop-input-preserved : goal.gate_value-loop-input-preserved
gate_value-loop-input-preserved t c = λ h b some small.
    let all = c.in-Some.others.now in
    let i = c.loop-input.input-index in
    let input = c.input-item.result in
    let next : drop i all ≡ input ∷ drop (i + 1) all = drop_more all i input c.loop-input-test.true ∙ ap (λ (k : FExpr). k ∷ drop (i + 1) all) (sym c.input-item.is) in
    gate-step (binary_of c.args.op) c.args.size c.loop-input.word c.value_at.result c.binary_value-word.result input (drop (i + 1) all) c.args.inputs.now
    (subst (λ (es : List FExpr). Folded (binary_of c.args.op) c.args.size c.loop-input.word es c.args.inputs.now) next (c.loop-input.invariant h b some small)) c.value_at.ensures some small c.binary_value-word.ensures

pub gate_value-returns : goal.gate_value-returns
gate_value-returns t c = λ h b some small.
    gate-all (binary_of c.args.op) c.args.size c.loop-input.word c.args.inputs.now
    (subst (λ (es : List FExpr). Folded (binary_of c.args.op) c.args.size c.loop-input.word es c.args.inputs.now) (drop_all c.loop-input.input-index c.in-Some.others.now c.loop-input-test.false) (c.loop-input.invariant h b some small))
