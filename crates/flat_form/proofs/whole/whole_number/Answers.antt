use Rattle.std.proofs.Common.{◌+◌, ◌-◌, ◌*◌, ◌/◌, ◌%◌, ◌∙◌, Some, refl, ap, sym, subst}
use Rattle.std.specs.Prelude.{bit_and, bit_or, bit_xor}
use Rattle.std.specs.Option.{option_and_then}
use Rattle.verilog_ast.specs.declared.BinaryOp.{BinaryOp}
use Rattle.flat_form.specs.Whole.{judged, one_if}
use Rattle.flat_form.proofs.Numbers.{byte-is}
use Rattle.flat_form.proofs.WholeNumbers.{GivesNumber, judged-checked, divides, takes, other-number}
use Rattle.flat_form.proofs.whole.whole_number.Goals as goal

pub returns-in-Mul : goal.returns-in-Mul
returns-in-Mul c = subst (λ (op : BinaryOp). GivesNumber op c.args.a c.args.b c.checked_mul.result) (sym c.in-Mul.is) (λ w. judged-checked w (c.args.a * c.args.b) c.checked_mul.result c.checked_mul.ensures)

pub returns-in-Add : goal.returns-in-Add
returns-in-Add c = subst (λ (op : BinaryOp). GivesNumber op c.args.a c.args.b c.checked_add.result) (sym c.in-Add.is) (λ w. judged-checked w (c.args.a + c.args.b) c.checked_add.result c.checked_add.ensures)

pub returns-in-Div : goal.returns-in-Div
returns-in-Div c = subst (λ (op : BinaryOp). GivesNumber op c.args.a c.args.b c.checked_div.result) (sym c.in-Div.is) (λ w. ap (option_and_then (judged w)) (divides c.args.b (c.args.a / c.args.b) c.checked_div.result c.checked_div.ensures))

pub returns-in-Mod : goal.returns-in-Mod
returns-in-Mod c = subst (λ (op : BinaryOp). GivesNumber op c.args.a c.args.b c.checked_rem.result) (sym c.in-Mod.is) (λ w. ap (option_and_then (judged w)) (divides c.args.b (c.args.a % c.args.b) c.checked_rem.result c.checked_rem.ensures))

pub returns-in-Sub : goal.returns-in-Sub
returns-in-Sub c = subst (λ (op : BinaryOp). GivesNumber op c.args.a c.args.b c.checked_sub.result) (sym c.in-Sub.is) (λ w. ap (option_and_then (judged w)) (takes c.args.a c.args.b (c.args.a - c.args.b) c.checked_sub.result c.checked_sub.ensures))

pub returns-in-And : goal.returns-in-And
returns-in-And c = subst (λ (op : BinaryOp). GivesNumber op c.args.a c.args.b (Some (bit_and c.args.a c.args.b))) (sym c.in-And.is) (λ w. refl)

pub returns-in-Xor : goal.returns-in-Xor
returns-in-Xor c = subst (λ (op : BinaryOp). GivesNumber op c.args.a c.args.b (Some (bit_xor c.args.a c.args.b))) (sym c.in-Xor.is) (λ w. refl)

pub returns-in-Or : goal.returns-in-Or
returns-in-Or c = subst (λ (op : BinaryOp). GivesNumber op c.args.a c.args.b (Some (bit_or c.args.a c.args.b))) (sym c.in-Or.is) (λ w. refl)

pub returns-in-Xnor : goal.returns-in-Xnor
returns-in-Xnor c = subst (λ (op : BinaryOp). GivesNumber op c.args.a c.args.b (Some c.complement.result)) (sym c.in-Xnor.is) (λ w. ap (judged w) c.complement.ensures)

pub returns-in-Shl : goal.returns-in-Shl
returns-in-Shl c = subst (λ (op : BinaryOp). GivesNumber op c.args.a c.args.b c.moved_up.result) (sym c.in-Shl.is) c.moved_up.ensures

pub returns-in-Shr : goal.returns-in-Shr
returns-in-Shr c = subst (λ (op : BinaryOp). GivesNumber op c.args.a c.args.b (Some c.shifted_right.result)) (sym c.in-Shr.is) (λ w. ap (judged w) c.shifted_right.ensures)

pub returns-in_default : goal.returns-in_default
returns-in_default c = λ w.
    let o = c.in_default in
    ap (judged w) (c.from.ensures ∙ byte-is c.compared.result ∙ ap one_if c.compared.ensures)
    ∙ ap (option_and_then (judged w)) (sym (other-number c.args.op c.args.a c.args.b
    (record { times = o.not-Mul; divided = o.not-Div; remainder = o.not-Mod; plus = o.not-Add; minus = o.not-Sub; both = o.not-And; differ = o.not-Xor; agree = o.not-Xnor; either = o.not-Or; up = o.not-Shl; down = o.not-Shr })))
