use Rattle.std.proofs.Common.{rules, ◌≡◌, ◌/◌, ◌%◌, ◌^◌, Bool, cond, refl, subst, sym, ap, ◌∙◌}
use Rattle.std.specs.Prelude.{bit_and, bit_or, bit_xor}
use Rattle.verilog_ast.specs.declared.BinaryOp.{BinaryOp}
use Rattle.flat_form.proofs.Numbers.{Makes, times-is, divided-is, remainder-is, plus-is, minus-is, and-is, or-is, xor-is, xnor-is, up-is, down-is, byte-is, compared-is}
use Rattle.flat_form.proofs.value.binary_value.Goals as goal

pub returns-in-Mul : goal.returns-in-Mul
returns-in-Mul c = λ f g m n some small. subst (λ (op : BinaryOp). Makes op c.low_bits.result c.args.a c.args.b c.args.size f g m n) (sym c.in-Mul.is) (times-is c.low_bits.result c.args.a c.args.b c.args.size small f g m n c.low_bits.ensures)

pub returns-in-Div : goal.returns-in-Div
returns-in-Div c = λ f g m n some small. let e : c.unwrap_or.result ≡ c.args.a / c.args.b = search rules in subst (λ (op : BinaryOp). Makes op c.unwrap_or.result c.args.a c.args.b c.args.size f g m n) (sym c.in-Div.is) (divided-is c.unwrap_or.result c.args.a c.args.b c.args.size small f g m n e)

pub returns-in-Mod : goal.returns-in-Mod
returns-in-Mod c = λ f g m n some small. let e : c.unwrap_or-in-Mod.result ≡ c.args.a % c.args.b = search rules in subst (λ (op : BinaryOp). Makes op c.unwrap_or-in-Mod.result c.args.a c.args.b c.args.size f g m n) (sym c.in-Mod.is) (remainder-is c.unwrap_or-in-Mod.result c.args.a c.args.b c.args.size small f g m n e)

pub returns-in-Add : goal.returns-in-Add
returns-in-Add c = λ f g m n some small. subst (λ (op : BinaryOp). Makes op c.low_bits-in-Add.result c.args.a c.args.b c.args.size f g m n) (sym c.in-Add.is) (plus-is c.low_bits-in-Add.result c.args.a c.args.b c.args.size small f g m n c.low_bits-in-Add.ensures)

pub returns-in-Sub : goal.returns-in-Sub
returns-in-Sub c = λ f g m n some small. subst (λ (op : BinaryOp). Makes op c.low_bits-in-Sub.result c.args.a c.args.b c.args.size f g m n) (sym c.in-Sub.is) (minus-is c.low_bits-in-Sub.result c.args.a c.args.b c.args.size small f g m n c.low_bits-in-Sub.ensures)

pub returns-in-And : goal.returns-in-And
returns-in-And c = λ f g m n some small. subst (λ (op : BinaryOp). Makes op (bit_and c.args.a c.args.b) c.args.a c.args.b c.args.size f g m n) (sym c.in-And.is) (and-is (bit_and c.args.a c.args.b) c.args.a c.args.b c.args.size small f g m n refl)

pub returns-in-Xor : goal.returns-in-Xor
returns-in-Xor c = λ f g m n some small. subst (λ (op : BinaryOp). Makes op (bit_xor c.args.a c.args.b) c.args.a c.args.b c.args.size f g m n) (sym c.in-Xor.is) (xor-is (bit_xor c.args.a c.args.b) c.args.a c.args.b c.args.size small f g m n refl)

pub returns-in-Xnor : goal.returns-in-Xnor
returns-in-Xnor c = λ f g m n some small. subst (λ (op : BinaryOp). Makes op c.low_bits-in-Xnor.result c.args.a c.args.b c.args.size f g m n) (sym c.in-Xnor.is) (xnor-is c.low_bits-in-Xnor.result c.args.a c.args.b c.args.size small f g m n c.low_bits-in-Xnor.ensures)

pub returns-in-Or : goal.returns-in-Or
returns-in-Or c = λ f g m n some small. subst (λ (op : BinaryOp). Makes op (bit_or c.args.a c.args.b) c.args.a c.args.b c.args.size f g m n) (sym c.in-Or.is) (or-is (bit_or c.args.a c.args.b) c.args.a c.args.b c.args.size small f g m n refl)

pub returns-in-Shl : goal.returns-in-Shl
returns-in-Shl c = λ f g m n some small. subst (λ (op : BinaryOp). Makes op c.low_bits-in-Shl.result c.args.a c.args.b c.args.size f g m n) (sym c.in-Shl.is) (up-is c.low_bits-in-Shl.result c.args.a c.args.b c.args.size small f g m n (c.low_bits-in-Shl.ensures ∙ ap (λ k. k % 2 ^ c.args.size) c.shifted_left.ensures))

pub returns-in-Shr : goal.returns-in-Shr
returns-in-Shr c = λ f g m n some small. subst (λ (op : BinaryOp). Makes op c.shifted_right.result c.args.a c.args.b c.args.size f g m n) (sym c.in-Shr.is) (down-is c.shifted_right.result c.args.a c.args.b c.args.size small f g m n c.shifted_right.ensures)

pub returns-in_default : goal.returns-in_default
returns-in_default c = λ f g m n some small i j d e.
    let o = c.in_default in
    c.from.ensures ∙ byte-is c.compared.result ∙ ap (λ (b : Bool). cond b 1 0) c.compared.ensures
    ∙ compared-is c.args.a c.args.b m n c.args.size f g some d e c.args.op
    (record { times = o.not-Mul; divided = o.not-Div; remainder = o.not-Mod; plus = o.not-Add; minus = o.not-Sub; both = o.not-And; differ = o.not-Xor; agree = o.not-Xnor; either = o.not-Or; up = o.not-Shl; down = o.not-Shr }) i j
