use Rattle.std.proofs.Common.{◌≡◌, ℕ, Bool, ◌==◌, subst, sym, ap, not}
use Rattle.flat_form.specs.declared.flat.FUnaryOp.{FUnaryOp}
use Rattle.flat_meaning.specs.Values.{Word}
use Rattle.flat_meaning.specs.Meaning.{unary}
use Rattle.flat_form.specs.View.{unary_of}
use Rattle.flat_form.proofs.Numbers.{none-is, some-is, all-is, reduced-none}
use Rattle.flat_form.proofs.value.reduced.Goals as goal

-- the bit of the operator that the match found
abbrev Gives : ℕ → Bool → FUnaryOp → Word → Type 0
Gives w b op f = b ≡ unary (unary_of op) w f 0

pub returns-in-Not : goal.returns-in-Not
returns-in-Not c = λ f h n e. reduced-none c.args.op c.args.size f _ c.in-Not.is n (none-is f c.args.size c.args.a e)

pub returns-in-And : goal.returns-in-And
returns-in-And c = λ f h n e. subst (λ op. Gives c.args.size (c.args.a == c.mask.result) op f) (sym c.in-And.is) (all-is f c.args.size c.args.a c.mask.result h e c.mask.ensures)

pub returns-in-Nand : goal.returns-in-Nand
returns-in-Nand c = λ f h n e. subst (λ op. Gives c.args.size (not (c.args.a == c.mask-in-Nand.result)) op f) (sym c.in-Nand.is) (ap not (all-is f c.args.size c.args.a c.mask-in-Nand.result h e c.mask-in-Nand.ensures))

pub returns-in-Or : goal.returns-in-Or
returns-in-Or c = λ f h n e. subst (λ op. Gives c.args.size (not (c.args.a == 0)) op f) (sym c.in-Or.is) (some-is f c.args.size c.args.a e)

pub returns-in-Xor : goal.returns-in-Xor
returns-in-Xor c = λ f h n e. subst (λ op. Gives c.args.size c.is_odd.result op f) (sym c.in-Xor.is) (c.is_odd.ensures f c.args.size e)

pub returns-in-Xnor : goal.returns-in-Xnor
returns-in-Xnor c = λ f h n e. subst (λ op. Gives c.args.size (not c.is_odd-in-Xnor.result) op f) (sym c.in-Xnor.is) (ap not (c.is_odd-in-Xnor.ensures f c.args.size e))
