use Rattle.std.proofs.Common.{◌∙◌, sym, true, false}
use Rattle.cofactor.proofs.Fixings.{other-signal, fixed-before, newly-fixed}
use Rattle.cofactor.proofs.cube.with_fixed.Goals as goal

pub returns-then-fixed-sig : goal.returns-then-fixed-sig
returns-then-fixed-sig c = λ k e. other-signal k c.args.masks c.args.fixed c.args.sig e c.if-fixed-sig.true

pub returns-then-has_bit : goal.returns-then-has_bit
returns-then-has_bit c = λ k e. fixed-before k c.args.masks c.args.fixed c.args.sig e (sym c.has_bit.ensures ∙ c.if-has_bit.true)

pub returns-then-fixed : goal.returns-then-fixed
returns-then-fixed c = λ k e.
    newly-fixed k c.args.masks c.args.fixed c.args.sig e c.if-fixed-sig.false (sym c.has_bit.ensures ∙ c.if-has_bit.false) c.shifted_left-place.result
    (rw c.from.ensures at c.shifted_left-place.ensures) true c.if-fixed.true

pub returns-else-fixed : goal.returns-else-fixed
returns-else-fixed c = λ k e.
    newly-fixed k c.args.masks c.args.fixed c.args.sig e c.if-fixed-sig.false (sym c.has_bit.ensures ∙ c.if-has_bit.false) c.shifted_left-place.result
    (rw c.from.ensures at c.shifted_left-place.ensures) false c.if-fixed.false
