use Rattle.std.proofs.Common.{◌≡◌, ◌∙◌, sym, ap, true, false, Some}
use Rattle.cell_graph.specs.Tree.{bit_at}
use Rattle.cofactor.proofs.Shown.{bit-is}
use Rattle.cofactor.proofs.masks.Masks.bit.Goals as goal

pub returns-then-has_bit : goal.returns-then-has_bit
returns-then-has_bit c = λ k w lt e.
    let t : bit_at c.args.self.known c.args.at ≡ true = sym c.has_bit.ensures ∙ c.if-has_bit.true in
    ap Some c.has_bit-then-has_bit.ensures ∙ (rw t at (bit-is k w c.args.at c.args.self lt e))

pub returns-else-has_bit : goal.returns-else-has_bit
returns-else-has_bit c = λ k w lt e.
    let t : bit_at c.args.self.known c.args.at ≡ false = sym c.has_bit.ensures ∙ c.if-has_bit.false in
    rw t at (bit-is k w c.args.at c.args.self lt e)
