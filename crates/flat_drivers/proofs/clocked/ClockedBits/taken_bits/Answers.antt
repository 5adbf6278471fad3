use Rattle.std.proofs.Common.{◌&&◌, ◌||◌, sym, ap, ◌∙◌}
use Rattle.cell_graph.specs.Tree.{bit_at}
use Rattle.cell_graph.proofs.Words.{bit_and-bit}
use Rattle.flat_form.specs.Masks.{bits_in}
use Rattle.flat_drivers.proofs.clocked.ClockedBits.taken_bits.Goals as goal

pub returns : goal.returns
returns c = λ i l m.
    let bits = c.args.self.now.once in
    bit_and-bit c.of.result c.args.mask i ∙ ap (λ b. b && bit_at c.args.mask i) (c.of.ensures.bits i m)
    ∙ ap (λ b. b || (bits_in bits c.args.sig i && bit_at c.args.mask i)) (sym c.if-is_driven_apart.false ∙ c.is_driven_apart.ensures)
