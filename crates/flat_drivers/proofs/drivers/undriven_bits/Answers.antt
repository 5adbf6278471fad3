use Rattle.std.proofs.Common.{◌-◌, ◌^◌, ◌<◌, not, ◌&&◌, arith, sym, ap, ◌∙◌}
use Rattle.cdc_base.specs.declared.signal.SigKind.{SigKind}
use Rattle.cell_graph.specs.Tree.{bit_at}
use Rattle.cell_graph.proofs.Words.{bit_and-bit, bit-not}
use Rattle.flat_unfolding.specs.Drivers.{is_from_outside}
use Rattle.flat_drivers.proofs.drivers.undriven_bits.Goals as goal

pub returns-in-Register : goal.returns-in-Register
returns-in-Register c = λ i l.
    let fits : c.args.driven < 2 ^ 64 = omega arith in
    bit_and-bit c.args.read (2 ^ 64 - 1 - c.args.driven) i ∙ ap (λ b. bit_at c.args.read i && b) (bit-not c.args.driven i fits l)
    ∙ sym (ap (λ (k : SigKind). not (is_from_outside k) && bit_at c.args.read i && not (bit_at c.args.driven i)) c.in-Register.is)

pub returns-in-Wire : goal.returns-in-Wire
returns-in-Wire c = λ i l.
    let fits : c.args.driven < 2 ^ 64 = omega arith in
    bit_and-bit c.args.read (2 ^ 64 - 1 - c.args.driven) i ∙ ap (λ b. bit_at c.args.read i && b) (bit-not c.args.driven i fits l)
    ∙ sym (ap (λ (k : SigKind). not (is_from_outside k) && bit_at c.args.read i && not (bit_at c.args.driven i)) c.in-Wire.is)
