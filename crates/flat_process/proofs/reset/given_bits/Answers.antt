use Rattle.std.proofs.Common.{◌*◌, ◌%◌, ◌^◌, ◌&&◌, refl, ap, ap₂, ◌∙◌, lt-ltb, bit_and, rules}
use Rattle.cell_graph.specs.Tree.{bit_at}
use Rattle.flat_meaning.specs.Assigned.{is_within}
use Rattle.flat_process.proofs.Given.{moved-value, masked-value}
use Rattle.flat_process.proofs.reset.given_bits.Goals as goal

pub returns : goal.returns
returns c = λ n declared narrow.
    let a = c.args in
    record {
      sig = refl;
      declared = declared;
      word = search rules;
      mask = λ i l. c.bits.ensures i ∙ ap (λ b. b && is_within a.at a.width i) (lt-ltb i 64 l);
      value = λ i l. ap (λ z. bit_at z i) (c.shifted_left.ensures ∙ ap₂ (λ x y. x * 2 ^ y % 2 ^ 64) (ap (bit_and a.word) c.low_bits.ensures.ones ∙ masked-value a.word a.width narrow) c.from.ensures) ∙ moved-value a.word a.at a.width i l;
    }
