use Rattle.std.proofs.Common.{◌≡◌, ◌^◌, ◌<◌, ◌&&◌, ◌==◌, false, not, bit_and, arith, sym, ap, ap₂, ◌∙◌}
use Rattle.flat_meaning.specs.Assigned.{is_within}
use Rattle.flat_form.specs.Masks.{bits_in}
use Rattle.flat_targets.specs.Parts.{width_among, some_bit, within}
use Rattle.flat_targets.proofs.Shared.{both-words, some-word, not-zero}
use Rattle.flat_targets.proofs.parts.is_read.Goals as goal

pub returns-then-of-all_bits-ne0 : goal.returns-then-of-all_bits-ne0
unfolding some_bit
returns-then-of-all_bits-ne0 c =
    let wid = width_among c.args.entries.now in
    let s = c.args.sig in
    let small : c.of.result < 2 ^ 64 = omega arith in
    let other : c.of-then-of-all_bits-ne0.result < 2 ^ 64 = omega arith in
    let first = both-words c.of.result c.all_bits.result (bits_in c.args.reads.now s) (is_within 0 (wid s)) small c.of.ensures.bits c.all_bits.ensures in
    let second = some-word c.of-then-of-all_bits-ne0.result (bits_in c.args.assigned.now s) other c.of-then-of-all_bits-ne0.ensures.bits in
    second ∙ ap (λ a. a && some_bit (bits_in c.args.assigned.now s)) (sym (not-zero (bit_and c.of.result c.all_bits.result) c.if-of-all_bits-ne0.true) ∙ first)

pub returns-else-of-all_bits-ne0 : goal.returns-else-of-all_bits-ne0
unfolding some_bit
returns-else-of-all_bits-ne0 c =
    let wid = width_among c.args.entries.now in
    let s = c.args.sig in
    let small : c.of.result < 2 ^ 64 = omega arith in
    let first = both-words c.of.result c.all_bits.result (bits_in c.args.reads.now s) (is_within 0 (wid s)) small c.of.ensures.bits c.all_bits.ensures in
    let zero : not (bit_and c.of.result c.all_bits.result == 0) ≡ false = ap (λ x. not (x == 0)) c.if-of-all_bits-ne0.false in
    zero ∙ ap (λ a. a && some_bit (bits_in c.args.assigned.now s)) (sym zero ∙ first)
