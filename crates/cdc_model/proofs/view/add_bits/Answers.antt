-- The bit that was added is the first of those to come.
use Rattle.std.proofs.Common.{sym, ap, ◌∙◌, ◌++◌, ◌-◌, ◌+◌}
use Rattle.cdc_model.specs.Design.{bits_from}
use Rattle.cdc_model.proofs.Registers.{one_bit_more}
use Rattle.cdc_model.proofs.view.add_bits.Goals as goal

pub loop-at-preserved : goal.loop-at-preserved
loop-at-preserved c = c.loop-at.invariant ∙ sym (one_bit_more c.args.sig c.loop-at.at c.width_of-at-end.result c.loop-at.bits c.loop-at-test.true)
    ∙ ap (λ xs. xs ++ bits_from c.args.sig (c.loop-at.at + 1) (c.width_of-at-end.result - (c.loop-at.at + 1))) (sym c.in_ok-push.ensures.pushed)
