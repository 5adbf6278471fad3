-- The signal of one copy more is marked.
use Rattle.std.proofs.Common.{◌≡◌, ◌∙◌, sym, subst, arith, true}
use Rattle.cdc_base.specs.declared.bit.Bit.{Bit}
use Rattle.cdc_model.specs.Nets.{is_register_bit}
use Rattle.cdc_model.specs.Readers.{IsMarked}
use Rattle.cdc_model.specs.Syncs.{copies}
use Rattle.cdc_model.proofs.Justify.{in_slice}
use Rattle.two_flop.proofs.Chains.{one_more}
use Rattle.two_flop.proofs.mark_copies.Goals as goal

abbrev none : Bit
none = record { sig = 0; at = 0 }

pub loop-bit-preserved : goal.loop-bit-preserved
loop-bit-preserved c = record {
  counted = c.mark_copy.ensures.counted ∙ c.loop-bit.invariant.counted;
  kept = λ sig h. c.mark_copy.ensures.kept sig (c.loop-bit.invariant.kept sig h);
  marked = λ is has shown len i x f lt at reg copy m.
      one_more {P = IsMarked c.mark_copy.new.marks.items x.sig} c.args.bits.now c.loop-bit.bit-index i none x c.loop-bit-test.true lt at
      (λ l. c.mark_copy.ensures.kept x.sig (c.loop-bit.invariant.marked is has shown len i x f l at reg copy m))
      (λ e. subst (λ (y : Bit). IsMarked c.mark_copy.new.marks.items y.sig) e
      (c.mark_copy.ensures.marked is has shown (c.loop-bit.invariant.counted ∙ len) (subst (λ (y : Bit). is_register_bit c.args.net.now y ≡ true) (sym e) reg) f
      (subst (λ (y : Bit). copies c.args.net.now y f ≡ true) (sym e) copy) (c.loop-bit.invariant.kept f.sig m)));
}

pub returns-clause-marked : goal.returns-clause-marked
returns-clause-marked c = λ is has shown len x f i reg copy m.
    c.loop-bit.invariant.marked is has shown len i.0 x f (let l = i.1 in let e = c.loop-bit-test.false in omega arith) (in_slice c.args.bits.now x i) reg copy m
