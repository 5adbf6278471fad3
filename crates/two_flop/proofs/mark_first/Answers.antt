-- The signal of one first flop more is marked.
use Rattle.std.proofs.Common.{◌≡◌, ◌∙◌, sym, subst, arith, true}
use Rattle.std.proofs.lemmas.List.Elements.{Contains-get_or}
use Rattle.cdc_base.specs.declared.bit.Bit.{Bit}
use Rattle.cdc_model.specs.declared.scheme.Crossing.{Crossing}
use Rattle.cdc_model.specs.Readers.{IsMarked}
use Rattle.cdc_model.specs.Syncs.{copies}
use Rattle.cdc_model.proofs.Justify.{in_slice}
use Rattle.two_flop.proofs.Chains.{one_more}
use Rattle.two_flop.proofs.mark_first.Goals as goal

abbrev none : Crossing
none = record { from = record { sig = 0; at = 0 }; to = record { sig = 0; at = 0 } }

pub loop-crossing-preserved : goal.loop-crossing-preserved
loop-crossing-preserved c = record {
  counted = c.mark_end.ensures.counted ∙ c.loop-crossing.invariant.counted;
  marked = λ is has shown ends len i k lt at copy.
      one_more {P = IsMarked c.mark_end.new.marks.items k.to.sig} c.args.crossings.now c.loop-crossing.crossing-index i none k c.loop-crossing-test.true lt at
      (λ l. c.mark_end.ensures.kept k.to.sig (c.loop-crossing.invariant.marked is has shown ends len i k l at copy))
      (λ e. subst (λ (y : Crossing). IsMarked c.mark_end.new.marks.items y.to.sig) e
      (c.mark_end.ensures.marked is has shown (ends _ (Contains-get_or c.args.crossings.now c.loop-crossing.crossing-index none c.loop-crossing-test.true)) (c.loop-crossing.invariant.counted ∙ len)
      (subst (λ (y : Crossing). copies c.args.net.now y.to y.from ≡ true) (sym e) copy)));
}

pub returns-clause-marked : goal.returns-clause-marked
returns-clause-marked c = λ is has shown ends len x r.
    let i = r.1 in
    subst (λ (y : Bit). IsMarked c.loop-crossing.marks.items y.sig) r.2
    (c.loop-crossing.invariant.marked is has shown ends len i.0 r.0 (let l = i.1 in let e = c.loop-crossing-test.false in omega arith) (in_slice c.args.crossings.now r.0 i)
    (subst (λ (y : Bit). copies c.args.net.now y r.0.from ≡ true) (sym r.2) r.3))
