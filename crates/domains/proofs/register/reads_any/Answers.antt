use Rattle.std.proofs.Common.{false, subst}
use Rattle.std.specs.Prelude.{All}
use Rattle.std.proofs.lemmas.List.{take_all}
use Rattle.std.proofs.lemmas.List.Elements.{All-more}
use Rattle.cdc_base.specs.declared.bit.Bit.{Bit}
use Rattle.domains.proofs.register.reads_any.Goals as goal

pub loop-bit-preserved : goal.loop-bit-preserved
loop-bit-preserved g c =
    let unread = λ (b : Bit). g.C.Cofactors.reads c.args.net.now.graph c.args.node b false in
    All-more unread c.args.bits.now c.loop-bit.bit-index _ c.loop-bit-test.true c.loop-bit.invariant
    (subst (g.C.Cofactors.reads c.args.net.now.graph c.args.node _) c.if-branch.false c.in_ok-reads_bit.ensures.reads)

pub returns : goal.returns
returns g c =
    let unread = λ (b : Bit). g.C.Cofactors.reads c.args.net.now.graph c.args.node b false in
    subst (All unread) (take_all c.loop-bit.bit-index c.args.bits.now c.loop-bit-test.false) c.loop-bit.invariant
