use Rattle.std.proofs.Common.{◌+◌, sym, ap, subst, take, length, arith}
use Rattle.std.proofs.lemmas.List.{take_all}
use Rattle.domains.specs.Clocks.{AreClocks, AreClocked}
use Rattle.domains.proofs.RegisterPlaces.{registers-more, clocks-more, first-unclocked}
use Rattle.domains.proofs.register.clock_by_sig.Goals as goal

pub loop-reg-preserved : goal.loop-reg-preserved
loop-reg-preserved g c =
    let net = c.args.net.now in
    let roles = c.args.roles.now in
    let items = c.as_slice-reg-items.result.now in
    let i = c.loop-reg.reg-index in
    record {
      registers = λ is. registers-more g.C.Cofactors.reads net roles items i _ c.in-Ok.clock c.as_slice-reg-items.ensures c.loop-reg-test.true is
          c.in-Ok.ensures.clock (c.loop-reg.invariant.registers is);
      clocks = λ is. subst (AreClocks net.graph roles (take (i + 1) net.regs)) (sym c.set_clock.ensures)
          (clocks-more g.C.Cofactors.reads net roles items i _ c.in-Ok.clock c.loop-reg.clocks.items c.as_slice-reg-items.ensures c.loop-reg-test.true is
          c.in-Ok.ensures.clock (c.loop-reg.invariant.clocks is));
    }

pub returns-clause-registers : goal.returns-clause-registers
returns-clause-registers g c = λ is.
    let net = c.args.net.now in
    let same = ap length c.as_slice-reg-items.ensures in
    let past = c.loop-reg-test.false in
    subst (AreClocked g.C.Cofactors.reads net.graph c.args.roles.now) (take_all c.loop-reg.reg-index net.regs (omega arith)) (c.loop-reg.invariant.registers is)

pub returns-in-Err-clause-refused : goal.returns-in-Err-clause-refused
returns-in-Err-clause-refused g c = λ is.
    first-unclocked g.C.Cofactors.reads c.args.net.now c.args.roles.now c.as_slice-reg-items.result.now c.loop-reg.reg-index _ c.in-Err.stop
    c.as_slice-reg-items.ensures c.loop-reg-test.true is c.in-Err.ensures.refused (c.loop-reg.invariant.registers is)
