use Rattle.std.proofs.Common.{take}
use Rattle.domains.specs.Clocks.{AreClocked, AreClocks}
use Rattle.domains.specs.Nets.{IsNet}
use Rattle.domains.proofs.register.clock_by_sig.Given as goal

abbrev pub invariant-loop-reg : goal.invariant-loop-reg
invariant-loop-reg g l = record {
  registers : IsNet l.net → AreClocked g.C.Cofactors.reads l.net.graph l.roles (take l.reg-index l.net.regs);
  clocks : IsNet l.net → AreClocks l.net.graph l.roles (take l.reg-index l.net.regs) l.clocks.items;
}
