use Rattle.std.proofs.Common.{◌∙◌, sym, ap, subst, List, [], map}
use Rattle.std.specs.List.{AllZip}
use Rattle.cdc_base.specs.declared.signal.Signal.{Signal}
use Rattle.clock_constraints.specs.declared.ClockPin.{ClockPin}
use Rattle.domains.specs.Assignment.{port_roles}
use Rattle.domains.specs.Clocks.{Roles, AreClocked, AreClocks, static_signals}
use Rattle.domains.specs.Groups.{mentions, IsInGroup}
use Rattle.domains.proofs.FitNets.{are_fit}
use Rattle.domains.proofs.PinsUnread.{are_unread}
use Rattle.domains.proofs.assignment.assign.Goals as goal

pub returns-clause-domains : goal.returns-clause-domains
returns-clause-domains g c = λ is.
    let net = c.args.net.now in
    let groups = c.in_ok-groups.groups in
    record {
      roles = c.in_ok-roles.roles;
      ports = ap (λ (ss : List Signal). port_roles ss c.args.constraints.now) (sym c.signals.ensures) ∙ c.in_ok-roles.ensures.given;
      registers = subst (λ (rs : Roles). AreClocked g.C.Cofactors.reads net.graph rs net.regs) c.as_slice.ensures (c.in_ok-clock_by_sig.ensures.registers is);
      clocks = c.in_ok-copy_clocks.ensures ∙ c.as_slice-3.ensures;
      groups = c.in_ok-groups.ensures.names ∙ ap (λ (cs : List ClockPin). mentions [] (map (λ (k : ClockPin). k.group) cs)) c.as_slice-2.ensures;
      group_by_clock = subst (λ (cs : List ClockPin). AllZip (IsInGroup groups.names) cs groups.by_clock) c.as_slice-2.ensures c.in_ok-groups.ensures.by_clock;
      clock_by_sig = subst (AreClocks net.graph c.in_ok-roles.roles net.regs) (sym c.from_vec.ensures)
          (subst (λ (rs : Roles). AreClocks net.graph rs net.regs c.in_ok-clock_by_sig.clock_by_sig.items) c.as_slice.ensures (c.in_ok-clock_by_sig.ensures.clocks is));
      statics = c.in_ok-statics.ensures ∙ ap (static_signals 0) c.as_slice-4.ensures;
    }

pub returns-clause-fit : goal.returns-clause-fit
returns-clause-fit g c = λ is fit. are_fit g.C.Cofactors.reads c.args.net.now c.args.constraints.now _ is fit (returns-clause-domains g c is)

pub returns-clause-unread : goal.returns-clause-unread
returns-clause-unread g c = λ is. are_unread g.C.Cofactors.reads c.args.net.now c.args.constraints.now _ (returns-clause-domains g c is)
