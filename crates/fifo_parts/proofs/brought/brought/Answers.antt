-- One bit more, or one that isn't brought.
use Rattle.std.proofs.Common.{◌∙◌, ◌+◌, sym, subst, Some}
use Rattle.cdc_model.specs.Nets.{design_of}
use Rattle.fifo_laws.specs.Sides.{syncs_on}
use Rattle.fifo_parts.specs.Brought.{IsArrival}
use Rattle.fifo_parts.proofs.Over.{AreBroughtSoFar, brought_end, brought_more, brought_not, brought_unlike}
use Rattle.fifo_parts.proofs.brought.brought.Goals as goal

pub returns-in_default : goal.returns-in_default
returns-in_default c = λ meant e are wide.
    let net = c.args.net.now in
    let domains = c.args.domains.now in
    let side = c.args.side.now in
    let at = c.loop-at.at in
    brought_not net domains meant side.reg.gray c.args.clock side.width at c.loop-at-test.true c.loop-at.over c.loop-at.flops
    (c.loop-at.invariant meant e are) wide
    (subst (IsArrival net (syncs_on (design_of net domains) meant c.args.clock (record { sig = side.reg.gray; at = at }))) c.in_default.is
    (c.arrival_of.ensures meant e are))

pub returns-then-unwrap_or-arrival : goal.returns-then-unwrap_or-arrival
returns-then-unwrap_or-arrival c = λ meant e are wide.
    let net = c.args.net.now in
    let domains = c.args.domains.now in
    let side = c.args.side.now in
    let at = c.loop-at.at in
    brought_unlike net domains meant side.reg.gray c.args.clock side.width at c.loop-at-test.true c.loop-at.over c.loop-at.flops
    (c.loop-at.invariant meant e are) c.in-Some.arrival
    (subst (IsArrival net (syncs_on (design_of net domains) meant c.args.clock (record { sig = side.reg.gray; at = at }))) c.in-Some.is
    (c.arrival_of.ensures meant e are)) wide
    (λ same. c.if-unwrap_or-arrival.true (c.unwrap_or.ensures ∙ same))

pub loop-at-preserved : goal.loop-at-preserved
loop-at-preserved c = λ meant e are.
    let net = c.args.net.now in
    let domains = c.args.domains.now in
    let side = c.args.side.now in
    let at = c.loop-at.at in
    subst (λ bits. AreBroughtSoFar net domains meant side.reg.gray c.args.clock side.width (at + 1) bits (Some c.in-Some.arrival.flops))
    (sym c.in_ok-push.ensures.pushed)
    (brought_more net domains meant side.reg.gray c.args.clock side.width at c.loop-at-test.true c.loop-at.over c.loop-at.flops
    (c.loop-at.invariant meant e are) c.in-Some.arrival
    (subst (IsArrival net (syncs_on (design_of net domains) meant c.args.clock (record { sig = side.reg.gray; at = at }))) c.in-Some.is
    (c.arrival_of.ensures meant e are))
    (sym c.unwrap_or.ensures ∙ c.if-unwrap_or-arrival.false))

pub returns : goal.returns
returns c = λ meant e are wide.
    let side = c.args.side.now in
    brought_end c.args.net.now c.args.domains.now meant side.reg.gray c.args.clock side.width c.loop-at.at c.loop-at-test.false wide
    c.loop-at.over c.loop-at.flops (c.loop-at.invariant meant e are)
