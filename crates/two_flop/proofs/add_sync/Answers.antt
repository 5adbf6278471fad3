-- The chain is a synchronizer where it is long enough.
use Rattle.std.proofs.Common.{◌≡◌, ◌∙◌, sym, arith, ◌<◌, length}
use Rattle.cofactor.proofs.Places.{if_ok}
use Rattle.cdc_model.specs.Design.{settle_of}
use Rattle.cdc_model.specs.Nets.{design_of}
use Rattle.two_flop.proofs.Chains.{settle_is, one_added}
use Rattle.two_flop.proofs.add_sync.Goals as goal

pub returns : goal.returns
returns c = if_ok c.push.result
    (λ u pushed is has shown reg kept.
    let net = c.args.net.now in
    let domains = c.args.domains.now in
    let k = c.args.crossing in
    let copy = sym (c.is_copy.ensures is has shown reg) ∙ c.if-not-is_copy.false in
    one_added net domains k c.args.syncs.now c.in_ok-flops.flops c.push.new.self copy (c.in_ok-flops.ensures is has shown (kept copy))
    (let s = settle_is net domains k.to reg in let l = c.if-len-from.false in let n = c.len.ensures in let m = c.from.ensures in let o = c.settle_of.ensures in
    let lt : settle_of (design_of net domains) k.to < length c.in_ok-flops.flops = omega arith in lt) pushed)
    c.push.ensures.pushed
