-- By its next value, its clock and its start.
use Rattle.std.proofs.Common.{◌∙◌, ◌≡◌, sym, Some}
use Rattle.cofactor.proofs.Places.{if_ok}
use Rattle.domains.specs.Assignment.{clock_of}
use Rattle.cdc_model.specs.Nets.{start_of}
use Rattle.cdc_model.proofs.Found.{net_ascends}
use Rattle.fifo_parts.specs.Tellers.{MayStart}
use Rattle.fifo_parts.proofs.Tests.{flag_told, has_next, next_in, plain_net, told_flag}
use Rattle.fifo_parts.proofs.flags.is_flag.Goals as goal

pub returns-in_default : goal.returns-in_default
returns-in_default c = λ near far shown side came few own.
    let net = c.args.shown.net.now in
    absurd (has_next net c.args.shown.table.now shown c.args.shown.domains.now c.args.flag.bit own.0
    (sym (c.next_node.ensures (net_ascends net shown.is_net)) ∙ c.in_default.is))

pub returns : goal.returns
returns c = if_ok c.is_flag_test.result
    (λ is h near far shown side came few own.
    let net = c.args.shown.net.now in
    let table = c.args.shown.table.now in
    let domains = c.args.shown.domains.now in
    let e = c.args.side.now in
    let over = c.args.over.now in
    let a = c.args.apart in
    let flag = c.args.flag in
    let n = c.in-Some.next in
    let next = sym (c.next_node.ensures (net_ascends net shown.is_net)) ∙ c.in-Some.is in
    let clock : clock_of domains flag.bit ≡ Some e.clock = c.is_on.ensures.0 c.if-not-is_on.false in
    let start : MayStart a (start_of net.graph.signals flag.bit) flag.value = c.may_start.ensures.0 c.if-not-may_start.false in
    let test = h (plain_net net table shown) shown.shows side.alone.next.1 few (next_in net table shown domains flag.bit own.0 n next) in (
      λ k. told_flag net table shown domains e near far side over came a flag own n next clock start (test.0 k),
      λ k. test.1 (flag_told net table shown domains e near far side over came a flag own n next k),
    ))
    c.is_flag_test.ensures
