-- A register has a next value.
use Rattle.std.proofs.Common.{◌≡◌, ◌∙◌, ◌&&◌, ap, sym, true, false, is_some, nat_lt}
use Rattle.cdc_model.specs.Nets.{next_node_of, bit_count}
use Rattle.cdc_model.proofs.Found.{net_ascends}
use Rattle.mux_recirc.proofs.Crossed.{has_node}
use Rattle.cert_check.proofs.syncs.is_register.Goals as goal

pub returns-then-is_some : goal.returns-then-is_some
returns-then-is_some c = λ is.
    let net = c.args.net.now in
    let b = c.args.bit in
    let n = c.next_node.ensures (net_ascends net is) in
    let e = c.is_some.ensures in
    let t = c.if-is_some.true in
    let there : is_some (next_node_of net b) ≡ true = cc in
    ap (nat_lt b.at) c.width_of.ensures ∙ ap (λ v. v && nat_lt b.at (bit_count net.graph.signals b.sig)) (sym (sym (has_node net b) ∙ there))

pub returns-else-is_some : goal.returns-else-is_some
returns-else-is_some c = λ is.
    let net = c.args.net.now in
    let b = c.args.bit in
    let n = c.next_node.ensures (net_ascends net is) in
    let e = c.is_some.ensures in
    let t = c.if-is_some.false in
    let there : is_some (next_node_of net b) ≡ false = cc in
    t ∙ ap (λ v. v && nat_lt b.at (bit_count net.graph.signals b.sig)) (sym (sym (has_node net b) ∙ there))
