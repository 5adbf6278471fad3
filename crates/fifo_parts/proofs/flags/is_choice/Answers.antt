-- A choice of which nothing is known.
use Rattle.std.proofs.Common.{rules, ◌≡◌, ◌∙◌, sym, None, []}
use Rattle.cdc_model.proofs.Found.{net_ascends}
use Rattle.fifo_parts.proofs.Chosen.{adds_nothing}
use Rattle.fifo_parts.proofs.Tests.{next_in, plain_net}
use Rattle.fifo_parts.proofs.flags.is_choice.Goals as goal

pub returns-in-Mux : goal.returns-in-Mux
returns-in-Mux c = λ yes shown register.
    let net = c.args.shown.net.now in
    let table = c.args.shown.table.now in
    let domains = c.args.shown.domains.now in
    let n = c.in-Some.next in
    let next = sym (c.next_node.ensures (net_ascends net shown.is_net)) ∙ c.in-Some.is in
    let there = next_in net table shown domains c.args.bit register n next in
    let well = (plain_net net table shown).well in
    let m = c.in-Some-origin.node in
    let is = (c.origin.ensures.within well there m c.in-Some-origin.is).0 in
    let none : c.known_value.result ≡ None = search rules in
    adds_nothing net table shown domains c.args.bit register n next c.origin.result (c.origin.ensures.exact well there) m c.in-Some-origin.is is
    c.in-Mux.cond c.in-Mux.yes c.in-Mux.other (sym c.cell.ensures ∙ c.in-Mux.is) (sym (c.known_value.ensures.net net [] shown.shows is) ∙ none)
