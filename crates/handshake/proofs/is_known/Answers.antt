-- By the table under the two fixed bits.
use Rattle.std.proofs.Common.{◌∙◌, sym, ap, [], ◌∷◌}
use Rattle.cofactor.specs.Cubes.{fixings}
use Rattle.cdc_model.proofs.Found.{net_ascends}
use Rattle.handshake.specs.Pairs.{is_value}
use Rattle.handshake.proofs.Known.{has_next, known_is}
use Rattle.handshake.proofs.is_known.Goals as goal

pub returns-in_default : goal.returns-in_default
returns-in_default c = λ is has reg. absurd (has_next c.args.net.now c.args.next.bit reg (sym (c.next_node.ensures (net_ascends c.args.net.now is)) ∙ c.in_default.is))

pub returns : goal.returns
returns c = λ is has reg.
    c.is_value.ensures ∙ ap (λ o. is_value o c.args.next.value)
    (known_is c.args.net.now (fixings (c.args.one ∷ c.args.another ∷ [])) c.args.next.bit c.in-Some.node _ c.known_value.result has reg
    (sym (c.next_node.ensures (net_ascends c.args.net.now is)) ∙ c.in-Some.is) (c.in_ok-table.ensures is has) c.known_value.ensures.cell)
