-- By the line's parts, and the synchronizers that they are.
use Rattle.cofactor.proofs.Places.{if_ok}
use Rattle.cert_check.proofs.FirstFlops.{not_so}
use Rattle.cert_check.proofs.ListedRings.{own_firsts, listed_sync, no_parts, no_there, no_back, item_if}
use Rattle.cert_check.proofs.rings.is_ring_item.Goals as goal

pub returns-in_default-clause-exact : goal.returns-in_default-clause-exact
returns-in_default-clause-exact c = λ is has fit shown grays ss same are places.
    not_so (no_parts c.args.net.now c.args.domains.now is fit grays ss are c.args.syncs.now same c.args.ring.now c.in_default.ensures)

pub returns-in_default-listed-clause-exact : goal.returns-in_default-listed-clause-exact
returns-in_default-listed-clause-exact c = λ is has fit shown grays ss same are places.
    let p = c.in-Some.parts in
    not_so (no_there c.args.net.now c.args.domains.now is fit grays ss are c.args.syncs.now same c.args.ring.now p.request p.acknowledge p.there.now p.back.now c.in-Some.ensures
    (c.in_default-listed.ensures (own_firsts c.args.net.now c.args.domains.now is fit grays ss are c.args.syncs.now same) places))

pub returns-in_default-listed-2-clause-exact : goal.returns-in_default-listed-2-clause-exact
returns-in_default-listed-2-clause-exact c = λ is has fit shown grays ss same are places.
    let p = c.in-Some.parts in
    not_so (no_back c.args.net.now c.args.domains.now is fit grays ss are c.args.syncs.now same c.args.ring.now p.request p.acknowledge p.there.now p.back.now c.in-Some.ensures
    (c.in_default-listed-2.ensures (own_firsts c.args.net.now c.args.domains.now is fit grays ss are c.args.syncs.now same) places))

pub returns-clause-exact : goal.returns-clause-exact
returns-clause-exact c = if_ok c.is_ring.result
    (λ answer exact is has fit shown grays ss same are places.
    let p = c.in-Some.parts in
    let there = c.in-Some-listed.ensures in
    let back = c.in-Some-listed-2.ensures in
    let s = listed_sync ss c.args.syncs.now same c.in-Some-listed.there.now there.0 in
    let b = listed_sync ss c.args.syncs.now same c.in-Some-listed-2.back.now back.0 in
    item_if c.args.net.now c.args.domains.now is fit grays ss are c.args.syncs.now same c.args.ring.now p.request p.acknowledge p.there.now p.back.now c.in-Some.ensures
    s.0 b.0 c.in-Some-listed.there.now c.in-Some-listed-2.back.now s.2 b.2 there.1 there.2 back.1 back.2 answer
    (exact is has fit shown grays ss are s.0 b.0 s.2 b.2 s.1 b.1))
    c.is_ring.ensures.exact
