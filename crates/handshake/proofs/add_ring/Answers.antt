-- The ring is added where the two turn.
use Rattle.handshake.proofs.Pairs.{entry_within, no_entry_past, ring_is}
use Rattle.handshake.proofs.Known.{no_ring, none_there, none_back, not_added, added}
use Rattle.handshake.proofs.add_ring.Goals as goal

pub returns-in_default : goal.returns-in_default
returns-in_default c = λ is has ss are short regs.
    no_ring c.args.net.now ss c.args.pair c.args.rings.now
    (none_there c.args.net.now ss c.args.pair (no_entry_past c.args.syncs.now ss are c.args.pair.there c.in_default.ensures.lookup.3))

pub returns-in_default-get : goal.returns-in_default-get
returns-in_default-get c = λ is has ss are short regs.
    no_ring c.args.net.now ss c.args.pair c.args.rings.now
    (none_back c.args.net.now ss c.args.pair (no_entry_past c.args.syncs.now ss are c.args.pair.back c.in_default-get.ensures.lookup.3))

pub returns-else-branch : goal.returns-else-branch
returns-else-branch c = λ is has ss are short regs.
    let s = entry_within c.args.syncs.now ss are c.args.pair.there c.in-Some.there.now c.in-Some.ensures.lookup.3.0 c.in-Some.ensures.lookup.1 in
    let b = entry_within c.args.syncs.now ss are c.args.pair.back c.in-Some-get.back.now c.in-Some-get.ensures.lookup.3.0 c.in-Some-get.ensures.lookup.1 in
    let reg = regs (record { there = s.0; back = b.0 }) (ring_is ss c.args.pair.there c.args.pair.back s.0 b.0 s.1 b.1) in
    not_added c.args.net.now ss c.args.pair s.0 b.0 s.1 b.1 c.args.rings.now _ (c.in_ok-turns.ensures is has s.0 b.0 s.2 b.2 reg.0 reg.1) c.if-branch.false

pub returns-in_ok-push : goal.returns-in_ok-push
returns-in_ok-push c = λ is has ss are short regs.
    let s = entry_within c.args.syncs.now ss are c.args.pair.there c.in-Some.there.now c.in-Some.ensures.lookup.3.0 c.in-Some.ensures.lookup.1 in
    let b = entry_within c.args.syncs.now ss are c.args.pair.back c.in-Some-get.back.now c.in-Some-get.ensures.lookup.3.0 c.in-Some-get.ensures.lookup.1 in
    let reg = regs (record { there = s.0; back = b.0 }) (ring_is ss c.args.pair.there c.args.pair.back s.0 b.0 s.1 b.1) in
    added c.args.net.now ss c.args.pair s.0 b.0 s.1 b.1 c.args.rings.now _ _ _ (c.in_ok-turns.ensures is has s.0 b.0 s.2 b.2 reg.0 reg.1) c.if-branch.true
    c.in_ok-push.ensures.pushed (c.in_ok-ring_of.ensures s.0 b.0 s.2 b.2 (short c.args.pair.there s.0 s.1))
