-- The pair of one bit more, and in the end of all bits.
use Rattle.std.proofs.Common.{◌∙◌, sym, ap, subst, [], ◌<◌}
use Rattle.cdc_base.specs.declared.bit.Bit.{Bit}
use Rattle.cdc_model.specs.declared.scheme.Sync.{Sync as SyncEntry}
use Rattle.cdc_model.specs.Found.{bits_read_by}
use Rattle.cdc_model.specs.Nets.{bit_count}
use Rattle.handshake.proofs.Pairs.{bit_more, bits_all, entry_within}
use Rattle.handshake.proofs.candidates.add_pairs.Goals as goal

abbrev none : Bit
none = record { sig = 0; at = 0 }

pub loop-bit-preserved : goal.loop-bit-preserved
loop-bit-preserved c = λ is ss are own ends p.
    bit_more c.args.net.now c.args.domains.now ss c.args.there c.as_slice-bit-items.result.now p _ _ _ c.loop-bit.bit-index none c.loop-bit-test.true
    (c.loop-bit.invariant is ss are own ends p) (c.in_ok-add_pair.ensures is ss are own ends p)

pub returns-clause-added : goal.returns-clause-added
returns-clause-added c = λ is has shown ss are own within ends p.
    let s = entry_within c.args.syncs.now ss are c.args.there c.in-Some.sync.now c.in-Some.ensures.lookup.3.0 c.in-Some.ensures.lookup.1 in
    let from = ap (λ (e : SyncEntry). e.from) s.2 in
    bits_all c.args.net.now c.args.domains.now ss c.args.there c.as_slice-bit-items.result.now p _ _ c.loop-bit.bit-index s.0 c.loop-bit-test.false s.1
    (c.as_slice-bit-items.ensures
    ∙ c.in_ok-reads.ensures.exact [] is has shown (subst (λ (b : Bit). b.at < bit_count c.args.net.now.graph.signals b.sig) (sym from) (within c.args.there s.0 s.1))
    ∙ ap (bits_read_by c.args.net.now []) from)
    (c.loop-bit.invariant is ss are own ends p)
