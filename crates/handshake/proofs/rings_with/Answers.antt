-- The ring of one pair more, and in the end all rings.
use Rattle.std.proofs.Common.{◌↔◌, sym, subst, List, map, get_or, Contains}
use Rattle.std.proofs.lemmas.List.Elements.{Contains-get_or}
use Rattle.cdc_model.specs.Listed.{ring_entry}
use Rattle.cdc_model.specs.Ordered.{IsAscending}
use Rattle.cdc_model.specs.Syncs.{syncs_of}
use Rattle.handshake.specs.declared.candidates.Pair.{Pair}
use Rattle.handshake.specs.Pairs.{IsPairFrom, pair_key, rings_among}
use Rattle.handshake.proofs.AllRings.{own_ends, sources_within, few_flops, pair_registers, rings_are_all}
use Rattle.handshake.proofs.Pairs.{AreOfRegisters, rings_more, rings_end}
use Rattle.handshake.proofs.rings_with.Goals as goal

abbrev none : Pair
none = record { request = record { sig = 0; at = 0 }; there = 0; acknowledge = record { sig = 0; at = 0 }; back = 0 }

pub loop-pair-preserved : goal.loop-pair-preserved
loop-pair-preserved c = λ is has ss are short regs.
    let net = c.args.net.now in
    let ps = c.as_slice-pair-items.result.now in
    rings_more net ss (map ring_entry (rings_among net ss ps)) c.loop-pair.rings c.add_ring.new.rings ps c.loop-pair.pair-index none c.loop-pair-test.true
    (c.loop-pair.invariant is has ss are short regs)
    (c.in_ok-add_ring.ensures is has ss are short (λ r e. regs (get_or ps c.loop-pair.pair-index none) r (Contains-get_or ps c.loop-pair.pair-index none c.loop-pair-test.true) e))

pub returns-clause-exact : goal.returns-clause-exact
returns-clause-exact c = λ is has fit shown are grays.
    let net = c.args.net.now in
    let domains = c.args.domains.now in
    let ss = syncs_of net domains in
    let ps = c.as_slice-pair-items.result.now in
    let exact : (p : Pair) → Contains ps p ↔ IsPairFrom net domains ss p.there p = λ p.
    subst (λ (xs : List Pair). Contains xs p ↔ IsPairFrom net domains ss p.there p) (sym c.as_slice-pair-items.ensures.value)
    (c.in_ok-candidates.ensures.exact is has shown ss are (own_ends net domains is fit) (sources_within net domains is fit) p) in
    let asc : IsAscending pair_key ps = subst (IsAscending pair_key) (sym c.as_slice-pair-items.ensures.value) c.in_ok-candidates.ensures.ordered in
    let regs : AreOfRegisters net ss ps = λ p r i e. pair_registers net domains is fit p r ((exact p).0 i) e in (
      rings_among net ss ps,
      rings_are_all net domains is fit has ps exact asc grays,
      rings_end net ss (map ring_entry (rings_among net ss ps)) c.loop-pair.rings ps c.loop-pair.pair-index c.loop-pair-test.false
          (c.loop-pair.invariant is has ss are (few_flops net domains is fit) regs),
    )
