-- One flop more is the next one, or isn't; in the end the chain is full or goes no further.
use Rattle.std.proofs.Common.{◌≡◌, ◌∙◌, ◌&&◌, ◌<◌, ◌-◌, ◌+◌, ap, sym, true, false, arith, length, get_or, drop, eq-eqb}
use Rattle.std.proofs.lemmas.List.Elements.{Contains-get_or}
use Rattle.cdc_base.specs.declared.bit.Bit.{Bit}
use Rattle.cdc_model.proofs.Ascending.{later}
use Rattle.cert_check.specs.Items.{is_next, is_chain}
use Rattle.cert_check.proofs.SyncItems.{too_many, chain_step, chain_full, chain_ends, no_next, next_register}
use Rattle.cert_check.proofs.syncs.is_chain.Goals as goal

abbrev none : Bit
none = record { sig = 0; at = 0 }

pub returns-then-more-ge-MAX_FLOPS : goal.returns-then-more-ge-MAX_FLOPS
returns-then-more-ge-MAX_FLOPS c = λ is has shown reg kept. sym (too_many c.args.net.now c.args.domains.now 3 c.args.first c.args.more.now (omega arith))

pub returns-then-not-is_next : goal.returns-then-not-is_next
returns-then-not-is_next c = λ is has shown reg kept.
    let net = c.args.net.now in
    let domains = c.args.domains.now in
    let more = c.args.more.now in
    let i = c.loop-flop.flop-index in
    let last = c.loop-flop.last in
    let next = get_or more i none in
    let lt : i < length more = c.loop-flop-test.true in
    let h = c.loop-flop.invariant is has shown reg kept in
    let test : is_next net domains last next ≡ false = sym (c.is_next.ensures is has shown (kept last h.1 h.0)) ∙ c.if-not-is_next.true in
    sym (h.2 ∙ chain_step net domains more i last none lt (omega arith) ∙ ap (λ v. v && is_chain net domains (3 - (i + 1)) next (drop (i + 1) more)) test)

pub loop-flop-preserved : goal.loop-flop-preserved
loop-flop-preserved c = λ is has shown reg kept.
    let net = c.args.net.now in
    let domains = c.args.domains.now in
    let more = c.args.more.now in
    let i = c.loop-flop.flop-index in
    let last = c.loop-flop.last in
    let next = get_or more i none in
    let lt : i < length more = c.loop-flop-test.true in
    let h = c.loop-flop.invariant is has shown reg kept in
    let test : is_next net domains last next ≡ true = sym (c.is_next.ensures is has shown (kept last h.1 h.0)) ∙ c.if-not-is_next.false in (
      next_register net domains is last next test,
      later c.args.first more next (Contains-get_or more i none lt),
      h.2 ∙ chain_step net domains more i last none lt (omega arith) ∙ ap (λ v. v && is_chain net domains (3 - (i + 1)) next (drop (i + 1) more)) test,
    )

pub returns-then-more : goal.returns-then-more
returns-then-more c = λ is has shown reg kept.
    let h = c.loop-flop.invariant is has shown reg kept in
    eq-eqb (length c.args.more.now) 3 (omega arith) ∙ sym (h.2 ∙ chain_full c.args.net.now c.args.domains.now c.args.more.now c.loop-flop.flop-index c.loop-flop.last c.loop-flop-test.false (omega arith))

pub returns-else-more : goal.returns-else-more
returns-else-more c = λ is has shown reg kept.
    let net = c.args.net.now in
    let last = c.loop-flop.last in
    let h = c.loop-flop.invariant is has shown reg kept in
    no_next net c.args.domains.now last c.next_flop.result c.is_none.result c.is_none.ensures (c.next_flop.ensures is has shown (kept last h.1 h.0))
    ∙ sym (h.2 ∙ chain_ends net c.args.domains.now c.args.more.now c.loop-flop.flop-index last c.loop-flop-test.false (omega arith))
