-- One bit more, and in the end all copyings in their order.
use Rattle.std.proofs.Common.{subst, Contains, get_or}
use Rattle.cdc_base.specs.declared.bit.Bit.{Bit}
use Rattle.std.specs.List.Sorted.{IsPermutation}
use Rattle.std.specs.Option.{option_to_list}
use Rattle.std.proofs.lemmas.List.Elements.{Contains-get_or}
use Rattle.cdc_model.proofs.Synced.{unlisted}
use Rattle.obligations.specs.Arrivals.{copying_of, copyings_among}
use Rattle.obligations.proofs.Copyings.{given_more, given_all, all_copyings, registers_listed}
use Rattle.obligations.proofs.arrivals.copyings.Goals as goal

abbrev none : Bit
none = record { sig = 0; at = 0 }

pub loop-to-preserved : goal.loop-to-preserved
loop-to-preserved c = λ is has shown bits.
    let at = get_or c.args.bits.now c.loop-to.to-index none in
    given_more (λ (x : Bit). option_to_list (copying_of c.args.found.now.net.now c.args.found.now.domains.now x)) c.args.bits.now _ _ _ c.loop-to.to-index none c.loop-to-test.true
    (c.in_ok-add_copying.ensures is has shown (unlisted c.args.found.now.net.now is none at (subst (λ xs. Contains xs at) bits (Contains-get_or c.args.bits.now c.loop-to.to-index none c.loop-to-test.true))))
    (c.loop-to.invariant is has shown bits)

pub returns : goal.returns
returns c = λ is has shown bits.
    let net = c.args.found.now.net.now in
    let domains = c.args.found.now.domains.now in
    let all = given_all (λ (x : Bit). option_to_list (copying_of net domains x)) c.args.bits.now c.loop-to.copyings.items (copyings_among net domains c.args.bits.now) c.loop-to.to-index c.loop-to-test.false
    (c.loop-to.invariant is has shown bits) in
    all_copyings net domains is (registers_listed net) c.sort_unstable.new.self.items
    (subst (λ xs. IsPermutation (copyings_among net domains xs) c.sort_unstable.new.self.items) bits
    (subst (λ xs. IsPermutation xs c.sort_unstable.new.self.items) all c.sort_unstable.ensures.permutation)) c.sort_unstable.ensures.sorted
