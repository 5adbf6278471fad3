-- The answers on one ring more, and in the end on all.
use Rattle.std.proofs.Common.{◌∙◌, ap, sym, arith, Some}
use Rattle.std.proofs.lemmas.Option.{slice_get-get_or}
use Rattle.mux_recirc.proofs.Added.{in_none, one_more, both_iff, in_permuted}
use Rattle.mux_recirc.proofs.Asked.{IsAnsweredOn, on_ring, on_all, within_on}
use Rattle.mux_recirc.proofs.held.answered.Goals as goal

pub loop-ring-preserved : goal.loop-ring-preserved
loop-ring-preserved c = λ is has within sorted p.
    let net = c.args.net.now in
    let rings = c.args.rings.now in
    let qs = c.args.questions.now in
    let i = c.loop-ring.ring in
    let e = c.index-rings-ring.result in
    let here = c.questions_on-here.ensures sorted in
    one_more (λ n. IsAnsweredOn net rings qs n p) 0 i (omega arith) (c.loop-ring.invariant is has within sorted p)
    (on_ring net rings qs i e c.questions_on-here.result.now c.loop-ring.pairs.items c.answer.new.pairs.items (slice_get-get_or rings i e c.loop-ring-test.true ∙ ap Some (sym c.index-rings-ring.is)) here
    (c.in_ok-answer.ensures is has (within_on net qs i c.questions_on-here.result.now here within)) p)

pub returns-clause-exact : goal.returns-clause-exact
returns-clause-exact c = λ is has within sorted p.
    both_iff (in_permuted c.loop-ring.pairs.items c.sort_unstable.new.self.items p c.sort_unstable.ensures.permutation)
    (on_all c.args.net.now c.args.rings.now c.args.questions.now c.loop-ring.ring p c.loop-ring-test.false (in_none c.new-pairs.result.items p c.new-pairs.ensures.items)
    (c.loop-ring.invariant is has within sorted p))
