-- The blindnesses under one ring more, and in the end under all.
use Rattle.std.proofs.Common.{◌≡◌, ◌∙◌, ap, sym, arith, Some, map, slice_get}
use Rattle.std.proofs.lemmas.Option.{slice_get-get_or}
use Rattle.cdc_model.specs.declared.scheme.Ring.{Ring as RingEntry}
use Rattle.mux_recirc.specs.declared.questions.Question.{Question}
use Rattle.mux_recirc.specs.Blind.{IsBlindInRing}
use Rattle.mux_recirc.specs.Questions.{questions_on}
use Rattle.mux_recirc.proofs.Added.{in_none, one_more, both_iff, in_permuted}
use Rattle.mux_recirc.proofs.Asked.{within_on}
use Rattle.mux_recirc.proofs.Shutting.{ring_more, rings_all}
use Rattle.mux_recirc.proofs.blind.Search.all.Goals as goal

pub loop-ring-preserved : goal.loop-ring-preserved
loop-ring-preserved c = λ is has sorted within by_rings b.
    let net = c.args.self.now.net.now in
    let domains = c.args.self.now.domains.now in
    let crossings = c.args.self.now.crossings.now in
    let rings = c.args.rings.now in
    let qs = c.args.questions.now in
    let i = c.loop-ring.ring in
    let e = c.index-rings-ring.result in
    let here = c.questions_on-here.ensures by_rings in
    one_more (λ n. (f : RingEntry) × (slice_get rings n ≡ Some f) × IsBlindInRing net domains crossings f n (map (λ (q : Question). q.bit) (questions_on qs n)) b) 0 i (omega arith)
    (c.loop-ring.invariant is has sorted within by_rings b)
    (ring_more net domains crossings rings qs c.questions_on-here.result.now i e b (slice_get-get_or rings i e c.loop-ring-test.true ∙ ap Some (sym c.index-rings-ring.is)) here
    (c.in_ok-add_in_ring.ensures is has sorted (within_on net qs i c.questions_on-here.result.now here within) b))

pub returns-clause-exact : goal.returns-clause-exact
returns-clause-exact c = λ is has sorted within by_rings b.
    both_iff (in_permuted c.loop-ring.found.items c.sort_unstable.new.self.items b c.sort_unstable.ensures.permutation)
    (rings_all c.args.self.now.net.now c.args.self.now.domains.now c.args.self.now.crossings.now c.args.rings.now c.args.questions.now c.loop-ring.ring b c.loop-ring-test.false
    (in_none c.new-found.result.items b c.new-found.ensures.items) (c.loop-ring.invariant is has sorted within by_rings b))
