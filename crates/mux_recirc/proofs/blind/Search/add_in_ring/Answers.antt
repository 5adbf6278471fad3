-- The blindnesses at one gate more, and in the end at all.
use Rattle.std.proofs.Common.{◌≡◌, ◌⊎◌, ◌↔◌, sym, rules, subst, Some, map, slice_get, Contains}
use Rattle.mux_recirc.specs.declared.questions.Question.{Question}
use Rattle.mux_recirc.specs.Blind.{IsBlindAtGate}
use Rattle.mux_recirc.specs.Questions.{AreBitsWithin}
use Rattle.mux_recirc.proofs.Added.{one_more}
use Rattle.mux_recirc.proofs.Shutting.{IsBlindBefore, gate_more, ring_all, asked_within}
use Rattle.mux_recirc.proofs.blind.Search.add_in_ring.Goals as goal

pub loop-place-preserved : goal.loop-place-preserved
loop-place-preserved c = λ is has sorted within b.
    let net = c.args.self.now.net.now in
    let domains = c.args.self.now.domains.now in
    let crossings = c.args.self.now.crossings.now in
    let ring = c.args.ring.now in
    let request = c.in-Some.request in
    let place = c.loop-place.place in
    let ends = c.in_ok-ends.ends.items in
    let added = c.in_ok-add_at_gate.ensures is has sorted (subst (AreBitsWithin net) (sym c.as_slice-in-loop-place.ensures.value) within) b in
    one_more (IsBlindBefore net domains crossings ring c.args.number request ends b) 2 place c.loop-place.auto.place (c.loop-place.invariant is has sorted within b)
    (gate_more net domains crossings ring c.args.number request ends b place c.loop-place-test.true
    (subst (λ xs. Contains c.add_at_gate.new.found.items b ↔ (Contains c.loop-place.found.items b ⊎ IsBlindAtGate net domains crossings ring (record { ring = c.args.number; place = place; request = request }) xs b))
    c.as_slice-in-loop-place.ensures.value added))

pub returns : goal.returns
returns c = λ is has sorted within b.
    let net = c.args.self.now.net.now in
    let ring = c.args.ring.now in
    let ends = c.in_ok-ends.ends.items in
    let first : slice_get ring.bits 0 ≡ Some c.in-Some.request = grind (rules, c.first.ensures.value, c.copied.ensures, c.in-Some.is, c.as_slice.ensures) in
    ring_all net c.args.self.now.domains.now c.args.self.now.crossings.now ring c.args.number c.in-Some.request (map (λ (q : Question). q.bit) c.args.questions.now) ends c.loop-place.place b
    c.loop-place-test.false c.in_ok-ends.ensures first (c.loop-place.invariant is has sorted (asked_within net c.args.questions.now ends c.in_ok-ends.ensures within) b)
