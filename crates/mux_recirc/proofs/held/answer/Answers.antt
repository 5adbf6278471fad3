-- One question more, and in the end all; none where the ring has no bits.
use Rattle.std.proofs.Common.{◌∙◌, ◌++◌, ap, subst, get_or}
use Rattle.std.proofs.lemmas.List.Elements.{Contains-get_or}
use Rattle.mux_recirc.specs.declared.questions.Question.{Question}
use Rattle.mux_recirc.specs.Held.{ShowsBusy, part_if}
use Rattle.mux_recirc.proofs.Asked.{held_more, held_end, keeps_is, none_held, bit_asked}
use Rattle.mux_recirc.proofs.held.answer.Goals as goal

abbrev none : Question
none = record { ring = 0; bit = record { sig = 0; at = 0 } }

pub returns-in_default : goal.returns-in_default
returns-in_default c = λ is has within.
    none_held c.args.net.now c.args.ring.now c.args.pairs.now.items c.args.questions.now
    (subst (ShowsBusy c.args.net.now c.args.ring.now c.as_slice.result.now) c.in_default.is (c.in_ok-busy.ensures is has))

pub loop-question-preserved : goal.loop-question-preserved
loop-question-preserved c = λ is has within.
    let net = c.args.net.now in
    let qs = c.args.questions.now in
    let i = c.loop-question.question-index in
    let q = get_or qs i none in
    let busy = subst (ShowsBusy net c.args.ring.now c.as_slice.result.now) c.in-Some.is (c.in_ok-busy.ensures is has) in
    held_more net c.args.ring.now _ c.loop-question.pairs.items c.add_held.new.pairs.items qs i none c.loop-question-test.true (c.loop-question.invariant is has within)
    (c.in_ok-add_held.ensures busy.0 busy.1 c.as_slice.result.now is has busy.4 busy.5 (bit_asked qs i none c.as_slice.result.now c.loop-question-test.true (c.as_slice.ensures.value ∙ c.in_ok-bits.ensures))
    (within q (Contains-get_or qs i none c.loop-question-test.true))
    ∙ ap (λ v. c.loop-question.pairs.items ++ part_if v q) (keeps_is net c.args.ring.now busy.0 busy.1 q.bit busy.2 busy.3))

pub returns : goal.returns
returns c = λ is has within.
    held_end c.args.net.now c.args.ring.now _ c.loop-question.pairs.items c.args.questions.now c.loop-question.question-index c.loop-question-test.false (c.loop-question.invariant is has within)
