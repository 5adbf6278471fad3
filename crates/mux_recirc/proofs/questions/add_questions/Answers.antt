-- One question for each ring of the bits that the bit reads.
use Rattle.std.proofs.Common.{[]}
use Rattle.cofactor.proofs.Places.{if_ok}
use Rattle.mux_recirc.proofs.Asking.{asked_more}
use Rattle.mux_recirc.proofs.questions.add_questions.Goals as goal

pub returns-clause-added : goal.returns-clause-added
returns-clause-added c = if_ok c.add_all.result
    (λ u added is has shown l sorted q.
    asked_more c.args.net.now c.args.parts.now.entries.items c.args.bit c.as_slice.result.now c.in_ok-reads.reads c.in_ok-rings.rings.items c.as_slice-2.result.now
    c.args.questions.now.items c.add_all.new.questions.items c.as_slice.ensures (c.in_ok-reads.ensures.exact [] is has shown l) c.as_slice-2.ensures.value (c.in_ok-rings.ensures sorted) added q)
    c.add_all.ensures
