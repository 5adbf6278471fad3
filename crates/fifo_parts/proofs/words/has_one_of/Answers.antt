-- The term isn't among the others.
use Rattle.std.proofs.Common.{◌≡◌, ◌∙◌, sym, true, false}
use Rattle.std.proofs.lemmas.List.Elements.{Contains-get_or}
use Rattle.fifo_terms.specs.Terms.{HasTerm}
use Rattle.fifo_nodes.specs.Terms.{term_of, terms_of}
use Rattle.fifo_parts.proofs.Listed.{some_next}
use Rattle.fifo_parts.proofs.words.has_one_of.Goals as goal

pub loop-term-preserved : goal.loop-term-preserved
loop-term-preserved c = λ g plain all others h.
    let there = Contains-get_or c.args.terms.now c.loop-term.term-index _ c.loop-term-test.true in
    some_next (λ t. HasTerm (terms_of g c.args.others.now) (term_of g t)) c.args.terms.now c.loop-term.term-index _ c.loop-term-test.true
    (λ k. let t : true ≡ false = sym ((c.has_term.ensures g plain others (all _ there)).1 k)
    ∙ c.if-has_term.false in cc) (c.loop-term.invariant g plain all others h)
