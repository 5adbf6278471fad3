-- A term is not among the others, or each so far is.
use Rattle.std.proofs.Common.{◌≡◌, ◌∙◌, sym, subst, true, false, All}
use Rattle.std.proofs.lemmas.List.{take_all}
use Rattle.std.proofs.lemmas.List.Elements.{All-more, All-contains, Contains-get_or}
use Rattle.cdc_model.proofs.Ascending.{in_map, from_map}
use Rattle.fifo_terms.specs.Terms.{HasTerm}
use Rattle.fifo_nodes.specs.Terms.{term_of, terms_of}
use Rattle.fifo_nodes.proofs.Sets.{IsAmong}
use Rattle.fifo_nodes.proofs.term.are_among.Goals as goal

pub returns-then-not-has_term : goal.returns-then-not-has_term
returns-then-not-has_term c = λ g plain all others.
    let there = Contains-get_or c.args.terms.now c.loop-term.term-index _ c.loop-term-test.true in
    let iff = c.has_term.ensures g plain others (all _ there) in
    (λ t. cc, λ h. let t : true ≡ false = sym (iff.1 (h _ (in_map (term_of g) c.args.terms.now _ there))) ∙ c.if-not-has_term.true in cc)

pub loop-term-preserved : goal.loop-term-preserved
loop-term-preserved c = λ g plain all others.
    let there = Contains-get_or c.args.terms.now c.loop-term.term-index _ c.loop-term-test.true in
    All-more (IsAmong g c.args.others.now) c.args.terms.now c.loop-term.term-index _ c.loop-term-test.true (c.loop-term.invariant g plain all others)
    ((c.has_term.ensures g plain others (all _ there)).0 c.if-not-has_term.false)

pub returns : goal.returns
returns c = λ g plain all others.
    let so = c.loop-term.invariant g plain all others in
    let among = subst (All (IsAmong g c.args.others.now)) (take_all c.loop-term.term-index c.args.terms.now c.loop-term-test.false) so in (
      λ e t h.
          let k = from_map (term_of g) c.args.terms.now t h in
          subst (HasTerm (terms_of g c.args.others.now)) k.2 (All-contains (IsAmong g c.args.others.now) c.args.terms.now k.0 among k.1),
      λ h. cc,
    )
