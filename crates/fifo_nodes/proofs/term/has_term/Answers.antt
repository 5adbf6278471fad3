-- A term is one with it, or none so far is.
use Rattle.std.proofs.Common.{◌≡◌, ◌∙◌, sym, subst, true, false, All}
use Rattle.std.proofs.lemmas.List.{take_all}
use Rattle.std.proofs.lemmas.List.Elements.{All-more, All-contains, Contains-get_or}
use Rattle.fifo_nodes.proofs.Sets.{IsOther, found_has, has_found}
use Rattle.fifo_nodes.proofs.term.has_term.Goals as goal

pub returns-then-are_one : goal.returns-then-are_one
returns-then-are_one c = λ g plain all is.
    let there = Contains-get_or c.args.terms.now c.loop-other.other-index _ c.loop-other-test.true in
    (λ t. has_found g c.args.terms.now c.args.term _ there ((c.are_one.ensures g plain is (all _ there)).0 c.if-are_one.true), λ h. cc)

pub loop-other-preserved : goal.loop-other-preserved
loop-other-preserved c = λ g plain all is.
    let there = Contains-get_or c.args.terms.now c.loop-other.other-index _ c.loop-other-test.true in
    All-more (IsOther g c.args.term) c.args.terms.now c.loop-other.other-index _ c.loop-other-test.true (c.loop-other.invariant g plain all is)
    (λ one. let t : true ≡ false = sym ((c.are_one.ensures g plain is (all _ there)).1 one) ∙ c.if-are_one.false in cc)

pub returns : goal.returns
returns c = λ g plain all is.
    let so = c.loop-other.invariant g plain all is in
    let others = subst (All (IsOther g c.args.term)) (take_all c.loop-other.other-index c.args.terms.now c.loop-other-test.false) so in (
      λ t. cc,
      λ h. let k = found_has g c.args.terms.now c.args.term h in absurd (All-contains (IsOther g c.args.term) c.args.terms.now k.0 others k.1 k.2),
    )
