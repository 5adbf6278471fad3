-- The next term says a bit of the word, or is one of the others, or neither.
use Rattle.std.proofs.Common.{◌≡◌, ◌∙◌, ◌⊎◌, sym, subst, inl, inr, true, false, None, get_or}
use Rattle.std.proofs.lemmas.List.Elements.{Contains-get_or}
use Rattle.fifo_terms.specs.Terms.{HasTerm}
use Rattle.fifo_nodes.specs.declared.term.Term.TheVariants.{Is}
use Rattle.fifo_nodes.specs.Terms.{AreTermsIn, term_of, terms_of}
use Rattle.fifo_parts.specs.Words.{says_word}
use Rattle.fifo_parts.proofs.Listed.{all_next}
use Rattle.fifo_parts.proofs.words.are_allowed.Goals as goal
use Rattle.fifo_parts.proofs.words.are_allowed.Goals.{else-not-says-via-then-not-says+else-not-has_term, else-not-says-via-else-not-says}

pub returns-then-not-has_term : goal.returns-then-not-has_term
returns-then-not-has_term c = λ plain all others.
    let g = c.args.net.now.graph in
    let side = c.args.side.now in
    let t = get_or c.args.terms.now c.loop-term.term-index (Is None false) in
    let there = Contains-get_or c.args.terms.now c.loop-term.term-index (Is None false) c.loop-term-test.true in
    let next = all_next (λ t. (says_word g side.reg.count side.width c.args.word t ≡ true)
    ⊎ HasTerm (terms_of g side.under) (term_of g t)) c.args.terms.now c.loop-term.term-index (Is None false) c.loop-term-test.true in
    let iff = c.has_term.ensures g plain (subst (λ ts. AreTermsIn g ts) (sym c.as_slice.ensures) others) (all _ there) in (
      λ e. cc,
      λ h. elim (next.0 ((c.loop-term.invariant plain all others).0 h)).0 [
        | inl e ↦ let clash : true ≡ false = sym e ∙ sym c.says.ensures ∙ c.if-not-says.true in cc
        | inr k ↦ let clash : true ≡ false = sym (iff.1 (subst (λ ts. HasTerm (terms_of g ts) (term_of g t)) (sym c.as_slice.ensures) k))
            ∙ c.if-not-has_term.true in cc
      ],
    )

pub loop-term-preserved : goal.loop-term-preserved
loop-term-preserved c = λ plain all others.
    let g = c.args.net.now.graph in
    let side = c.args.side.now in
    let t = get_or c.args.terms.now c.loop-term.term-index (Is None false) in
    let there = Contains-get_or c.args.terms.now c.loop-term.term-index (Is None false) c.loop-term-test.true in
    let next = all_next (λ t. (says_word g side.reg.count side.width c.args.word t ≡ true)
    ⊎ HasTerm (terms_of g side.under) (term_of g t)) c.args.terms.now c.loop-term.term-index (Is None false) c.loop-term-test.true in
    let so = c.loop-term.invariant plain all others in (
      λ h. (next.0 (so.0 h)).1,
      λ rest. so.1 (next.1 (
        elim c.else-not-says.branch [
          | else-not-says-via-then-not-says+else-not-has_term w ↦ inr (subst (λ ts. HasTerm (terms_of g ts) (term_of g t)) w.as_slice.ensures
              ((w.has_term.ensures g plain (subst (λ ts. AreTermsIn g ts) (sym w.as_slice.ensures) others) (all _ there)).0 w.if-not-has_term.false))
          | else-not-says-via-else-not-says w ↦ inl (sym c.says.ensures ∙ w.if-not-says.false)
        ],
        rest,
      )),
    )
