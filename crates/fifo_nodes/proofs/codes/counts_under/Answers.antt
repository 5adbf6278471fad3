-- The cell is a sum or a choice as wide as the register that counts it under the terms, or it is none.
use Rattle.std.proofs.Common.{◌≡◌, ◌≤◌, ◌∙◌, sym, subst, arith, true, false}
use Rattle.cell_graph.specs.Cells.{cell_width}
use Rattle.fifo_terms.specs.Terms.{HaveOneSet}
use Rattle.gray_pointer.specs.Words.{HasWord, word_of}
use Rattle.fifo_nodes.specs.Counts.{IsCounted}
use Rattle.fifo_nodes.specs.Terms.{terms_of, AreTermsIn}
use Rattle.fifo_nodes.proofs.NextCodes.{next_wide, next_is, counted_not, counted_next, next_counted}
use Rattle.fifo_nodes.proofs.codes.counts_under.Goals as goal
use Rattle.fifo_nodes.proofs.codes.counts_under.Goals.{then-width-code-via-then-width-code}
use Rattle.fifo_nodes.proofs.codes.counts_under.Goals.{then-width-code-via-else-width-code+then-not-is_sum_or_choice}

pub returns-then-width-code : goal.returns-then-width-code
returns-then-width-code c = λ plain shown code under l.
    let g = c.args.net.now.graph in
    let b = c.args.code.now.count in
    let w = c.args.code.now.width in
    let ts = terms_of g c.args.under.now in (
      λ t. cc,
      λ h. absurd (elim c.then-width-code.branch [
        | then-width-code-via-then-width-code v ↦ let k = next_wide g b w code.wide ts c.args.cell h in let lt = v.if-width-code.true in
            let e = c.width.ensures in omega arith
        | then-width-code-via-else-width-code+then-not-is_sum_or_choice v ↦
            let t : true ≡ false = sym ((v.is_sum_or_choice.ensures plain l).1 (next_is g b w code.wide ts c.args.cell h))
            ∙ v.if-not-is_sum_or_choice.true in cc
      ]),
    )

pub returns-in-Some : goal.returns-in-Some
returns-in-Some c = λ plain shown code under l.
    let g = c.args.net.now.graph in
    let b = c.args.code.now.count in
    let w = c.args.code.now.width in
    let ts = terms_of g c.args.under.now in
    let found = c.in-Some.terms in
    let wide : w ≤ cell_width g c.args.cell = (let k = c.if-width-code.false in let e = c.width.ensures in omega arith) in
    let has : HasWord g c.args.cell w = (let k = code.wide in (l, omega arith, wide)) in
    let is = (c.is_sum_or_choice.ensures plain l).0 c.if-not-is_sum_or_choice.false in
    let counted = subst (IsCounted g b w (word_of g c.args.cell w)) c.in-Some.is (c.in_ok-terms.ensures plain shown code.wide code.signal has) in
    let one = c.have_one_set.ensures g plain under (subst (AreTermsIn g) (sym c.as_slice.ensures) counted.2.within) in (
      λ t. counted_next g b w code.wide ts c.args.cell is found counted wide
          (subst (λ us. HaveOneSet ts (terms_of g us)) c.as_slice.ensures (one.0 t)),
      λ h. one.1 (subst (λ us. HaveOneSet ts (terms_of g us)) (sym c.as_slice.ensures)
          (next_counted g b w code.wide ts c.args.cell is found counted h)),
    )

pub returns-in-None : goal.returns-in-None
returns-in-None c = λ plain shown code under l.
    let g = c.args.net.now.graph in
    let b = c.args.code.now.count in
    let w = c.args.code.now.width in
    let wide : w ≤ cell_width g c.args.cell = (let k = c.if-width-code.false in let e = c.width.ensures in omega arith) in
    let has : HasWord g c.args.cell w = (let k = code.wide in (l, omega arith, wide)) in
    let is = (c.is_sum_or_choice.ensures plain l).0 c.if-not-is_sum_or_choice.false in
    let counted = subst (IsCounted g b w (word_of g c.args.cell w)) c.in-None.is (c.in_ok-terms.ensures plain shown code.wide code.signal has) in
    (λ t. cc, λ h. absurd (counted_not g b w code.wide (terms_of g c.args.under.now) c.args.cell is counted h))
