-- One term more, and in the end all.
use Rattle.std.proofs.Common.{◌≡◌, ◌∙◌, ◌+◌, sym, subst, true, false, take}
use Rattle.std.proofs.lemmas.Option.{slice_get-get_or}
use Rattle.cdc_model.specs.Nets.{design_of, next_tree}
use Rattle.cdc_model.proofs.Justify.{slice_in}
use Rattle.fifo_nodes.specs.declared.term.Term.{Term}
use Rattle.fifo_nodes.specs.Terms.{term_of}
use Rattle.fifo_parts.specs.Tellers.{IsTestBy}
use Rattle.fifo_parts.proofs.Sifted.{all_sifted, AreSifted, sifted_in, sifted_out}
use Rattle.fifo_parts.proofs.pair.Teller.tests.Goals as goal
use Rattle.fifo_parts.proofs.pair.Teller.tests.Goals.{then-branch+in_ok-push, else-branch}

pub loop-term-preserved : goal.loop-term-preserved
loop-term-preserved c = λ near far shown tells inside.
    let net = c.args.shown.net.now in
    let terms = c.args.terms.now in
    let idx = c.loop-term.term-index in
    let lt = c.loop-term-test.true in
    let P : Term → Type 0 = λ t. IsTestBy c.args.self.now.apart (design_of net c.args.shown.domains.now) (next_tree net) near far
    (term_of net.graph t) in
    let so = c.loop-term.invariant near far shown tells inside in
    let is = c.in_ok-is_test.ensures near far shown tells (inside _ (slice_in terms idx _ (slice_get-get_or terms idx _ lt))) in
    elim c.if-branch.branch [
      | then-branch+in_ok-push w ↦ subst (AreSifted P (take (idx + 1) terms)) (sym (w.tests-is ∙ w.in_ok-push.ensures.pushed))
          (sifted_in P terms idx _ lt c.loop-term.tests so (is.0 w.if-branch.true))
      | else-branch w ↦ subst (AreSifted P (take (idx + 1) terms)) (sym w.tests-is)
          (sifted_out P terms idx _ lt c.loop-term.tests so (λ p. let no : true ≡ false = sym (is.1 p) ∙ w.if-branch.false in cc))
    ]

pub returns : goal.returns
returns c = λ near far shown tells inside.
    let net = c.args.shown.net.now in
    let P : Term → Type 0 = λ t. IsTestBy c.args.self.now.apart (design_of net c.args.shown.domains.now) (next_tree net) near far
    (term_of net.graph t) in
    all_sifted P c.args.terms.now c.loop-term.term-index c.loop-term.tests c.loop-term-test.false (c.loop-term.invariant near far shown tells inside)
