-- A term more that is none, and in the end all.
use Rattle.std.proofs.Common.{◌≡◌, ◌∙◌, sym, subst, inl, inr, arith, true, false, List, Contains}
use Rattle.std.proofs.lemmas.List.{take_all}
use Rattle.std.proofs.lemmas.Option.{slice_get-get_or}
use Rattle.cdc_model.proofs.Justify.{slice_in}
use Rattle.cdc_model.specs.Nets.{design_of, next_tree}
use Rattle.fifo_nodes.specs.declared.term.Term.{Term}
use Rattle.fifo_nodes.specs.Terms.{term_of}
use Rattle.fifo_parts.specs.Tellers.{IsTestBy}
use Rattle.fifo_parts.proofs.Sifted.{so_far_cases}
use Rattle.fifo_parts.proofs.pair.Teller.has_test.Goals as goal

pub loop-term-preserved : goal.loop-term-preserved
loop-term-preserved c = λ near far shown tells inside t i test.
    let net = c.args.shown.net.now in
    let terms = c.args.terms.now in
    let idx = c.loop-term.term-index in
    let lt = c.loop-term-test.true in
    let P : Term → Type 0 = λ x. IsTestBy c.args.self.now.apart (design_of net c.args.shown.domains.now) (next_tree net) near far
    (term_of net.graph x) in
    let is = c.in_ok-is_test.ensures near far shown tells (inside _ (slice_in terms idx _ (slice_get-get_or terms idx _ lt))) in
    elim (so_far_cases terms idx _ lt t i) [
      | inl j ↦ c.loop-term.invariant near far shown tells inside t j test
      | inr e ↦ (let no : true ≡ false = sym (is.1 (subst P (sym e) test)) ∙ c.if-branch.false in cc)
    ]

pub returns : goal.returns
returns c = λ near far shown tells inside. (
  λ e. cc,
  λ (t, i, test).
      absurd (c.loop-term.invariant near far shown tells inside t
      (subst (λ (ts : List Term). Contains ts t)
      (sym (take_all c.loop-term.term-index c.args.terms.now (let l = c.loop-term-test.false in omega arith))) i) test),
)
