-- The count of one term more, or none.
use Rattle.std.proofs.Common.{◌≡◌, ◌∙◌, ◌+◌, ℕ, sym, ap, subst, arith, List, Some, None, false, Contains, take}
use Rattle.std.specs.Prelude.{◌↔◌}
use Rattle.std.proofs.lemmas.List.{take_all}
use Rattle.fifo_nodes.specs.declared.term.Term.{Term}
use Rattle.fifo_nodes.specs.declared.term.Term.TheVariants.{Is}
use Rattle.fifo_parts.specs.Words.{SaysBit}
use Rattle.fifo_parts.proofs.Listed.{none_more, one_more}
use Rattle.fifo_parts.proofs.words.counts_said.Goals as goal
use Rattle.fifo_parts.proofs.words.counts_said.Goals.{in-Some+in_ok-push, in_default}

pub loop-term-preserved : goal.loop-term-preserved
loop-term-preserved c = λ sig.
    let net = c.args.net.now in
    let ts = c.args.terms.now in
    let i = c.loop-term.term-index in
    elim c.match-count_said.branch [
      | in-Some+in_ok-push w ↦ subst (λ (ns : List ℕ). Contains ns sig
          ↔ ((t : Term) × Contains (take (i + 1) ts) t × SaysBit net sig t)) (sym (w.counts-is ∙ w.in_ok-push.ensures.pushed))
          (one_more (λ (t : Term) n. SaysBit net n t) ts i (Is None false) c.loop-term-test.true c.loop-term.counts c.loop-term.invariant
          w.in-Some.count
          (λ n. (
            λ e. (c.count_said.ensures n).0 (w.in-Some.is ∙ ap Some e),
            λ h. let k = sym w.in-Some.is ∙ (c.count_said.ensures n).1 h in
                let same : w.in-Some.count ≡ n = cc in same,
          )) sig)
      | in_default w ↦ subst (λ (ns : List ℕ). Contains ns sig ↔ ((t : Term) × Contains (take (i + 1) ts) t × SaysBit net sig t)) (sym w.counts-is)
          (none_more (λ (t : Term) n. SaysBit net n t) ts i (Is None false) c.loop-term-test.true c.loop-term.counts c.loop-term.invariant
          (λ n h. w.in_default.not-Some n ((c.count_said.ensures n).1 h)) sig)
    ]

pub returns : goal.returns
returns c = λ sig. subst (λ (ts : List Term). Contains c.loop-term.counts sig ↔ ((t : Term) × Contains ts t × SaysBit c.args.net.now sig t))
    (take_all c.loop-term.term-index c.args.terms.now (let l = c.loop-term-test.false in omega arith)) (c.loop-term.invariant sig)
