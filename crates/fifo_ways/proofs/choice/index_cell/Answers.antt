-- One term more is not on the signal.
use Rattle.std.proofs.Common.{sym, subst, arith, inl, inr, false, None}
use Rattle.std.specs.List.{Contains}
use Rattle.std.proofs.lemmas.List.{take_all}
use Rattle.fifo_nodes.specs.declared.term.Term.TheVariants.{Is}
use Rattle.fifo_ways.specs.Steps.{IsTermOf}
use Rattle.fifo_ways.proofs.Walk.{taken-cases}
use Rattle.fifo_ways.proofs.choice.index_cell.Goals as goal

pub loop-term-preserved : goal.loop-term-preserved
loop-term-preserved c = λ t h cell is. elim (taken-cases c.args.terms.now c.loop-term.term-index (Is None false) t c.loop-term-test.true h) [
  | inl k ↦ c.loop-term.invariant t k cell is
  | inr e ↦ c.in_default.ensures cell (subst (IsTermOf c.args.net.now.graph c.args.count cell) (sym e) is)
]

pub returns : goal.returns
returns c =
    λ t h. c.loop-term.invariant t (subst (λ ts. Contains ts t)
    (sym (take_all c.loop-term.term-index c.args.terms.now (let l = c.loop-term-test.false in omega arith))) h)
