use Rattle.std.proofs.Common.{rules, arith, true, cond, subst, ◌≡◌}
use Rattle.std.specs.HashSet as set
use Rattle.fifo_scheme.specs.contracts.found.FifoPairPartialEq.TheImpl as equality
use Rattle.fifo_scheme.specs.declared.found.Fifo.{Fifo as Entry}
use Rattle.fifo_scheme.proofs.Standing.{pair_of, there_all, there_more}
use Rattle.fifo_scheme.proofs.finder.stood_for.Goals as goal

pub loop-fifo-preserved : goal.loop-fifo-preserved
loop-fifo-preserved c = λ p.
    let e = c.fifo-item.result in
    let old = set.contains equality.ghosts.eq c.loop-fifo.there p in
    let new = set.contains equality.ghosts.eq c.insert.new.self p in
    let step : new ≡ cond (equality.ghosts.eq (pair_of e) p) true old = search rules in
    there_more c.args.fifos.now c.loop-fifo.fifo-index e p old new (omega arith) (c.loop-fifo.invariant p) (subst (λ (x : Entry). new ≡ cond (equality.ghosts.eq (pair_of x) p) true old) c.fifo-item.is step)

pub returns : goal.returns
returns c = λ p. there_all c.args.fifos.now c.loop-fifo.fifo-index p (set.contains equality.ghosts.eq c.loop-fifo.there p) (omega arith) (c.loop-fifo.invariant p)
