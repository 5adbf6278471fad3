use Rattle.flat_meaning.specs.Design.{width_in}
use Rattle.flat_meaning.specs.Assigned.{surely}
use Rattle.flat_unfolding.specs.Reads.{early}
use Rattle.flat_statements.proofs.Paths.{or-paths}
use Rattle.flat_statements.proofs.latch.chosen_paths.Goals as goal

pub returns : goal.returns
returns c = λ x y h g.
    let wid = width_in c.args.signals.now in
    c.behind_reads.ensures _ _ (or-paths (surely wid x) (early wid x) (surely wid y) (early wid y) c.args.yes c.args.other.now c.or.new.self h g c.in_ok-or.ensures.surely c.in_ok-or.ensures.exposed)
