-- The bit that is passed is the signal's.
use Rattle.std.proofs.Common.{◌∙◌, sym}
use Rattle.cofactor.proofs.Places.{if_ok}
use Rattle.gray_pointer.proofs.Leaves.{passed_signal}
use Rattle.gray_pointer.proofs.candidates.add_passed.Goals as goal

pub returns-clause-there : goal.returns-clause-there
returns-clause-there c = if_ok c.add_signal.result
    (λ u h plain inside lt sig w o.
    let g = c.args.net.now.graph in
    let n = passed_signal g plain c.origin.result (λ n e. (c.origin.ensures.within plain.well (inside, lt) n e).0) sig w c.args.at (sym o ∙ c.origin.ensures.exact plain.well (inside, lt)) in
    h n.0 sig n.1 n.2)
    c.add_signal.ensures.there
