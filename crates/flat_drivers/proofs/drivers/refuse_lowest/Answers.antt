use Rattle.std.proofs.Common.{sym, ◌∙◌}
use Rattle.flat_unfolding.specs.Reads.{first_from}
use Rattle.flat_drivers.proofs.Trials.{tries-none, tries-some}
use Rattle.flat_drivers.proofs.drivers.refuse_lowest.Goals as goal

pub returns-in-None-clause-exact : goal.returns-in-None-clause-exact
returns-in-None-clause-exact c = λ fails small e. tries-none c.args.rule c.args.signal.now (first_from fails 0 c.args.signal.now.width) (sym (c.lowest_in.ensures fails small e) ∙ c.in-None.is)

pub returns-in_ok-name-in-Some-clause-exact : goal.returns-in_ok-name-in-Some-clause-exact
returns-in_ok-name-in-Some-clause-exact c = λ fails small e.
    tries-some c.args.rule c.args.signal.now (first_from fails 0 c.args.signal.now.width) c.in-Some.at c.in_ok-name-in-Some.name (sym (c.lowest_in.ensures fails small e) ∙ c.in-Some.is) c.in_ok-name-in-Some.ensures
