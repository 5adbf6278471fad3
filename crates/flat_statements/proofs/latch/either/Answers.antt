use Rattle.flat_statements.proofs.Paths.{either-surely, either-exposed}
use Rattle.flat_statements.proofs.latch.either.Goals as goal

pub returns-in_ok-or-in-Some-clause-surely : goal.returns-in_ok-or-in-Some-clause-surely
returns-in_ok-or-in-Some-clause-surely c = either-surely c.args.before c.in-Some.all c.args.next c.or.new.self c.in-Some.is c.in_ok-or-in-Some.ensures.surely

pub returns-in_ok-or-in-Some-clause-exposed : goal.returns-in_ok-or-in-Some-clause-exposed
returns-in_ok-or-in-Some-clause-exposed c = either-exposed c.args.before c.in-Some.all c.args.next c.or.new.self c.in-Some.is c.in_ok-or-in-Some.ensures.exposed
