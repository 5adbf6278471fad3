use Rattle.std.proofs.lemmas.Result.{IfOk-weaker}
use Rattle.driver_loops.proofs.walk.on_loops.Goals as goal

pub returns-clause-exact : goal.returns-clause-exact
returns-clause-exact c = IfOk-weaker c.loops_against.result _ _ (λ marks h roots is. h roots is c.in_ok-back.ensures) c.loops_against.ensures.exact
