-- The net's own table shows what the cube without fixings does.
use Rattle.cofactor.proofs.Places.{if_ok}
use Rattle.crossings.proofs.Exact.{cause-map, if_err}
use Rattle.crossings.proofs.find.Goals as goal

pub returns-clause-exact : goal.returns-clause-exact
returns-clause-exact c = if_ok c.find_with.result (λ ks exact is has fit. exact is has fit (c.in_ok-plain.ensures is.graph)) c.find_with.ensures.exact

pub returns-clause-full : goal.returns-clause-full
returns-clause-full c = if_err c.find_with.result (λ s. cause-map 603 s (λ over is has fit. over is has fit (c.in_ok-plain.ensures is.graph))) c.find_with.ensures.full
