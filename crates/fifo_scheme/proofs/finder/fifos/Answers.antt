use Rattle.fifo_scheme.proofs.finder.fifos.Goals as goal

pub returns-clause-sound : goal.returns-clause-sound
returns-clause-sound c = λ syncs given. c.in_ok-found.ensures.sound syncs given (c.in_ok-table.ensures given.is_net.graph)

pub returns-clause-exact : goal.returns-clause-exact
returns-clause-exact c = λ syncs t given. c.in_ok-found.ensures.exact syncs t given (c.in_ok-table.ensures given.is_net.graph)

pub returns-clause-fits : goal.returns-clause-fits
returns-clause-fits c = λ syncs t given. c.in_ok-found.ensures.fits syncs t given (c.in_ok-table.ensures given.is_net.graph)

pub returns-clause-order : goal.returns-clause-order
returns-clause-order c = λ syncs t given. c.in_ok-found.ensures.order syncs t given (c.in_ok-table.ensures given.is_net.graph)
