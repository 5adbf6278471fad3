-- By the FIFOs that were found.
use Rattle.std.proofs.Common.{◌↔◌, List, Contains, subst, sym}
use Rattle.cdc_model.specs.declared.scheme.Crossing.{Crossing}
use Rattle.cdc_model.specs.Ordered.{IsAll}
use Rattle.fifo_scheme.specs.declared.found.Fifo.{Fifo as Entry}
use Rattle.fifo_scheme.specs.Entries.{IsCrossingOfOne, IsListedFifo, fifo_key}
use Rattle.fifo_scheme.proofs.FoundFor.{has_order, made_fit}
use Rattle.fifo_scheme.proofs.finder.fifos_with.Goals as goal

pub returns-clause-sound : goal.returns-clause-sound
returns-clause-sound c = λ syncs given shown e h. c.in_ok-fifos.ensures.sound syncs given shown e (subst (λ (es : List Entry). Contains es e) c.in_ok-found.ensures.given.4 h)

pub returns-clause-exact : goal.returns-clause-exact
returns-clause-exact c = λ syncs t given shown lists.
    subst (IsAll (IsListedFifo c.args.net.now c.args.domains.now syncs c.args.grays.now) fifo_key) (sym c.in_ok-found.ensures.given.4) (c.in_ok-fifos.ensures.exact syncs t given shown lists)

pub returns-clause-fits : goal.returns-clause-fits
returns-clause-fits c = λ syncs t given shown lists.
    made_fit c.args.net.now c.args.domains.now syncs c.args.grays.now c.in_ok-found.found c.in_ok-fifos.fifos t c.args.syncs.now lists given.listed c.in_ok-found.ensures.given
    (c.in_ok-fifos.ensures.sound syncs given shown) c.in_ok-found.ensures.all

pub returns-clause-order : goal.returns-clause-order
returns-clause-order c = λ syncs t given shown lists rings e h.
    has_order c.args.net.now c.args.domains.now syncs c.args.grays.now t lists rings e
    (c.in_ok-fifos.ensures.sound syncs given shown e (subst (λ (es : List Entry). Contains es e) c.in_ok-found.ensures.given.4 h))

pub returns-clause-guards : goal.returns-clause-guards
returns-clause-guards c =
    subst (λ (es : List Entry). (k : Crossing) → Contains c.in_ok-found.found.crossings k ↔ IsCrossingOfOne es k) (sym c.in_ok-found.ensures.given.4) c.in_ok-found.ensures.all
