-- Its crossings are all of them.
use Rattle.std.proofs.Common.{◌↔◌, List, Contains, subst}
use Rattle.fifo_scheme.specs.declared.found.Fifo.{Fifo as Entry}
use Rattle.fifo_scheme.specs.Entries.{IsCrossingOfOne}
use Rattle.fifo_scheme.proofs.found.Fifos.of.Goals as goal

pub returns-clause-all : goal.returns-clause-all
returns-clause-all c = λ k. subst (λ (fifos : List Entry). Contains c.in_ok-crossings.crossings k
    ↔ IsCrossingOfOne fifos k) c.as_slice.ensures (c.in_ok-crossings.ensures.same k)
