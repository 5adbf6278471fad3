use Rattle.fifo_laws.specs.Laws.{FifosStart, FifosStep}
use Rattle.fifo_laws.proofs.OrderKept.{fifo_order, fifo_reads}
use Rattle.fifo_laws.proofs.Start.{all_start}
use Rattle.fifo_laws.proofs.Step.{all_kept}
use Rattle.fifo_laws.proofs.fifo_order.Goals as goal

starts : FifosStart
starts d tree t syncs grays fifos lists are s first = all_start d s first tree t syncs grays lists fifos are

steps : FifosStep
steps d tree t syncs grays rings fifos lists are past edges new run keeps facts calm whole = all_kept d tree t syncs grays rings lists past edges new run.1 facts calm whole fifos are keeps

pub returns-clause-within : goal.returns-clause-within
returns-clause-within c = fifo_order starts steps

pub returns-clause-oldest : goal.returns-clause-oldest
returns-clause-oldest c = fifo_reads starts steps
