-- The places so far are those of what register bits take so far.
use Rattle.std.specs.HashMap as hash
use Rattle.cdc_base.specs.contracts.bit.BitPartialEq.TheImpl as equality
use Rattle.cdc_base.specs.declared.bit.Bit.{Bit}
use Rattle.fifo_scheme.proofs.IndexPlaces.{IsPlaceBelow}
use Rattle.fifo_scheme.proofs.index.by_bit.Given as goal

abbrev pub invariant-loop-place : goal.invariant-loop-place
invariant-loop-place l = (b : Bit) → IsPlaceBelow l.takings l.place b (hash.get equality.ghosts.eq l.places b)
