-- The places of the synchronizers so far are found by their first flops.
use Rattle.std.specs.HashMap as hash
use Rattle.cdc_base.specs.declared.bit.Bit.{Bit}
use Rattle.cdc_base.specs.contracts.bit.BitPartialEq.TheImpl as equality
use Rattle.cert_check.specs.Rings.{IsFirstAmong}
use Rattle.cert_check.proofs.rings.firsts_of.Given as goal

abbrev pub invariant-loop-place : goal.invariant-loop-place
invariant-loop-place l = (b : Bit) → IsFirstAmong l.syncs l.place b (hash.get equality.ghosts.eq l.firsts b)
