-- The crossings from the bits so far, and those to come.
use Rattle.std.proofs.Common.{◌≡◌, ◌++◌, drop, map}
use Rattle.std.specs.Prelude.{filter}
use Rattle.std.specs.HashSet as set
use Rattle.cdc_base.specs.declared.bit.Bit.{Bit}
use Rattle.cdc_model.specs.declared.scheme.Crossing.{Crossing}
use Rattle.fifo_ways.specs.Marked.{same_bit}
use Rattle.fifo_scheme.specs.Met.{crossings_into}
use Rattle.fifo_scheme.proofs.judge.add_crossings.Given as goal

abbrev pub invariant-loop-bit : goal.invariant-loop-bit
invariant-loop-bit l = l.initial.crossings ++ crossings_into (set.contains same_bit l.words) l.reading
    ≡ l.crossings ++ map (λ (b : Bit). let c : Crossing = record { from = b; to = l.to } in c) (filter (set.contains same_bit l.words) (drop l.bit-index l.bit-items))
