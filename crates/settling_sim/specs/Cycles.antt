-- The cycles that bits may still need, by the two binary digits of their numbers.
use Rattle.std.specs.Prelude.{ℕ, ◌+◌, ◌*◌, ◌/◌, ◌%◌, ◌==◌, Bool, cond, List, [], ◌∷◌, set, slice_get, unwrap_or}
use Rattle.cdc_base.specs.declared.bit.Bit.{Bit}
use Rattle.cell_graph.specs.Tree.{bit_at}
use Rattle.settling_sim.specs.declared.cycles.Cycles.{Cycles}
use Rattle.settling_sim.specs.Words.{with_bit}

-- no bit of a signal needs any
abbrev pub settled : Cycles
settled = record { low = 0; high = 0 }

abbrev pub digit : Bool → ℕ
digit b = cond b 1 0

-- the number of a bit
abbrev pub count_at : Cycles → ℕ → ℕ
count_at c at = digit (bit_at c.low at) + 2 * digit (bit_at c.high at)

-- the cycles of a signal's bits; where there is none they are settled
abbrev pub cycles_at : List Cycles → ℕ → Cycles
cycles_at cycles sig = unwrap_or (slice_get cycles sig) settled

abbrev pub cycles_of : List Cycles → Bit → ℕ
cycles_of cycles b = count_at (cycles_at cycles b.sig) b.at

-- with this number for a bit
abbrev pub with_count : Cycles → ℕ → ℕ → Cycles
with_count c at n = record { low = with_bit c.low at (n % 2 == 1); high = with_bit c.high at (n / 2 % 2 == 1) }

abbrev pub put_cycles : List Cycles → Bit → ℕ → List Cycles
put_cycles cycles b n = set cycles b.sig (with_count (cycles_at cycles b.sig) b.at n)
