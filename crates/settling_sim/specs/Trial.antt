-- Where a step leads, in words.
use Rattle.std.specs.Prelude.{ℕ, Bool, cond, Option, is_some, List, [], ◌∷◌, set}
use Rattle.cdc_base.specs.declared.bit.Bit.{Bit}
use Rattle.cell_graph.specs.declared.net.Net.{Net}
use Rattle.cell_graph.specs.declared.net.Reg.{Reg}
use Rattle.cell_graph.specs.Values.{word_at, values_of}
use Rattle.domains.specs.declared.Domains.{Domains}
use Rattle.domains.specs.Assignment.{clock_of}
use Rattle.cdc_model.specs.declared.record.Given.{Given}
use Rattle.cdc_model.specs.declared.record.Race.{Race}
use Rattle.settling_sim.specs.declared.cycles.Cycles.{Cycles}
use Rattle.settling_sim.specs.Words.{put_bit}
use Rattle.settling_sim.specs.Cycles.{put_cycles, settled}
use Rattle.settling_sim.specs.Edges.{is_marked}
use Rattle.settling_sim.specs.Loose.{needed_by}
use Rattle.settling_sim.specs.Reader.{next_with}

-- the register's clock ticks
abbrev pub register_ticks : Domains → List Bool → ℕ → Bool
register_ticks domains ticking sig = is_marked ticking (clock_of domains (record { sig = sig; at = 0 }))

-- ticking registers take their cells' values
abbrev pub take_next : Domains → List Bool → List ℕ → List Reg → List ℕ → List ℕ
take_next domains ticking values [] words = words
take_next domains ticking values (r ∷ rs) words =
    take_next domains ticking values rs (cond (register_ticks domains ticking r.sig) (set words r.sig (word_at values r.next.0)) words)

-- signals take their given values
abbrev pub take_given : List Given → List ℕ → List ℕ
take_given [] words = words
take_given (g ∷ gs) words = take_given gs (set words g.sig g.value)

-- racing bits take what a function says of their flipped bits
abbrev pub take_races : (List Bit → Bit → Bool) → List Race → List ℕ → List ℕ
take_races next [] words = words
take_races next (r ∷ rs) words = take_races next rs (put_bit words r.bit (next r.flip r.bit))

-- the words after a step, by the clocks that tick
abbrev pub tried_words : Net → Domains → List Bool → List ℕ → List Given → List Race → List ℕ
tried_words net domains ticking words inputs races =
    take_races (next_with net words) races (take_given inputs (take_next domains ticking (values_of net.graph words) net.regs words))

-- the bits of ticking registers are settled
abbrev pub settle : Domains → List Bool → List Reg → List Cycles → List Cycles
settle domains ticking [] cycles = cycles
settle domains ticking (r ∷ rs) cycles = settle domains ticking rs (cond (register_ticks domains ticking r.sig) (set cycles r.sig settled) cycles)

-- but for those whose race has other bits, which need the cycles that a function says
abbrev pub unsettle : (Bit → ℕ) → List Race → List Cycles → List Cycles
unsettle needed [] cycles = cycles
unsettle needed (r ∷ rs) cycles = unsettle needed rs (cond (is_some r.other) (put_cycles cycles r.bit (needed r.bit)) cycles)

-- the cycles after a step
abbrev pub tried_cycles : Domains → (Bit → Option Bit) → List Bool → List Reg → List Race → List Cycles → List Cycles
tried_cycles domains copied ticking regs races cycles = unsettle (λ x. needed_by domains cycles x (copied x)) races (settle domains ticking regs cycles)
