-- Bits that tick and may sample a bit either way, by the tables of a run.
use Rattle.std.specs.Prelude.{◌≡◌, ℕ, true, Bool, not, ◌&&◌, Option, List, [], ◌∷◌}
use Rattle.std.specs.Bool.{beq}
use Rattle.cdc_base.specs.declared.bit.Bit.{Bit}
use Rattle.cell_graph.specs.declared.net.Net.{Net}
use Rattle.cell_graph.specs.Values.{reading_of}
use Rattle.domains.specs.declared.Domains.{Domains}
use Rattle.domains.specs.Assignment.{clock_of}
use Rattle.cdc_model.specs.declared.scheme.Crossing.{Crossing}
use Rattle.cdc_model.specs.Nets.{is_within, is_register_bit}
use Rattle.settling_sim.specs.declared.cycles.Cycles.{Cycles}
use Rattle.settling_sim.specs.Edges.{is_marked}
use Rattle.settling_sim.specs.Loose.{is_loose_in}
use Rattle.settling_sim.specs.Reader.{next_with}

-- the bit ticks, and the other one is loose for it
abbrev pub is_torn_in : Domains → (Bit → Option Bit) → List Bool → List ℕ → List Cycles → List ℕ → Crossing → Bool
is_torn_in domains copied ticking words cycles after c = is_marked ticking (clock_of domains c.to) && is_loose_in domains copied words cycles after c.to c.from

-- and with the other value of the one the other would take another value
abbrev pub shows_in : Net → Domains → (Bit → Option Bit) → List Bool → List ℕ → List Cycles → List ℕ → Crossing → Bool
shows_in net domains copied ticking words cycles after c =
    is_torn_in domains copied ticking words cycles after c && not (beq (next_with net words (c.from ∷ []) c.to) (reading_of after c.to))

-- a bit of the net, and a register bit
pub record IsPair (net : Net) (c : Crossing) : Type 0 where
  pub from : is_within net c.from ≡ true
  pub to : is_register_bit net c.to ≡ true
