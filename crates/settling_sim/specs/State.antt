-- Which signals hold the state of a run.
use Rattle.std.specs.Prelude.{ℕ, Bool, true, false, ◌&&◌, ◌||◌, ◌==◌, is_some, slice_get}
use Rattle.std.specs.Option.{option_map_or}
use Rattle.std.specs.List.{list_any}
use Rattle.cdc_base.specs.declared.bit.Bit.{Bit}
use Rattle.cdc_base.specs.declared.signal.Signal.{Signal}
use Rattle.cdc_base.specs.declared.signal.SigKind.{SigKind}
use Rattle.cdc_base.specs.declared.signal.SigKind.TheVariants.{Input, Register, Wire}
use Rattle.cell_graph.specs.declared.net.Net.{Net}
use Rattle.domains.specs.declared.Domains.{Domains}
use Rattle.domains.specs.Assignment.{clock_of}
use Rattle.domains.specs.Nets.{is_register}

abbrev pub is_input : SigKind → Bool
is_input Input = true
is_input Register = false
is_input Wire = false

-- the signal is there, and its kind passes the test
abbrev pub has_kind : Net → (SigKind → Bool) → ℕ → Bool
has_kind net test sig = option_map_or (λ (s : Signal). test s.kind) (slice_get net.graph.signals sig) false

-- an input of the top that changes at the edges of a clock
abbrev pub is_clocked_input : Net → Domains → ℕ → Bool
is_clocked_input net domains sig = has_kind net is_input sig && is_some (clock_of domains (record { sig = sig; at = 0 }))

-- an input of the top that stays
abbrev pub is_static : Domains → ℕ → Bool
is_static domains sig = list_any (λ s. s == sig) domains.statics

-- registers, clocked inputs and static inputs hold the state
abbrev pub is_state_signal : Net → Domains → ℕ → Bool
is_state_signal net domains sig = (has_kind net is_register sig || is_clocked_input net domains sig) || is_static domains sig
