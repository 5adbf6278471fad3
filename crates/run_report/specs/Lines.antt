-- The lines of a run.
use Rattle.std.specs.Prelude.{◌≡◌, ℕ, ◌+◌, ◌≤◌, ◌^◌, ◌==◌, Bool, false, not, ◌&&◌, List, [], ◌∷◌, ◌++◌, length, replicate, Option, Some, None, codes, IsPermutation, IsSorted, if◌then◌else◌}
use Rattle.std.specs.List.Sorted.{IsStrictlyIncreasing}
use Rattle.std.specs.Fmt.{decimal}
use Rattle.cdc_base.specs.declared.bit.Bit.{Bit}
use Rattle.cdc_base.specs.declared.signal.Signal.{Signal}
use Rattle.cdc_base.specs.contracts.bit.BitOrd.TheImpl as bit_order
use Rattle.cell_graph.specs.declared.net.Net.{Net}
use Rattle.cell_graph.specs.Values.{word_at}
use Rattle.clock_constraints.specs.declared.ClockPin.{ClockPin}
use Rattle.domains.specs.declared.Domains.{Domains}
use Rattle.cdc_model.specs.declared.record.Race.{Race}
use Rattle.cdc_model.specs.declared.record.RecordStep.{RecordStep}
use Rattle.report.specs.Names.{bit_of, spaced}
use Rattle.settling_sim.specs.Edges.{is_marked, mark_in}
use Rattle.settling_sim.specs.State.{is_state_signal}
use Rattle.run_report.specs.Values.{value_text}

-- a line of each state signal, from number k on
abbrev pub start_line : Signal → ℕ → List ℕ
start_line s v = (((codes "  " ++ s.name) ++ codes " = ") ++ value_text s.width v) ++ codes "\n"

abbrev pub start_lines : Net → Domains → List ℕ → ℕ → List Signal → List ℕ
start_lines net domains words k [] = []
start_lines net domains words k (s ∷ ss) =
    (if is_state_signal net domains k then start_line s (word_at words k) else []) ++ start_lines net domains words (k + 1) ss

-- the names of the marked clocks, from number k on
abbrev pub edge_name : Bool → ClockPin → List ℕ
edge_name ticks c = if ticks then codes " " ++ c.name else []

abbrev pub edge_names : List Bool → ℕ → List ClockPin → List ℕ
edge_names ticking k [] = []
edge_names ticking k (c ∷ cs) = edge_name (is_marked ticking (Some k)) c ++ edge_names ticking (k + 1) cs

-- bits, each behind a space, or a dash
abbrev pub list_of : List Signal → List Bit → List ℕ
list_of signals [] = codes " -"
list_of signals (b ∷ bs) = spaced signals (b ∷ bs)

abbrev pub other_of : List Signal → Option (List Bit) → List ℕ
other_of signals None = []
other_of signals (Some bs) = codes " else" ++ list_of signals bs

abbrev pub race_line : List Signal → Race → List ℕ
race_line signals r = ((((codes "  race " ++ bit_of signals r.bit) ++ codes ": flip") ++ list_of signals r.flip) ++ other_of signals r.other) ++ codes "\n"

abbrev pub race_lines : List Signal → List Race → List ℕ
race_lines signals [] = []
race_lines signals (r ∷ rs) = race_line signals r ++ race_lines signals rs

-- a line of each state signal that has another value, from number k on
abbrev pub change_line : Signal → ℕ → ℕ → List ℕ
change_line s v w = (((((codes "  " ++ s.name) ++ codes " = ") ++ value_text s.width v) ++ codes " -> ") ++ value_text s.width w) ++ codes "\n"

abbrev pub change_lines : Net → Domains → List ℕ → List ℕ → ℕ → List Signal → List ℕ
change_lines net domains before after k [] = []
change_lines net domains before after k (s ∷ ss) =
    (if not (word_at before k == word_at after k) && is_state_signal net domains k then change_line s (word_at before k) (word_at after k) else [])
    ++ change_lines net domains before after (k + 1) ss

-- a line of each unsettled bit
abbrev pub unsettled_line : List Signal → Bit → List ℕ
unsettled_line signals b = (codes "  unsettled " ++ bit_of signals b) ++ codes "\n"

abbrev pub unsettled_lines : List Signal → List Bit → List ℕ
unsettled_lines signals [] = []
unsettled_lines signals (b ∷ bs) = unsettled_line signals b ++ unsettled_lines signals bs

-- each signal has a number, and static inputs ascend
pub record IsPrintable (net : Net) (domains : Domains) : Type 0 where
  pub numbered : length net.graph.signals ≤ 2 ^ 32
  pub statics : IsStrictlyIncreasing domains.statics

-- the same races, ascending by their bits
pub record AreByBit (sorted races : List Race) : Type 0 where
  pub same : IsPermutation sorted races
  pub ascending : IsSorted (λ (r : Race) (q : Race). bit_order.ghosts.cmp r.bit q.bit) sorted

-- the number of a step and the clocks that tick in it, in their own order
abbrev pub head_line : Domains → ℕ → List ℕ → List ℕ
head_line domains number edges =
    (((codes "step " ++ decimal number) ++ codes ":") ++ edge_names (mark_in (replicate (length domains.clocks) false) edges) 0 domains.clocks) ++ codes "\n"

-- the text of a step: its head, its races by their bits, what changed, what is then unsettled
abbrev pub IsStepText : Net → Domains → ℕ → RecordStep → List ℕ → List ℕ → List Bit → List ℕ → Type 0
IsStepText net domains number k before after unsettled text = (sorted : List Race) × AreByBit sorted k.races
    × (text ≡ ((head_line domains number k.edges ++ race_lines net.graph.signals sorted) ++ change_lines net domains before after 0 net.graph.signals)
    ++ unsettled_lines net.graph.signals unsettled)
