-- A step of a lane, as it is drawn.
use Rattle.std.specs.Prelude.{ℕ, ◌%◌, ◌^◌, ◌==◌, Bool, false, cond, List, [], ◌∷◌, map, filter, length, Some}
use Rattle.cdc_base.specs.declared.signal.Signal.{Signal}
use Rattle.cell_graph.specs.declared.net.Net.{Net}
use Rattle.cell_graph.specs.Reading.{Reading}
use Rattle.cell_graph.specs.Tree.{bit_at}
use Rattle.domains.specs.declared.Domains.{Domains}
use Rattle.domains.specs.Assignment.{clock_of}
use Rattle.cdc_model.specs.declared.record.Given.{Given}
use Rattle.cdc_model.specs.declared.record.Race.{Race}
use Rattle.cdc_model.specs.declared.record.RecordStep.{RecordStep}
use Rattle.cdc_model.specs.declared.scheme.Crossing.{Crossing}
use Rattle.cdc_model.specs.Design.{Design}
use Rattle.cdc_model.specs.Nets.{bit_count, design_of}
use Rattle.cdc_model.specs.Replay.{has_edge, is_loose, stepped}
use Rattle.cdc_model.specs.Runs.{State, is_in, ticks}
use Rattle.campaign.specs.declared.toss.Toss.{Toss}
use Rattle.campaign.specs.Draws.{word, behind, behind_all, with_words}
use Rattle.campaign.specs.Edges.{edges_of, behind_edges}
use Rattle.campaign.specs.Plan.{inputs_of, flops_of}

-- the signal's clock ticks
abbrev pub input_ticks : Net → Domains → List ℕ → ℕ → Bool
input_ticks net domains edges sig = is_in (clock_of domains (record { sig = sig; at = 0 })) (has_edge edges)

-- the inputs that change, by signal
abbrev pub inputs_in : Net → Domains → List ℕ → List ℕ
inputs_in net domains edges = filter (input_ticks net domains edges) (inputs_of net domains)

-- the word that is drawn for a signal, by the signals for which words are drawn
abbrev pub word_for : List ℕ → List ℕ → ℕ → ℕ
word_for rng [] sig = 0
word_for rng (s ∷ ss) sig = cond (s == sig) (word rng) (word_for (behind rng) ss sig)

-- its low bits
abbrev pub given_for : List Signal → List ℕ → List ℕ → ℕ → Given
given_for signals rng drawn sig = record { sig = sig; value = word_for rng drawn sig % 2 ^ bit_count signals sig }

-- the inputs with their values, by name
abbrev pub values_in : Net → Domains → List ℕ → List ℕ → List ℕ → List Given
values_in net domains named edges rng = map (given_for net.graph.signals rng (inputs_in net domains edges)) (filter (input_ticks net domains edges) named)

-- a settling flop that ticks and copies a loose bit
abbrev pub is_torn : Design → List ℕ → State → Reading → Crossing → Bool
is_torn d edges old new c = cond (ticks d (has_edge edges) c.to) (is_loose d old new c.to c.from) false

-- the flop takes its source's other value, if the word's lowest bit is set
abbrev pub toss : ℕ → Crossing → Toss
toss w c = record { flop = c.to; source = c.from; other = bit_at w 0 }

-- its race: it may take the one value, and the other one too
abbrev pub race_of_toss : Toss → Race
race_of_toss t = cond t.other (record { bit = t.flop; flip = t.source ∷ []; other = Some [] }) (record { bit = t.flop; flip = []; other = Some (t.source ∷ []) })

-- What a step draws: the clocks, the inputs and the settling flops' choices, and the generator behind them.
pub record Drawn : Type 0 where
  pub edges : List ℕ
  pub inputs : List Given
  pub tosses : List Toss
  pub rng : List ℕ

-- the step with these races
abbrev pub step_with : List ℕ → List Given → List Race → RecordStep
step_with edges inputs races = record { edges = edges; inputs = inputs; races = races }

-- the settling flops that are torn where no flop races
abbrev pub torn_in : Net → Domains → List ℕ → List Given → State → List Crossing
torn_in net domains edges inputs s =
    filter (is_torn (design_of net domains) edges s (stepped (design_of net domains) s (step_with edges inputs [])).values) (flops_of net domains)

abbrev pub drawn_by : List ℕ → List Given → List Crossing → List ℕ → Drawn
drawn_by edges inputs torn rng = record { edges = edges; inputs = inputs; tosses = with_words toss rng torn; rng = behind_all (length torn) rng }

abbrev pub with_inputs : Net → Domains → List ℕ → State → List ℕ → List ℕ → Drawn
with_inputs net domains named s edges rng =
    drawn_by edges (values_in net domains named edges rng) (torn_in net domains edges (values_in net domains named edges rng) s) (behind_all (length (inputs_in net domains edges)) rng)

-- the draws of a step: a word for the clocks, one for each input, and one for each settling flop that is torn
unfoldable pub draw : Net → Domains → List ℕ → ℕ → State → List ℕ → Drawn
draw net domains named number s rng = with_inputs net domains named s (edges_of domains number rng) (behind_edges number rng)

-- the step that they make
abbrev pub step_of : Drawn → RecordStep
step_of k = step_with k.edges k.inputs (map race_of_toss k.tosses)
