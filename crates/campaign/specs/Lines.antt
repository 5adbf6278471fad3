-- A record as one line of JSON.
use Rattle.std.specs.Prelude.{◌≡◌, ℕ, Option, Some, None, List, [], ◌∷◌, ◌++◌, map, length, codes, slice_get}
use Rattle.std.specs.Option.{option_map_or}
use Rattle.std.specs.List.{AllZip}
use Rattle.std.specs.List.Sorted.{IsPermutation, IsSortedByKey}
use Rattle.std.specs.Ordering.{nat_cmp}
use Rattle.std.specs.declared.cmp.Ordering.{Ordering}
use Rattle.std.specs.Cmp.Lexicographic.{slice_cmp}
use Rattle.json.specs.Json.{Json, string}
use Rattle.json.specs.Print.{print}
use Rattle.json.specs.Token.{Token}
use Rattle.json.specs.Tree.{json_tokens}
use Rattle.cdc_base.specs.contracts.bit.BitOrd.TheImpl as order
use Rattle.cdc_base.specs.declared.bit.Bit.{Bit}
use Rattle.cdc_base.specs.declared.signal.Signal.{Signal}
use Rattle.cell_graph.specs.declared.net.Net.{Net}
use Rattle.clock_constraints.specs.declared.ClockPin.{ClockPin}
use Rattle.domains.specs.declared.Domains.{Domains}
use Rattle.cdc_model.specs.declared.record.Given.{Given}
use Rattle.cdc_model.specs.declared.record.Race.{Race}
use Rattle.cdc_model.specs.declared.record.Record.{Record}
use Rattle.cdc_model.specs.declared.record.RecordStep.{RecordStep}
use Rattle.cdc_model.specs.Replay.{has_edge}
use Rattle.report.specs.Names.{bit_of}
use Rattle.report.specs.VerdictJson.{Entries, object_of, count_value, list_value, texts_value}
use Rattle.campaign.specs.Names.{name_of}
use Rattle.campaign.specs.Numbers.{numbers_from}

-- the name of a clock
abbrev pub clock_name : Domains → ℕ → List ℕ
clock_name domains c = option_map_or (λ (p : ClockPin). p.name) (slice_get domains.clocks c) []

-- the names of bits
abbrev pub bits_value : List Signal → List Bit → Json
bits_value signals bs = texts_value (map (bit_of signals) bs)

-- the other bits, where the race has them
abbrev pub else_entries : List Signal → Option (List Bit) → Entries
else_entries signals None = []
else_entries signals (Some bs) = (codes "else", bits_value signals bs) ∷ []

abbrev pub race_value : List Signal → Race → Json
race_value signals r = object_of ((codes "bit", string (bit_of signals r.bit)) ∷ else_entries signals r.other ++ (codes "flip", bits_value signals r.flip) ∷ [])

-- a value under its signal's name
abbrev pub input_entry : List Signal → Given → List ℕ × Json
input_entry signals g = (name_of signals g.sig, count_value g.value)

abbrev pub step_value : Net → Domains → RecordStep → Json
step_value net domains k = object_of ((codes "edges", texts_value (map (clock_name domains) k.edges))
    ∷ (codes "inputs", object_of (map (input_entry net.graph.signals) k.inputs))
    ∷ (codes "races", list_value (map (race_value net.graph.signals) k.races)) ∷ [])

-- the line of a record with these steps
abbrev pub line_of : Net → Domains → List RecordStep → List ℕ
line_of net domains ks = print (json_tokens (object_of ((codes "steps", list_value (map (step_value net domains) ks)) ∷ []))) ++ codes "\n"

-- the order of bits: by signal, then by place
abbrev pub bit_order : Bit → Bit → Ordering
bit_order = order.ghosts.cmp

-- the step with its clocks in their order, each once, its inputs in the order of names and its races in that of bits
pub record IsOrdered (net : Net) (domains : Domains) (k o : RecordStep) : Type 0 where
  pub edges : o.edges ≡ numbers_from (has_edge k.edges) 0 (length domains.clocks)
  pub inputs : IsPermutation k.inputs o.inputs
  pub by_name : IsSortedByKey (λ (g : Given). name_of net.graph.signals g.sig) (slice_cmp nat_cmp) o.inputs
  pub races : IsPermutation k.races o.races
  pub by_bit : IsSortedByKey (λ (r : Race). r.bit) bit_order o.races

-- the line of the record, its steps so ordered
abbrev pub IsLine : Net → Domains → Record → List ℕ → Type 0
IsLine net domains r text = (ks : List RecordStep) × AllZip (IsOrdered net domains) r.steps ks × (text ≡ line_of net domains ks)

-- the tokens of a step, so ordered, behind others
abbrev pub HasStep : Net → Domains → RecordStep → List Token → List Token → Type 0
HasStep net domains k old new = (o : RecordStep) × IsOrdered net domains k o × (new ≡ old ++ json_tokens (step_value net domains o))

-- those of each step in turn
abbrev pub HasSteps : Net → Domains → List RecordStep → List Token → List Token → Type 0
HasSteps net domains [] old new = new ≡ old
HasSteps net domains (k ∷ ks) old new = (o : RecordStep) × IsOrdered net domains k o × HasSteps net domains ks (old ++ json_tokens (step_value net domains o)) new
