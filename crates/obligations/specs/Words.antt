-- First flops by the word or bit that they copy and the group that they enter.
use Rattle.std.specs.Prelude.{◌≡◌, ℕ, ◌==◌, ◌&&◌, Bool, not, Option, Some, option_map, option_and_then, List, [], ◌∷◌, map}
use Rattle.std.specs.List.{list_any}
use Rattle.cell_graph.specs.Reading.{bit_eq}
use Rattle.domains.specs.declared.Domains.{Domains}
use Rattle.domains.specs.Assignment.{clock_of, group_of}
use Rattle.cdc_model.specs.declared.scheme.Crossing.{Crossing}
use Rattle.cdc_model.specs.declared.scheme.GrayReg.{GrayReg}
use Rattle.cdc_model.specs.declared.verdict.Finding.{Finding as FindingEntry}
use Rattle.cdc_model.specs.declared.verdict.Finding.TheVariants.{V3, V4, V5}
use Rattle.cdc_model.specs.Design.{Design, group}
use Rattle.cdc_model.specs.Schemes.{Sync}
use Rattle.cdc_model.specs.Verdict.{bit_key, is_code}
use Rattle.obligations.specs.declared.words.Entry.{Entry}
use Rattle.obligations.specs.Lots.{found_in}

-- the first flop of the synchronizer, with its group and its clock
abbrev pub entry_of : Domains → Sync → Option Entry
entry_of domains s = option_and_then (λ g. option_map (λ c. record { from = s.from; to = s.first; group = g; clock = c }) (clock_of domains s.first)) (group_of domains s.first)

abbrev pub IsEntryOf : Design → Sync → Entry → Type 0
IsEntryOf d s e = (e.from ≡ s.from) × (e.to ≡ s.first) × (group d s.first ≡ Some e.group) × (d.clock s.first ≡ Some e.clock)

-- the first flops of these synchronizers, in order
abbrev pub AreEntries : Design → List Sync → List Entry → Type 0
AreEntries d [] [] = Unit {0}
AreEntries d [] (e ∷ es) = ⊥
AreEntries d (s ∷ ss) [] = ⊥
AreEntries d (s ∷ ss) (e ∷ es) = IsEntryOf d s e × AreEntries d ss es

-- by source word and group, or by source bit and group
abbrev pub word_key : Entry → List ℕ
word_key e = e.from.sig ∷ e.group ∷ []

abbrev pub entry_key : Entry → List ℕ
entry_key e = bit_key e.from (e.group ∷ [])

abbrev pub of_one_word : Entry → Entry → Bool
of_one_word e f = (e.from.sig == f.from.sig) && (e.group == f.group)

abbrev pub of_one_bit : Entry → Entry → Bool
of_one_bit e f = bit_eq e.from f.from && (e.group == f.group)

-- several bits, several flops, several clocks among a lot that begins with e
abbrev pub has_several_bits : Entry → List Entry → Bool
has_several_bits e es = list_any (λ f. not (bit_eq f.from e.from)) es

abbrev pub has_several_flops : Entry → List Entry → Bool
has_several_flops e es = list_any (λ f. not (bit_eq f.to e.to)) es

abbrev pub has_several_clocks : Entry → List Entry → Bool
has_several_clocks e es = list_any (λ f. not (f.clock == e.clock)) es

-- the crossing into a first flop
abbrev pub crossing_of : Entry → Crossing
crossing_of e = record { from = e.from; to = e.to }

-- what a lot is a finding of
abbrev pub v3_of : List GrayReg → List Entry → List FindingEntry
v3_of grays = found_in (λ e es. has_several_bits e es && not (is_code grays e.from.sig)) (λ e es. V3 e.from.sig e.group (map crossing_of es))

abbrev pub v4_of : List Entry → List FindingEntry
v4_of = found_in has_several_flops (λ e es. V4 e.from e.group (map crossing_of es))

abbrev pub v5_of : List Entry → List FindingEntry
v5_of = found_in has_several_clocks (λ e es. V5 e.from.sig e.group (map crossing_of es))
