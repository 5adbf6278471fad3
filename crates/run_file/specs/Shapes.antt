-- The shape of a record.
use Rattle.std.specs.Prelude.{ℕ, List, [], ◌∷◌, ◌++◌, Bool, false, ◌||◌, map, Option, None, Some, Result, Ok, Err, codes, if◌then◌else◌}
use Rattle.std.specs.List.{list_any}
use Rattle.std.specs.Str.{bytes_eq}
use Rattle.cdc_base.specs.declared.fault.Fault.{Fault}
use Rattle.serde_json.specs.Data.{Data, Items, no_items, item}
use Rattle.serde_json.specs.Find.{get, as_array, as_object}
use Rattle.clock_constraints.specs.Refusals.{Text, ◌>>=◌, unless}
use Rattle.run_file.specs.declared.document.Document.{Document}
use Rattle.run_file.specs.declared.document.RaceEntry.{RaceEntry}
use Rattle.run_file.specs.declared.document.StepEntry.{StepEntry}
use Rattle.run_file.specs.Values.{wrong_shape, shaped, known_in, text_at, texts_at, some_texts, entries}

-- a race: a bit, the bits that it flips, and maybe others
abbrev pub race : Data → Result RaceEntry Fault
race d = unless (known_in (codes "bit" ∷ codes "flip" ∷ codes "else" ∷ []) (as_object d)) do
  bit ← text_at (codes "bit") d
  flip ← texts_at (codes "flip") d
  other ← some_texts (get (codes "else") d)
  Ok (record { bit = bit; flip = flip; other = other })

abbrev pub races_of : Items → Result (List RaceEntry) Fault
races_of no_items = Ok []
races_of (item d ds) = do
  r ← race d
  rs ← races_of ds
  Ok (r ∷ rs)

-- a text stands twice
abbrev pub is_again : List Text → List Text → Bool
is_again before [] = false
is_again before (t ∷ ts) = list_any (bytes_eq t) before || is_again (before ++ t ∷ []) ts

-- no two races of a step are of one bit
abbrev pub repeated : List RaceEntry → Option Fault
repeated rs = if is_again [] (map (λ r. r.bit) rs) then Some wrong_shape else None

abbrev pub distinct : List RaceEntry → Result (List RaceEntry) Fault
distinct rs = unless (repeated rs) (Ok rs)

-- the races of a step, which may be missing
abbrev pub races : Option Data → Result (List RaceEntry) Fault
races None = Ok []
races (Some d) = (shaped (as_array d) >>= races_of) >>= distinct

abbrev pub step : Data → Result StepEntry Fault
step d = unless (known_in (codes "edges" ∷ codes "inputs" ∷ codes "races" ∷ []) (as_object d)) do
  edges ← texts_at (codes "edges") d
  inputs ← entries (get (codes "inputs") d)
  rs ← races (get (codes "races") d)
  Ok (record { edges = edges; inputs = inputs; races = rs })

abbrev pub steps_of : Items → Result (List StepEntry) Fault
steps_of no_items = Ok []
steps_of (item d ds) = do
  s ← step d
  ss ← steps_of ds
  Ok (s ∷ ss)

abbrev pub steps : Option Data → Result (List StepEntry) Fault
steps o = (shaped o >>= (λ d. shaped (as_array d))) >>= steps_of

-- a record, by names
abbrev pub document : Data → Result Document Fault
document d = unless (known_in (codes "start" ∷ codes "steps" ∷ []) (as_object d)) do
  start ← entries (get (codes "start") d)
  ss ← steps (get (codes "steps") d)
  Ok (record { start = start; steps = ss })
