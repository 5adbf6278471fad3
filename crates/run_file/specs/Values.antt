-- What the values of the tree say, or that the record has another shape.
use Rattle.std.specs.Prelude.{ℕ, List, [], ◌∷◌, Bool, true, false, not, ◌||◌, Option, None, Some, Result, Ok, Err, option_and_then, codes, if◌then◌else◌}
use Rattle.std.specs.List.{list_any}
use Rattle.std.specs.Str.{bytes_eq}
use Rattle.cdc_base.specs.declared.fault.Fault.{Fault}
use Rattle.serde_json.specs.Data.{Data, Items, no_items, item, Members, no_members, member}
use Rattle.serde_json.specs.Find.{get, as_number, as_u64, as_str, as_array, as_object}
use Rattle.clock_constraints.specs.Refusals.{Text, broken, ◌>>=◌, required}
use Rattle.run_file.specs.declared.document.Entry.{Entry}

abbrev pub wrong_shape : Fault
wrong_shape = broken 502 []

-- what has to be there
abbrev pub shaped : {A : Type 0} → Option A → Result A Fault
shaped o = required 502 [] o

-- there is another key than the known ones
abbrev pub has_others : List Text → Members → Bool
has_others known no_members = false
has_others known (member k d ms) = not (list_any (bytes_eq k) known) || has_others known ms

-- the value is an object that has known keys alone
abbrev pub known_in : List Text → Option Members → Option Fault
known_in known None = Some wrong_shape
known_in known (Some ms) = if has_others known ms then Some wrong_shape else None

abbrev pub text : Data → Result Text Fault
text d = shaped (as_str d)

abbrev pub texts_of : Items → Result (List Text) Fault
texts_of no_items = Ok []
texts_of (item d ds) = do
  t ← text d
  ts ← texts_of ds
  Ok (t ∷ ts)

-- an array of texts
abbrev pub texts : Data → Result (List Text) Fault
texts d = shaped (as_array d) >>= texts_of

-- the text, and the texts, that have to stand at a key
abbrev pub text_at : Text → Data → Result Text Fault
text_at key d = shaped (get key d) >>= text

abbrev pub texts_at : Text → Data → Result (List Text) Fault
texts_at key d = shaped (get key d) >>= texts

-- the texts at a key that may be missing
abbrev pub some_texts : Option Data → Result (Option (List Text)) Fault
some_texts None = Ok None
some_texts (Some d) = do
  ts ← texts d
  Ok (Some ts)

-- a number by its name
abbrev pub entry : Text → Data → Result Entry Fault
entry name d = do
  n ← shaped (option_and_then as_u64 (as_number d))
  Ok (record { name = name; value = n })

abbrev pub entries_of : Members → Result (List Entry) Fault
entries_of no_members = Ok []
entries_of (member k d ms) = do
  e ← entry k d
  es ← entries_of ms
  Ok (e ∷ es)

-- the numbers of an object that may be missing
abbrev pub entries : Option Data → Result (List Entry) Fault
entries None = Ok []
entries (Some d) = shaped (as_object d) >>= entries_of
