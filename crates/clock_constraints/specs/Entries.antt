-- What the entries of the file's arrays say.
use Rattle.std.specs.Prelude.{List, [], ◌∷◌, Bool, true, ◌&&◌, Option, None, Some, Result, Ok, option_and_then, is_some, codes, if◌then◌else◌}
use Rattle.cdc_base.specs.declared.fault.Fault.{Fault}
use Rattle.cdc_base.specs.declared.signal.ResetPin.{ResetPin}
use Rattle.toml.specs.Data.{Data, Items, no_items, item, get, as_array, as_table}
use Rattle.clock_constraints.specs.declared.ClockPin.{ClockPin}
use Rattle.clock_constraints.specs.declared.Waiver.{Waiver}
use Rattle.clock_constraints.specs.declared.entry.InputEntry.{InputEntry}
use Rattle.clock_constraints.specs.Refusals.{Text, ◌>>=◌, unless, required}
use Rattle.clock_constraints.specs.Values.{unknown_in, text, text_passing, is_group, is_reason, settle_or_one, level}

-- an entry of `clock`
abbrev pub clock_pin : Data → Result ClockPin Fault
clock_pin d = unless (unknown_in (codes "name" ∷ codes "group" ∷ codes "settle" ∷ []) (as_table d)) do
  name ← text (codes "name") d
  group ← text_passing is_group (codes "group") d
  settle ← settle_or_one (get (codes "settle") d)
  Ok (record { name = name; group = group; settle = settle })

-- an entry of `input`
abbrev pub input_entry : Data → Result InputEntry Fault
input_entry d = unless (unknown_in (codes "name" ∷ codes "clock" ∷ []) (as_table d)) do
  name ← text (codes "name") d
  clock ← text (codes "clock") d
  Ok (record { name = name; clock = clock })

-- an entry of `reset`
abbrev pub reset_pin : Data → Result ResetPin Fault
reset_pin d = unless (unknown_in (codes "name" ∷ codes "active" ∷ []) (as_table d)) do
  name ← text (codes "name") d
  high ← level d
  Ok (record { name = name; high = high })

-- an entry of `static`
abbrev pub static_name : Data → Result Text Fault
static_name d = unless (unknown_in (codes "name" ∷ []) (as_table d)) (text (codes "name") d)

-- an entry of `waive`
abbrev pub waiver : Data → Result Waiver Fault
waiver d = unless (unknown_in (codes "finding" ∷ codes "reason" ∷ []) (as_table d)) do
  finding ← text (codes "finding") d
  reason ← text_passing is_reason (codes "reason") d
  Ok (record { finding = finding; reason = reason })

-- the entries of an array, in order
abbrev pub entries : {A : Type 0} → (Data → Result A Fault) → Items → Result (List A) Fault
entries one no_items = Ok []
entries one (item d ds) = do
  x ← one d
  xs ← entries one ds
  Ok (x ∷ xs)

abbrev pub are_tables : Items → Bool
are_tables no_items = true
are_tables (item d ds) = is_some (as_table d) && are_tables ds

-- the tables of an array of tables
abbrev pub tables : Data → Option Items
tables d = option_and_then (λ ds. if are_tables ds then Some ds else None) (as_array d)

-- the entries at a key, which may be missing
abbrev pub entries_of : {A : Type 0} → (Data → Result A Fault) → Text → Option Data → Result (List A) Fault
entries_of one key None = Ok []
entries_of one key (Some d) = required 402 key (tables d) >>= entries one
