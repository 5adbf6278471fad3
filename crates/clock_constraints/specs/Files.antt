-- What a constraint file says: its meaning, or the first rule that it breaks.
use Rattle.std.specs.Prelude.{◌≡◌, ℕ, List, [], ◌∷◌, ◌++◌, map, Some, Result, Ok, Err, option_and_then, codes, IsUtf8, ⊤, ◌⊎◌}
use Rattle.cdc_base.specs.declared.fault.Fault.{Fault}
use Rattle.cdc_base.specs.declared.fault.Stop.{Stop}
use Rattle.cdc_base.specs.declared.fault.Stop.TheVariants.{Refused, Memory}
use Rattle.toml.specs.Data.{Members, get_member, as_str}
use Rattle.toml.specs.Parse.{parse_document}
use Rattle.clock_constraints.specs.declared.Constraints.{Constraints}
use Rattle.clock_constraints.specs.declared.file.Document.{Document}
use Rattle.clock_constraints.specs.Refusals.{Text, broken, ◌>>=◌, unless, required}
use Rattle.clock_constraints.specs.Values.{unknown_in}
use Rattle.clock_constraints.specs.Entries.{clock_pin, input_entry, reset_pin, static_name, waiver, entries_of}
use Rattle.clock_constraints.specs.Names.{repeated, input_pins}

-- the keys and kinds of the file: rules of number 402, in their order
abbrev pub document : Members → Result Document Fault
document t = unless (unknown_in (codes "top" ∷ codes "clock" ∷ codes "input" ∷ codes "reset" ∷ codes "static" ∷ codes "waive" ∷ []) (Some t)) do
  top ← required 402 (codes "top") (option_and_then as_str (get_member (codes "top") t))
  clocks ← entries_of clock_pin (codes "clock") (get_member (codes "clock") t)
  inputs ← entries_of input_entry (codes "input") (get_member (codes "input") t)
  resets ← entries_of reset_pin (codes "reset") (get_member (codes "reset") t)
  statics ← entries_of static_name (codes "static") (get_member (codes "static") t)
  waivers ← entries_of waiver (codes "waive") (get_member (codes "waive") t)
  Ok (record { top = top; clocks = clocks; inputs = inputs; resets = resets; statics = statics; waivers = waivers })

-- the names of all ports that are declared, in their order
abbrev pub port_names : Document → List Text
port_names d = ((map (λ c. c.name) d.clocks ++ map (λ i. i.name) d.inputs) ++ map (λ r. r.name) d.resets) ++ d.statics

-- what the file says: no port is declared twice, then each input has a declared clock, then no finding is waived twice
abbrev pub constraints : Members → Result Constraints Fault
constraints t = do
  d ← document t
  inputs ← unless (repeated 404 (port_names d)) (input_pins d.clocks d.inputs)
  unless (repeated 410 (map (λ w. w.finding) d.waivers))
      (Ok (record { top = d.top; clocks = d.clocks; inputs = inputs; resets = d.resets; statics = d.statics; waivers = d.waivers }))

-- the text is the TOML document t
abbrev pub IsDocument : List ℕ → Members → Type 0
IsDocument bytes t = IsUtf8 bytes × (parse_document bytes ≡ Some t)

-- the text is a TOML document that has this meaning
abbrev pub IsMeaning : List ℕ → Constraints → Type 0
IsMeaning bytes c = (t : Members) × IsDocument bytes t × (constraints t ≡ Ok c)

-- the first rule that the text breaks: it is no TOML document, or this rule of a document
abbrev pub IsBroken : List ℕ → Fault → Type 0
IsBroken bytes f = ((f ≡ broken 401 []) × ((t : Members) → ¬ IsDocument bytes t))
    ⊎ ((t : Members) × IsDocument bytes t × (constraints t ≡ Err f))

abbrev pub IsStopOf : List ℕ → Stop → Type 0
IsStopOf bytes (Refused f) = IsBroken bytes f
IsStopOf bytes Memory = ⊤
