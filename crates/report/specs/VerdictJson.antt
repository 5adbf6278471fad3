-- The verdict as JSON.
use Rattle.std.specs.Prelude.{ℕ, ◌+◌, ◌==◌, Bool, if◌then◌else◌, List, [], ◌∷◌, ◌++◌, map, length, codes, Option}
use Rattle.std.specs.Fmt.{decimal}
use Rattle.json.specs.Json.{Json, boolean, number, string, array, object, Members, no_members, member}
use Rattle.json.specs.Print.{print}
use Rattle.json.specs.Token.{Token, key}
use Rattle.json.specs.Tree.{json_tokens}
use Rattle.json.specs.Value.{items_of}
use Rattle.cdc_base.specs.declared.fault.Place.{Place}
use Rattle.cdc_base.specs.declared.signal.Signal.{Signal}
use Rattle.cell_graph.specs.declared.net.Net.{Net}
use Rattle.clock_constraints.specs.declared.Waiver.{Waiver}
use Rattle.domains.specs.declared.Domains.{Domains}
use Rattle.cdc_model.specs.declared.scheme.Cover.{Cover}
use Rattle.cdc_model.specs.declared.scheme.Ring.{Ring}
use Rattle.cdc_model.specs.declared.verdict.Finding.{Finding}
use Rattle.cdc_model.specs.declared.verdict.Verdict.{Verdict}
use Rattle.report.specs.Findings.{code_of, finding_lines, place_of, reason_lines}
use Rattle.report.specs.Names.{bit_of}
use Rattle.report.specs.VerdictText.{gray_line, reason_at, scheme_number, scheme_of, waived_count}

-- the entries of an object, by their keys
abbrev pub Entries : Type 0
Entries = List (List ℕ × Json)

abbrev pub members_from : Entries → Members
members_from [] = no_members
members_from (e ∷ es) = member e.0 e.1 (members_from es)

abbrev pub object_of : Entries → Json
object_of es = object (members_from es)

abbrev pub count_value : ℕ → Json
count_value n = number (decimal n)

abbrev pub list_value : List Json → Json
list_value vs = array (items_of vs)

abbrev pub texts_value : List (List ℕ) → Json
texts_value ts = list_value (map string ts)

abbrev pub cover_value : List Signal → Cover → Json
cover_value signals c = object_of ((codes "from", string (bit_of signals c.from)) ∷ (codes "n", count_value (scheme_number c.scheme))
    ∷ (codes "scheme", string (scheme_of c.scheme)) ∷ (codes "to", string (bit_of signals c.to)) ∷ [])

abbrev pub at_value : Place → Json
at_value place = object_of ((codes "column", count_value place.column) ∷ (codes "line", count_value place.line) ∷ [])

-- the lines but that of the place, which has a key of its own
abbrev pub told_lines : Net → Domains → Finding → Option (List ℕ) → List (List ℕ)
told_lines net domains f reason = finding_lines net domains f ++ reason_lines reason

abbrev pub finding_value : Net → Finding → List (List ℕ) → Json
finding_value net f lines = object_of ((codes "at", at_value (place_of net.graph.signals f)) ∷ (codes "code", string (code_of f))
    ∷ (codes "lines", texts_value lines) ∷ [])

abbrev pub finding_values : Net → Domains → List Waiver → List (Option ℕ) → ℕ → List Finding → List Json
finding_values net domains waivers aside place [] = []
finding_values net domains waivers aside place (f ∷ fs) =
    finding_value net f (told_lines net domains f (reason_at waivers aside place)) ∷ finding_values net domains waivers aside (place + 1) fs

abbrev pub ring_value : List Signal → Ring → Json
ring_value signals r = texts_value (map (bit_of signals) r.bits)

-- the FIFO lines, where there is one
abbrev pub fifo_entries : List (List ℕ) → Entries
fifo_entries [] = []
fifo_entries (f ∷ fs) = (codes "fifos", texts_value (f ∷ fs)) ∷ []

-- how many findings are waived, where one is
abbrev pub waived_entries : ℕ → Entries
waived_entries waived = if waived == 0 then [] else (codes "waived", count_value waived) ∷ []

abbrev pub front_entries : Net → Bool → List Cover → ℕ → Entries
front_entries net clean covers crossings = (codes "clean", boolean clean) ∷ (codes "covers", list_value (map (cover_value net.graph.signals) covers))
    ∷ (codes "crossings", count_value crossings) ∷ []

abbrev pub found_entries : Net → Domains → List Finding → List Waiver → List (Option ℕ) → Entries
found_entries net domains findings waivers aside = (codes "findings", list_value (finding_values net domains waivers aside 0 findings)) ∷ []

abbrev pub back_entries : Net → Verdict → Entries
back_entries net verdict = (codes "gray", texts_value (map (gray_line net.graph.signals) verdict.grays))
    ∷ (codes "rings", list_value (map (ring_value net.graph.signals) verdict.rings)) ∷ []

-- in the order of the bytes of their keys
abbrev pub verdict_entries : Net → Domains → Verdict → List Waiver → List (Option ℕ) → List (List ℕ) → Entries
verdict_entries net domains verdict waivers aside fifos =
    front_entries net (length verdict.findings == 0) verdict.covers (length verdict.crossings) ++ fifo_entries fifos ++ found_entries net domains verdict.findings waivers aside ++ back_entries net verdict
    ++ waived_entries (waived_count aside)

-- the tokens of entries
abbrev pub entry_tokens : Entries → List Token
entry_tokens [] = []
entry_tokens (e ∷ es) = (key e.0 ∷ json_tokens e.1) ++ entry_tokens es

-- the compact text of the object, and a line feed
abbrev pub verdict_json : Net → Domains → Verdict → List Waiver → List (Option ℕ) → List (List ℕ) → List ℕ
verdict_json net domains verdict waivers aside fifos =
    print (json_tokens (object_of (verdict_entries net domains verdict waivers aside fifos))) ++ codes "\n"
