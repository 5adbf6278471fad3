-- The verdict as text.
use Rattle.std.specs.Prelude.{ℕ, ◌+◌, ◌-◌, ◌==◌, if◌then◌else◌, List, [], ◌∷◌, ◌++◌, map, length, codes, Option, None, slice_get, unwrap_or, is_some, option_and_then, option_map}
use Rattle.std.specs.List.{count_by}
use Rattle.std.specs.Fmt.{decimal}
use Rattle.cdc_base.specs.declared.bit.Bit.{Bit}
use Rattle.cdc_base.specs.declared.signal.Signal.{Signal}
use Rattle.cell_graph.specs.declared.net.Net.{Net}
use Rattle.clock_constraints.specs.declared.Waiver.{Waiver}
use Rattle.domains.specs.declared.Domains.{Domains}
use Rattle.cdc_model.specs.declared.scheme.Cover.{Cover}
use Rattle.cdc_model.specs.declared.scheme.GrayReg.{GrayReg}
use Rattle.cdc_model.specs.declared.scheme.Ring.{Ring}
use Rattle.cdc_model.specs.declared.scheme.Scheme.{Scheme}
use Rattle.cdc_model.specs.declared.scheme.Scheme.TheVariants.{TwoFlop, Gray, Handshake, Recirc}
use Rattle.cdc_model.specs.declared.scheme.Shape.{Shape}
use Rattle.cdc_model.specs.declared.scheme.Shape.TheVariants.{G1, G2, G3}
use Rattle.cdc_model.specs.declared.verdict.Finding.{Finding}
use Rattle.cdc_model.specs.declared.verdict.Verdict.{Verdict}
use Rattle.report.specs.Findings.{at_line, finding_lines, place_of, reason_lines, ring_number}
use Rattle.report.specs.Names.{bit_of, bits_of, signal_of}

abbrev pub ring_line : List Signal → ℕ → List Bit → List ℕ
ring_line signals number bits = codes "ring " ++ decimal number ++ codes ": " ++ bits_of signals bits

-- the rings are numbered from 1
abbrev pub ring_lines : List Signal → ℕ → List Ring → List (List ℕ)
ring_lines signals place [] = []
ring_lines signals place (r ∷ rs) = ring_line signals (place + 1) r.bits ∷ ring_lines signals (place + 1) rs

abbrev pub shape_of : Shape → List ℕ
shape_of G1 = codes "G1"
shape_of G2 = codes "G2"
shape_of G3 = codes "G3"

abbrev pub gray_line : List Signal → GrayReg → List ℕ
gray_line signals g = codes "gray " ++ signal_of signals g.gray ++ codes " of " ++ signal_of signals g.count ++ codes " " ++ shape_of g.shape

abbrev pub scheme_of : Scheme → List ℕ
scheme_of (TwoFlop stages) = codes "two-flop"
scheme_of (Gray stages) = codes "gray"
scheme_of (Handshake ring) = codes "handshake"
scheme_of (Recirc ring) = codes "recirc"

-- how many flops a synchronizer has, or the number of a ring
abbrev pub scheme_number : Scheme → ℕ
scheme_number (TwoFlop stages) = stages
scheme_number (Gray stages) = stages
scheme_number (Handshake ring) = ring_number ring
scheme_number (Recirc ring) = ring_number ring

abbrev pub cover_line : List Signal → Cover → List ℕ
cover_line signals c =
    codes "cover " ++ bit_of signals c.from ++ codes " -> " ++ bit_of signals c.to ++ codes " " ++ scheme_of c.scheme ++ codes " "
    ++ decimal (scheme_number c.scheme)

-- why the finding at a place is waived, by the waiver that sets it aside
abbrev pub reason_at : List Waiver → List (Option ℕ) → ℕ → Option (List ℕ)
reason_at waivers aside place = option_map (λ w. w.reason) (option_and_then (slice_get waivers) (unwrap_or (slice_get aside place) None))

-- the lines of a finding, its place and its reason
abbrev pub found_lines : Net → Domains → Finding → Option (List ℕ) → List (List ℕ)
found_lines net domains f reason = finding_lines net domains f ++ at_line (place_of net.graph.signals f) ∷ reason_lines reason

-- those of all findings, from a place on
abbrev pub all_found : Net → Domains → List Waiver → List (Option ℕ) → ℕ → List Finding → List (List ℕ)
all_found net domains waivers aside place [] = []
all_found net domains waivers aside place (f ∷ fs) =
    found_lines net domains f (reason_at waivers aside place) ++ all_found net domains waivers aside (place + 1) fs

-- how many findings are waived
abbrev pub waived_count : List (Option ℕ) → ℕ
waived_count aside = count_by is_some aside

-- a count that is left out where it is 0
abbrev pub counted : List ℕ → ℕ → List ℕ
counted word n = if n == 0 then [] else word ++ decimal n ++ codes " "

abbrev pub clean_of : ℕ → List ℕ
clean_of found = if found == 0 then codes "clean " else []

-- how many findings aren't waived, how many are, and all crossings
abbrev pub sum_line : ℕ → ℕ → ℕ → List ℕ
sum_line found waived crossings =
    clean_of found ++ counted (codes "violations=") (found - waived) ++ counted (codes "waived=") waived ++ codes "crossings=" ++ decimal crossings

abbrev pub verdict_lines : Net → Domains → Verdict → List Waiver → List (Option ℕ) → List (List ℕ)
verdict_lines net domains verdict waivers aside =
    ring_lines net.graph.signals 0 verdict.rings ++ map (gray_line net.graph.signals) verdict.grays ++ map (cover_line net.graph.signals) verdict.covers
    ++ all_found net domains waivers aside 0 verdict.findings
    ++ sum_line (length verdict.findings) (waived_count aside) (length verdict.crossings) ∷ []

-- each line ended by a line feed
abbrev pub ended : List (List ℕ) → List ℕ
ended [] = []
ended (l ∷ ls) = (l ++ codes "\n") ++ ended ls

abbrev pub verdict_text : Net → Domains → Verdict → List Waiver → List (Option ℕ) → List ℕ
verdict_text net domains verdict waivers aside = ended (verdict_lines net domains verdict waivers aside)
