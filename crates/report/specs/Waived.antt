-- Waivers, and the findings that they set aside.
use Rattle.std.specs.Prelude.{ℕ, ◌+◌, ◌==◌, Bool, true, false, not, ◌&&◌, ◌||◌, if◌then◌else◌, List, [], ◌∷◌, map, find, Option, None, Some, Result, Ok, Err}
use Rattle.std.specs.List.{list_any}
use Rattle.cdc_base.specs.declared.fault.Fault.{Fault}
use Rattle.cell_graph.specs.declared.net.Net.{Net}
use Rattle.clock_constraints.specs.declared.Waiver.{Waiver}
use Rattle.clock_constraints.specs.Refusals.{broken}
use Rattle.domains.specs.declared.Domains.{Domains}
use Rattle.cdc_model.specs.declared.verdict.Finding.{Finding}
use Rattle.report.specs.Findings.{first_line}

abbrev pub is_end : List ℕ → Bool
is_end [] = true
is_end (b ∷ bs) = false

-- whether the line is this byte and what passes
abbrev pub after_byte : ℕ → (List ℕ → Bool) → List ℕ → Bool
after_byte c passes [] = false
after_byte c passes (b ∷ bs) = b == c && passes bs

-- whether the line is some run of bytes without a space, also the empty run, and what passes
abbrev pub after_run : (List ℕ → Bool) → List ℕ → Bool
after_run passes [] = passes []
after_run passes (b ∷ bs) = passes (b ∷ bs) || (not (b == 32) && after_run passes bs)

-- whether the line is, as a whole, the pattern with such a run in place of each `*`
abbrev pub matches : List ℕ → List ℕ → Bool
matches [] = is_end
matches (c ∷ pattern) = if c == 42 then after_run (matches pattern) else after_byte c (matches pattern)

-- the place of the first waiver that matches the line, from a place on
abbrev pub first_match : List ℕ → ℕ → List Waiver → Option ℕ
first_match line place [] = None
first_match line place (w ∷ ws) = if matches w.finding line then Some place else first_match line (place + 1) ws

abbrev pub is_unmet : List (List ℕ) → Waiver → Bool
is_unmet lines w = not (list_any (matches w.finding) lines)

-- what waivers set aside of findings with these first lines, unless one matches none
abbrev pub aside_of : List (List ℕ) → List Waiver → Option Waiver → Result (List (Option ℕ)) Fault
aside_of lines waivers None = Ok (map (λ line. first_match line 0 waivers) lines)
aside_of lines waivers (Some unmet) = Err (broken 411 unmet.finding)

abbrev pub first_lines : Net → Domains → List Finding → List (List ℕ)
first_lines net domains findings = map (first_line net domains) findings

-- for each finding the first waiver that matches it, or the refusal of the first waiver that matches no finding
abbrev pub set_aside : Net → Domains → List Finding → List Waiver → Result (List (Option ℕ)) Fault
set_aside net domains findings waivers =
    aside_of (first_lines net domains findings) waivers (find (is_unmet (first_lines net domains findings)) waivers)
