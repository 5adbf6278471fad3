-- The counts of a selftest.
use Rattle.std.specs.Prelude.{ℕ, ◌+◌, ◌==◌, List, [], ◌∷◌, ◌++◌, length, codes, if◌then◌else◌}
use Rattle.std.specs.Fmt.{decimal}
use Rattle.cdc_base.specs.declared.signal.Signal.{Signal}
use Rattle.cell_graph.specs.declared.net.Net.{Net}
use Rattle.domains.specs.declared.Domains.{Domains}
use Rattle.cdc_model.specs.declared.verdict.Verdict.{Verdict}
use Rattle.settling_sim.specs.State.{is_state_signal}

-- the bits of the signals that hold state, from number k on
abbrev pub bits_from : Net → Domains → ℕ → List Signal → ℕ
bits_from net domains k [] = 0
bits_from net domains k (s ∷ ss) = (if is_state_signal net domains k then s.width else 0) + bits_from net domains (k + 1) ss

-- how many bits hold the state of the design
abbrev pub state_bits : Net → Domains → ℕ
state_bits net domains = bits_from net domains 0 net.graph.signals

-- the counts of a selftest, and the end of their line
abbrev pub counts_text : ℕ → ℕ → ℕ → ℕ → List ℕ → List ℕ
counts_text channels bits crossings rings rest =
    codes "selftest channels=" ++ (decimal channels ++ (codes " bits=" ++ (decimal bits ++ (codes " crossings=" ++ (decimal crossings
    ++ (codes " rings=" ++ (decimal rings ++ rest)))))))

-- the end of the line, where there are so many findings
abbrev pub violations_text : ℕ → List ℕ
violations_text findings = codes " violations=" ++ (decimal findings ++ codes "\n")

-- the line of a selftest of so many channels with so many bits of state
abbrev pub counts_line : ℕ → ℕ → Verdict → List ℕ
counts_line channels bits v = counts_text channels bits (length v.crossings) (length v.rings)
    (if length v.findings == 0 then codes " clean\n" else violations_text (length v.findings))
