-- What an audit answers, by the verdict on the design that a netlist's text describes under constraints.
use Rattle.std.specs.Prelude.{◌≡◌, ◌≢◌, ◌==◌, ℕ, ◌++◌, Bool, true, List, [], length, map, Contains, Option, Ok, is_some, if◌then◌else◌}
use Rattle.std.specs.List.{list_all}
use Rattle.cdc_base.specs.declared.bit.Bit.{Bit}
use Rattle.clock_constraints.specs.declared.Constraints.{Constraints}
use Rattle.clock_constraints.specs.declared.Waiver.{Waiver}
use Rattle.cell_graph.specs.declared.net.Net.{Net}
use Rattle.cell_graph.specs.Cells.{Cells}
use Rattle.cell_graph.specs.Reading.{Reading}
use Rattle.domains.specs.declared.Domains.{Domains}
use Rattle.cdc_model.specs.declared.scheme.GrayReg.{GrayReg}
use Rattle.cdc_model.specs.declared.verdict.Verdict.{Verdict as VerdictEntry}
use Rattle.cdc_model.specs.Design.{Design}
use Rattle.cdc_model.specs.Listed.{IsVerdictOf}
use Rattle.cdc_model.specs.Runs.{State, Trace, Start, Then, IsRun}
use Rattle.cdc_model.specs.Schemes.{Sync, ring_bits}
use Rattle.cdc_model.specs.Sound.{Sound}
use Rattle.cdc_model.specs.Together.{IsTogether}
use Rattle.cdc_model.specs.Verdict.{Verdict}
use Rattle.fifo_laws.specs.Fifos.{Fifo, IsFifo}
use Rattle.fifo_laws.specs.Order.{IsWithinDepth, ReadsOldest}
use Rattle.fifo_scheme.specs.declared.found.Fifo.{Fifo as FifoEntry}
use Rattle.fifo_scheme.specs.Entries.{IsEntry}
use Rattle.fifo_scheme.specs.Lines.{fifo_lines_from}
use Rattle.flat_meaning.specs.Design.{Flat, given}
use Rattle.flat_model.specs.Clocked.{pins_of}
use Rattle.flat_model.specs.Designs.{HasVerdict, IsMeaning, flat_trees, next_tree}
use Rattle.net_verdict.specs.Fifos.{AreFifosOf, is_of_fifo}
use Rattle.report.specs.VerdictJson.{verdict_json}
use Rattle.report.specs.VerdictText.{ended, verdict_text}
use Rattle.report.specs.Waived.{set_aside}
use Rattle.command_files.specs.declared.status.Status.{Status}
use Rattle.command_files.specs.declared.status.Status.TheVariants.{Done, Violations, Waived}
use Rattle.described_design.specs.Designs.{IsDesignOf}

-- the status of an audit with so many findings: none; all of them with a waiver; some without one
abbrev pub audited_status : ℕ → List (Option ℕ) → Status
audited_status findings aside =
    if findings == 0 then Done else (if list_all is_some aside then Waived else Violations)

-- whatever the flat design means under the constraints is sound by the covers and rings of a verdict
abbrev pub IsSoundBy : Flat → Constraints → (Bit → Bit → Bool) → Verdict → Type 0
IsSoundBy f c extra verdict = (d : Design) → IsMeaning f c d → Sound d verdict.covers (map ring_bits verdict.rings) extra

-- and in each of its runs what meets behind these synchronizers belongs to one moment
abbrev pub IsTogetherBy : Flat → Constraints → (GrayReg → Bool) → List Sync → Type 0
IsTogetherBy f c grays syncs = (d : Design) (m : IsMeaning f c d) (run : Trace) → IsRun d run → (x : Bit) → d.is_register x ≡ true → (group depth : ℕ)
    → IsTogether d (flat_trees f m.sel grays) syncs run x group depth

-- the reading with each clock pin and reset at its level; wires, which no tree reads, are 0
abbrev pub levels_of : (f : Flat) (c : Constraints) (d : Design) → IsMeaning f c d → Reading → Reading
levels_of f c d m = given f (pins_of f c m.roles)

-- a state, and a run, at such levels
abbrev pub state_at : (levels : Reading → Reading) → State → State
state_at levels s = record { values = levels s.values; left = s.left }

abbrev pub run_at : (levels : Reading → Reading) → Trace → Trace
run_at levels (Start s) = Start (state_at levels s)
run_at levels (Then past edges s) = Then (run_at levels past) edges (state_at levels s)

-- The entry's FIFO is one of the design that the flat one means. In every run no more is popped from it than was pushed, no more is pushed than has
-- room, and what its readers take is the oldest word. What a word takes may read a reset, which stands in a reading as any value, and only next values
-- see it at its level: so that is told of the run at levels.
pub record KeepsOrder (f : Flat) (c : Constraints) (d : Design) (m : IsMeaning f c d) (g : Cells) (syncs : List Sync) (grays : List GrayReg) (e : FifoEntry)
    : Type 0 where
  pub fifo : Fifo
  pub is_fifo : IsFifo d (next_tree f m.sel) syncs grays fifo
  pub entry : IsEntry g fifo e
  pub within : (run : Trace) → IsRun d run → IsWithinDepth fifo run
  pub oldest : (past : Trace) (edges : ℕ → Bool) (new : State) → IsRun d (Then past edges new)
      → ReadsOldest d fifo (run_at (levels_of f c d m) past) edges (state_at (levels_of f c d m) new)

-- in each run of all that the flat design means, words go through the FIFO in order
abbrev pub IsInOrderBy : Flat → Constraints → Cells → List Sync → List GrayReg → FifoEntry → Type 0
IsInOrderBy f c g syncs grays e = (d : Design) (m : IsMeaning f c d) → KeepsOrder f c d m g syncs grays e

-- the flat design is clean by the verdict of its net
pub record IsClean (f : Flat) (c : Constraints) (net : Net) (domains : Domains) (extra : Bit → Bit → Bool) (listed : VerdictEntry) (w : IsVerdictOf net domains extra listed) : Type 0 where
  pub none : w.verdict.findings ≡ []
  pub sound : IsSoundBy f c extra w.verdict
  pub together : IsTogetherBy f c w.grays w.syncs

-- done where nothing was found, and then the design is clean; something was found where there are violations or waivers
abbrev pub IsStatusOf : (f : Flat) (c : Constraints) (net : Net) (domains : Domains) (extra : Bit → Bit → Bool) (listed : VerdictEntry) → IsVerdictOf net domains extra listed → Status → Type 0
IsStatusOf f c net domains extra listed w Done = IsClean f c net domains extra listed w
IsStatusOf f c net domains extra listed w Violations = w.verdict.findings ≢ []
IsStatusOf f c net domains extra listed w Waived = w.verdict.findings ≢ []
IsStatusOf f c net domains extra listed w _ = ⊥

-- a verdict in the form that was asked for, with the lines of its FIFOs, which stand before all others in the text
abbrev pub text_of : Bool → Net → Domains → VerdictEntry → List (List ℕ) → List Waiver → List (Option ℕ) → List ℕ
text_of json net domains verdict lines waivers aside =
    if json then verdict_json net domains verdict waivers aside lines else ended lines ++ verdict_text net domains verdict waivers aside

-- The design which a netlist's bytes describe, under the constraints of a file with this word and these bytes, and the verdict on it. Nothing but `design`
-- speaks of the word and the bytes, so two files with equal constraints, in TOML or in SDC, have the same verdict.
pub record AreTextsJudged (word text con : List ℕ) : Type 0 where
  pub constraints : Constraints
  pub net : Net
  pub domains : Domains
  pub design : IsDesignOf word text con constraints net domains
  -- the flat design that the modules unfold to means something, and the verdict over all FIFOs is that of all that it means
  pub meaning : (d : Design) × IsMeaning design.of_modules.flat constraints d
  pub listed : VerdictEntry
  pub fifos : List FifoEntry
  pub are_fifos : AreFifosOf net domains listed.grays fifos
  pub is_verdict : IsVerdictOf net domains (is_of_fifo fifos) listed
  pub exact : (d : Design) (m : IsMeaning design.of_modules.flat constraints d) → HasVerdict design.of_modules.flat m.sel d (is_of_fifo fifos) is_verdict.verdict

-- the audit of both texts
pub record IsAuditOf (json : Bool) (word text con : List ℕ) (status : Status) (answer : List ℕ) : Type 0 where
  pub judged : AreTextsJudged word text con
  pub told : IsStatusOf judged.design.of_modules.flat judged.constraints judged.net judged.domains (is_of_fifo judged.fifos) judged.listed judged.is_verdict status
  -- where the design is clean, words go through each of the FIFOs in order
  pub in_order : status ≡ Done → (e : FifoEntry) → Contains judged.fifos e
      → IsInOrderBy judged.design.of_modules.flat judged.constraints judged.net.graph judged.is_verdict.syncs judged.listed.grays e
  -- each waiver meets a finding, and by what they set aside the status and the text are fixed
  pub aside : List (Option ℕ)
  pub waived : set_aside judged.net judged.domains judged.listed.findings judged.constraints.waivers ≡ Ok aside
  pub status_is : status ≡ audited_status (length judged.listed.findings) aside
  pub answer_is : answer ≡ text_of json judged.net judged.domains judged.listed (fifo_lines_from judged.net.graph.signals 1 judged.fifos) judged.constraints.waivers aside
