-- The verdict on a net with all its FIFOs.
use Rattle.std.specs.Prelude.{◌≡◌, ℕ, List, [], map, Contains}
use Rattle.cell_graph.specs.declared.net.Net.{Net}
use Rattle.domains.specs.declared.Domains.{Domains}
use Rattle.cdc_model.specs.declared.verdict.Verdict.{Verdict}
use Rattle.cdc_model.specs.Listed.{sync_entry}
use Rattle.cdc_model.specs.Syncs.{syncs_of}
use Rattle.fifo_scheme.specs.declared.found.Fifo.{Fifo as Entry}
use Rattle.fifo_scheme.specs.declared.found.FifoPair.{FifoPair}
use Rattle.fifo_scheme.specs.Lines.{fifo_lines_from}
use Rattle.net_verdict.specs.declared.Judged.{Judged}
use Rattle.net_verdict.specs.Fifos.{AreFifosOf, IsInOrder, is_of_fifo}
use Rattle.net_verdict.specs.Verdicts.{IsVerdictOn}

-- the counts of a FIFO
abbrev pub pair_of : Entry → FifoPair
pair_of e = record { wb = e.wb; rb = e.rb }

-- A verdict over all FIFOs, with their counts and lines.
pub record IsJudgedBy (net : Net) (domains : Domains) (verdict : Verdict) (counts : List FifoPair) (lines : List (List ℕ)) : Type 0 where
  pub fifos : List Entry
  pub are_fifos : AreFifosOf net domains verdict.grays fifos
  pub on : IsVerdictOn (is_of_fifo fifos) net domains verdict
  pub in_order : verdict.findings ≡ [] → (e : Entry) → Contains fifos e → IsInOrder net domains verdict.grays e
  pub counts_are : counts ≡ map pair_of fifos
  pub lines_are : lines ≡ fifo_lines_from net.graph.signals 1 fifos

-- The crossings of all FIFOs are guarded beside those that the schemes guard; where nothing is found, words go through the FIFOs in order.
-- The synchronizers are all of the net's.
pub record IsJudged (net : Net) (domains : Domains) (judged : Judged) : Type 0 where
  pub fifos : List Entry
  pub are_fifos : AreFifosOf net domains judged.verdict.grays fifos
  pub on : IsVerdictOn (is_of_fifo fifos) net domains judged.verdict
  pub in_order : judged.verdict.findings ≡ [] → (e : Entry) → Contains fifos e → IsInOrder net domains judged.verdict.grays e
  pub syncs : judged.syncs ≡ map sync_entry (syncs_of net domains)
  pub counts : judged.counts ≡ map pair_of fifos
  pub lines : judged.lines ≡ fifo_lines_from net.graph.signals 1 fifos
