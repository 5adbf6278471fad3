use Rattle.std.proofs.Common.{◌≡◌, drop}
use Rattle.std.specs.Prelude.{All}
use Rattle.cell_graph.specs.Values.{AreWordsOf, values_of}
use Rattle.cdc_model.specs.Replay.{first_fault}
use Rattle.settling_sim.specs.Loose.{same_fault}
use Rattle.settling_sim.specs.Reader.{next_with, HasRoom}
use Rattle.settling_sim.specs.Runs.{HasCells, IsRace}
use Rattle.settling_sim.proofs.loose.check_differing.Given as goal

abbrev pub invariant-loop-race : goal.invariant-loop-race
invariant-loop-race l = record {
  plain : l.reader.plain ≡ l.initial.reader.plain;
  room : HasRoom l.net l.initial.reader → HasRoom l.net l.reader;
  checked : HasCells l.net → HasRoom l.net l.initial.reader → AreWordsOf l.net.graph.signals l.before → l.initial.reader.plain ≡ values_of l.net.graph l.before
      → All (IsRace l.net) l.races
      → first_fault (same_fault (next_with l.net l.before) l.after) l.races ≡ first_fault (same_fault (next_with l.net l.before) l.after) (drop l.race-index l.races);
}
