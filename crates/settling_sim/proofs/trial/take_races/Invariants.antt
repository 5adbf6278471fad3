use Rattle.std.proofs.Common.{◌≡◌, drop}
use Rattle.std.specs.Prelude.{All}
use Rattle.cell_graph.specs.Values.{AreWordsOf, values_of}
use Rattle.settling_sim.specs.Reader.{next_with, HasRoom}
use Rattle.settling_sim.specs.Runs.{HasCells, IsRace}
use Rattle.settling_sim.specs.Trial.{take_races}
use Rattle.settling_sim.proofs.trial.take_races.Given as goal

abbrev pub invariant-loop-race : goal.invariant-loop-race
invariant-loop-race l = record {
  plain : l.reader.plain ≡ l.initial.reader.plain;
  room : HasRoom l.net l.initial.reader → HasRoom l.net l.reader;
  taken : HasCells l.net → HasRoom l.net l.initial.reader → AreWordsOf l.net.graph.signals l.before → l.initial.reader.plain ≡ values_of l.net.graph l.before
      → All (IsRace l.net) l.races
      → take_races (next_with l.net l.before) l.races l.initial.words ≡ take_races (next_with l.net l.before) (drop l.race-index l.races) l.words;
}
