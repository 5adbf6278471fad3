use Rattle.std.proofs.Common.{◌≡◌, drop}
use Rattle.std.specs.Prelude.{All}
use Rattle.std.specs.List.{find}
use Rattle.cell_graph.specs.Values.{AreWordsOf}
use Rattle.settling_sim.specs.Design.{copied_in}
use Rattle.settling_sim.specs.Runs.{HasCells}
use Rattle.campaign.specs.Room.{HasProbe}
use Rattle.campaign.specs.Torn.{shows_in, IsPair}
use Rattle.campaign.proofs.capture.capture.Given as goal

abbrev pub invariant-loop-pair : goal.invariant-loop-pair
invariant-loop-pair l = record {
  room : HasCells l.design.net.now → HasProbe l.design.net.now l.initial.probe → HasProbe l.design.net.now l.probe;
  first : HasCells l.design.net.now → HasProbe l.design.net.now l.initial.probe → AreWordsOf l.design.net.now.graph.signals l.moment.words.items → All (IsPair l.design.net.now) l.pairs
      → find (shows_in l.design.net.now l.design.domains.now (copied_in l.design.cells.items l.design.copies) l.ticking l.moment.words.items l.moment.cycles.items l.after) l.pairs
      ≡ find (shows_in l.design.net.now l.design.domains.now (copied_in l.design.cells.items l.design.copies) l.ticking l.moment.words.items l.moment.cycles.items l.after) (drop l.pair-index l.pairs);
}
