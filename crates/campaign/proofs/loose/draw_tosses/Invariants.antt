use Rattle.std.proofs.Common.{◌≡◌, [], drop}
use Rattle.settling_sim.specs.Design.{copied_in}
use Rattle.campaign.specs.Torn.{is_torn_in}
use Rattle.campaign.specs.Tested.{behind_passing, tosses_of}
use Rattle.campaign.proofs.loose.draw_tosses.Given as goal

abbrev pub invariant-loop-flop : goal.invariant-loop-flop
invariant-loop-flop l = record {
  rng : behind_passing (is_torn_in l.design.domains.now (copied_in l.design.cells.items l.design.copies) l.ticking l.moment.words.items l.moment.cycles.items l.after) l.flops l.initial.rng ≡ behind_passing (is_torn_in l.design.domains.now (copied_in l.design.cells.items l.design.copies) l.ticking l.moment.words.items l.moment.cycles.items l.after) (drop l.flop-index l.flops) l.rng;
  tosses : tosses_of (is_torn_in l.design.domains.now (copied_in l.design.cells.items l.design.copies) l.ticking l.moment.words.items l.moment.cycles.items l.after) l.flops l.initial.rng [] ≡ tosses_of (is_torn_in l.design.domains.now (copied_in l.design.cells.items l.design.copies) l.ticking l.moment.words.items l.moment.cycles.items l.after) (drop l.flop-index l.flops) l.rng l.tosses;
}
