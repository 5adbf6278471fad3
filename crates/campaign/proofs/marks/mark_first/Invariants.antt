use Rattle.std.proofs.Common.{◌≡◌, ◌||◌, length, drop}
use Rattle.cdc_base.specs.declared.bit.Bit.{Bit}
use Rattle.cell_graph.specs.Values.{reading_of}
use Rattle.cdc_model.specs.Schemes.{in_first}
use Rattle.campaign.specs.Planned.{HavePlaces}
use Rattle.campaign.proofs.marks.mark_first.Given as goal

abbrev pub invariant-loop-flop : goal.invariant-loop-flop
invariant-loop-flop l = record {
  counted : length l.marks ≡ length l.initial.marks;
  marked : HavePlaces (length l.initial.marks) l.flops → (x : Bit)
      → (reading_of l.initial.marks x || in_first l.count x l.flops) ≡ (reading_of l.marks x || in_first l.left x (drop l.flop-index l.flops));
}
