use Rattle.std.proofs.Common.{◌≡◌, ◌||◌, length, drop}
use Rattle.std.specs.List.{Contains}
use Rattle.cdc_base.specs.declared.bit.Bit.{Bit}
use Rattle.cell_graph.specs.Values.{reading_of}
use Rattle.cdc_model.specs.declared.scheme.Sync.{Sync}
use Rattle.campaign.specs.Planned.{HavePlaces, is_settling_in}
use Rattle.campaign.proofs.marks.mark_chains.Given as goal

abbrev pub invariant-loop-sync : goal.invariant-loop-sync
invariant-loop-sync l = record {
  counted : length l.marks ≡ length l.initial.marks;
  marked : ((s : Sync) → Contains l.syncs s → HavePlaces (length l.initial.marks) s.flops) → (x : Bit)
      → (reading_of l.initial.marks x || is_settling_in l.domains l.syncs x) ≡ (reading_of l.marks x || is_settling_in l.domains (drop l.sync-index l.syncs) x);
}
