use Rattle.std.proofs.Common.{◌≡◌, ◌<◌, ◌++◌, [], drop}
use Rattle.std.specs.Prelude.{All}
use Rattle.cdc_base.specs.declared.bit.Bit.{Bit}
use Rattle.cdc_model.specs.Nets.{HasNextCells, bit_count}
use Rattle.cdc_model.specs.Tables.{ShowsNet}
use Rattle.cell_graph.specs.Unfolded.{IsWellFormed}
use Rattle.cell_graph.specs.Values.{reading_of}
use Rattle.domains.specs.Nets.{IsNet}
use Rattle.campaign.specs.Planned.{watched_in}
use Rattle.campaign.proofs.plan.pairs.Given as goal

abbrev pub invariant-loop-bit : goal.invariant-loop-bit
invariant-loop-bit l = record {
  shows : IsWellFormed l.net.graph → ShowsNet l.net [] l.table;
  added : IsNet l.net → HasNextCells l.net → All (λ (b : Bit). b.at < bit_count l.net.graph.signals b.sig) l.bits →
      watched_in l.net l.domains (reading_of l.settling) l.bits ≡ l.pairs.items ++ watched_in l.net l.domains (reading_of l.settling) (drop l.bit-index l.bits);
}
