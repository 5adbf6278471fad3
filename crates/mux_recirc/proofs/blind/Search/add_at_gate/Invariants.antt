-- The blindnesses of the ends so far are there, and the tables are as they were.
use Rattle.std.proofs.Common.{◌≡◌, ◌⊎◌, ◌↔◌, false, true, Contains}
use Rattle.cdc_base.specs.declared.bit.Bit.{Bit}
use Rattle.domains.specs.Nets.{IsNet}
use Rattle.cdc_model.specs.Nets.{HasNextCells}
use Rattle.cdc_model.specs.Tables.{ShowsNext}
use Rattle.mux_recirc.specs.declared.blind.Blind.{Blind}
use Rattle.mux_recirc.specs.Blind.{AreByEnds, IsBlindInto}
use Rattle.mux_recirc.specs.Questions.{AreBitsWithin}
use Rattle.mux_recirc.specs.Shown.{equal}
use Rattle.mux_recirc.proofs.Added.{HasItemWithin}
use Rattle.mux_recirc.proofs.blind.Search.add_at_gate.Given as goal

abbrev pub invariant-loop-end : goal.invariant-loop-end
invariant-loop-end l = record {
  same : l.shut ≡ l.initial.shut;
  found : (p q : Bit) → IsNet l.self.net.now → HasNextCells l.self.net.now → AreByEnds l.self.crossings.now → AreBitsWithin l.self.net.now l.ends
      → ShowsNext l.self.net.now (equal p q false) l.initial.shut.low l.ends → ShowsNext l.self.net.now (equal p q true) l.initial.shut.high l.ends
      → (b : Blind) → Contains l.found.items b
      ↔ (Contains l.initial.found.items b ⊎ HasItemWithin l.ends l.end-index (λ x. IsBlindInto l.self.net.now l.self.domains.now l.self.crossings.now l.gate p q x b));
}
