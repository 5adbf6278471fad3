-- The blindnesses at the gates so far are there.
use Rattle.std.proofs.Common.{◌⊎◌, ◌↔◌, Contains}
use Rattle.domains.specs.Nets.{IsNet}
use Rattle.cdc_model.specs.Nets.{HasNextCells}
use Rattle.mux_recirc.specs.declared.blind.Blind.{Blind}
use Rattle.mux_recirc.specs.Blind.{AreByEnds}
use Rattle.mux_recirc.specs.Questions.{AreBitsWithin}
use Rattle.mux_recirc.proofs.Added.{HasOneWithin}
use Rattle.mux_recirc.proofs.Shutting.{IsBlindBefore}
use Rattle.mux_recirc.proofs.blind.Search.add_in_ring.Given as goal

abbrev pub invariant-loop-place : goal.invariant-loop-place
invariant-loop-place l = IsNet l.self.net.now → HasNextCells l.self.net.now → AreByEnds l.self.crossings.now → AreBitsWithin l.self.net.now l.ends.items
    → (b : Blind) → Contains l.found.items b
    ↔ (Contains l.initial.found.items b ⊎ HasOneWithin 2 l.place (IsBlindBefore l.self.net.now l.self.domains.now l.self.crossings.now l.ring l.number l.request l.ends.items b))
