-- The blindnesses of the crossings so far are there.
use Rattle.std.proofs.Common.{◌⊎◌, ◌↔◌, ◌<◌, false, true, List, Contains}
use Rattle.cdc_base.specs.declared.bit.Bit.{Bit}
use Rattle.domains.specs.Nets.{IsNet}
use Rattle.cdc_model.specs.Nets.{HasNextCells, bit_count}
use Rattle.cdc_model.specs.Tables.{ShowsNext}
use Rattle.mux_recirc.specs.declared.blind.Blind.{Blind}
use Rattle.mux_recirc.specs.Blind.{AreByEnds}
use Rattle.mux_recirc.specs.Shown.{equal}
use Rattle.mux_recirc.proofs.Added.{HasOneWithin}
use Rattle.mux_recirc.proofs.Shutting.{IsBlindThere}
use Rattle.mux_recirc.proofs.blind.Search.add_into.Given as goal

abbrev pub invariant-loop-crossing : goal.invariant-loop-crossing
invariant-loop-crossing l = (p q : Bit) (bits : List Bit) → IsNet l.self.net.now → HasNextCells l.self.net.now → AreByEnds l.self.crossings.now
    → ShowsNext l.self.net.now (equal p q false) l.fn.shut.low bits → ShowsNext l.self.net.now (equal p q true) l.fn.shut.high bits
    → Contains bits l.fn.end → l.fn.end.at < bit_count l.self.net.now.graph.signals l.fn.end.sig
    → (b : Blind) → Contains l.found.items b
    ↔ (Contains l.fn.found.items b ⊎ HasOneWithin l.initial.crossing l.crossing (λ i. IsBlindThere l.self.net.now l.self.domains.now l.self.crossings.now l.gate p q l.fn.end i b))
