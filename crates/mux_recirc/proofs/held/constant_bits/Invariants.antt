-- All constant bits are those that are there and those among the bits to come.
use Rattle.std.proofs.Common.{◌≡◌, ◌++◌, [], drop}
use Rattle.std.specs.Prelude.{filter}
use Rattle.domains.specs.Nets.{IsNet}
use Rattle.cdc_model.specs.Nets.{HasNextCells}
use Rattle.cdc_model.specs.Tables.{ShowsNet}
use Rattle.mux_recirc.specs.Questions.{AreBitsWithin}
use Rattle.mux_recirc.specs.Shown.{keeps}
use Rattle.mux_recirc.proofs.held.constant_bits.Given as goal

abbrev pub invariant-loop-bit : goal.invariant-loop-bit
invariant-loop-bit l = IsNet l.net → HasNextCells l.net → ShowsNet l.net [] l.table → AreBitsWithin l.net l.bits
    → filter (keeps l.net []) l.bits ≡ l.constant.items ++ filter (keeps l.net []) (drop l.bit-index l.bits)
