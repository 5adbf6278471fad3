-- The questions of the bits so far are there.
use Rattle.std.proofs.Common.{◌≡◌, ◌⊎◌, ◌↔◌, [], Contains}
use Rattle.std.specs.List.Sorted.{IsSorted}
use Rattle.domains.specs.Nets.{IsNet}
use Rattle.cdc_model.specs.Nets.{HasNextCells}
use Rattle.cdc_model.specs.Tables.{ShowsNet}
use Rattle.mux_recirc.specs.contracts.parts.PartOrd.TheImpl as part_order
use Rattle.mux_recirc.specs.declared.questions.Question.{Question}
use Rattle.mux_recirc.specs.Questions.{AreBitsWithin, IsAskedOf}
use Rattle.mux_recirc.proofs.Added.{HasItemWithin}
use Rattle.mux_recirc.proofs.questions.questions_of.Given as goal

abbrev pub invariant-loop-bit : goal.invariant-loop-bit
invariant-loop-bit l = record {
  same : l.table ≡ l.initial.table;
  asked : IsNet l.net → HasNextCells l.net → ShowsNet l.net [] l.initial.table → AreBitsWithin l.net l.bits → IsSorted part_order.ghosts.cmp l.parts.entries.items
      → (q : Question) → Contains l.questions.items q ↔ (Contains l.initial.questions.items q ⊎ HasItemWithin l.bits l.bit-index (λ b. IsAskedOf l.net l.parts.entries.items b q));
}
