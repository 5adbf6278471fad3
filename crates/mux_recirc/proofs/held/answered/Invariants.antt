-- The answers on the rings so far are there.
use Rattle.std.proofs.Common.{◌⊎◌, ◌↔◌, Contains}
use Rattle.std.specs.List.Sorted.{IsSorted}
use Rattle.domains.specs.Nets.{IsNet}
use Rattle.cdc_model.specs.Nets.{HasNextCells}
use Rattle.mux_recirc.specs.contracts.questions.QuestionOrd.TheImpl as question_order
use Rattle.mux_recirc.specs.declared.parts.Part.{Part}
use Rattle.mux_recirc.specs.Held.{AreWithin}
use Rattle.mux_recirc.proofs.Added.{HasOneWithin}
use Rattle.mux_recirc.proofs.Asked.{IsAnsweredOn}
use Rattle.mux_recirc.proofs.held.answered.Given as goal

abbrev pub invariant-loop-ring : goal.invariant-loop-ring
invariant-loop-ring l = IsNet l.net → HasNextCells l.net → AreWithin l.net l.questions → IsSorted question_order.ghosts.cmp l.questions
    → (p : Part) → Contains l.pairs.items p ↔ (Contains l.initial.pairs.items p ⊎ HasOneWithin 0 l.ring (λ i. IsAnsweredOn l.net l.rings l.questions i p))
