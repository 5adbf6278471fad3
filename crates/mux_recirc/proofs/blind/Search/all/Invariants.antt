-- The blindnesses under the rings so far are there.
use Rattle.std.proofs.Common.{◌≡◌, ◌⊎◌, ◌↔◌, Some, map, slice_get, Contains}
use Rattle.std.specs.List.Sorted.{IsSorted}
use Rattle.domains.specs.Nets.{IsNet}
use Rattle.cdc_model.specs.declared.scheme.Ring.{Ring as RingEntry}
use Rattle.cdc_model.specs.Nets.{HasNextCells}
use Rattle.mux_recirc.specs.contracts.questions.QuestionOrd.TheImpl as question_order
use Rattle.mux_recirc.specs.declared.blind.Blind.{Blind}
use Rattle.mux_recirc.specs.declared.questions.Question.{Question}
use Rattle.mux_recirc.specs.Blind.{AreByEnds, IsBlindInRing}
use Rattle.mux_recirc.specs.Held.{AreWithin}
use Rattle.mux_recirc.specs.Questions.{questions_on}
use Rattle.mux_recirc.proofs.Added.{HasOneWithin}
use Rattle.mux_recirc.proofs.blind.Search.all.Given as goal

abbrev pub invariant-loop-ring : goal.invariant-loop-ring
invariant-loop-ring l = IsNet l.self.net.now → HasNextCells l.self.net.now → AreByEnds l.self.crossings.now → AreWithin l.self.net.now l.questions → IsSorted question_order.ghosts.cmp l.questions
    → (b : Blind) → Contains l.found.items b
    ↔ (Contains l.initial.found.items b ⊎ HasOneWithin 0 l.ring (λ i. (e : RingEntry) × (slice_get l.rings i ≡ Some e)
    × IsBlindInRing l.self.net.now l.self.domains.now l.self.crossings.now e i (map (λ (q : Question). q.bit) (questions_on l.questions i)) b))
