-- All held bits are those that are there and those of the questions to come.
use Rattle.std.proofs.Common.{◌≡◌, ◌++◌, drop}
use Rattle.domains.specs.Nets.{IsNet}
use Rattle.cdc_model.specs.Nets.{HasNextCells}
use Rattle.mux_recirc.specs.Held.{AreWithin, held_in}
use Rattle.mux_recirc.proofs.held.answer.Given as goal

abbrev pub invariant-loop-question : goal.invariant-loop-question
invariant-loop-question l = IsNet l.net → HasNextCells l.net → AreWithin l.net l.questions
    → l.initial.pairs.items ++ held_in l.net l.ring l.questions ≡ l.pairs.items ++ held_in l.net l.ring (drop l.question-index l.questions)
