-- All bits are those that are there and those of the questions to come.
use Rattle.std.proofs.Common.{◌≡◌, ◌++◌, drop, map}
use Rattle.mux_recirc.specs.declared.questions.Question.{Question}
use Rattle.mux_recirc.proofs.questions.asked_bits.Given as goal

abbrev pub invariant-loop-question : goal.invariant-loop-question
invariant-loop-question l = map (λ (q : Question). q.bit) l.questions ≡ l.bits.items ++ map (λ (q : Question). q.bit) (drop l.question-index l.questions)
