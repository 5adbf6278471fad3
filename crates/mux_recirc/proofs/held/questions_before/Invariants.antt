-- All questions that are kept are those that are there and those among the ones to come.
use Rattle.std.proofs.Common.{◌≡◌, ◌++◌, drop}
use Rattle.std.specs.Prelude.{filter}
use Rattle.mux_recirc.specs.declared.questions.Question.{Question}
use Rattle.mux_recirc.specs.Held.{is_before}
use Rattle.mux_recirc.proofs.held.questions_before.Given as goal

abbrev pub invariant-loop-question : goal.invariant-loop-question
invariant-loop-question l = filter (λ (q : Question). is_before l.domains l.rings q.ring q.bit) l.questions
    ≡ l.kept.items ++ filter (λ (q : Question). is_before l.domains l.rings q.ring q.bit) (drop l.question-index l.questions)
