-- All questions are those that are there and those on the rings to come.
use Rattle.std.proofs.Common.{◌≡◌, ◌++◌, drop}
use Rattle.mux_recirc.specs.Questions.{asked_on}
use Rattle.mux_recirc.proofs.questions.add_all.Given as goal

abbrev pub invariant-loop-ring : goal.invariant-loop-ring
invariant-loop-ring l = l.initial.questions.items ++ asked_on l.rings l.bit ≡ l.questions.items ++ asked_on (drop l.ring-index l.rings) l.bit
