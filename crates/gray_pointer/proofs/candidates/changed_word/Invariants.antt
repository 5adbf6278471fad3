-- The words met so far are taken, and those not left are the register's own or choices.
use Rattle.std.specs.HashSet.{keys}
use Rattle.gray_pointer.specs.Shapes.{IsRegisterIn}
use Rattle.gray_pointer.specs.Taken.{AreTakenSoFar}
use Rattle.gray_pointer.specs.Words.{IsPlain}
use Rattle.gray_pointer.proofs.candidates.changed_word.Given as goal

abbrev pub invariant-loop : goal.invariant-loop
invariant-loop l = IsPlain l.net.graph → IsRegisterIn l.net.graph l.register → AreTakenSoFar l.net.graph l.register (keys l.words.met) l.words.left.items
