-- The pairs met so far are joint where those left are and the words asked for are count words, and only then.
use Rattle.std.proofs.Common.{◌≡◌, []}
use Rattle.std.specs.HashSet.{keys}
use Rattle.cdc_model.specs.Tables.{ShowsNet}
use Rattle.gray_pointer.specs.Shapes.{IsRegisterIn, AreJointSoFar}
use Rattle.gray_pointer.specs.Words.{IsPlain}
use Rattle.gray_pointer.proofs.shapes.are_joint.Given as goal

abbrev pub invariant-loop : goal.invariant-loop
invariant-loop l = IsPlain l.net.graph → ShowsNet l.net [] l.table → IsRegisterIn l.net.graph l.count → IsRegisterIn l.net.graph l.gray → l.gray.width ≡ l.count.width
    → AreJointSoFar l.net.graph l.count.sig l.gray.sig l.count.width (record { count = l.count.next; gray = l.gray.next }) (keys l.counts.met) l.counts.left.items (keys l.pairs.met) l.pairs.left.items
