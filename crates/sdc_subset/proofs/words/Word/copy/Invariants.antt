use Rattle.std.proofs.Common.{◌≡◌, take}
use Rattle.sdc_subset.proofs.words.Word.copy.Given as goal

abbrev pub invariant-loop-mark : goal.invariant-loop-mark
invariant-loop-mark l = l.marks ≡ take l.mark-index l.mark-items
