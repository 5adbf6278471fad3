-- The word bits at the places so far, and what was told of the last one.
use Rattle.std.proofs.Common.{take}
use Rattle.fifo_scheme.specs.Met.{AreGathered, AreNumbers, ForMet, IsLast, IsWordAt}
use Rattle.fifo_scheme.proofs.judge.words_of.Given as goal

abbrev pub invariant-loop-place : goal.invariant-loop-place
invariant-loop-place l = ForMet l.shown.net.now l.shown.domains.now l.shown.table.now l.index l.pair
    (λ write read. AreGathered (IsWordAt l.shown.net.now l.shown.domains.now l.index write read) (take l.place-index l.place-items) l.words.bits
    × AreNumbers l.shown.net.now l.shown.domains.now write read l.words.numbers × IsLast l.shown.net.now l.shown.domains.now write read l.last)
