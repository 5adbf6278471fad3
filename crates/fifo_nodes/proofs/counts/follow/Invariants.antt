-- The terms of the choices so far are asked for, and a word is reached.
use Rattle.std.proofs.Common.{[]}
use Rattle.cdc_model.specs.Tables.{ShowsNet}
use Rattle.gray_pointer.specs.Words.{IsPlain, word_of}
use Rattle.fifo_nodes.specs.Counts.{IsCounter}
use Rattle.fifo_nodes.proofs.Counting.{IsCountSoFar}
use Rattle.fifo_nodes.proofs.counts.follow.Given as goal

abbrev pub invariant-loop : goal.invariant-loop
invariant-loop l = IsPlain l.net.graph → ShowsNet l.net [] l.table → IsCounter l.net.graph l.register
    → IsCountSoFar l.net.graph l.register.sig l.register.width (word_of l.net.graph l.register.next l.register.width) l.word l.initial.search l.search
