-- The words met so far are count words where those left are, and only then.
use Rattle.std.proofs.Common.{◌≡◌, []}
use Rattle.std.specs.HashSet.{keys}
use Rattle.cell_graph.specs.Cells.{signal_width}
use Rattle.cdc_model.specs.Tables.{ShowsNet}
use Rattle.gray_pointer.specs.Shapes.{AreAsked, AreCountsSoFar}
use Rattle.gray_pointer.specs.Words.{IsPlain}
use Rattle.gray_pointer.proofs.shapes.are_counts.Given as goal

abbrev pub invariant-loop : goal.invariant-loop
invariant-loop l = IsPlain l.net.graph → ShowsNet l.net [] l.table → signal_width l.net.graph.signals l.register.sig ≡ l.register.width
    → AreAsked l.net.graph l.register.width (keys l.initial.words.met) l.initial.words.left.items
    → AreCountsSoFar l.net.graph l.register.sig l.register.width (keys l.initial.words.met) (keys l.words.met) l.words.left.items
