-- The search is one for these terms.
use Rattle.std.proofs.Common.{List, []}
use Rattle.cdc_model.specs.Tables.{ShowsNet}
use Rattle.fifo_terms.specs.Terms as rules
use Rattle.gray_pointer.specs.Words.{IsPlain}
use Rattle.fifo_nodes.specs.Searches.{IsSearch}
use Rattle.fifo_nodes.proofs.walk.found_terms.Given as goal

abbrev pub invariant-loop : goal.invariant-loop
invariant-loop l = (ts : List rules.Term) → IsPlain l.net.graph → ShowsNet l.net [] l.table → IsSearch l.net.graph ts l.initial.search → IsSearch l.net.graph ts l.search
