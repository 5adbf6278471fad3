-- The guards of all cells below the roots are those that are asked for.
use Rattle.std.proofs.Common.{◌∙◌, sym, subst, List}
use Rattle.std.specs.List.{Contains}
use Rattle.cell_graph.specs.Below.{IsClosed}
use Rattle.cofactor.proofs.Places.{if_ok}
use Rattle.fifo_ways.specs.declared.sought.Guard.{Guard}
use Rattle.fifo_ways.proofs.GuardLists.{asked-in, all-nodes}
use Rattle.fifo_ways.proofs.Passing.{are-below, top-there}
use Rattle.fifo_ways.proofs.guard.guards.Goals as goal

pub returns : goal.returns
returns c =
    let g = c.args.net.now.graph in
    let roots = c.args.roots.now in
    let tops = c.as_slice.result.now in
    let cells = c.in_ok-cells.cells.items in
    let order = c.as_slice-2.result.now in
    let named = c.as_slice.ensures.value ∙ c.in_ok-tops.ensures in
    let walked = c.in_ok-cells.ensures in
    record {
      all = if_ok c.guards_of.result (λ guards e well nodes p asked.
          subst (λ (l : List Guard). Contains l p) (sym e)
          (asked-in g well c.args.words.now roots order (top-there roots tops cells order named c.as_slice-2.ensures.value walked.roots)
          (subst (IsClosed g) (sym c.as_slice-2.ensures.value) walked.closed) p asked))
          c.guards_of.ensures;
      nodes = if_ok c.guards_of.result (λ guards e well nodes p h.
          all-nodes g well order p (are-below g well roots nodes tops cells order named c.as_slice-2.ensures.value walked.closed walked.below
          walked.ascending walked.within).within
          (subst (λ (l : List Guard). Contains l p) e h))
          c.guards_of.ensures;
    }
