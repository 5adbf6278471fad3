use Rattle.flat_unfolding.specs.Processes.{first_edge, reset_edge}
use Rattle.flat_unfolding.specs.Resets.{reset_rules}
use Rattle.flat_process.proofs.Processes.{told-if, untold}
use Rattle.flat_process.proofs.always.note_reset.Goals as goal

pub returns-in_ok-note : goal.returns-in_ok-note
returns-in_ok-note c = λ pins l bs f h pinned is.
    let edges = c.args.edges.now in
    told-if c.args.faults.now c.note.new.self c.breaks_reset.result 317 c.first_edge.result.now (first_edge edges) (reset_rules l (first_edge edges) (reset_edge l edges) f) c.if-breaks_reset.true c.in_ok-note.ensures c.first_edge.ensures
    (c.breaks_reset.ensures pins l bs f h pinned is)

pub returns-else-breaks_reset : goal.returns-else-breaks_reset
returns-else-breaks_reset c = λ pins l bs f h pinned is.
    let edges = c.args.edges.now in
    untold c.args.faults.now c.breaks_reset.result 317 (first_edge edges) (reset_rules l (first_edge edges) (reset_edge l edges) f) c.if-breaks_reset.false (c.breaks_reset.ensures pins l bs f h pinned is)
