use Rattle.std.proofs.Common.{ap}
use Rattle.flat_unfolding.specs.Outcome.{breaks_if}
use Rattle.flat_unfolding.specs.Processes.{first_edge, is_clock_falling}
use Rattle.flat_process.proofs.Processes.{told-if, untold}
use Rattle.flat_process.proofs.always.note_falling.Goals as goal

pub returns-in_ok-note : goal.returns-in_ok-note
returns-in_ok-note c = λ l h.
    let edges = c.args.edges.now in
    let bs = breaks_if (is_clock_falling l edges) 316 (first_edge edges) in
    told-if c.args.faults.now c.note.new.self c.is_clock_falling.result 316 c.first_edge.result.now (first_edge edges) bs c.if-is_clock_falling.true c.in_ok-note.ensures c.first_edge.ensures
    (ap (λ b. breaks_if b 316 (first_edge edges)) (c.is_clock_falling.ensures l h))

pub returns-else-is_clock_falling : goal.returns-else-is_clock_falling
returns-else-is_clock_falling c = λ l h.
    let edges = c.args.edges.now in
    untold c.args.faults.now c.is_clock_falling.result 316 (first_edge edges) (breaks_if (is_clock_falling l edges) 316 (first_edge edges)) c.if-is_clock_falling.false (ap (λ b. breaks_if b 316 (first_edge edges)) (c.is_clock_falling.ensures l h))
