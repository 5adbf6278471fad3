use Rattle.std.proofs.Common.{ap}
use Rattle.flat_unfolding.specs.Outcome.{breaks_if}
use Rattle.flat_unfolding.specs.Processes.{first_edge}
use Rattle.flat_process.specs.Processes.{lacks_reset}
use Rattle.flat_process.proofs.Processes.{told-if, untold}
use Rattle.flat_process.proofs.always.note_lack.Goals as goal

pub returns-in_ok-note : goal.returns-in_ok-note
returns-in_ok-note c = λ l h.
    let edges = c.args.edges.now in
    let bs = breaks_if (lacks_reset l edges) 317 (first_edge edges) in
    told-if c.args.faults.now c.note.new.self c.lack_reset.result 317 c.first_edge.result.now (first_edge edges) bs c.if-lack_reset.true c.in_ok-note.ensures c.first_edge.ensures
    (ap (λ b. breaks_if b 317 (first_edge edges)) (c.lack_reset.ensures l h))

pub returns-else-lack_reset : goal.returns-else-lack_reset
returns-else-lack_reset c = λ l h.
    let edges = c.args.edges.now in
    untold c.args.faults.now c.lack_reset.result 317 (first_edge edges) (breaks_if (lacks_reset l edges) 317 (first_edge edges)) c.if-lack_reset.false (ap (λ b. breaks_if b 317 (first_edge edges)) (c.lack_reset.ensures l h))
