use Rattle.flat_unfolding.specs.Outcome.{breaks_if}
use Rattle.flat_unfolding.specs.Processes.{first_edge, is_clock_falling}
use Rattle.flat_names.proofs.Notes.{then-noted}
use Rattle.flat_names.proofs.Options.{ok-map}
use Rattle.flat_process.specs.Processes.{lacks_reset}
use Rattle.flat_process.proofs.always.note_pair.Goals as goal

pub returns : goal.returns
returns c = λ l h.
    let edges = c.args.edges.now in
    ok-map c.note_falling.result
    (λ u k. then-noted c.args.faults.now c.note_lack.new.faults c.note_falling.new.faults (breaks_if (lacks_reset l edges) 317 (first_edge edges)) (breaks_if (is_clock_falling l edges) 316 (first_edge edges)) (c.in_ok-note_lack.ensures l h) k)
    (c.note_falling.ensures l h)
