use Rattle.std.proofs.Common.{◌||◌, not, ap}
use Rattle.std.specs.Prelude.{flat_map}
use Rattle.std.specs.List.{list_any}
use Rattle.flat_unfolding.specs.Outcome.{breaks_if}
use Rattle.flat_unfolding.specs.Processes.{has_form, first_edge, edge_rules, is_wide}
use Rattle.flat_names.proofs.Notes.{then-noted}
use Rattle.flat_process.proofs.Processes.{told-if, untold}
use Rattle.flat_process.proofs.always.note_event.Goals as goal

pub returns-in_ok-note : goal.returns-in_ok-note
returns-in_ok-note c = λ l h fit.
    let edges = c.args.edges.now in
    let bs = breaks_if (not (has_form edges) || list_any (is_wide l) edges) 316 (first_edge edges) in
    then-noted c.args.faults.now c.note_edges.new.faults c.note.new.self (flat_map (edge_rules l (first_edge edges)) edges) bs (c.in_ok-note_edges.ensures l h)
    (told-if c.note_edges.new.faults c.note.new.self c.breaks_event.result 316 c.first_edge.result.now (first_edge edges) bs c.if-breaks_event.true c.in_ok-note.ensures c.first_edge.ensures
    (ap (λ b. breaks_if b 316 (first_edge edges)) (c.breaks_event.ensures l h fit)))

pub returns-else-breaks_event : goal.returns-else-breaks_event
returns-else-breaks_event c = λ l h fit.
    let edges = c.args.edges.now in
    let bs = breaks_if (not (has_form edges) || list_any (is_wide l) edges) 316 (first_edge edges) in
    let f = c.note_edges.new.faults in
    then-noted c.args.faults.now f f (flat_map (edge_rules l (first_edge edges)) edges) bs (c.in_ok-note_edges.ensures l h)
    (untold f c.breaks_event.result 316 (first_edge edges) bs c.if-breaks_event.false (ap (λ b. breaks_if b 316 (first_edge edges)) (c.breaks_event.ensures l h fit)))
