use Rattle.std.proofs.Common.{ap}
use Rattle.std.specs.Prelude.{flat_map}
use Rattle.verilog_reading.specs.StmtTree.{stmt_tree_of}
use Rattle.flat_unfolding.specs.Outcome.{breaks_if}
use Rattle.flat_unfolding.specs.Processes.{first_edge, edge_rules, lacks_level}
use Rattle.flat_names.proofs.Notes.{then-noted}
use Rattle.flat_process.proofs.Processes.{told-if, untold}
use Rattle.flat_process.proofs.always.note_list.Goals as goal

pub returns-in_ok-note : goal.returns-in_ok-note
returns-in_ok-note c = λ l h.
    let levels = c.args.levels.now in
    let lacks = lacks_level l levels (stmt_tree_of c.args.body.now) in
    let bs = breaks_if lacks 316 (first_edge levels) in
    then-noted c.args.faults.now c.note_edges.new.faults c.note.new.self (flat_map (edge_rules l (first_edge levels)) levels) bs (c.in_ok-note_edges.ensures l h)
    (told-if c.note_edges.new.faults c.note.new.self c.in_ok-is_short.is_short 316 c.first_edge.result.now (first_edge levels) bs c.if-is_short.true c.in_ok-note.ensures c.first_edge.ensures
    (ap (λ b. breaks_if b 316 (first_edge levels)) (c.in_ok-is_short.ensures l h)))

pub returns-else-is_short : goal.returns-else-is_short
returns-else-is_short c = λ l h.
    let levels = c.args.levels.now in
    let lacks = lacks_level l levels (stmt_tree_of c.args.body.now) in
    let bs = breaks_if lacks 316 (first_edge levels) in
    let f = c.note_edges.new.faults in
    then-noted c.args.faults.now f f (flat_map (edge_rules l (first_edge levels)) levels) bs (c.in_ok-note_edges.ensures l h)
    (untold f c.in_ok-is_short.is_short 316 (first_edge levels) bs c.if-is_short.false (ap (λ b. breaks_if b 316 (first_edge levels)) (c.in_ok-is_short.ensures l h)))
