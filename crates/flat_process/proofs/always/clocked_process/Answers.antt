use Rattle.std.proofs.Common.{[], None, sym, ap, ◌∙◌}
use Rattle.std.specs.Prelude.{unwrap_or}
use Rattle.verilog_reading.specs.StmtTree.{stmt_tree_of}
use Rattle.flat_form.specs.declared.flat.FStmt.TheVariants as form
use Rattle.flat_unfolding.specs.Processes.{clock_of}
use Rattle.flat_names.proofs.Options.{ok-map}
use Rattle.flat_process.proofs.Processes.{formed-process, formless-process}
use Rattle.flat_process.proofs.always.clocked_process.Goals as goal

pub returns-then-has_form : goal.returns-then-has_form
returns-then-has_form c = λ pins l h fit pinned formed.
    let edges = c.args.edges.now in
    let same = c.unwrap_or-clock.ensures ∙ ap (λ o. unwrap_or o 0) (c.clock_of.ensures l h) in
    ok-map c.process_with_form.result
    (λ p k. formed-process l edges (stmt_tree_of c.args.body.now) (unwrap_or (clock_of l edges) 0) c.unwrap_or-clock.result c.args.faults.now c.note_event.new.faults c.process_with_form.new.faults
    c.args.late.now c.note_pair.new.faults c.process_with_form.new.late p same (sym c.has_form.ensures ∙ c.if-has_form.true) (c.in_ok-note_event.ensures l h fit) (c.in_ok-note_pair.ensures l h) k.0 k.1 k.2)
    (c.process_with_form.ensures pins l h fit pinned formed)

pub returns-in_ok-note_reset : goal.returns-in_ok-note_reset
returns-in_ok-note_reset c = λ pins l h fit pinned formed.
    let edges = c.args.edges.now in
    let same = c.unwrap_or-clock.ensures ∙ ap (λ o. unwrap_or o 0) (c.clock_of.ensures l h) in
    formless-process l edges (stmt_tree_of c.args.body.now) (unwrap_or (clock_of l edges) 0) c.args.faults.now c.note_event.new.faults c.body_at_edges.new.faults c.args.late.now c.note_pair.new.faults c.note_reset.new.faults
    (record { clock = c.unwrap_or-clock.result; body = c.in_ok-body.body; reset = record { edge = None; branch = form.Null }; given = c.new.result }) (sym c.has_form.ensures ∙ c.if-has_form.false) (c.in_ok-note_event.ensures l h fit)
    (c.in_ok-note_pair.ensures l h) same c.new.ensures.items (c.in_ok-body.ensures l h fit formed).1 (c.in_ok-note_reset.ensures pins l [] None h pinned tt)
