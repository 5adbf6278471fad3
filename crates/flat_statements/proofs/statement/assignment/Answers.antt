-- An assignment to a fixed target, a blocking one to a word, and a write of each word.
use Rattle.std.proofs.Common.{None}
use Rattle.verilog_reading.specs.ExprTree.{tree_of, target_tree_of}
use Rattle.flat_names.proofs.Options.{ok-map}
use Rattle.flat_statements.specs.Statements.{kind_of}
use Rattle.flat_statements.proofs.Assignments.{word-of, fixed-done, written-done, unassigned-done}
use Rattle.flat_statements.proofs.statement.assignment.Goals as goal

pub returns-in-Fixed : goal.returns-in-Fixed
returns-in-Fixed c = λ l h is t v.
    let p = c.in_ok-aim.ensures l h is t in
    let e = c.in_ok-value.ensures l h is v in
    fixed-done l (kind_of c.args.mode) c.args.is_blocking None (target_tree_of c.args.target.now) (tree_of c.args.value.now) c.args.faults.now c.process_target.new.faults c.resolve.new.faults c.note_stray.new.faults
    (record { target = p.1; value = e.1; stray = c.in_ok-note_stray.ensures t }) c.in_ok-aim.aim p.0 c.in_ok-value.value e.0 c.in-Fixed.fixed c.in-Fixed.is

pub returns-then-is_blocking : goal.returns-then-is_blocking
returns-then-is_blocking c = λ l h is t v.
    let p = c.in_ok-aim.ensures l h is t in
    let e = c.in_ok-value.ensures l h is v in
    let w = c.in-Word in
    ok-map c.unassigned.result
    (λ r q. unassigned-done l (kind_of c.args.mode) c.args.is_blocking None (target_tree_of c.args.target.now) (tree_of c.args.value.now) c.args.faults.now c.process_target.new.faults c.resolve.new.faults c.note_stray.new.faults
    (record { target = p.1; value = e.1; stray = c.in_ok-note_stray.ensures t }) c.in_ok-aim.aim p.0 c.in_ok-value.value e.0 w.memory w.index w.is c.if-is_blocking.true c.note_blocking_word.new.faults (c.in_ok-note_blocking_word-in-Word.ensures t) r q)
    c.unassigned.ensures

pub returns-else-is_blocking : goal.returns-else-is_blocking
returns-else-is_blocking c = λ l h is t v.
    let p = c.in_ok-aim.ensures l h is t in
    let e = c.in_ok-value.ensures l h is v in
    let w = c.in-Word in
    let word = word-of l is (target_tree_of c.args.target.now) c.in_ok-aim.aim w.memory w.index w.is p.0 in
    ok-map c.memory_write.result
    (λ r q. written-done l (kind_of c.args.mode) c.args.is_blocking None (target_tree_of c.args.target.now) (tree_of c.args.value.now) c.args.faults.now c.process_target.new.faults c.resolve.new.faults c.note_stray.new.faults
    (record { target = p.1; value = e.1; stray = c.in_ok-note_stray.ensures t }) c.in_ok-aim.aim p.0 c.in_ok-value.value e.0 w.memory w.index w.is c.if-is_blocking.false r q)
    (c.memory_write.ensures word.sized word.words word.few)
