use Rattle.std.proofs.Common.{◌≡◌, ℕ, ◌++◌, Option, Result, sym, ap, subst, ◌∙◌}
use Rattle.std.specs.Prelude.{IfOk}
use Rattle.cdc_base.specs.declared.list.NoMemory.{NoMemory}
use Rattle.verilog_reading.specs.StmtTree.{stmt_tree_of}
use Rattle.flat_unfolding.specs.Outcome.{breaks}
use Rattle.flat_unfolding.specs.Statements.{of_wires, done}
use Rattle.flat_unfolding.specs.Reads.{latch_rule, latch_of}
use Rattle.flat_unfolding.specs.Processes.{level_rules, wrong_name, later_rules}
use Rattle.flat_names.specs.Noting.{all_noted}
use Rattle.flat_names.proofs.Notes.{then-noted}
use Rattle.flat_statements.proofs.Latched.{latch-found}
use Rattle.flat_process.proofs.Wires.{own-is}
use Rattle.flat_process.proofs.Processes.{done-body}
use Rattle.flat_process.proofs.always.wires_process.Goals as goal
use Rattle.flat_process.proofs.always.wires_process.Goals.{in-Some+in_ok-note, in_default}

pub returns : goal.returns
returns c = λ l h fit signals formed.
    let t = stmt_tree_of c.args.body.now in
    let d = done l of_wires t in
    let r = c.in_ok-resolved.resolved in
    let is = c.in_ok-resolved.ensures l h fit formed in
    let listed = level_rules l c.args.event.now t in
    let b = c.statement.new.faults in
    let mixed = c.in_ok-note_wrong.ensures ∙ ap (λ o. all_noted b (wrong_name o)) c.in_ok-first_mixed.ensures in
    let f = c.args.faults.now in
    let e = c.note_levels.new.faults in
    let g = c.note_wrong.new.faults in
    let found = latch-found l c.args.look.now.signals.now signals of_wires t r is.0 fit c.first_latch.result c.first_latch.ensures in
    let latch : latch_rule l.entries d.stmt ≡ latch_of l.entries c.in_ok-sig.field-0 = subst (λ (q : Result (Option ℕ) NoMemory). IfOk q (λ o. latch_rule l.entries d.stmt ≡ latch_of l.entries o)) c.in_ok-sig.was found in
    let told : c.match-branch-6.faults ≡ all_noted g (latch_rule l.entries d.stmt) = elim c.match-branch-6.branch [
      | in-Some+in_ok-note w ↦ w.faults-is ∙ w.in_ok-note.ensures ∙ ap (λ x. all_noted g (breaks 311 x)) (w.own_name.ensures ∙ own-is c.args.look.now l h w.in-Some.sig)
          ∙ ap (all_noted g) (ap (latch_of l.entries) (sym w.in-Some.is) ∙ sym latch)
      | in_default w ↦ w.faults-is ∙ ap (all_noted g) (ap (latch_of l.entries) (sym w.in_default.is) ∙ sym latch)
    ] in (
      done-body l of_wires t r is.0,
      then-noted f g c.match-branch-6.faults (listed ++ d.broken ++ later_rules t) (latch_rule l.entries d.stmt)
          (then-noted f b g (listed ++ d.broken) (later_rules t) (then-noted f e b listed d.broken (c.in_ok-note_levels.ensures l h) is.1) mixed) told,
    )
