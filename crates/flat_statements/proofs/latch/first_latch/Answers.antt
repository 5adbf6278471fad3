use Rattle.std.proofs.Common.{length, sym, ◌∙◌}
use Rattle.flat_meaning.specs.Design.{width_in}
use Rattle.flat_meaning.specs.Assigned.{may_assign}
use Rattle.flat_form.specs.View.{stmt_of}
use Rattle.flat_statements.proofs.Latched.{started, first-latch, is-signal}
use Rattle.flat_statements.proofs.latch.first_latch.Goals as goal

pub returns : goal.returns
returns c = λ small full within.
    let signals = c.args.signals.now in
    let wid = width_in signals in
    let x = stmt_of c.args.body.now in
    let may = started c.new-may.result c.add_may_assign.new.assigned (may_assign wid x) c.new-may.ensures.none c.in_ok-add_may_assign.ensures.added in
    c.first_open.ensures (length signals) (λ s i l b. is-signal signals s i (within s i (sym (may s i l) ∙ b)))
    ∙ first-latch wid x c.add_may_assign.new.assigned c.in_ok-paths.paths may (c.in_ok-paths.ensures full) (length signals) small within
