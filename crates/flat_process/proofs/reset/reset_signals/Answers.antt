use Rattle.std.proofs.Common.{false, sym, refl, ◌∙◌}
use Rattle.verilog_reading.specs.ExprTree.{tree_of}
use Rattle.flat_unfolding.specs.Mentions.{names_in}
use Rattle.flat_process.specs.declared.reset.Signals.{Signals}
use Rattle.flat_process.proofs.ResetSignals.{first-joined, tested, not-one, not-tested}
use Rattle.flat_process.proofs.reset.reset_signals.Goals as goal
use Rattle.flat_process.proofs.reset.reset_signals.Goals.{else-are_resets-via-then-are_resets+in_ok-is_test+else-branch, else-are_resets-via-else-are_resets}

pub returns-then-branch : goal.returns-then-branch
returns-then-branch c = λ l shows fit formed.
    let e = tree_of c.args.cond.now in
    let start : Signals = record { numbers = c.new.result; has_others = false } in
    let a = c.add_names.new.signals in
    let among = first-joined l start a (names_in e) refl c.new.ensures.items (c.in_ok-add_names.ensures l shows) in
    tested l e a among (c.if-are_resets.ensures l shows) (sym (c.in_ok-is_test.ensures l shows fit formed) ∙ c.if-branch.true)

pub returns-else-are_resets : goal.returns-else-are_resets
returns-else-are_resets c = λ l shows fit formed.
    let e = tree_of c.args.cond.now in
    let start : Signals = record { numbers = c.new.result; has_others = false } in
    let a = c.add_names.new.signals in
    let among = first-joined l start a (names_in e) refl c.new.ensures.items (c.in_ok-add_names.ensures l shows) in
    elim c.else-are_resets.branch [
      | else-are_resets-via-then-are_resets+in_ok-is_test+else-branch w ↦ not-tested l e a among (sym (w.in_ok-is_test.ensures l shows fit formed) ∙ w.if-branch.false)
      | else-are_resets-via-else-are_resets w ↦ not-one l e a among (w.if-are_resets.ensures l shows)
    ]
