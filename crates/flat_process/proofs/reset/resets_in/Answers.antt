use Rattle.std.proofs.Common.{false, refl, sym, ◌∙◌}
use Rattle.verilog_reading.specs.ExprTree.{tree_of}
use Rattle.flat_unfolding.specs.Mentions.{names_in}
use Rattle.flat_process.specs.declared.reset.Signals.{Signals}
use Rattle.flat_process.proofs.ResetSignals.{first-joined, resets-named, no-resets-named}
use Rattle.flat_process.proofs.reset.resets_in.Goals as goal

pub returns-then-are_resets : goal.returns-then-are_resets
returns-then-are_resets c = λ l shows.
    let e = tree_of c.args.expr.now in
    let start : Signals = record { numbers = c.new.result; has_others = false } in
    let a = c.add_names.new.signals in
    resets-named l e a (first-joined l start a (names_in e) refl c.new.ensures.items (c.in_ok-add_names.ensures l shows)) (sym c.if-are_resets.true ∙ c.are_resets.ensures l shows)

pub returns-else-are_resets : goal.returns-else-are_resets
returns-else-are_resets c = λ l shows.
    let e = tree_of c.args.expr.now in
    let start : Signals = record { numbers = c.new.result; has_others = false } in
    let a = c.add_names.new.signals in
    no-resets-named l e a (first-joined l start a (names_in e) refl c.new.ensures.items (c.in_ok-add_names.ensures l shows)) (sym c.if-are_resets.false ∙ c.are_resets.ensures l shows)
