use Rattle.std.proofs.Common.{true, false, Some, ◌&&◌, ap, ◌∙◌}
use mathlib.Core.Bool.{beq}
use Rattle.std.specs.Option.{option_eq}
use Rattle.verilog_reading.specs.ExprTree.{tree_of}
use Rattle.flat_unfolding.specs.Resets.{at_level}
use Rattle.flat_process.proofs.Levels.{test-is}
use Rattle.flat_process.proofs.reset.is_test.Goals as goal

pub returns-then-eq : goal.returns-then-eq
returns-then-eq c = λ l shows fit formed.
    let e = tree_of c.args.cond.now in
    let x = c.in_ok-inactive.inactive in
    let y = c.in_ok-active.active in
    c.eq-then-eq.ensures ∙ ap (λ b. b && option_eq beq y (Some true)) c.if-eq.ensures
    ∙ test-is l (at_level l false e) (at_level l true e) x y (c.in_ok-inactive.ensures l shows fit formed) (c.in_ok-active.ensures l shows fit formed)

pub returns-else-eq : goal.returns-else-eq
returns-else-eq c = λ l shows fit formed.
    let e = tree_of c.args.cond.now in
    let x = c.in_ok-inactive.inactive in
    let y = c.in_ok-active.active in
    c.if-eq.false ∙ ap (λ b. b && option_eq beq y (Some true)) c.if-eq.ensures
    ∙ test-is l (at_level l false e) (at_level l true e) x y (c.in_ok-inactive.ensures l shows fit formed) (c.in_ok-active.ensures l shows fit formed)
