-- A bit isn't said.
use Rattle.std.proofs.Common.{◌≡◌, ◌∙◌, ◌-◌, ◌<◌, sym, ap, refl, arith, Bool, true, false, cond, Some, None}
use Rattle.cell_graph.specs.Tree.{number}
use Rattle.fifo_parts.specs.Words.{is_told, word_bit}
use Rattle.fifo_parts.proofs.Listed.{some_false}
use Rattle.fifo_parts.proofs.words.word_said.Goals as goal

not_told : (b v : Bool) → cond b (Some v) None ≡ None → b ≡ false
not_told true v e = cc
not_told false v e = refl

pub returns-in_err-value : goal.returns-in_err-value
returns-in_err-value c = λ narrow.
    let g = c.args.net.now.graph in
    let side = c.args.side.now in
    let ts = c.args.terms.now in
    let at = c.loop-at.at in
    let lt : at < side.width - 1 = omega (arith, c.loop-at-test.true, c.saturating_sub-at-end.ensures) in
    let told = not_told (is_told g side.reg.count side.width ts at) (word_bit g side.reg.count side.width ts side.under at)
    (sym c.bit_said.ensures ∙ c.in_err-value.was) in
    c.from_residual.ensures ∙ sym (ap (λ b. cond b (Some (number (word_bit g side.reg.count side.width ts side.under) (side.width - 1))) None)
    (some_false (is_told g side.reg.count side.width ts) (side.width - 1) at lt told))
