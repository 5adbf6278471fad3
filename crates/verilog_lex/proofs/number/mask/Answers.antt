use Rattle.std.proofs.Common.{◌≡◌, ◌≤◌, ◌%◌, ◌^◌, ap, ◌∙◌, arith}
use Rattle.std.proofs.lemmas.Grind.{common_steps}
use Rattle.verilog_lex.specs.Numbers.{open_in, open_above}
use Rattle.verilog_lex.proofs.Opens.{narrower}
use Rattle.verilog_lex.proofs.number.mask.Goals as goal

pub returns : goal.returns
returns c =
    let h : c.in_ok-width.width ≤ 64 = c.in_ok-width.ensures.bounded in
    let e : c.low-2.result ≡ open_in c.in_ok-base.base (open_above c.args.figures.now) c.args.figures.now % 2 ^ c.in_ok-width.width =
    c.low-2.ensures ∙ ap (λ k. k % 2 ^ c.in_ok-width.width) (c.from.ensures ∙ c.open_bits.ensures) ∙ narrower _ _ h in
    grind (arith, common_steps, e)
