use Rattle.std.proofs.Common.{◌≡◌, ◌∙◌, ap, ap₂, arith, ◌%◌, ◌^◌}
use Rattle.std.proofs.Math.Nat.{mod-eq_of_lt, mod-lt}
use Rattle.std.proofs.lemmas.Nat.{pow_pos}
use Rattle.cell_graph.specs.declared.cell.Cell.TheVariants.{Const}
use Rattle.elaborate.proofs.builder.constant.Goals as goal

pub returns-clause-same : goal.returns-clause-same
returns-clause-same c = λ some room below.
    let size : c.sized-size.result ≡ c.args.width = omega (arith, c.sized-size.ensures.exact, some, room) in
    let number : c.low_bits.result ≡ c.args.value = c.low_bits.ensures ∙ ap (λ w. c.args.value % 2 ^ w) size ∙ mod-eq_of_lt below in
    ap₂ (λ w n. Const w n) size number
