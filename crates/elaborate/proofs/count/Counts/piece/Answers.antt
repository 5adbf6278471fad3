use Rattle.std.proofs.Common.{◌≡◌, ◌∙◌, ◌+◌, ap, arith, length}
use Rattle.elaborate.specs.Counts.{count_at}
use Rattle.elaborate.proofs.Counts.{counted-within}
use Rattle.elaborate.proofs.count.Counts.piece.Goals as goal

pub returns : goal.returns
returns c = λ t is.
    let counts = c.args.self.now.cells.items in let v = length c.args.sketch.now.drafts + c.args.place in
    let at : c.saturating_add.result ≡ v = omega (arith, c.saturating_add.ensures, counted-within counts v t is, c.at.ensures.short, ap length c.as_slice-first.ensures) in
    c.at.ensures.exact ∙ ap (count_at counts) at ∙ is
