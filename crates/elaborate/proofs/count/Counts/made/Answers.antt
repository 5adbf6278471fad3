use Rattle.std.proofs.Common.{◌≡◌, ◌∙◌, ◌+◌, sym, ap, arith}
use Rattle.driver_trees.specs.Drafts.{draft_trees}
use Rattle.elaborate.specs.Counts.{added, capped}
use Rattle.elaborate.proofs.Counts.{made-cells}
use Rattle.elaborate.proofs.count.Counts.made.Goals as goal

pub returns : goal.returns
returns c = λ ds sel n w is known.
    let counts = c.args.self.now.cells.items in
    let sum : c.saturating_add.result ≡ capped (c.operands.result + 1) = omega (arith, c.saturating_add.ensures) in
    sum ∙ ap (λ n. capped (n + 1)) (c.operands.ensures ∙ ap (λ vs. capped (added counts vs)) c.operands-all.ensures.exact) ∙ made-cells counts (draft_trees sel ds) ds n w c.args.cell is known
