use Rattle.std.proofs.Common.{◌≡◌, ◌≢◌, ◌∙◌, sym, arith}
use Rattle.elaborate.proofs.CellTrees.{cut-made, cut-same}
use Rattle.elaborate.proofs.lower.Lowering.cut.Goals as goal

pub returns-then-own-width-clause-cut : goal.returns-then-own-width-clause-cut
returns-then-own-width-clause-cut c = λ t w is some room.
    let same : w ≡ c.args.width = sym is.word.1 ∙ sym c.width-own.ensures.exact ∙ c.if-own-width.true in
    record { word = (is.word.0, is.word.1 ∙ same); tree = is.tree ∙ sym (cut-same w c.args.at c.args.width t same) }

pub returns-clause-cut : goal.returns-clause-cut
returns-clause-cut c = λ t w is some room.
    let other : w ≢ c.args.width = λ e. c.if-own-width.false (c.width-own.ensures.exact ∙ is.word.1 ∙ e) in
    cut-made c.args.self.now.graph c.add.new.self.graph c.in_ok-bits.ensures.grown c.args.tree c.in_ok-bits.bits t w c.args.at c.args.width is other
    (c.in_ok-bits.ensures.made (is.word.0, some, omega (arith, is.word.1, room)))
