use Rattle.std.proofs.Common.{◌∙◌, sym, ap, Some}
use Rattle.cell_graph.specs.Cofactor.{agreed, chosen}
use Rattle.cofactor.specs.Masks.{masks_of}
use Rattle.cofactor.proofs.Shown.{agreed-shown}
use Rattle.cofactor.proofs.masks.choice_of.Goals as goal

pub returns-then-first : goal.returns-then-first
returns-then-first c = λ k l w small e f.
    e ∙ ap (λ o. masks_of (λ i. chosen o (k i) (l i) (agreed (k i) (l i))) w) (sym (c.in-Some.is ∙ ap Some c.if-first.true))

pub returns-else-first : goal.returns-else-first
returns-else-first c = λ k l w small e f.
    f ∙ ap (λ o. masks_of (λ i. chosen o (k i) (l i) (agreed (k i) (l i))) w) (sym (c.in-Some.is ∙ ap Some c.if-first.false))

pub returns-in-None : goal.returns-in-None
returns-in-None c = λ k l w small e f.
    agreed-shown k l w c.args.yes c.args.other small e f ∙ ap (λ o. masks_of (λ i. chosen o (k i) (l i) (agreed (k i) (l i))) w) (sym c.in-None.is)
