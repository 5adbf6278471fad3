use Rattle.std.proofs.Common.{◌∙◌, ap, Bool, Option, Some, None, ◌==◌, ◌%◌}
use Rattle.cofactor.specs.Masks.{masks_of}
use Rattle.std.specs.Prelude.{count_ones}
use Rattle.cell_graph.specs.Cofactor.{on_number}
use Rattle.cofactor.proofs.Shown.{odd-is}
use Rattle.cofactor.proofs.masks.odd_of.Goals as goal

pub returns-in-Some : goal.returns-in-Some
returns-in-Some c = λ k small e. c.of_bit.ensures ∙ ap (λ (o : Option Bool). masks_of (λ i. o) 1)
    (ap (λ o. on_number o None (λ n. Some (count_ones n % 2 == 1))) (c.in-Some.ensures k small e) ∙ odd-is k c.args.width)

pub returns-in-None : goal.returns-in-None
returns-in-None c = λ k small e. ap (λ (o : Option Bool). masks_of (λ i. o) 1)
    (ap (λ o. on_number o None (λ n. Some (count_ones n % 2 == 1))) (c.in-None.ensures k small e) ∙ odd-is k c.args.width)
