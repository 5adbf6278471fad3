use Rattle.std.proofs.Common.{◌∙◌, sym, ap}
use Rattle.elaborate.specs.Counts.{capped, cells_in}
use Rattle.elaborate.proofs.count.Counts.driven.Goals as goal

pub returns : goal.returns
returns c = λ sel can.
    let is = c.joined-joined.ensures sel can in
    c.filled_up.ensures is.low is.is is.within can.some ∙ ap (λ t. capped (cells_in t)) (sym is.same)
