-- By whether the bit keeps its value.
use Rattle.std.proofs.Common.{◌∙◌, ◌++◌, ap}
use Rattle.cofactor.proofs.Places.{if_ok}
use Rattle.mux_recirc.specs.Held.{part_if}
use Rattle.mux_recirc.proofs.held.Busy.add_held.Goals as goal

pub returns : goal.returns
returns c = if_ok c.add_if.result
    (λ u added request last bits is has rising falling i l.
    added ∙ ap (λ v. c.args.pairs.now.items ++ part_if v c.args.question) (c.keeps.ensures request last bits is has rising falling i l))
    c.add_if.ensures
