use Rattle.std.proofs.Common.{◌∙◌, arith}
use Rattle.std.proofs.lemmas.Option.{slice_get_within, get_or_from_slice_get}
use Rattle.cofactor.proofs.Places.{among-get}
use Rattle.cofactor.proofs.table.cell_among.Goals as goal

pub returns-in-Some : goal.returns-in-Some
returns-in-Some c = λ id h.
    c.in-Some.ensures.lookup.1 ∙ get_or_from_slice_get c.args.cells.now c.args.place id c.in-Some.cell.now (among-get c.args.cells.now id c.args.place h)

pub returns-in-None : goal.returns-in-None
returns-in-None c = λ id h.
    let lt = slice_get_within c.args.cells.now c.args.place id (among-get c.args.cells.now id c.args.place h) in
    let le = c.in-None.ensures.lookup.3 in
    absurd (omega arith)
