use Rattle.cofactor.proofs.Places.{found-at, found-nowhere}
use Rattle.cofactor.proofs.table.search.Goals as goal

pub returns-in-Ok : goal.returns-in-Ok
returns-in-Ok c = found-at c.args.cells.now c.args.cell c.in-Ok.place c.requires c.in-Ok.ensures.bound c.in-Ok.ensures.ok

pub returns-in-Err : goal.returns-in-Err
returns-in-Err c = found-nowhere c.args.cells.now c.args.cell c.in-Err.field-0 c.requires c.in-Err.ensures.position
