-- The whole is the register's signal.
use Rattle.std.proofs.Common.{subst}
use Rattle.gray_pointer.specs.Words.{IsWhole}
use Rattle.gray_pointer.proofs.Wholes.{own_cell, cell_own}
use Rattle.gray_pointer.proofs.word.is_own.Goals as goal

pub returns-in-Some : goal.returns-in-Some
returns-in-Some c = λ plain has wide.
    let g = c.args.net.now.graph in
    let id = c.args.cell in
    let w = c.args.register.now.width in
    let sig = c.args.register.now.sig in
    let is = subst (IsWhole g id w) c.in-Some.is (c.whole_origin.ensures plain has) in
    (λ t. own_cell g plain id w has c.in-Some.whole is sig wide (c.is_signal.ensures.0 t), λ e. c.is_signal.ensures.1 (cell_own g plain id w has c.in-Some.whole is sig e))
