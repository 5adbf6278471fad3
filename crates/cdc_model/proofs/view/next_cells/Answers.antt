-- The cell of one bit more, or none.
use Rattle.std.proofs.Common.{refl}
use Rattle.cdc_base.specs.declared.bit.Bit.{Bit}
use Rattle.cdc_model.proofs.Tables.{next_more}
use Rattle.cdc_model.specs.Tables.{next_cells}
use Rattle.cdc_model.proofs.view.next_cells.Goals as goal

abbrev none : Bit
none = record { sig = 0; at = 0 }

pub loop-bit-preserved : goal.loop-bit-preserved
loop-bit-preserved c = λ asc.
    next_more c.args.net.now.regs (next_cells c.args.net.now.regs c.args.bits.now) c.loop-bit.cells.items c.add_next_cell.new.cells.items c.args.bits.now c.loop-bit.bit-index none _ c.loop-bit-test.true refl
    (c.loop-bit.invariant asc) (c.in_ok-add_next_cell.ensures asc)
