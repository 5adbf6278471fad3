use Rattle.std.proofs.Common.{map, drop}
use Rattle.flat_meaning.specs.Flat.{no_items}
use Rattle.flat_meaning.specs.Design.{width_in}
use Rattle.flat_form.specs.View.{stmt_of, stmts_of, arm_of, items_of}
use Rattle.flat_form.specs.Masks.{bits_in}
use Rattle.flat_form.specs.Uses.{items_read, stmts_read}
use Rattle.flat_form.proofs.MaskSets.{Left}
use Rattle.flat_form.proofs.uses.+add_statement_reads.Given as goal

abbrev pub invariant-add_block_reads-loop-stmt : goal.invariant-add_block_reads-loop-stmt
invariant-add_block_reads-loop-stmt l = Left (bits_in l.initial.reads) l.reads (stmts_read (width_in l.signals) (stmts_of (map stmt_of (drop l.stmt-index l.stmts)))) (stmts_read (width_in l.signals) (stmts_of (map stmt_of l.stmts)))

abbrev pub invariant-add_item_reads-loop-item : goal.invariant-add_item_reads-loop-item
invariant-add_item_reads-loop-item l = Left (bits_in l.initial.reads) l.reads (items_read (width_in l.signals) (items_of (map arm_of (drop l.item-index l.items)) no_items)) (items_read (width_in l.signals) (items_of (map arm_of l.items) no_items))
