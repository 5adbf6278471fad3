use Rattle.std.proofs.Common.{map, drop}
use Rattle.flat_meaning.specs.Flat.{no_items, case_assigns, all_assign}
use Rattle.flat_meaning.specs.Design.{width_in}
use Rattle.flat_meaning.specs.Assigned.{may_assign_in, any_may_assign}
use Rattle.flat_form.specs.View.{stmt_of, stmts_of, arm_of, items_of}
use Rattle.flat_form.specs.Masks.{bits_in, has_signal}
use Rattle.flat_form.proofs.MaskSets.{Left}
use Rattle.flat_form.proofs.Listed.{Unlisted}
use Rattle.flat_form.proofs.uses.+add_may_assign.Given as goal

abbrev pub invariant-add_block_may_assign-loop-stmt : goal.invariant-add_block_may_assign-loop-stmt
invariant-add_block_may_assign-loop-stmt l = record {
  added : Left (bits_in l.initial.assigned) l.assigned (any_may_assign (width_in l.signals) (stmts_of (map stmt_of (drop l.stmt-index l.stmts)))) (any_may_assign (width_in l.signals) (stmts_of (map stmt_of l.stmts)));
  listed : Unlisted (has_signal l.initial.assigned) l.assigned (all_assign (stmts_of (map stmt_of (drop l.stmt-index l.stmts)))) (all_assign (stmts_of (map stmt_of l.stmts)));
}

abbrev pub invariant-add_items_may_assign-loop-item : goal.invariant-add_items_may_assign-loop-item
invariant-add_items_may_assign-loop-item l = record {
  added : Left (bits_in l.initial.assigned) l.assigned (may_assign_in (width_in l.signals) (items_of (map arm_of (drop l.item-index l.items)) no_items)) (may_assign_in (width_in l.signals) (items_of (map arm_of l.items) no_items));
  listed : Unlisted (has_signal l.initial.assigned) l.assigned (case_assigns (items_of (map arm_of (drop l.item-index l.items)) no_items)) (case_assigns (items_of (map arm_of l.items) no_items));
}
