use Rattle.std.proofs.Common.{◌≡◌, ◌≤◌, ◌<◌, ◌+◌, ◌*◌, length, map}
use Rattle.verilog_lex.specs.declared.marks.MarkKind.TheVariants.{Comma}
use Rattle.verilog_reading.proofs.ExprComplete.{downs}
use Rattle.verilog_reading.specs.ExprTree.{tree_of, trees_of, height, heights}
use Rattle.verilog_reading.specs.Lexemes.{mark_in}
use Rattle.verilog_reading.specs.Lists.{more}
use Rattle.verilog_reading.specs.Outcome.{done}
use Rattle.verilog_reading.specs.Reader.{readers, onward}
use Rattle.verilog_exprs.proofs.ExprSteps.{Going, Gathers}
use Rattle.verilog_exprs.proofs.expr.+expr.Given as goal

-- A form goes on to the next one at the same depth down this list of steps, and each level down has room for all of
-- them.
abbrev pub decreases-read_named : goal.decreases-read_named
decreases-read_named l = 32 * l.left

abbrev pub decreases-read_operand : goal.decreases-read_operand
decreases-read_operand l = 32 * l.left

abbrev pub decreases-read_unary : goal.decreases-read_unary
decreases-read_unary l = 32 * l.left + 1

abbrev pub decreases-read_prefixed : goal.decreases-read_prefixed
decreases-read_prefixed l = 32 * l.left + 2

abbrev pub decreases-read_operators : goal.decreases-read_operators
decreases-read_operators l = 32 * l.left + 2

abbrev pub decreases-read_binary : goal.decreases-read_binary
decreases-read_binary l = 32 * l.left + 3

abbrev pub decreases-read_expr : goal.decreases-read_expr
decreases-read_expr l = 32 * l.left + 4

abbrev pub decreases-read_paren : goal.decreases-read_paren
decreases-read_paren l = 32 * l.left + 5

abbrev pub decreases-read_select : goal.decreases-read_select
decreases-read_select l = 32 * l.left + 5

abbrev pub decreases-read_more : goal.decreases-read_more
decreases-read_more l = 32 * l.left + 5

abbrev pub decreases-read_exprs : goal.decreases-read_exprs
decreases-read_exprs l = 32 * l.left + 6

abbrev pub decreases-read_join : goal.decreases-read_join
decreases-read_join l = 32 * l.left + 6

abbrev pub decreases-read_repeat : goal.decreases-read_repeat
decreases-read_repeat l = 32 * l.left + 7

abbrev pub decreases-read_braces : goal.decreases-read_braces
decreases-read_braces l = 32 * l.left + 8

abbrev pub invariant-read_binary-loop-level : goal.invariant-read_binary-loop-level
invariant-read_binary-loop-level l = record {
  reads : (readers l.left).binary l.level l.tokens ≡ done (tree_of l.found.expr) l.found.rest.now;
  tall : l.found.height ≡ height (tree_of l.found.expr);
  high : l.found.height ≤ l.left;
  shorter : length l.found.rest.now < length l.tokens;
}

abbrev pub invariant-read_operators-loop-op : goal.invariant-read_operators-loop-op
invariant-read_operators-loop-op l = record {
  goes : Going l.level l.left (onward l.level l.left (downs l.left) l.left (tree_of l.fn.first.expr) l.fn.first.rest.now) (tree_of l.expr) l.rest;
  tall : l.height ≡ height (tree_of l.expr);
  high : l.height ≤ l.left;
  shorter : length l.rest ≤ length l.fn.first.rest.now;
}

abbrev pub decreases-read_operators-loop-op : goal.decreases-read_operators-loop-op
decreases-read_operators-loop-op l = length l.rest

abbrev pub invariant-read_more-loop-after : goal.invariant-read_more-loop-after
invariant-read_more-loop-after l = record {
  lists : Gathers l.left (more (mark_in Comma) (readers l.left).expr l.fn.first.rest.now) (tree_of l.fn.first.expr) l.exprs l.rest;
  tall : heights (trees_of (map tree_of l.exprs)) ≡ l.height + 1;
  high : l.height ≤ l.left;
  shorter : length l.rest ≤ length l.fn.first.rest.now;
}

abbrev pub decreases-read_more-loop-after : goal.decreases-read_more-loop-after
decreases-read_more-loop-after l = length l.rest
