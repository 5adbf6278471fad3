use Rattle.std.proofs.Common.{◌≡◌, ◌≤◌, ◌<◌, ◌+◌, ◌*◌, length, map}
use Rattle.cdc_base.specs.declared.words.Keyword.TheVariants.{EndCase, End}
use Rattle.verilog_reading.specs.Lexemes.{word_in}
use Rattle.verilog_reading.specs.Lists.{many}
use Rattle.verilog_reading.specs.StmtReader.{read_stmt, lower, arm, first_item}
use Rattle.verilog_stmts.specs.Forms.{subject_tree, arm_tree_of}
use Rattle.verilog_stmts.proofs.StmtSteps.{Items, ArmRows, StmtRows}
use Rattle.verilog_stmts.proofs.stmt.+stmt.Given as goal

-- A form goes on to the next one at the same depth down this list of steps, and each level down has room for all of
-- them.
abbrev pub decreases-read_block : goal.decreases-read_block
decreases-read_block l = 16 * l.left

abbrev pub decreases-read_compound : goal.decreases-read_compound
decreases-read_compound l = 16 * l.left + 1

abbrev pub decreases-read_stmt : goal.decreases-read_stmt
decreases-read_stmt l = 16 * l.left + 2

abbrev pub decreases-read_stmts : goal.decreases-read_stmts
decreases-read_stmts l = 16 * l.left + 3

abbrev pub decreases-read_if : goal.decreases-read_if
decreases-read_if l = 16 * l.left + 3

abbrev pub decreases-read_arm : goal.decreases-read_arm
decreases-read_arm l = 16 * l.left + 3

abbrev pub decreases-read_last_items : goal.decreases-read_last_items
decreases-read_last_items l = 16 * l.left + 4

abbrev pub decreases-read_default : goal.decreases-read_default
decreases-read_default l = 16 * l.left + 5

abbrev pub decreases-read_items : goal.decreases-read_items
decreases-read_items l = 16 * l.left + 6

abbrev pub decreases-read_case : goal.decreases-read_case
decreases-read_case l = 16 * l.left + 7

abbrev pub invariant-read_stmts-stmts : goal.invariant-read_stmts-stmts
invariant-read_stmts-stmts l = record {
  lists : StmtRows l.left (many (word_in End) (read_stmt l.left) l.tokens) l.stmts l.rest;
  shorter : length l.rest ≤ length l.tokens;
}

abbrev pub decreases-read_stmts-stmts : goal.decreases-read_stmts-stmts
decreases-read_stmts-stmts l = length l.rest

abbrev pub invariant-read_items-items : goal.invariant-read_items-items
invariant-read_items-items l = record {
  lists : Items l.left (subject_tree l.fn.subject) (first_item (lower l.left) (subject_tree l.fn.subject) l.tokens) l.items l.rest;
  same : l.subject ≡ l.fn.subject;
  shorter : length l.rest < length l.tokens;
}

abbrev pub decreases-read_items-items : goal.decreases-read_items-items
decreases-read_items-items l = length l.rest

abbrev pub invariant-read_last_items-items : goal.invariant-read_last_items-items
invariant-read_last_items-items l = record {
  lists : ArmRows l.left l.masks (many (word_in EndCase) (arm (lower l.left) l.masks) l.tokens) (map arm_tree_of l.fn.before) l.items l.rest;
  shorter : length l.rest ≤ length l.tokens;
}

abbrev pub decreases-read_last_items-items : goal.decreases-read_last_items-items
decreases-read_last_items-items l = length l.rest
