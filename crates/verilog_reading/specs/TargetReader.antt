-- The reader of targets, with the levels that are left below the first.
use Rattle.std.specs.Prelude.{ℕ, zero, suc, List, Option, Some, None}
use Rattle.verilog_lex.specs.declared.token.Token.{Token}
use Rattle.verilog_lex.specs.declared.marks.MarkKind.TheVariants.{BracketOpen, BraceOpen, BraceClose, Comma}
use Rattle.verilog_reading.specs.Lexemes.{Spot, mark_in, Named, ident_in}
use Rattle.verilog_reading.specs.ExprTree.{TargetTree, whole, index_of, part_of, join_of, and_parts, target_trees_of}
use Rattle.verilog_reading.specs.Outcome.{Outcome, done, then_read, next, refuse, enter}
use Rattle.verilog_reading.specs.Lists.{more}
use Rattle.verilog_reading.specs.Reader.{Readers, readers, closed, Select, at_index, between, select}

-- the readers of the level below
pub record Below : Type 0 where
  pub exprs : Readers
  pub target : List Token → Outcome TargetTree

abbrev pub aimed : List ℕ → Select → TargetTree
aimed n (at_index i) = index_of n i
aimed n (between kind a b) = part_of n kind a b

abbrev pub with_aim : Named → Select → List Token → Outcome TargetTree
with_aim n s = done (aimed n.name s)

abbrev pub in_aim : Named → Below → Spot → List Token → Outcome TargetTree
in_aim n b _ ts = then_read (select b.exprs ts) (with_aim n)

abbrev pub in_target : Option Below → Named → List Token → Outcome TargetTree
in_target down n = enter down (mark_in BracketOpen) (in_aim n) (done (whole n.name))

abbrev pub at_targets : TargetTree → List TargetTree → List Token → Outcome TargetTree
at_targets a bs = closed BraceClose (join_of (and_parts a (target_trees_of bs)))

abbrev pub behind_target : Below → TargetTree → List Token → Outcome TargetTree
behind_target b a ts = then_read (more (mark_in Comma) b.target ts) (at_targets a)

abbrev pub in_targets : Below → Spot → List Token → Outcome TargetTree
in_targets b _ ts = then_read (b.target ts) (behind_target b)

abbrev pub target_at : Option Below → List Token → Outcome TargetTree
target_at down = next ident_in (in_target down) (enter down (mark_in BraceOpen) in_targets refuse)

unfoldable pub read_target : ℕ → List Token → Outcome TargetTree
read_target zero = target_at None
read_target (suc k) = target_at (Some (record { exprs = readers k; target = read_target k }))

abbrev pub below : ℕ → Below
below k = record { exprs = readers k; target = read_target k }
