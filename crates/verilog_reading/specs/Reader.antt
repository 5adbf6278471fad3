-- The reader of expressions: a function on lists of tokens, with the levels that are left below the first.
use Rattle.std.specs.Prelude.{ℕ, zero, suc, max, List, Option, Some, None, nat_lt, if◌then◌else◌}
use Rattle.verilog_lex.specs.declared.token.Token.{Token}
use Rattle.verilog_lex.specs.declared.marks.MarkKind.{MarkKind}
use Rattle.verilog_lex.specs.declared.marks.MarkKind.TheVariants.{ParenOpen, ParenClose, BracketOpen, BracketClose, BraceOpen, BraceClose, Comma, Colon, Question}
use Rattle.verilog_ast.specs.declared.PartKind.{PartKind}
use Rattle.verilog_reading.specs.Lexemes.{Spot, mark_in, Named, ident_in, numeral_in}
use Rattle.verilog_reading.specs.Operators.{Prefix, prefix_in, joint_in, levels}
use Rattle.verilog_reading.specs.Parts.{Divider, divider_in}
use Rattle.verilog_reading.specs.ExprTree.{ExprTree, number, name, index, part, unary, binary, choice, join, repeat, paren, and_trees, trees_of, height}
use Rattle.verilog_reading.specs.Outcome.{Outcome, done, then_read, next, expect, refuse, deep, enter}
use Rattle.verilog_reading.specs.Lists.{more}

-- the readers of one depth
pub record Readers : Type 0 where
  pub binary : ℕ → List Token → Outcome ExprTree
  pub expr : List Token → Outcome ExprTree

-- what was read, behind the mark that has to close it
abbrev pub closed : {A : Type 0} → MarkKind → A → List Token → Outcome A
closed m a = expect (mark_in m) (λ _. done a)

-- what brackets behind a name hold
pub data Select : Type 0 where
  at_index : ExprTree → Select
  between : PartKind → ExprTree → ExprTree → Select

abbrev pub select_height : Select → ℕ
select_height (at_index i) = height i
select_height (between kind a b) = max (height a) (height b)

abbrev pub at_bound : PartKind → ExprTree → ExprTree → List Token → Outcome Select
at_bound kind a b = closed BracketClose (between kind a b)

abbrev pub in_bound : Readers → ExprTree → Divider → List Token → Outcome Select
in_bound r a d ts = then_read (r.expr ts) (at_bound d.kind a)

abbrev pub at_part : Readers → ExprTree → List Token → Outcome Select
at_part r a = expect divider_in (in_bound r a)

abbrev pub behind_index : Readers → ExprTree → List Token → Outcome Select
behind_index r a = next (mark_in BracketClose) (λ _. done (at_index a)) (at_part r a)

abbrev pub select : Readers → List Token → Outcome Select
select r ts = then_read (r.expr ts) (behind_index r)

abbrev pub selected : List ℕ → Select → ExprTree
selected n (at_index i) = index n i
selected n (between kind a b) = part n kind a b

abbrev pub with_select : Named → Select → List Token → Outcome ExprTree
with_select n s = done (selected n.name s)

abbrev pub in_select : Named → Readers → Spot → List Token → Outcome ExprTree
in_select n r _ ts = then_read (select r ts) (with_select n)

abbrev pub in_name : Option Readers → Named → List Token → Outcome ExprTree
in_name down n = enter down (mark_in BracketOpen) (in_select n) (done (name n.name))

abbrev pub in_unary : Readers → Prefix → List Token → Outcome ExprTree
in_unary r p ts = then_read (r.binary zero ts) (λ a. done (unary p.op a))

abbrev pub at_paren : ExprTree → List Token → Outcome ExprTree
at_paren a = closed ParenClose (paren a)

abbrev pub in_paren : Readers → Spot → List Token → Outcome ExprTree
in_paren r _ ts = then_read (r.expr ts) at_paren

abbrev pub at_join : ExprTree → List ExprTree → List Token → Outcome ExprTree
at_join a bs = closed BraceClose (join (and_trees a (trees_of bs)))

abbrev pub in_join : Readers → ExprTree → List Token → Outcome ExprTree
in_join r a ts = then_read (more (mark_in Comma) r.expr ts) (at_join a)

abbrev pub at_repeat : ExprTree → ExprTree → List ExprTree → List Token → Outcome ExprTree
at_repeat c a bs = expect (mark_in BraceClose) (λ _. closed BraceClose (repeat c (and_trees a (trees_of bs))))

abbrev pub behind_part : Readers → ExprTree → ExprTree → List Token → Outcome ExprTree
behind_part r c a ts = then_read (more (mark_in Comma) r.expr ts) (at_repeat c a)

abbrev pub in_repeat : Readers → ExprTree → Spot → List Token → Outcome ExprTree
in_repeat r c _ ts = then_read (r.expr ts) (behind_part r c)

abbrev pub behind_first : Readers → ExprTree → List Token → Outcome ExprTree
behind_first r a = next (mark_in BraceOpen) (in_repeat r a) (in_join r a)

abbrev pub in_braces : Readers → Spot → List Token → Outcome ExprTree
in_braces r _ ts = then_read (r.expr ts) (behind_first r)

abbrev pub unary_at : Option Readers → List Token → Outcome ExprTree
unary_at down =
    next numeral_in (λ n. done (number n.value n.width n.size)) (next ident_in (in_name down)
    (enter down prefix_in in_unary (enter down (mark_in ParenOpen) in_paren (enter down (mark_in BraceOpen) in_braces refuse))))

-- a level is left below a tree that stands to the left
abbrev pub beside : ℕ → ExprTree → Option Readers → Option Readers
beside left a down = if nat_lt (height a) left then down else None

-- what goes on to the right of a tree: operators of the level, and what they join
abbrev pub onward : ℕ → ℕ → Option Readers → ℕ → ExprTree → List Token → Outcome ExprTree
onward l left down zero a = deep (joint_in l) (done a)
onward l left down (suc n) a =
    enter (beside left a down) (joint_in l) (λ r j ts. then_read (r.binary l ts) (λ b. onward l left down n (binary j.op a b))) (done a)

abbrev pub binary_at : ℕ → Option Readers → ℕ → List Token → Outcome ExprTree
binary_at left down zero ts = unary_at down ts
binary_at left down (suc l) ts = then_read (binary_at left down l ts) (onward l left down left)

abbrev pub in_other : ExprTree → Readers → ExprTree → Spot → List Token → Outcome ExprTree
in_other c r a _ ts = then_read (r.expr ts) (λ b. done (choice c a b))

abbrev pub at_colon : ExprTree → Readers → ExprTree → List Token → Outcome ExprTree
at_colon c r a = expect (mark_in Colon) (in_other c r a)

abbrev pub in_choice : ExprTree → Readers → Spot → List Token → Outcome ExprTree
in_choice c r _ ts = then_read (r.expr ts) (at_colon c r)

abbrev pub choice_at : ℕ → Option Readers → ExprTree → List Token → Outcome ExprTree
choice_at left down c = enter (beside left c down) (mark_in Question) (in_choice c) (done c)

abbrev pub expr_at : ℕ → Option Readers → List Token → Outcome ExprTree
expr_at left down ts = then_read (binary_at left down levels ts) (choice_at left down)

abbrev pub readers_at : ℕ → Option Readers → Readers
readers_at left down = record { binary = binary_at left down; expr = expr_at left down }

unfoldable pub readers : ℕ → Readers
readers zero = readers_at zero None
readers (suc k) = readers_at (suc k) (Some (readers k))

abbrev pub read_expr : ℕ → List Token → Outcome ExprTree
read_expr k = (readers k).expr
