-- The reader of expressions sees no token behind the first of its rest.
use Rattle.std.proofs.Common.{◌≡◌, ℕ, zero, suc, false, List, Option, Some, None, subst, rules}
use Rattle.verilog_lex.specs.declared.marks.MarkKind.TheVariants.{ParenOpen, ParenClose, BracketOpen, BracketClose, BraceOpen, BraceClose, Comma, Colon, Question}
use Rattle.verilog_reading.specs.Lexemes.{Spot, mark_in, Named, ident_in, numeral_in}
use Rattle.verilog_reading.specs.Operators.{Prefix, prefix_in, joint_in, levels}
use Rattle.verilog_reading.specs.Parts.{Divider, divider_in}
use Rattle.verilog_reading.specs.ExprTree.{ExprTree, number, name, unary, binary, choice, join, repeat, paren, and_trees, trees_of}
use Rattle.verilog_reading.specs.Outcome.{done, then_read, refuse}
use Rattle.verilog_reading.specs.Lists.{more}
use Rattle.verilog_reading.specs.Reader.{Readers, readers, readers_at, at_index, between, at_bound, in_bound, at_part, behind_index, select, selected, with_select, in_select, in_name, in_unary, at_paren, in_paren, at_join, in_join, at_repeat, behind_part, in_repeat, behind_first, in_braces, unary_at, beside, onward, binary_at, in_other, at_colon, in_choice, choice_at, expr_at, closed}
use Rattle.verilog_reading.specs.Laws.{Local}
use Rattle.verilog_reading.proofs.Local.{local_done, local_stop, local_then, local_next, local_expect, local_closed, local_deep, local_enter, local_more}
use Rattle.verilog_reading.proofs.ExprSays.{beside_is}

pub record LocalAll (r : Readers) : Type 0 where
  pub binary : (l : ℕ) → Local (r.binary l)
  pub expr : Local r.expr

abbrev pub LocalDown : Option Readers → Type 0
LocalDown down = (r : Readers) → down ≡ Some r → LocalAll r

pub local_bound : (r : Readers) → LocalAll r → (a : ExprTree) (d : Divider) → Local (in_bound r a d)
local_bound r l a d = local_then r.expr (at_bound d.kind a) l.expr (λ b. local_closed BracketClose (between d.kind a b))

pub local_part : (r : Readers) → LocalAll r → (a : ExprTree) → Local (at_part r a)
local_part r l a = local_expect divider_in (in_bound r a) (local_bound r l a)

pub local_index : (r : Readers) → LocalAll r → (a : ExprTree) → Local (behind_index r a)
local_index r l a = local_next (mark_in BracketClose) (λ _. done (at_index a)) (at_part r a) (λ _. local_done (at_index a)) (local_part r l a)

pub local_select : (r : Readers) → LocalAll r → Local (select r)
local_select r l = local_then r.expr (behind_index r) l.expr (local_index r l)

pub local_in_select : (r : Readers) → LocalAll r → (n : Named) (p : Spot) → Local (in_select n r p)
local_in_select r l n p = local_then (select r) (with_select n) (local_select r l) (λ s. local_done (selected n.name s))

pub local_name : (down : Option Readers) → LocalDown down → (n : Named) → Local (in_name down n)
local_name down D n = local_enter down (mark_in BracketOpen) (in_select n) (done (name n.name)) (λ r e p. local_in_select r (D r e) n p) (local_done (name n.name))

pub local_in_unary : (r : Readers) → LocalAll r → (p : Prefix) → Local (in_unary r p)
local_in_unary r l p = local_then (r.binary zero) (λ a. done (unary p.op a)) (l.binary zero) (λ a. local_done (unary p.op a))

pub local_in_paren : (r : Readers) → LocalAll r → (p : Spot) → Local (in_paren r p)
local_in_paren r l p = local_then r.expr at_paren l.expr (λ a. local_closed ParenClose (paren a))

pub local_in_join : (r : Readers) → LocalAll r → (a : ExprTree) → Local (in_join r a)
local_in_join r l a = local_then (more (mark_in Comma) r.expr) (at_join a) (local_more (mark_in Comma) r.expr l.expr) (λ bs. local_closed BraceClose (join (and_trees a (trees_of bs))))

pub local_at_repeat : (c a : ExprTree) (bs : List ExprTree) → Local (at_repeat c a bs)
local_at_repeat c a bs = local_expect (mark_in BraceClose) (λ _. closed BraceClose (repeat c (and_trees a (trees_of bs)))) (λ _. local_closed BraceClose (repeat c (and_trees a (trees_of bs))))

pub local_behind_part : (r : Readers) → LocalAll r → (c a : ExprTree) → Local (behind_part r c a)
local_behind_part r l c a = local_then (more (mark_in Comma) r.expr) (at_repeat c a) (local_more (mark_in Comma) r.expr l.expr) (local_at_repeat c a)

pub local_in_repeat : (r : Readers) → LocalAll r → (c : ExprTree) (p : Spot) → Local (in_repeat r c p)
local_in_repeat r l c p = local_then r.expr (behind_part r c) l.expr (local_behind_part r l c)

pub local_first : (r : Readers) → LocalAll r → (a : ExprTree) → Local (behind_first r a)
local_first r l a = local_next (mark_in BraceOpen) (in_repeat r a) (in_join r a) (local_in_repeat r l a) (local_in_join r l a)

pub local_braces : (r : Readers) → LocalAll r → (p : Spot) → Local (in_braces r p)
local_braces r l p = local_then r.expr (behind_first r) l.expr (local_first r l)

pub local_unary : (down : Option Readers) → LocalDown down → Local (unary_at down)
local_unary down D = local_next numeral_in (λ n. done (number n.value n.width n.size)) _ (λ n. local_done (number n.value n.width n.size))
    (local_next ident_in (in_name down) _ (local_name down D)
    (local_enter down prefix_in in_unary _ (λ r e. local_in_unary r (D r e))
    (local_enter down (mark_in ParenOpen) in_paren _ (λ r e. local_in_paren r (D r e))
    (local_enter down (mark_in BraceOpen) in_braces refuse (λ r e. local_braces r (D r e)) (local_stop false)))))

pub local_onward : (l k : ℕ) (down : Option Readers) → LocalDown down → (n : ℕ) (a : ExprTree) → Local (onward l k down n a)
local_onward l k down D zero a = local_deep (joint_in l) (done a) (local_done a)
local_onward l k down D (suc n) a = local_enter (beside k a down) (joint_in l) (λ r j ts. then_read (r.binary l ts) (λ b. onward l k down n (binary j.op a b))) (done a)
    (λ r e j. local_then (r.binary l) (λ b. onward l k down n (binary j.op a b)) ((D r (beside_is k a down r e).1).binary l) (λ b. local_onward l k down D n (binary j.op a b))) (local_done a)

pub local_binary : (l k : ℕ) (down : Option Readers) → LocalDown down → Local (binary_at k down l)
local_binary zero k down D = local_unary down D
local_binary (suc l) k down D = local_then (binary_at k down l) (onward l k down k) (local_binary l k down D) (local_onward l k down D k)

pub local_other : (c : ExprTree) (r : Readers) → LocalAll r → (a : ExprTree) (p : Spot) → Local (in_other c r a p)
local_other c r l a p = local_then r.expr (λ b. done (choice c a b)) l.expr (λ b. local_done (choice c a b))

pub local_colon : (c : ExprTree) (r : Readers) → LocalAll r → (a : ExprTree) → Local (at_colon c r a)
local_colon c r l a = local_expect (mark_in Colon) (in_other c r a) (local_other c r l a)

pub local_in_choice : (c : ExprTree) (r : Readers) → LocalAll r → (p : Spot) → Local (in_choice c r p)
local_in_choice c r l p = local_then r.expr (at_colon c r) l.expr (local_colon c r l)

pub local_choice : (k : ℕ) (down : Option Readers) → LocalDown down → (c : ExprTree) → Local (choice_at k down c)
local_choice k down D c = local_enter (beside k c down) (mark_in Question) (in_choice c) (done c) (λ r e. local_in_choice c r (D r (beside_is k c down r e).1)) (local_done c)

pub local_expr : (k : ℕ) (down : Option Readers) → LocalDown down → Local (expr_at k down)
local_expr k down D = local_then (binary_at k down levels) (choice_at k down) (local_binary levels k down D) (local_choice k down D)

local_at : (k : ℕ) (down : Option Readers) → LocalDown down → LocalAll (readers_at k down)
local_at k down D = record { binary = λ l. local_binary l k down D; expr = local_expr k down D }

pub local : (k : ℕ) → LocalAll (readers k)
unfolding readers
local zero = local_at zero None (λ r e. search rules)
local (suc k) = local_at (suc k) (Some (readers k)) (λ r e. subst LocalAll (search rules) (local k))
