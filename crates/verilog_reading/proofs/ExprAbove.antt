-- With one level more the outcome is the same, but for a token that is refused for its depth: that one is passed.
use Rattle.std.proofs.Common.{◌≡◌, ℕ, zero, suc, ◌≤◌, List, Option, Some, None, refl, sym, subst, arith, rules}
use Rattle.verilog_lex.specs.declared.token.Token.{Token}
use Rattle.verilog_lex.specs.declared.marks.MarkKind.TheVariants.{ParenOpen, ParenClose, BracketOpen, BracketClose, BraceOpen, BraceClose, Comma, Colon, Question}
use Rattle.verilog_reading.specs.Lexemes.{Spot, mark_in, Named, ident_in, numeral_in}
use Rattle.verilog_reading.specs.Operators.{Prefix, prefix_in, Joint, joint_in, levels}
use Rattle.verilog_reading.specs.Parts.{divider_in}
use Rattle.verilog_reading.specs.ExprTree.{ExprTree, number, name, unary, binary, choice, join, repeat, paren, and_trees, trees_of, height}
use Rattle.verilog_reading.specs.Outcome.{Outcome, done, then_read, refuse, deep, enter}
use Rattle.verilog_reading.specs.Lists.{more}
use Rattle.verilog_reading.specs.Reader.{Readers, readers, readers_at, at_index, between, at_bound, in_bound, at_part, behind_index, select, selected, with_select, in_select, in_name, in_unary, at_paren, in_paren, at_join, in_join, at_repeat, behind_part, in_repeat, behind_first, in_braces, unary_at, beside, onward, binary_at, in_other, at_colon, in_choice, choice_at, expr_at, closed}
use Rattle.verilog_reading.specs.Laws.{Above, Local}
use Rattle.verilog_reading.proofs.Says.{said}
use Rattle.verilog_reading.proofs.Local.{local_done, local_then, local_closed}
use Rattle.verilog_reading.proofs.Above.{above_then, above_next, above_done, above_refuse, above_expect, above_closed, above_deep, above_enter, above_more}
use Rattle.verilog_reading.proofs.ExprSays.{BinaryIn, SaysAll, SaysDown, says, beside_is, says_binary}
use Rattle.verilog_reading.proofs.ExprLocal.{LocalAll, LocalDown, local, local_index, local_in_select, local_in_unary, local_in_paren, local_at_repeat, local_behind_part, local_first, local_braces, local_onward, local_colon, local_in_choice, local_choice}
use Rattle.verilog_reading.proofs.ExprComplete.{beside_some}

pub record AboveAll (r r2 : Readers) : Type 0 where
  pub binary : (l : ℕ) (ts : List Token) → Above (r.binary l ts) (r2.binary l ts)
  pub expr : (ts : List Token) → Above (r.expr ts) (r2.expr ts)

abbrev AboveDown : ℕ → Option Readers → Readers → Type 0
AboveDown k down r2 = (r : Readers) → down ≡ Some r → (j : ℕ) × (k ≡ suc j) × SaysAll j r × AboveAll r r2

says_down : (k : ℕ) (down : Option Readers) (r2 : Readers) → AboveDown k down r2 → SaysDown k down
says_down k down r2 D r e = let d = D r e in (d.0, d.1, d.2)

local_some : (r : Readers) → LocalAll r → LocalDown (Some r)
local_some r l s e = subst LocalAll (search rules) l

-- selects
pub above_select : (r r2 : Readers) → AboveAll r r2 → LocalAll r2 → (ts : List Token) → Above (select r ts) (select r2 ts)
above_select r r2 h l ts = above_then (r.expr ts) (r2.expr ts) (h.expr ts) (behind_index r) (behind_index r2)
    (λ a rest _. above_next (mark_in BracketClose) (λ _. done (at_index a)) (λ _. done (at_index a)) (at_part r a) (at_part r2 a) (λ _. above_done (at_index a))
    (above_expect divider_in (in_bound r a) (in_bound r2 a)
    (λ d xs. above_then (r.expr xs) (r2.expr xs) (h.expr xs) (at_bound d.kind a) (at_bound d.kind a) (λ b ys _. above_closed BracketClose (between d.kind a b) ys)
    (λ b. local_closed BracketClose (between d.kind a b))))
    rest)
    (local_index r2 l)

above_in_select : (r r2 : Readers) → AboveAll r r2 → LocalAll r2 → (n : Named) (p : Spot) (ts : List Token) → Above (in_select n r p ts) (in_select n r2 p ts)
above_in_select r r2 h l n p ts = above_then (select r ts) (select r2 ts) (above_select r r2 h l ts) (with_select n) (with_select n)
    (λ s rest _. above_done (selected n.name s) rest) (λ s. local_done (selected n.name s))

above_name : (k : ℕ) (down : Option Readers) (r2 : Readers) → AboveDown k down r2 → LocalAll r2 → (n : Named) (ts : List Token) → Above (in_name down n ts) (in_name (Some r2) n ts)
above_name k down r2 D l n = above_enter down r2 (mark_in BracketOpen) (in_select n) (in_select n) (done (name n.name)) (done (name n.name))
    (λ r e p. above_in_select r r2 (D r e).3 l n p) (λ p. local_in_select r2 l n p) (above_done (name n.name))

-- braces
above_join : (r r2 : Readers) → AboveAll r r2 → LocalAll r2 → (a : ExprTree) (ts : List Token) → Above (in_join r a ts) (in_join r2 a ts)
above_join r r2 h l a ts = above_then (more (mark_in Comma) r.expr ts) (more (mark_in Comma) r2.expr ts) (above_more (mark_in Comma) r.expr r2.expr h.expr l.expr ts) (at_join a) (at_join a)
    (λ bs rest _. above_closed BraceClose (join (and_trees a (trees_of bs))) rest) (λ bs. local_closed BraceClose (join (and_trees a (trees_of bs))))

above_behind_part : (r r2 : Readers) → AboveAll r r2 → LocalAll r2 → (c a : ExprTree) (ts : List Token) → Above (behind_part r c a ts) (behind_part r2 c a ts)
above_behind_part r r2 h l c a ts = above_then (more (mark_in Comma) r.expr ts) (more (mark_in Comma) r2.expr ts) (above_more (mark_in Comma) r.expr r2.expr h.expr l.expr ts) (at_repeat c a) (at_repeat c a)
    (λ bs rest _. above_expect (mark_in BraceClose) (λ _. closed BraceClose (repeat c (and_trees a (trees_of bs)))) (λ _. closed BraceClose (repeat c (and_trees a (trees_of bs))))
    (λ _. above_closed BraceClose (repeat c (and_trees a (trees_of bs)))) rest)
    (local_at_repeat c a)

above_repeat : (r r2 : Readers) → AboveAll r r2 → LocalAll r2 → (c : ExprTree) (p : Spot) (ts : List Token) → Above (in_repeat r c p ts) (in_repeat r2 c p ts)
above_repeat r r2 h l c p ts = above_then (r.expr ts) (r2.expr ts) (h.expr ts) (behind_part r c) (behind_part r2 c) (λ a rest _. above_behind_part r r2 h l c a rest) (local_behind_part r2 l c)

above_braces : (r r2 : Readers) → AboveAll r r2 → LocalAll r2 → (p : Spot) (ts : List Token) → Above (in_braces r p ts) (in_braces r2 p ts)
above_braces r r2 h l p ts = above_then (r.expr ts) (r2.expr ts) (h.expr ts) (behind_first r) (behind_first r2)
    (λ a rest _. above_next (mark_in BraceOpen) (in_repeat r a) (in_repeat r2 a) (in_join r a) (in_join r2 a) (above_repeat r r2 h l a) (above_join r r2 h l a) rest)
    (local_first r2 l)

above_paren : (r r2 : Readers) → AboveAll r r2 → (p : Spot) (ts : List Token) → Above (in_paren r p ts) (in_paren r2 p ts)
above_paren r r2 h p ts = above_then (r.expr ts) (r2.expr ts) (h.expr ts) at_paren at_paren (λ a rest _. above_closed ParenClose (paren a) rest) (λ a. local_closed ParenClose (paren a))

above_in_unary : (r r2 : Readers) → AboveAll r r2 → (p : Prefix) (ts : List Token) → Above (in_unary r p ts) (in_unary r2 p ts)
above_in_unary r r2 h p ts = above_then (r.binary zero ts) (r2.binary zero ts) (h.binary zero ts) (λ a. done (unary p.op a)) (λ a. done (unary p.op a))
    (λ a rest _. above_done (unary p.op a) rest) (λ a. local_done (unary p.op a))

above_unary : (k : ℕ) (down : Option Readers) (r2 : Readers) → AboveDown k down r2 → LocalAll r2 → (ts : List Token) → Above (unary_at down ts) (unary_at (Some r2) ts)
above_unary k down r2 D l = above_next numeral_in (λ n. done (number n.value n.width n.size)) (λ n. done (number n.value n.width n.size)) _ _ (λ n. above_done (number n.value n.width n.size))
    (above_next ident_in (in_name down) (in_name (Some r2)) _ _ (above_name k down r2 D l)
    (above_enter down r2 prefix_in in_unary in_unary _ _ (λ r e p. above_in_unary r r2 (D r e).3 p) (λ p. local_in_unary r2 l p)
    (above_enter down r2 (mark_in ParenOpen) in_paren in_paren _ _ (λ r e p. above_paren r r2 (D r e).3 p) (λ p. local_in_paren r2 l p)
    (above_enter down r2 (mark_in BraceOpen) in_braces in_braces refuse refuse (λ r e p. above_braces r r2 (D r e).3 l p) (λ p. local_braces r2 l p) above_refuse))))

-- operators
abbrev goes : ℕ → ℕ → Option Readers → ℕ → ExprTree → Readers → Joint → List Token → Outcome ExprTree
goes l k down n a r j ts = then_read (r.binary l ts) (λ b. onward l k down n (binary j.op a b))

local_goes : (l k : ℕ) (r2 : Readers) → LocalAll r2 → (n : ℕ) (a : ExprTree) (j : Joint) → Local (goes l k (Some r2) n a r2 j)
local_goes l k r2 h n a j = local_then (r2.binary l) (λ b. onward l k (Some r2) n (binary j.op a b)) (h.binary l) (λ b. local_onward l k (Some r2) (local_some r2 h) n (binary j.op a b))

above_onward : (l k : ℕ) (down : Option Readers) (r2 : Readers) → AboveDown k down r2 → LocalAll r2 → (n : ℕ) (a : ExprTree) → height a ≤ k → (ts : List Token)
    → Above (onward l k down n a ts) (onward l (suc k) (Some r2) (suc n) a ts)
above_onward l k down r2 D h zero a i ts = subst (λ d. Above (deep (joint_in l) (done a) ts) (enter d (joint_in l) (goes l (suc k) (Some r2) zero a) (done a) ts)) (sym (beside_some (suc k) a (Some r2) (omega (arith, i))))
    (above_deep (joint_in l) (goes l (suc k) (Some r2) zero a r2) (done a) (done a) (local_goes l (suc k) r2 h zero a) (above_done a) ts)
above_onward l k down r2 D h (suc n) a i ts = subst (λ d. Above (enter (beside k a down) (joint_in l) (goes l k down n a) (done a) ts) (enter d (joint_in l) (goes l (suc k) (Some r2) (suc n) a) (done a) ts)) (sym (beside_some (suc k) a (Some r2) (omega (arith, i))))
    (above_enter (beside k a down) r2 (joint_in l) (goes l k down n a) (goes l (suc k) (Some r2) (suc n) a) (done a) (done a)
    (λ r e j xs. let s = beside_is k a down r e in let d = D r s.1 in
    above_then (r.binary l xs) (r2.binary l xs) (d.3.binary l xs) (λ b. onward l k down n (binary j.op a b)) (λ b. onward l (suc k) (Some r2) (suc n) (binary j.op a b))
    (λ b rest q. let w = said (BinaryIn l d.0) xs (r.binary l xs) b rest (d.2.binary l xs) q in
    above_onward l k down r2 D h n (binary j.op a b) (omega (arith, s.0, w.1.1, d.1)) rest)
    (λ b. local_onward l (suc k) (Some r2) (local_some r2 h) (suc n) (binary j.op a b)))
    (local_goes l (suc k) r2 h (suc n) a) (above_done a) ts)

above_binary : (l k : ℕ) (down : Option Readers) (r2 : Readers) → AboveDown k down r2 → LocalAll r2 → (ts : List Token) → Above (binary_at k down l ts) (binary_at (suc k) (Some r2) l ts)
above_binary zero k down r2 D h ts = above_unary k down r2 D h ts
above_binary (suc l) k down r2 D h ts = above_then (binary_at k down l ts) (binary_at (suc k) (Some r2) l ts) (above_binary l k down r2 D h ts) (onward l k down k) (onward l (suc k) (Some r2) (suc k))
    (λ a rest q. let w = said (BinaryIn l k) ts (binary_at k down l ts) a rest (says_binary l k down (says_down k down r2 D) ts) q in above_onward l k down r2 D h k a w.1.1 rest)
    (λ a. local_onward l (suc k) (Some r2) (local_some r2 h) (suc k) a)

above_choice : (k : ℕ) (down : Option Readers) (r2 : Readers) → AboveDown k down r2 → LocalAll r2 → (c : ExprTree) → height c ≤ k → (ts : List Token) → Above (choice_at k down c ts) (choice_at (suc k) (Some r2) c ts)
above_choice k down r2 D l c h ts = subst (λ d. Above (enter (beside k c down) (mark_in Question) (in_choice c) (done c) ts) (enter d (mark_in Question) (in_choice c) (done c) ts)) (sym (beside_some (suc k) c (Some r2) (omega (arith, h))))
    (above_enter (beside k c down) r2 (mark_in Question) (in_choice c) (in_choice c) (done c) (done c)
    (λ r e p xs. let d = D r (beside_is k c down r e).1 in
    above_then (r.expr xs) (r2.expr xs) (d.3.expr xs) (at_colon c r) (at_colon c r2)
    (λ a rest _. above_expect (mark_in Colon) (in_other c r a) (in_other c r2 a)
    (λ q ys. above_then (r.expr ys) (r2.expr ys) (d.3.expr ys) (λ b. done (choice c a b)) (λ b. done (choice c a b)) (λ b zs _. above_done (choice c a b) zs) (λ b. local_done (choice c a b))) rest)
    (λ a. local_colon c r2 l a))
    (λ p. local_in_choice c r2 l p) (above_done c) ts)

above_expr : (k : ℕ) (down : Option Readers) (r2 : Readers) → AboveDown k down r2 → LocalAll r2 → (ts : List Token) → Above (expr_at k down ts) (expr_at (suc k) (Some r2) ts)
above_expr k down r2 D l ts = above_then (binary_at k down levels ts) (binary_at (suc k) (Some r2) levels ts) (above_binary levels k down r2 D l ts) (choice_at k down) (choice_at (suc k) (Some r2))
    (λ a rest q. let w = said (BinaryIn levels k) ts (binary_at k down levels ts) a rest (says_binary levels k down (says_down k down r2 D) ts) q in above_choice k down r2 D l a w.1.1 rest)
    (λ a. local_choice (suc k) (Some r2) (local_some r2 l) a)

above_at : (k : ℕ) (down : Option Readers) (r2 : Readers) → AboveDown k down r2 → LocalAll r2 → AboveAll (readers_at k down) (readers_at (suc k) (Some r2))
above_at k down r2 D h = record { binary = λ l. above_binary l k down r2 D h; expr = above_expr k down r2 D h }

pub above : (k : ℕ) → AboveAll (readers k) (readers (suc k))
unfolding readers
above zero = above_at zero None (readers zero) (λ r e. search rules) (local zero)
above (suc k) = above_at (suc k) (Some (readers k)) (readers (suc k))
    (λ r e. let z : readers k ≡ r = search rules in (k, refl, subst (SaysAll k) z (says k), subst (λ x. AboveAll x (readers (suc k))) z (above k))) (local (suc k))
