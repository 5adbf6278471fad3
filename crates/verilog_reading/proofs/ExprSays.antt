-- What the reader of expressions gives is read, and what it refuses can be completed up to there.
use Rattle.std.proofs.Common.{false, ◌≡◌, ℕ, zero, suc, ◌≤◌, ◌<◌, List, [], ◌∷◌, ◌++◌, Option, Some, None, refl, sym, subst, append_assoc, append-nil, arith, rules}
use Rattle.cdc_base.specs.declared.size.NumberSize.TheVariants.{Plain}
use Rattle.verilog_lex.specs.declared.token.Token.{Token}
use Rattle.verilog_lex.specs.declared.marks.MarkKind.TheVariants.{ParenOpen, ParenClose, BracketOpen, BracketClose, BraceOpen, BraceClose, Comma, Colon, Question}
use Rattle.verilog_reading.specs.Lexemes.{Spot, mark, mark_in, Named, ident, ident_in, Numeral, numeral, numeral_in}
use Rattle.verilog_reading.specs.Operators.{prefix, prefix_in, joint, joint_in, levels}
use Rattle.verilog_ast.specs.declared.PartKind.{PartKind}
use Rattle.verilog_ast.specs.declared.PartKind.TheVariants.{Range}
use Rattle.verilog_reading.specs.Parts.{divider, divider_in}
use Rattle.verilog_reading.specs.ExprTree.{ExprTree, number, name, unary, binary, choice, join, repeat, paren, and_trees, trees_of, height, heights}
use Rattle.verilog_reading.specs.Outcome.{done, then_read, refuse}
use Rattle.verilog_reading.specs.Lists.{more, AreMore, no_more, one_more}
use Rattle.verilog_reading.specs.Reading.{IsUnary, IsBinary, IsExpr, AreMoreExprs, IsPart, is_number, is_name, is_index, is_part, is_paren, is_join, is_repeat, is_unary, is_single, is_tighter, is_binary, is_plain, is_choice, no_exprs, more_exprs, are_bounds}
use Rattle.verilog_reading.specs.Reader.{Readers, readers, readers_at, Select, at_index, between, select_height, at_bound, in_bound, at_part, behind_index, select, selected, with_select, in_select, in_name, in_unary, at_paren, in_paren, at_join, in_join, at_repeat, behind_part, in_repeat, behind_first, in_braces, unary_at, beside, onward, binary_at, in_other, at_colon, in_choice, choice_at, expr_at, closed}
use Rattle.verilog_reading.specs.Laws.{Says, Within}
use Rattle.verilog_reading.proofs.Tests.{nowhere, mark_is, divider_is, ident_is, numeral_is, prefix_is, prefix_op, joint_is, joint_op}
use Rattle.verilog_reading.proofs.Says.{says_done, says_stop, says_then, says_next, says_mark, says_must, says_expect, says_closed, says_deep, says_enter, says_map}
use Rattle.verilog_reading.proofs.Lists.{says_more}

abbrev pub UnaryIn : ℕ → List Token → ExprTree → Type 0
UnaryIn = Within IsUnary height

abbrev pub BinaryIn : ℕ → ℕ → List Token → ExprTree → Type 0
BinaryIn l = Within (IsBinary l) height

abbrev pub ExprIn : ℕ → List Token → ExprTree → Type 0
ExprIn = Within IsExpr height

-- the least expression
abbrev pub zero_numeral : Numeral
zero_numeral = record { value = 0; width = 32; size = Plain; spot = nowhere }

abbrev pub zero_tree : ExprTree
zero_tree = number 0 32 Plain

pub zero_unary : IsUnary (numeral zero_numeral ∷ []) zero_tree
zero_unary = is_number zero_numeral

binary_from : (l : ℕ) {u : List Token} {a : ExprTree} → IsUnary u a → IsBinary l u a
binary_from zero p = is_single p
binary_from (suc l) p = is_tighter l (binary_from l p)

pub expr_from : {u : List Token} {a : ExprTree} → IsUnary u a → IsExpr u a
expr_from p = is_plain (binary_from levels p)

pub zero_expr : IsExpr (numeral zero_numeral ∷ []) zero_tree
zero_expr = expr_from zero_unary

pub record SaysAll (k : ℕ) (r : Readers) : Type 0 where
  pub binary : (l : ℕ) (ts : List Token) → Says (BinaryIn l k) ts (r.binary l ts)
  pub expr : (ts : List Token) → Says (ExprIn k) ts (r.expr ts)

abbrev pub SaysDown : ℕ → Option Readers → Type 0
SaysDown k down = (r : Readers) → down ≡ Some r → (j : ℕ) × (k ≡ suc j) × SaysAll j r

pub beside_is : (k : ℕ) (a : ExprTree) (down : Option Readers) (r : Readers) → beside k a down ≡ Some r → (height a < k) × (down ≡ Some r)
beside_is k a down r e = search rules

-- what brackets hold
pub data IsSelect : List Token → Select → Type 0 where
  is_at : (p q : Spot) {u : List Token} {i : ExprTree} → IsExpr u i → IsSelect (mark BracketOpen p ∷ (u ++ mark BracketClose q ∷ [])) (at_index i)
  is_between : {kind : PartKind} {u : List Token} {a b : ExprTree} → IsPart kind u a b → IsSelect u (between kind a b)

abbrev pub SelectIn : ℕ → List Token → Select → Type 0
SelectIn = Within IsSelect select_height

pub says_select : (j : ℕ) (r : Readers) → SaysAll j r → (p : Spot) (ts : List Token) → Says (λ v. SelectIn j (mark BracketOpen p ∷ v)) ts (select r ts)
says_select j r s p ts =
    let P = λ (v : List Token). SelectIn j (mark BracketOpen p ∷ v) in
    says_then (ExprIn j) P ts (r.expr ts) (s.expr ts) (behind_index r)
    (λ u a h. says_mark (λ v. P (u ++ v)) BracketClose (λ _. done (at_index a)) (at_part r a)
    (λ q. says_done (λ v. P (u ++ mark BracketClose q ∷ v)) (at_index a) (is_at p q h.0, h.1))
    (says_must (λ v. P (u ++ v)) divider_in divider divider_is (record { kind = Range; spot = nowhere }) (in_bound r a)
    (λ d xs. says_then (ExprIn j) (λ v. P (u ++ divider d ∷ v)) xs (r.expr xs) (s.expr xs) (at_bound d.kind a)
    (λ w b i. says_closed (λ v. P (u ++ divider d ∷ (w ++ v))) BracketClose (between d.kind a b)
    (λ q. (is_between (are_bounds p d.spot q h.0 i.0), omega (arith, h.1, i.1)))))))

unary_select : (n : Named) (j k : ℕ) → k ≡ suc j → (u : List Token) (s : Select) → SelectIn j u s → UnaryIn k (ident n ∷ u) (selected n.name s)
unary_select n j k e u s h = go h.0 h.1
  where
    go : {u : List Token} {s : Select} → IsSelect u s → select_height s ≤ j → UnaryIn k (ident n ∷ u) (selected n.name s)
    go (is_at p q x) l = (is_index n p q x, omega (arith, l, e))
    go (is_between x) l = (is_part n x, omega (arith, l, e))

says_name : (k : ℕ) (down : Option Readers) → SaysDown k down → (n : Named) (ts : List Token) → Says (λ v. UnaryIn k (ident n ∷ v)) ts (in_name down n ts)
says_name k down D n = let P = λ (v : List Token). UnaryIn k (ident n ∷ v) in let e : P [] (name n.name) = (is_name n, omega arith) in
    says_enter P down (mark_in BracketOpen) (mark BracketOpen) (mark_is BracketOpen) (in_select n) (done (name n.name)) [] (name n.name) e
    (λ r q p _ ts. let d = D r q in says_then (λ v. SelectIn d.0 (mark BracketOpen p ∷ v)) (λ v. P (mark BracketOpen p ∷ v)) ts (select r ts) (says_select d.0 r d.2 p ts) (with_select n)
    (λ u s h. says_done (λ v. P (mark BracketOpen p ∷ (u ++ v))) (selected n.name s)
    (subst (λ x. P (mark BracketOpen p ∷ x) (selected n.name s)) (sym (append-nil u)) (unary_select n d.0 k d.1 (mark BracketOpen p ∷ u) s h))))
    (says_done P (name n.name) e)

-- lists of expressions
pub are_more_exprs : (j : ℕ) {u : List Token} {bs : List ExprTree} → AreMore (mark Comma) (ExprIn j) u bs → AreMoreExprs u (trees_of bs) × (heights (trees_of bs) ≤ suc j)
are_more_exprs j no_more = (no_exprs, omega arith)
are_more_exprs j (one_more p {u} {v} {a} {bs} x y) = let z = are_more_exprs j y in (more_exprs p x.0 z.0, omega (arith, x.1, z.1))

pub says_more_exprs : (j : ℕ) (r : Readers) → SaysAll j r → (ts : List Token) → Says (AreMore (mark Comma) (ExprIn j)) ts (more (mark_in Comma) r.expr ts)
says_more_exprs j r s = says_more (mark_in Comma) r.expr (mark Comma) (mark_is Comma) (ExprIn j) s.expr

says_braces : (k : ℕ) (r : Readers) (j : ℕ) → k ≡ suc j → SaysAll j r → (p : Spot) (ts : List Token) → Says (λ v. UnaryIn k (mark BraceOpen p ∷ v)) ts (in_braces r p ts)
says_braces k r j e s p ts =
    let P = λ (v : List Token). UnaryIn k (mark BraceOpen p ∷ v) in
    says_then (ExprIn j) P ts (r.expr ts) (s.expr ts) (behind_first r)
    (λ u c h. says_mark (λ v. P (u ++ v)) BraceOpen (in_repeat r c) (in_join r c)
    (λ o xs. says_then (ExprIn j) (λ v. P (u ++ mark BraceOpen o ∷ v)) xs (r.expr xs) (s.expr xs) (behind_part r c)
    (λ v a i ys. says_then (AreMore (mark Comma) (ExprIn j)) (λ x. P (u ++ mark BraceOpen o ∷ (v ++ x))) ys (more (mark_in Comma) r.expr ys) (says_more_exprs j r s ys) (at_repeat c a)
    (λ w bs m. let z = are_more_exprs j m in
    says_expect (λ x. P (u ++ mark BraceOpen o ∷ (v ++ (w ++ x)))) BraceClose (λ _. closed BraceClose (repeat c (and_trees a (trees_of bs))))
    (λ q. says_closed (λ x. P (u ++ mark BraceOpen o ∷ (v ++ (w ++ mark BraceClose q ∷ x)))) BraceClose (repeat c (and_trees a (trees_of bs)))
    (λ t. (is_repeat p o q t h.0 i.0 z.0, omega (arith, h.1, i.1, z.1, e)))))))
    (λ ys. says_then (AreMore (mark Comma) (ExprIn j)) (λ x. P (u ++ x)) ys (more (mark_in Comma) r.expr ys) (says_more_exprs j r s ys) (at_join c)
    (λ w bs m. let z = are_more_exprs j m in
    says_closed (λ x. P (u ++ (w ++ x))) BraceClose (join (and_trees c (trees_of bs)))
    (λ q. (is_join p q h.0 z.0, omega (arith, h.1, z.1, e))))))

pub says_unary : (k : ℕ) (down : Option Readers) → SaysDown k down → (ts : List Token) → Says (UnaryIn k) ts (unary_at down ts)
says_unary k down D =
    let P = UnaryIn k in let e : P (numeral zero_numeral ∷ []) zero_tree = (zero_unary, omega arith) in
    says_next P numeral_in numeral numeral_is (λ n. done (number n.value n.width n.size)) _ (λ n. says_done (λ v. P (numeral n ∷ v)) (number n.value n.width n.size) (is_number n, omega arith))
    (says_next P ident_in ident ident_is (in_name down) _ (says_name k down D)
    (says_enter P down prefix_in prefix prefix_is in_unary _ (numeral zero_numeral ∷ []) zero_tree e
    (λ r q p f ts. let d = D r q in says_then (BinaryIn zero d.0) (λ v. P (prefix p ∷ v)) ts (r.binary zero ts) (d.2.binary zero ts) (λ a. done (unary p.op a))
    (λ u a h. says_done (λ v. P (prefix p ∷ (u ++ v))) (unary p.op a)
    (subst (λ x. IsUnary (prefix p ∷ x) (unary p.op a)) (sym (append-nil u)) (is_unary p (prefix_op p f) (unary_in h.0)), omega (arith, h.1, d.1))))
    (says_enter P down (mark_in ParenOpen) (mark ParenOpen) (mark_is ParenOpen) in_paren _ (numeral zero_numeral ∷ []) zero_tree e
    (λ r q p _ ts. let d = D r q in says_then (ExprIn d.0) (λ v. P (mark ParenOpen p ∷ v)) ts (r.expr ts) (d.2.expr ts) at_paren
    (λ u a h. says_closed (λ v. P (mark ParenOpen p ∷ (u ++ v))) ParenClose (paren a) (λ t. (is_paren p t h.0, omega (arith, h.1, d.1)))))
    (says_enter P down (mark_in BraceOpen) (mark BraceOpen) (mark_is BraceOpen) in_braces refuse (numeral zero_numeral ∷ []) zero_tree e
    (λ r q p _ ts. let d = D r q in says_braces k r d.0 d.1 d.2 p ts)
    (says_stop P false (numeral zero_numeral ∷ []) zero_tree e)))))
  where
    unary_in : {u : List Token} {a : ExprTree} → IsBinary zero u a → IsUnary u a
    unary_in (is_single p) = p

says_onward : (l k : ℕ) (down : Option Readers) → SaysDown k down → (n : ℕ) (u : List Token) (a : ExprTree) → BinaryIn (suc l) k u a → (ts : List Token)
    → Says (λ v. BinaryIn (suc l) k (u ++ v)) ts (onward l k down n a ts)
says_onward l k down D zero u a p =
    let whole : BinaryIn (suc l) k (u ++ []) a = subst (λ x. BinaryIn (suc l) k x a) (sym (append-nil u)) p in
    says_deep (λ v. BinaryIn (suc l) k (u ++ v)) (joint_in l) (done a) [] a whole (says_done (λ v. BinaryIn (suc l) k (u ++ v)) a whole)
says_onward l k down D (suc n) u a p =
    let whole : BinaryIn (suc l) k (u ++ []) a = subst (λ x. BinaryIn (suc l) k x a) (sym (append-nil u)) p in
    says_enter (λ v. BinaryIn (suc l) k (u ++ v)) (beside k a down) (joint_in l) joint (joint_is l) (λ r j ts. then_read (r.binary l ts) (λ b. onward l k down n (binary j.op a b))) (done a) [] a whole
    (λ r e j f ts. let s = beside_is k a down r e in let d = D r s.1 in
    says_then (BinaryIn l d.0) (λ v. BinaryIn (suc l) k (u ++ joint j ∷ v)) ts (r.binary l ts) (d.2.binary l ts) (λ b. onward l k down n (binary j.op a b))
    (λ v b q rest. let h : height (binary j.op a b) ≤ k = omega (arith, s.0, q.1, d.1) in
    says_map (λ w. BinaryIn (suc l) k ((u ++ joint j ∷ v) ++ w)) (λ w. BinaryIn (suc l) k (u ++ joint j ∷ (v ++ w))) (λ w c x. subst (λ y. BinaryIn (suc l) k y c) (append_assoc u (joint j ∷ v) w) x)
    rest _ (says_onward l k down D n (u ++ joint j ∷ v) (binary j.op a b) (is_binary l j (joint_op l j f) p.0 q.0, h) rest)))
    (says_done (λ v. BinaryIn (suc l) k (u ++ v)) a whole)

pub says_binary : (l k : ℕ) (down : Option Readers) → SaysDown k down → (ts : List Token) → Says (BinaryIn l k) ts (binary_at k down l ts)
says_binary zero k down D ts = says_map (UnaryIn k) (BinaryIn zero k) (λ v a p. (is_single p.0, p.1)) ts (unary_at down ts) (says_unary k down D ts)
says_binary (suc l) k down D ts = says_then (BinaryIn l k) (BinaryIn (suc l) k) ts (binary_at k down l ts) (says_binary l k down D ts) (onward l k down k)
    (λ u a p. says_onward l k down D k u a (is_tighter l p.0, p.1))

says_choice : (k : ℕ) (down : Option Readers) → SaysDown k down → (u : List Token) (c : ExprTree) → BinaryIn levels k u c → (ts : List Token)
    → Says (λ v. ExprIn k (u ++ v)) ts (choice_at k down c ts)
says_choice k down D u c p =
    let P = λ (v : List Token). ExprIn k (u ++ v) in
    let whole : P [] c = subst (λ x. ExprIn k x c) (sym (append-nil u)) (is_plain p.0, p.1) in
    says_enter P (beside k c down) (mark_in Question) (mark Question) (mark_is Question) (in_choice c) (done c) [] c whole
    (λ r e q _ ts. let s = beside_is k c down r e in let d = D r s.1 in
    says_then (ExprIn d.0) (λ v. P (mark Question q ∷ v)) ts (r.expr ts) (d.2.expr ts) (at_colon c r)
    (λ v a h. says_expect (λ x. P (mark Question q ∷ (v ++ x))) Colon (in_other c r a)
    (λ o xs. says_then (ExprIn d.0) (λ x. P (mark Question q ∷ (v ++ mark Colon o ∷ x))) xs (r.expr xs) (d.2.expr xs) (λ b. done (choice c a b))
    (λ w b i. says_done (λ x. P (mark Question q ∷ (v ++ mark Colon o ∷ (w ++ x)))) (choice c a b)
    (subst (λ x. IsExpr (u ++ mark Question q ∷ (v ++ mark Colon o ∷ x)) (choice c a b)) (sym (append-nil w)) (is_choice q o p.0 h.0 i.0), omega (arith, s.0, h.1, i.1, d.1))))))
    (says_done P c whole)

pub says_expr : (k : ℕ) (down : Option Readers) → SaysDown k down → (ts : List Token) → Says (ExprIn k) ts (expr_at k down ts)
says_expr k down D ts = says_then (BinaryIn levels k) (ExprIn k) ts (binary_at k down levels ts) (says_binary levels k down D ts) (choice_at k down) (λ u a p. says_choice k down D u a p)

says_at : (k : ℕ) (down : Option Readers) → SaysDown k down → SaysAll k (readers_at k down)
says_at k down D = record { binary = λ l. says_binary l k down D; expr = says_expr k down D }

pub says : (k : ℕ) → SaysAll k (readers k)
unfolding readers
says zero = says_at zero None (λ r e. search rules)
says (suc k) = says_at (suc k) (Some (readers k)) (λ r e. (k, refl, subst (SaysAll k) (search rules) (says k)))
