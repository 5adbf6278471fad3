-- What reads as an expression within the depth is read as it, unless the next token goes on.
use Rattle.std.proofs.Common.{◌≡◌, ◌≢◌, ℕ, zero, suc, ◌+◌, ◌≤◌, ◌<◌, ◌==◌, max, Bool, true, false, List, [], ◌∷◌, ◌++◌, Option, Some, None, refl, sym, ap, subst, ◌∙◌, append_assoc, arith, if◌then◌else◌, rules}
use Rattle.verilog_ast.specs.declared.BinaryOp.{BinaryOp}
use Rattle.verilog_lex.specs.declared.token.Token.{Token}
use Rattle.verilog_lex.specs.declared.marks.MarkKind.{MarkKind}
use Rattle.verilog_lex.specs.declared.marks.MarkKind.TheVariants.{ParenOpen, ParenClose, BracketOpen, BracketClose, BraceOpen, BraceClose, Comma, Colon, Question}
use Rattle.verilog_reading.specs.Lexemes.{Spot, mark, mark_in, Named, ident, Numeral, numeral}
use Rattle.verilog_reading.specs.Operators.{Prefix, prefix, prefix_in, unary_of, Joint, joint, joint_in, as_joint, binary_of, level_of, at_level, joins, levels}
use Rattle.verilog_ast.specs.declared.PartKind.{PartKind}
use Rattle.verilog_ast.specs.declared.PartKind.TheVariants.{Range, Up, Down}
use Rattle.verilog_reading.specs.Parts.{part_mark, divider_in}
use Rattle.verilog_reading.specs.ExprTree.{ExprTree, number, name, index, part, unary, binary, choice, join, repeat, paren, ExprTrees, and_trees, trees_of, height, heights}
use Rattle.verilog_reading.specs.Outcome.{Outcome, done, then_read, refuse, enter}
use Rattle.verilog_reading.specs.Lists.{more, AreMore, no_more, one_more}
use Rattle.verilog_reading.specs.Reading.{IsUnary, IsBinary, IsExpr, AreMoreExprs, IsPart, is_number, is_name, is_index, is_part, is_paren, is_join, is_repeat, is_unary, is_single, is_tighter, is_binary, is_plain, is_choice, no_exprs, more_exprs, are_bounds}
use Rattle.verilog_reading.specs.Reader.{Readers, readers, readers_at, Select, at_index, between, at_bound, in_bound, at_part, behind_index, select, selected, with_select, in_select, in_unary, at_paren, in_paren, at_join, in_join, at_repeat, behind_part, in_repeat, behind_first, in_braces, unary_at, beside, onward, at_colon, in_choice, choice_at}
use Rattle.verilog_reading.specs.Laws.{Free}
use Rattle.verilog_reading.specs.Stands.{Stands}
use Rattle.verilog_reading.proofs.Tests.{prefix_found, joint_found, divider_found}
use Rattle.verilog_reading.proofs.Complete.{deep_free, next_free, enter_free, next_found, c_more}

abbrev pub downs : ℕ → Option Readers
downs zero = None
downs (suc k) = Some (readers k)

pub readers_is : (k : ℕ) → readers k ≡ readers_at k (downs k)
unfolding readers
readers_is zero = refl
readers_is (suc k) = refl

pub beside_some : (k : ℕ) (a : ExprTree) (down : Option Readers) → height a < k → beside k a down ≡ down
beside_some k a down h = search rules

-- an operator is no other mark, and of one level alone
joint_bracket : (m : MarkKind) (l : ℕ) (op : BinaryOp) (p : Spot) → joins l m ≡ Some op → mark_in BracketOpen (mark m p) ≡ None
joint_bracket BracketOpen l op p e = absurd (search (rules, e))
joint_bracket m l op p e = refl

joint_question : (m : MarkKind) (l : ℕ) (op : BinaryOp) (p : Spot) → joins l m ≡ Some op → mark_in Question (mark m p) ≡ None
joint_question Question l op p e = absurd (search (rules, e))
joint_question m l op p e = refl

level_is : (o : Option BinaryOp) (l : ℕ) (op : BinaryOp) → at_level l o ≡ Some op → (o ≡ Some op) × (level_of op ≡ l)
level_is None l op e = absurd (search (rules, e))
level_is (Some q) l op e = go (level_of q == l) refl e
  where
    go : (b : Bool) → (level_of q == l) ≡ b → (if b then Some q else None) ≡ Some op → (Some q ≡ Some op) × (level_of op ≡ l)
    go true f h = let z : q ≡ op = search (rules, h) in (h, subst (λ x. level_of x ≡ l) z (search (rules, f)))
    go false f h = absurd (search (rules, h))

other_level : (q : BinaryOp) (i : ℕ) → level_of q ≢ i → at_level i (Some q) ≡ None
other_level q i h = search (rules, h)

joint_level : (j : Joint) (l i : ℕ) → joins l j.sign ≡ Some j.op → i < l → joint_in i (joint j) ≡ None
joint_level j l i e h = let z = level_is (binary_of j.sign) l j.op e in let y = z.1 in
    ap (λ o. as_joint (at_level i o) j.sign j.spot) z.0 ∙ ap (λ o. as_joint o j.sign j.spot) (other_level j.op i (λ q. omega (arith, q, y, h)))

-- no operator of a tighter level goes on
abbrev pub FreeBelow : ℕ → List Token → Type 0
FreeBelow l rest = (i : ℕ) → i < l → Free (joint_in i) rest

abbrev pub GoesOn : ℕ → ℕ → Outcome ExprTree → ExprTree → List Token → Type 0
GoesOn l k whole a rest = (n : ℕ) × (k ≤ n + height a) × (whole ≡ onward l k (downs k) n a rest)

onward_free : (l k : ℕ) (down : Option Readers) (n : ℕ) (a : ExprTree) (rest : List Token) → Free (joint_in l) rest → onward l k down n a rest ≡ done a rest
onward_free l k down zero a rest h = deep_free (joint_in l) (done a) rest h
onward_free l k down (suc n) a rest h = enter_free (beside k a down) (joint_in l) _ (done a) rest h

abbrev in_joint : ℕ → ℕ → Option Readers → ℕ → ExprTree → Readers → Joint → List Token → Outcome ExprTree
in_joint l k down n a r j ts = then_read (r.binary l ts) (λ b. onward l k down n (binary j.op a b))

pub goes_on : (l : ℕ) (j : Joint) → joins l j.sign ≡ Some j.op → (k : ℕ) (whole : Outcome ExprTree) (a b : ExprTree) (ts rest : List Token) → GoesOn l k whole a (joint j ∷ ts)
    → suc (max (height a) (height b)) ≤ k → ((i : ℕ) → height b ≤ i → (readers i).binary l ts ≡ done b rest) → GoesOn l k whole (binary j.op a b) rest
goes_on l j is zero whole a b ts rest g h p = absurd (omega (arith, h))
goes_on l j is (suc i) whole a b ts rest (zero, m, e) h p = absurd (omega (arith, h, m))
goes_on l j is (suc i) whole a b ts rest (suc n, m, e) h p = (
  n,
  omega (arith, h, m),
  e ∙ ap (λ d. enter d (joint_in l) (in_joint l (suc i) (Some (readers i)) n a) (done a) (joint j ∷ ts)) (beside_some (suc i) a (Some (readers i)) (omega (arith, h)))
      ∙ next_found (joint_in l) (in_joint l (suc i) (Some (readers i)) n a (readers i)) (done a) (joint j) j ts (joint_found l j is)
      ∙ ap (λ o. then_read o (λ b. onward l (suc i) (Some (readers i)) n (binary j.op a b))) (p i (omega (arith, h))),
)

-- what the reader of a level has come to
abbrev pub BinaryOn : ℕ → ℕ → List Token → ExprTree → List Token → Type 0
BinaryOn zero k ts a rest = (readers k).binary zero ts ≡ done a rest
BinaryOn (suc l) k ts a rest = GoesOn l k ((readers k).binary (suc l) ts) a rest

abbrev TighterFree : ℕ → List Token → Type 0
TighterFree zero rest = Unit {0}
TighterFree (suc l) rest = FreeBelow l rest

binary_ends : (l k : ℕ) (ts : List Token) (a : ExprTree) (rest : List Token) → FreeBelow l rest → BinaryOn l k ts a rest → (readers k).binary l ts ≡ done a rest
binary_ends zero k ts a rest f e = e
binary_ends (suc l) k ts a rest f g = g.2 ∙ onward_free l k (downs k) g.0 a rest (f l (omega arith))

binary_begins : (l k : ℕ) (ts : List Token) (a : ExprTree) (rest : List Token) → (readers k).binary l ts ≡ done a rest → GoesOn l k ((readers k).binary (suc l) ts) a rest
binary_begins l k ts a rest e = (
  k,
  omega arith,
  ap (λ r. r.binary (suc l) ts) (readers_is k)
      ∙ ap (λ o. then_read o (onward l k (downs k) k)) (sym (ap (λ r. r.binary l ts) (readers_is k)) ∙ e),
)

tighter_free : (l : ℕ) (rest : List Token) → FreeBelow l rest → TighterFree l rest
tighter_free zero rest f = tt
tighter_free (suc l) rest f = λ i h. f i (omega (arith, h))

-- before its operator the left operand ends for all tighter levels
joint_free : (l : ℕ) (j : Joint) → joins l j.sign ≡ Some j.op → (ts : List Token) → FreeBelow l (joint j ∷ ts)
joint_free l j e ts i h = joint_level j l i e h

pub stands_mark : (m : MarkKind) (p : Spot) (ts : List Token) → mark_in BracketOpen (mark m p) ≡ None → binary_of m ≡ None → mark_in Question (mark m p) ≡ None → Stands (mark m p ∷ ts)
stands_mark m p ts e f g = record { bracket = e; joint = λ l. ap (λ o. as_joint (at_level l o) m p) f; question = g }

pub behind_paren : (p : Spot) (ts : List Token) → Stands (mark ParenClose p ∷ ts)
behind_paren p ts = stands_mark ParenClose p ts refl refl refl

pub behind_bracket : (p : Spot) (ts : List Token) → Stands (mark BracketClose p ∷ ts)
behind_bracket p ts = stands_mark BracketClose p ts refl refl refl

pub behind_brace : (p : Spot) (ts : List Token) → Stands (mark BraceClose p ∷ ts)
behind_brace p ts = stands_mark BraceClose p ts refl refl refl

pub before_brace : (p : Spot) (ts : List Token) → Stands (mark BraceOpen p ∷ ts)
before_brace p ts = stands_mark BraceOpen p ts refl refl refl

pub before_comma : (p : Spot) (ts : List Token) → Stands (mark Comma p ∷ ts)
before_comma p ts = stands_mark Comma p ts refl refl refl

pub before_colon : (p : Spot) (ts : List Token) → Stands (mark Colon p ∷ ts)
before_colon p ts = stands_mark Colon p ts refl refl refl

before_divider : (kind : PartKind) (p : Spot) (ts : List Token) → Stands (mark (part_mark kind) p ∷ ts)
before_divider Range p ts = before_colon p ts
before_divider Up p ts = stands_mark (part_mark Up) p ts refl refl refl
before_divider Down p ts = stands_mark (part_mark Down) p ts refl refl refl

no_close : (kind : PartKind) (p : Spot) (ts : List Token) → Free (mark_in BracketClose) (mark (part_mark kind) p ∷ ts)
no_close Range p ts = refl
no_close Up p ts = refl
no_close Down p ts = refl

-- an expression that is read at each depth which suits it
abbrev pub ReadsExpr : List Token → ExprTree → Type 0
ReadsExpr u a = (k : ℕ) → height a ≤ k → (rest : List Token) → Stands rest → (readers k).expr (u ++ rest) ≡ done a rest

abbrev pub GoodExpr : List Token → ExprTree → Type 0
GoodExpr u a = IsExpr u a × ReadsExpr u a

pub index_reads : (j : ℕ) (u : List Token) (i : ExprTree) (q : Spot) (rest : List Token) → height i ≤ j → ReadsExpr u i → select (readers j) (u ++ mark BracketClose q ∷ rest) ≡ done (at_index i) rest
index_reads j u i q rest h g = ap (λ o. then_read o (behind_index (readers j))) (g j h (mark BracketClose q ∷ rest) (behind_bracket q rest))

pub bounds_read : (j : ℕ) (kind : PartKind) (u v : List Token) (a b : ExprTree) (o q : Spot) (rest : List Token) → height a ≤ j → height b ≤ j → ReadsExpr u a → ReadsExpr v b
    → select (readers j) (u ++ mark (part_mark kind) o ∷ (v ++ mark BracketClose q ∷ rest)) ≡ done (between kind a b) rest
bounds_read j kind u v a b o q rest h i g f = let last = v ++ mark BracketClose q ∷ rest in
    ap (λ x. then_read x (behind_index (readers j))) (g j h (mark (part_mark kind) o ∷ last) (before_divider kind o last))
    ∙ next_free (mark_in BracketClose) (λ _. done (at_index a)) (at_part (readers j) a) (mark (part_mark kind) o ∷ last) (no_close kind o last)
    ∙ next_found divider_in (in_bound (readers j) a) refuse (mark (part_mark kind) o) (record { kind = kind; spot = o }) last (divider_found kind o)
    ∙ ap (λ x. then_read x (at_bound kind a)) (f j i (mark BracketClose q ∷ rest) (behind_bracket q rest))

low_exprs : (j : ℕ) {u : List Token} {bs : List ExprTree} → AreMore (mark Comma) GoodExpr u bs → heights (trees_of bs) ≤ suc j → AreMore (mark Comma) (λ v a. GoodExpr v a × (height a ≤ j)) u bs
low_exprs j no_more h = no_more
low_exprs j (one_more p {u} {v} {a} {bs} x y) h = one_more p (x, omega (arith, h)) (low_exprs j y (omega (arith, h)))

-- a list of expressions is read whole
pub exprs_read : (j : ℕ) {u : List Token} {bs : List ExprTree} → AreMore (mark Comma) GoodExpr u bs → heights (trees_of bs) ≤ suc j → (rest : List Token) → Stands rest → Free (mark_in Comma) rest
    → more (mark_in Comma) (readers j).expr (u ++ rest) ≡ done bs rest
exprs_read j m h rest s f = c_more (mark_in Comma) (readers j).expr (mark Comma) (λ p. refl) (λ v a. GoodExpr v a × (height a ≤ j)) Stands before_comma
    (λ u a p rest s. p.0.1 j p.1 rest s) (low_exprs j m h) rest s f

pub behind_exprs : {u : List Token} {bs : List ExprTree} → AreMore (mark Comma) GoodExpr u bs → (rest : List Token) → Stands rest → Stands (u ++ rest)
behind_exprs no_more rest s = s
behind_exprs (one_more p {u} {v} {a} {bs} x y) rest s = before_comma p ((u ++ v) ++ rest)

unary_of_readers : (k : ℕ) (ts : List Token) → (readers k).binary zero ts ≡ unary_at (downs k) ts
unary_of_readers k ts = ap (λ r. r.binary zero ts) (readers_is k)

number_reads : (k : ℕ) (n : Numeral) (rest : List Token) → (readers k).binary zero (numeral n ∷ rest) ≡ done (number n.value n.width n.size) rest
number_reads k n rest = unary_of_readers k (numeral n ∷ rest)

name_reads : (k : ℕ) (n : Named) (rest : List Token) → Free (mark_in BracketOpen) rest → (readers k).binary zero (ident n ∷ rest) ≡ done (name n.name) rest
name_reads k n rest f = unary_of_readers k (ident n ∷ rest) ∙ enter_free (downs k) (mark_in BracketOpen) (in_select n) (done (name n.name)) rest f

select_reads : (k : ℕ) (n : Named) (p : Spot) (s : Select) (ts rest : List Token) → 1 ≤ k → ((j : ℕ) → k ≡ suc j → select (readers j) ts ≡ done s rest)
    → (readers k).binary zero (ident n ∷ (mark BracketOpen p ∷ ts)) ≡ done (selected n.name s) rest
select_reads zero n p s ts rest h g = absurd (omega (arith, h))
select_reads (suc j) n p s ts rest h g = unary_of_readers (suc j) (ident n ∷ (mark BracketOpen p ∷ ts)) ∙ ap (λ o. then_read o (with_select n)) (g j refl)

paren_reads : (k : ℕ) (p q : Spot) (u : List Token) (a : ExprTree) → suc (height a) ≤ k → (rest : List Token) → ReadsExpr u a
    → (readers k).binary zero (mark ParenOpen p ∷ (u ++ mark ParenClose q ∷ rest)) ≡ done (paren a) rest
paren_reads zero p q u a h rest g = absurd (omega (arith, h))
paren_reads (suc j) p q u a h rest g = unary_of_readers (suc j) (mark ParenOpen p ∷ (u ++ mark ParenClose q ∷ rest))
    ∙ ap (λ o. then_read o at_paren) (g j (omega (arith, h)) (mark ParenClose q ∷ rest) (behind_paren q rest))

join_reads : (k : ℕ) (p q : Spot) (u v : List Token) (a : ExprTree) (bs : List ExprTree) → max (suc (height a)) (heights (trees_of bs)) ≤ k → (rest : List Token) → ReadsExpr u a → AreMore (mark Comma) GoodExpr v bs
    → (readers k).binary zero (mark BraceOpen p ∷ (u ++ (v ++ mark BraceClose q ∷ rest))) ≡ done (join (and_trees a (trees_of bs))) rest
join_reads zero p q u v a bs h rest g m = absurd (omega (arith, h))
join_reads (suc j) p q u v a bs h rest g m = unary_of_readers (suc j) (mark BraceOpen p ∷ (u ++ (v ++ mark BraceClose q ∷ rest)))
    ∙ ap (λ o. then_read o (behind_first (readers j))) (g j (omega (arith, h)) (v ++ mark BraceClose q ∷ rest) (behind_exprs m (mark BraceClose q ∷ rest) (behind_brace q rest)))
    ∙ next_free (mark_in BraceOpen) (in_repeat (readers j) a) (in_join (readers j) a) (v ++ mark BraceClose q ∷ rest) (no_brace m)
    ∙ ap (λ o. then_read o (at_join a)) (exprs_read j m (omega (arith, h)) (mark BraceClose q ∷ rest) (behind_brace q rest) refl)
  where
    no_brace : {v : List Token} {bs : List ExprTree} → AreMore (mark Comma) GoodExpr v bs → Free (mark_in BraceOpen) (v ++ mark BraceClose q ∷ rest)
    no_brace no_more = refl
    no_brace (one_more p x y) = refl

repeat_reads : (k : ℕ) (p o q t : Spot) (u v w : List Token) (c a : ExprTree) (bs : List ExprTree) → max (suc (height c)) (max (suc (height a)) (heights (trees_of bs))) ≤ k → (rest : List Token)
    → ReadsExpr u c → ReadsExpr v a → AreMore (mark Comma) GoodExpr w bs
    → (readers k).binary zero (mark BraceOpen p ∷ (u ++ mark BraceOpen o ∷ (v ++ (w ++ mark BraceClose q ∷ (mark BraceClose t ∷ rest))))) ≡ done (repeat c (and_trees a (trees_of bs))) rest
repeat_reads zero p o q t u v w c a bs h rest g f m = absurd (omega (arith, h))
repeat_reads (suc j) p o q t u v w c a bs h rest g f m =
    let last = mark BraceClose q ∷ (mark BraceClose t ∷ rest) in
    unary_of_readers (suc j) (mark BraceOpen p ∷ (u ++ mark BraceOpen o ∷ (v ++ (w ++ last))))
    ∙ ap (λ x. then_read x (behind_first (readers j))) (g j (omega (arith, h)) (mark BraceOpen o ∷ (v ++ (w ++ last))) (before_brace o (v ++ (w ++ last))))
    ∙ ap (λ x. then_read x (behind_part (readers j) c)) (f j (omega (arith, h)) (w ++ last) (behind_exprs m last (behind_brace q (mark BraceClose t ∷ rest))))
    ∙ ap (λ x. then_read x (at_repeat c a)) (exprs_read j m (omega (arith, h)) last (behind_brace q (mark BraceClose t ∷ rest)) refl)

prefix_enters : (p : Prefix) (r : Readers) (ts : List Token) → unary_of p.sign ≡ Some p.op → unary_at (Some r) (prefix p ∷ ts) ≡ in_unary r p ts
prefix_enters p r ts f = next_found prefix_in (in_unary r) (enter (Some r) (mark_in ParenOpen) in_paren (enter (Some r) (mark_in BraceOpen) in_braces refuse)) (prefix p) p ts (prefix_found p f)

unary_reads : (k : ℕ) (p : Prefix) (u : List Token) (a : ExprTree) → unary_of p.sign ≡ Some p.op → suc (height a) ≤ k → (rest : List Token)
    → ((j : ℕ) → height a ≤ j → (readers j).binary zero (u ++ rest) ≡ done a rest) → (readers k).binary zero (prefix p ∷ (u ++ rest)) ≡ done (unary p.op a) rest
unary_reads zero p u a f h rest g = absurd (omega (arith, h))
unary_reads (suc j) p u a f h rest g = unary_of_readers (suc j) (prefix p ∷ (u ++ rest))
    ∙ prefix_enters p (readers j) (u ++ rest) f ∙ ap (λ o. then_read o (λ a. done (unary p.op a))) (g j (omega (arith, h)))

expr_begins : (k : ℕ) (ts : List Token) (a : ExprTree) (rest : List Token) → (readers k).binary levels ts ≡ done a rest → (readers k).expr ts ≡ choice_at k (downs k) a rest
expr_begins k ts a rest e = ap (λ r. r.expr ts) (readers_is k) ∙ ap (λ o. then_read o (choice_at k (downs k))) (sym (ap (λ r. r.binary levels ts) (readers_is k)) ∙ e)

choice_reads : (k : ℕ) (p q : Spot) (v w rest : List Token) (c a b : ExprTree) → suc (max (height c) (max (height a) (height b))) ≤ k → ReadsExpr v a → ReadsExpr w b → Stands rest
    → choice_at k (downs k) c (mark Question p ∷ (v ++ mark Colon q ∷ (w ++ rest))) ≡ done (choice c a b) rest
choice_reads zero p q v w rest c a b h g1 g2 s = absurd (omega (arith, h))
choice_reads (suc j) p q v w rest c a b h g1 g2 s =
    ap (λ d. enter d (mark_in Question) (in_choice c) (done c) (mark Question p ∷ (v ++ mark Colon q ∷ (w ++ rest)))) (beside_some (suc j) c (Some (readers j)) (omega (arith, h)))
    ∙ ap (λ o. then_read o (at_colon c (readers j))) (g1 j (omega (arith, h)) (mark Colon q ∷ (w ++ rest)) (before_colon q (w ++ rest)))
    ∙ ap (λ o. then_read o (λ b. done (choice c a b))) (g2 j (omega (arith, h)) rest s)

mutual
  pub c_unary : {u : List Token} {a : ExprTree} → IsUnary u a → (k : ℕ) → height a ≤ k → (rest : List Token) → Free (mark_in BracketOpen) rest → (readers k).binary zero (u ++ rest) ≡ done a rest
  c_unary (is_number n) k h rest f = number_reads k n rest
  c_unary (is_name n) k h rest f = name_reads k n rest f
  c_unary (is_index n p q {u} {i} x) k h rest f = subst (λ w. (readers k).binary zero (ident n ∷ (mark BracketOpen p ∷ w)) ≡ done (index n.name i) rest) (sym (append_assoc u (mark BracketClose q ∷ []) rest))
      (select_reads k n p (at_index i) (u ++ mark BracketClose q ∷ rest) rest (omega (arith, h)) (λ j e. index_reads j u i q rest (omega (arith, h, e)) (c_expr x)))
  c_unary (is_part n x) k h rest f = c_part n x k h rest
  c_unary (is_paren p q {u} {a} x) k h rest f = subst (λ w. (readers k).binary zero (mark ParenOpen p ∷ w) ≡ done (paren a) rest) (sym (append_assoc u (mark ParenClose q ∷ []) rest))
      (paren_reads k p q u a h rest (c_expr x))
  c_unary (is_join p q {u} {v} {a} {bs} x y) k h rest f = let z = c_exprs y in
      subst (λ w. (readers k).binary zero (mark BraceOpen p ∷ w) ≡ done (join (and_trees a bs)) rest)
      (sym (append_assoc u (v ++ mark BraceClose q ∷ []) rest ∙ ap (λ w. u ++ w) (append_assoc v (mark BraceClose q ∷ []) rest)))
      (subst (λ (t : ExprTrees). (readers k).binary zero (mark BraceOpen p ∷ (u ++ (v ++ mark BraceClose q ∷ rest))) ≡ done (join (and_trees a t)) rest) z.1
      (join_reads k p q u v a z.0 (subst (λ (t : ExprTrees). max (suc (height a)) (heights t) ≤ k) (sym z.1) h) rest (c_expr x) z.2))
  c_unary (is_repeat p o q t {u} {v} {w} {c} {a} {bs} x y l) k h rest f = let z = c_exprs l in let last = mark BraceClose q ∷ (mark BraceClose t ∷ []) in
      subst (λ s. (readers k).binary zero (mark BraceOpen p ∷ s) ≡ done (repeat c (and_trees a bs)) rest)
      (sym (append_assoc u (mark BraceOpen o ∷ (v ++ (w ++ last))) rest ∙ ap (λ s. u ++ mark BraceOpen o ∷ s) (append_assoc v (w ++ last) rest ∙ ap (λ s. v ++ s) (append_assoc w last rest))))
      (subst (λ (s : ExprTrees). (readers k).binary zero (mark BraceOpen p ∷ (u ++ mark BraceOpen o ∷ (v ++ (w ++ mark BraceClose q ∷ (mark BraceClose t ∷ rest))))) ≡ done (repeat c (and_trees a s)) rest) z.1
      (repeat_reads k p o q t u v w c a z.0 (subst (λ (s : ExprTrees). max (suc (height c)) (max (suc (height a)) (heights s)) ≤ k) (sym z.1) (omega (arith, h))) rest (c_expr x) (c_expr y) z.2))
  c_unary (is_unary p {u} {a} e x) k h rest f = unary_reads k p u a e h rest (λ j i. c_unary x j i rest f)

  c_part : (n : Named) {kind : PartKind} {u : List Token} {a b : ExprTree} → IsPart kind u a b → (k : ℕ) → suc (max (height a) (height b)) ≤ k → (rest : List Token)
      → (readers k).binary zero (ident n ∷ (u ++ rest)) ≡ done (part n.name kind a b) rest
  c_part n (are_bounds {kind} p o q {u} {v} {a} {b} x y) k h rest = let divided = mark (part_mark kind) o in
      subst (λ w. (readers k).binary zero (ident n ∷ (mark BracketOpen p ∷ w)) ≡ done (part n.name kind a b) rest)
      (sym (append_assoc u (divided ∷ (v ++ mark BracketClose q ∷ [])) rest ∙ ap (λ w. u ++ divided ∷ w) (append_assoc v (mark BracketClose q ∷ []) rest)))
      (select_reads k n p (between kind a b) (u ++ divided ∷ (v ++ mark BracketClose q ∷ rest)) rest (omega (arith, h))
      (λ j e. bounds_read j kind u v a b o q rest (omega (arith, h, e)) (omega (arith, h, e)) (c_expr x) (c_expr y)))

  c_binary : {l : ℕ} {u : List Token} {a : ExprTree} → IsBinary l u a → (k : ℕ) → height a ≤ k → (rest : List Token) → Free (mark_in BracketOpen) rest → TighterFree l rest → BinaryOn l k (u ++ rest) a rest
  c_binary (is_single x) k h rest f t = c_unary x k h rest f
  c_binary (is_tighter l {u} {a} x) k h rest f t = binary_begins l k (u ++ rest) a rest (binary_ends l k (u ++ rest) a rest t (c_binary x k h rest f (tighter_free l rest t)))
  c_binary (is_binary l j {u} {v} {a} {b} e x y) k h rest f t = goes_on l j e k ((readers k).binary (suc l) ((u ++ joint j ∷ v) ++ rest)) a b (v ++ rest) rest
      (subst (λ w. GoesOn l k ((readers k).binary (suc l) w) a (joint j ∷ (v ++ rest))) (sym (append_assoc u (joint j ∷ v) rest))
      (c_binary x k (omega (arith, h)) (joint j ∷ (v ++ rest)) (joint_bracket j.sign l j.op j.spot e) (joint_free l j e (v ++ rest))))
      h (λ i g. binary_ends l i (v ++ rest) b rest t (c_binary y i g rest f (tighter_free l rest t)))

  pub c_expr : {u : List Token} {a : ExprTree} → IsExpr u a → ReadsExpr u a
  c_expr (is_plain {u} {a} x) k h rest s =
      expr_begins k (u ++ rest) a rest (binary_ends levels k (u ++ rest) a rest (λ i _. s.joint i) (c_binary x k h rest s.bracket (λ i _. s.joint i)))
      ∙ enter_free (beside k a (downs k)) (mark_in Question) (in_choice a) (done a) rest s.question
  c_expr (is_choice p q {u} {v} {w} {c} {a} {b} x y z) k h rest s =
      let last = mark Question p ∷ (v ++ mark Colon q ∷ (w ++ rest)) in
      subst (λ t. (readers k).expr t ≡ done (choice c a b) rest) (sym (append_assoc u (mark Question p ∷ (v ++ mark Colon q ∷ w)) rest ∙ ap (λ t. u ++ mark Question p ∷ t) (append_assoc v (mark Colon q ∷ w) rest)))
      (expr_begins k (u ++ last) c last (binary_ends levels k (u ++ last) c last (λ i _. refl) (c_binary x k (omega (arith, h)) last refl (λ i _. refl)))
      ∙ choice_reads k p q v w rest c a b h (c_expr y) (c_expr z) s)

  pub c_exprs : {u : List Token} {bs : ExprTrees} → AreMoreExprs u bs → (l : List ExprTree) × (trees_of l ≡ bs) × AreMore (mark Comma) GoodExpr u l
  c_exprs no_exprs = ([], refl, no_more)
  c_exprs (more_exprs p {u} {v} {a} {bs} x y) = let z = c_exprs y in (a ∷ z.0, ap (and_trees a) z.1, one_more p (x, c_expr x) z.2)
