-- The steps of the reader of expressions: one for each way out of a function of the parser.
use Rattle.std.proofs.Common.{◌≡◌, ℕ, zero, suc, ◌+◌, ◌-◌, ◌<◌, ◌≤◌, max, true, false, List, [], ◌∷◌, ◌++◌, map, length, Option, Some, None, refl, sym, ap, subst, ◌∙◌, arith, rules}
use Rattle.verilog_ast.specs.declared.UnaryOp.{UnaryOp}
use Rattle.verilog_ast.specs.declared.BinaryOp.{BinaryOp}
use Rattle.verilog_ast.specs.declared.PartKind.{PartKind}
use Rattle.verilog_ast.specs.declared.Expr.{Expr}
use Rattle.verilog_exprs.specs.declared.halt.Halt.{Halt}
use Rattle.verilog_exprs.specs.declared.halt.Halt.TheVariants.{Refused}
use Rattle.verilog_exprs.specs.Forms.{named_at, operand_at, exprs_at}
use Rattle.verilog_exprs.specs.Halts.{HaltsAs}
use Rattle.verilog_exprs.specs.Next.{Takes, Lacks}
use Rattle.verilog_exprs.proofs.Steps.{halts_then, halts_by, halts_at, then_done, next_takes, next_lacks, deep_takes, enter_some, enter_none, enter_lacks, expect_halts, Listing, listing_none, listing_more, listing_halts, listing_end}
use Rattle.verilog_lex.specs.declared.token.Token.{Token}
use Rattle.verilog_lex.specs.declared.marks.MarkKind.TheVariants.{ParenOpen, ParenClose, BracketOpen, BracketClose, BraceOpen, BraceClose, Comma, Colon, Question}
use Rattle.verilog_reading.specs.Lexemes.{Spot, mark_in, ident_in, Numeral, numeral_in}
use Rattle.verilog_reading.specs.Parts.{divider_in}
use Rattle.verilog_reading.specs.Operators.{Prefix, prefix_in, Joint, joint_in, levels}
use Rattle.verilog_reading.specs.ExprTree.{ExprTree, number, name, unary, binary, choice, join, repeat, paren, and_trees, tree_of, trees_of, height, heights}
use Rattle.verilog_reading.specs.Outcome.{Outcome, done, stop, then_read, next, refuse, expect, enter}
use Rattle.verilog_reading.specs.Lists.{more}
use Rattle.verilog_reading.specs.Reader.{Readers, readers, closed, Select, at_index, between, at_bound, in_bound, at_part, behind_index, select, selected, in_unary, at_paren, in_paren, at_join, in_join, at_repeat, behind_part, in_repeat, behind_first, in_braces, in_name, unary_at, beside, onward, in_other, at_colon, in_choice, choice_at}
use Rattle.verilog_reading.proofs.ExprComplete.{downs, readers_is, beside_some}
use Rattle.verilog_reading.proofs.ExprLocal.{local}

-- the level below
pub downs_some : (k j : ℕ) → j + 1 ≡ k → downs k ≡ Some (readers j)
downs_some k j i = let z : k ≡ suc j = omega (arith, i) in ap downs z

pub downs_none : (k : ℕ) → k ≤ 0 → downs k ≡ None
downs_none k i = let z : k ≡ 0 = omega (arith, i) in ap downs z

beside_below : (k j : ℕ) (a : ExprTree) → j + 1 ≡ k → height a ≤ j → beside k a (downs k) ≡ Some (readers j)
beside_below k j a i l = beside_some k a (downs k) (omega (arith, i, l)) ∙ downs_some k j i

beside_none : (k : ℕ) (a : ExprTree) (down : Option Readers) → k ≤ height a → beside k a down ≡ None
beside_none k a down h = search rules

-- `expr`
expr_is : (k : ℕ) (ts : List Token) → (readers k).expr ts ≡ then_read ((readers k).binary levels ts) (choice_at k (downs k))
expr_is k ts = ap (λ r. r.expr ts) (readers_is k) ∙ ap (λ o. then_read o (choice_at k (downs k))) (sym (ap (λ r. r.binary levels ts) (readers_is k)))

expr_begins : (k : ℕ) (ts : List Token) (c : ExprTree) (rest : List Token) → (readers k).binary levels ts ≡ done c rest → (readers k).expr ts ≡ choice_at k (downs k) c rest
expr_begins k ts c rest e = expr_is k ts ∙ then_done ((readers k).binary levels ts) (choice_at k (downs k)) c rest e

pub expr_first_halts : (k : ℕ) (ts : List Token) (h : Halt) → HaltsAs ((readers k).binary 10 ts) h → HaltsAs ((readers k).expr ts) h
expr_first_halts k ts h w = halts_by ((readers k).expr ts) (then_read ((readers k).binary levels ts) (choice_at k (downs k))) h (expr_is k ts) (halts_then ((readers k).binary levels ts) (choice_at k (downs k)) h w)

pub expr_plain : (k : ℕ) (ts : List Token) (c : ExprTree) (rest : List Token) → (readers k).binary 10 ts ≡ done c rest → Lacks (mark_in Question) rest → (readers k).expr ts ≡ done c rest
expr_plain k ts c rest e w = expr_begins k ts c rest e ∙ enter_lacks (beside k c (downs k)) (mark_in Question) (in_choice c) (done c) rest w

pub expr_deep : (k : ℕ) (ts : List Token) (c : ExprTree) (rest : List Token) (s : Spot) (inner : List Token) (h : Halt) → (readers k).binary 10 ts ≡ done c rest → Takes (mark_in Question) s rest inner
    → k ≤ height c → h ≡ Refused true (length rest) → HaltsAs ((readers k).expr ts) h
expr_deep k ts c rest s inner h e w l q = halts_at ((readers k).expr ts) true rest h
    (expr_begins k ts c rest e ∙ enter_none (beside k c (downs k)) (mark_in Question) (in_choice c) (done c) s rest inner (beside_none k c (downs k) l) w) q

expr_enters : (k j : ℕ) (ts : List Token) (c : ExprTree) (rest : List Token) (s : Spot) (inner : List Token) → (readers k).binary levels ts ≡ done c rest → Takes (mark_in Question) s rest inner
    → j + 1 ≡ k → height c ≤ j → (readers k).expr ts ≡ then_read ((readers j).expr inner) (at_colon c (readers j))
expr_enters k j ts c rest s inner e w i l = expr_begins k ts c rest e ∙ enter_some (beside k c (downs k)) (mark_in Question) (in_choice c) (done c) (readers j) s rest inner (beside_below k j c i l) w

pub expr_yes_halts : (k j : ℕ) (ts : List Token) (c : ExprTree) (rest : List Token) (s : Spot) (inner : List Token) (h : Halt) → (readers k).binary 10 ts ≡ done c rest → Takes (mark_in Question) s rest inner
    → j + 1 ≡ k → height c ≤ j → HaltsAs ((readers j).expr inner) h → HaltsAs ((readers k).expr ts) h
expr_yes_halts k j ts c rest s inner h e w i l x = halts_by ((readers k).expr ts) (then_read ((readers j).expr inner) (at_colon c (readers j))) h (expr_enters k j ts c rest s inner e w i l)
    (halts_then ((readers j).expr inner) (at_colon c (readers j)) h x)

expr_passes : (k j : ℕ) (ts : List Token) (c : ExprTree) (rest : List Token) (s : Spot) (inner : List Token) (a : ExprTree) (mid : List Token) → (readers k).binary levels ts ≡ done c rest
    → Takes (mark_in Question) s rest inner → j + 1 ≡ k → height c ≤ j → (readers j).expr inner ≡ done a mid → (readers k).expr ts ≡ at_colon c (readers j) a mid
expr_passes k j ts c rest s inner a mid e w i l x = expr_enters k j ts c rest s inner e w i l ∙ then_done ((readers j).expr inner) (at_colon c (readers j)) a mid x

pub expr_colon_halts : (k j : ℕ) (ts : List Token) (c : ExprTree) (rest : List Token) (s : Spot) (inner : List Token) (a : ExprTree) (mid : List Token) (h : Halt) → (readers k).binary 10 ts ≡ done c rest
    → Takes (mark_in Question) s rest inner → j + 1 ≡ k → height c ≤ j → (readers j).expr inner ≡ done a mid → Lacks (mark_in Colon) mid → h ≡ Refused false (length mid) → HaltsAs ((readers k).expr ts) h
expr_colon_halts k j ts c rest s inner a mid h e w i l x y q = halts_by ((readers k).expr ts) (at_colon c (readers j) a mid) h (expr_passes k j ts c rest s inner a mid e w i l x)
    (expect_halts (mark_in Colon) (in_other c (readers j) a) mid h y q)

expr_goes : (k j : ℕ) (ts : List Token) (c : ExprTree) (rest : List Token) (s : Spot) (inner : List Token) (a : ExprTree) (mid : List Token) (t : Spot) (last : List Token) → (readers k).binary levels ts ≡ done c rest
    → Takes (mark_in Question) s rest inner → j + 1 ≡ k → height c ≤ j → (readers j).expr inner ≡ done a mid → Takes (mark_in Colon) t mid last
    → (readers k).expr ts ≡ then_read ((readers j).expr last) (λ b. done (choice c a b))
expr_goes k j ts c rest s inner a mid t last e w i l x y = expr_passes k j ts c rest s inner a mid e w i l x ∙ next_takes (mark_in Colon) (in_other c (readers j) a) refuse t mid last y

pub expr_other_halts : (k j : ℕ) (ts : List Token) (c : ExprTree) (rest : List Token) (s : Spot) (inner : List Token) (a : ExprTree) (mid : List Token) (t : Spot) (last : List Token) (h : Halt)
    → (readers k).binary 10 ts ≡ done c rest → Takes (mark_in Question) s rest inner → j + 1 ≡ k → height c ≤ j → (readers j).expr inner ≡ done a mid → Takes (mark_in Colon) t mid last
    → HaltsAs ((readers j).expr last) h → HaltsAs ((readers k).expr ts) h
expr_other_halts k j ts c rest s inner a mid t last h e w i l x y z = halts_by ((readers k).expr ts) (then_read ((readers j).expr last) (λ b. done (choice c a b))) h
    (expr_goes k j ts c rest s inner a mid t last e w i l x y) (halts_then ((readers j).expr last) (λ b. done (choice c a b)) h z)

pub expr_choice : (k j : ℕ) (ts : List Token) (c : ExprTree) (rest : List Token) (s : Spot) (inner : List Token) (a : ExprTree) (mid : List Token) (t : Spot) (last : List Token) (b : ExprTree) (end : List Token) (d : ExprTree)
    → (readers k).binary 10 ts ≡ done c rest → Takes (mark_in Question) s rest inner → j + 1 ≡ k → height c ≤ j → (readers j).expr inner ≡ done a mid → Takes (mark_in Colon) t mid last
    → (readers j).expr last ≡ done b end → d ≡ choice c a b → (readers k).expr ts ≡ done d end
expr_choice k j ts c rest s inner a mid t last b end d e w i l x y z q = expr_goes k j ts c rest s inner a mid t last e w i l x y
    ∙ then_done ((readers j).expr last) (λ b. done (choice c a b)) b end z ∙ ap (λ x. done x end) (sym q)

pub ruleset expr_steps = (expr_first_halts, expr_plain, expr_deep, expr_yes_halts, expr_colon_halts, expr_other_halts, expr_choice)

-- operators
pub binary_is : (l k : ℕ) (ts : List Token) → (readers k).binary (suc l) ts ≡ then_read ((readers k).binary l ts) (onward l k (downs k) k)
binary_is l k ts = ap (λ r. r.binary (suc l) ts) (readers_is k) ∙ ap (λ o. then_read o (onward l k (downs k) k)) (sym (ap (λ r. r.binary l ts) (readers_is k)))

pub binary_more : (l m k : ℕ) (ts : List Token) (a : ExprTree) (rest : List Token) (b : ExprTree) (end : List Token) → m ≡ l + 1 → (readers k).binary l ts ≡ done a rest → onward l k (downs k) k a rest ≡ done b end
    → (readers k).binary m ts ≡ done b end
binary_more l m k ts a rest b end i e f = let z : m ≡ suc l = omega (arith, i) in
    ap (λ n. (readers k).binary n ts) z ∙ binary_is l k ts ∙ then_done ((readers k).binary l ts) (onward l k (downs k) k) a rest e ∙ f

halts_above : (k l n : ℕ) (ts : List Token) (h : Halt) → HaltsAs ((readers k).binary l ts) h → HaltsAs ((readers k).binary (n + l) ts) h
halts_above k l zero ts h w = subst (λ m. HaltsAs ((readers k).binary m ts) h) (let z : l ≡ zero + l = omega arith in z) w
halts_above k l (suc n) ts h w = subst (λ m. HaltsAs ((readers k).binary m ts) h) (let z : suc (n + l) ≡ suc n + l = omega arith in z)
    (halts_by ((readers k).binary (suc (n + l)) ts) (then_read ((readers k).binary (n + l) ts) (onward (n + l) k (downs k) k)) h (binary_is (n + l) k ts)
    (halts_then ((readers k).binary (n + l) ts) (onward (n + l) k (downs k) k) h (halts_above k l n ts h w)))

pub binary_first_halts : (k m : ℕ) (ts : List Token) (h : Halt) → HaltsAs ((readers k).binary 0 ts) h → HaltsAs ((readers k).binary m ts) h
binary_first_halts k m ts h w = subst (λ n. HaltsAs ((readers k).binary n ts) h) (let z : m + 0 ≡ m = omega arith in z) (halts_above k 0 m ts h w)

pub binary_halts : (l m k : ℕ) (ts : List Token) (a : ExprTree) (rest : List Token) (h : Halt) → l < m → (readers k).binary l ts ≡ done a rest → HaltsAs (onward l k (downs k) k a rest) h → HaltsAs ((readers k).binary m ts) h
binary_halts l m k ts a rest h i e w = subst (λ n. HaltsAs ((readers k).binary n ts) h) (let z : (m - suc l) + suc l ≡ m = omega (arith, i) in z)
    (halts_above k (suc l) (m - suc l) ts h (halts_by ((readers k).binary (suc l) ts) (onward l k (downs k) k a rest) h (binary_is l k ts ∙ then_done ((readers k).binary l ts) (onward l k (downs k) k) a rest e) w))

pub ruleset binary_steps = (binary_more, binary_first_halts, binary_halts)

-- how far the operators of a level are read
pub record Going (l k : ℕ) (whole : Outcome ExprTree) (a : ExprTree) (rest : List Token) : Type 0 where
  pub turns : ℕ
  pub enough : k ≤ turns + height a
  pub goes : whole ≡ onward l k (downs k) turns a rest

pub going_none : (l k : ℕ) (a : ExprTree) (rest : List Token) → Going l k (onward l k (downs k) k a rest) a rest
going_none l k a rest = record { turns = k; enough = omega arith; goes = refl }

abbrev joined : ℕ → ℕ → ℕ → ExprTree → Readers → Joint → List Token → Outcome ExprTree
joined l k n a r j ts = then_read (r.binary l ts) (λ b. onward l k (downs k) n (binary j.op a b))

onward_lacks : (l k n : ℕ) (a : ExprTree) (rest : List Token) → Lacks (joint_in l) rest → onward l k (downs k) n a rest ≡ done a rest
onward_lacks l k zero a rest w = enter_lacks {D = Readers} None (joint_in l) (joined l k 0 a) (done a) rest w
onward_lacks l k (suc n) a rest w = enter_lacks (beside k a (downs k)) (joint_in l) (joined l k n a) (done a) rest w

onward_deep : (l k n : ℕ) (a : ExprTree) (j : Joint) (ts rest : List Token) → k ≤ height a → Takes (joint_in l) j ts rest → onward l k (downs k) n a ts ≡ stop true ts
onward_deep l k zero a j ts rest i w = deep_takes (joint_in l) (done a) j ts rest w
onward_deep l k (suc n) a j ts rest i w = enter_none (beside k a (downs k)) (joint_in l) (joined l k n a) (done a) j ts rest (beside_none k a (downs k) i) w

onward_enters : (l k i n : ℕ) (a : ExprTree) (j : Joint) (ts rest : List Token) → height a ≤ i → i + 1 ≡ k → Takes (joint_in l) j ts rest → onward l k (downs k) (suc n) a ts ≡ joined l k n a (readers i) j rest
onward_enters l k i n a j ts rest u v w = enter_some (beside k a (downs k)) (joint_in l) (joined l k n a) (done a) (readers i) j ts rest (beside_below k i a v u) w

pub going_end : (l k : ℕ) (whole : Outcome ExprTree) (a : ExprTree) (ts : List Token) → Going l k whole a ts → Lacks (joint_in l) ts → whole ≡ done a ts
going_end l k whole a ts g w = g.goes ∙ onward_lacks l k g.turns a ts w

pub going_deep : (l k : ℕ) (whole : Outcome ExprTree) (a : ExprTree) (ts : List Token) (j : Joint) (rest : List Token) (h : Halt) → Going l k whole a ts → Takes (joint_in l) j ts rest → k ≤ height a
    → h ≡ Refused true (length ts) → HaltsAs whole h
going_deep l k whole a ts j rest h g w i q = halts_at whole true ts h (g.goes ∙ onward_deep l k g.turns a j ts rest i w) q

pub going_halts : (l k i : ℕ) (whole : Outcome ExprTree) (a : ExprTree) (ts : List Token) (j : Joint) (rest : List Token) (h : Halt) → Going l k whole a ts → Takes (joint_in l) j ts rest → height a ≤ i → i + 1 ≡ k
    → HaltsAs ((readers i).binary l rest) h → HaltsAs whole h
going_halts l k i whole a ts j rest h g w u v x = go g.turns g.enough g.goes
  where
    go : (n : ℕ) → k ≤ n + height a → whole ≡ onward l k (downs k) n a ts → HaltsAs whole h
    go zero m e = absurd (omega (arith, m, u, v))
    go (suc n) m e = halts_by whole (joined l k n a (readers i) j rest) h (e ∙ onward_enters l k i n a j ts rest u v w) (halts_then ((readers i).binary l rest) (λ b. onward l k (downs k) n (binary j.op a b)) h x)

pub going_more : (l k i : ℕ) (whole : Outcome ExprTree) (a : ExprTree) (ts : List Token) (j : Joint) (rest : List Token) (b : ExprTree) (end : List Token) (op : BinaryOp) (d : ExprTree) → Going l k whole a ts
    → Takes (joint_in l) j ts rest → j.op ≡ op → height a ≤ i → i + 1 ≡ k → (readers i).binary l rest ≡ done b end → d ≡ binary op a b → Going l k whole d end
going_more l k i whole a ts j rest b end op d g w o u v x q = subst (λ (y : ExprTree). Going l k whole y end) (ap (λ z. binary z a b) o ∙ sym q) (go g.turns g.enough g.goes)
  where
    go : (n : ℕ) → k ≤ n + height a → whole ≡ onward l k (downs k) n a ts → Going l k whole (binary j.op a b) end
    go zero m e = absurd (omega (arith, m, u, v))
    go (suc n) m e = record {
      turns = n;
      enough = omega (arith, m);
      goes = e ∙ onward_enters l k i n a j ts rest u v w ∙ then_done ((readers i).binary l rest) (λ b. onward l k (downs k) n (binary j.op a b)) b end x;
    }

pub ruleset going_steps = (going_none, going_end, going_deep, going_halts, going_more)

-- what isn't joined by operators
unary_is : (k : ℕ) (ts : List Token) → (readers k).binary 0 ts ≡ unary_at (downs k) ts
unary_is k ts = ap (λ r. r.binary 0 ts) (readers_is k)

abbrev read_number : Numeral → List Token → Outcome ExprTree
read_number n = done (number n.value n.width n.size)

pub unary_number : (k : ℕ) (ts : List Token) (n : Numeral) (rest : List Token) (e : ExprTree) → Takes numeral_in n ts rest → e ≡ number n.value n.width n.size → (readers k).binary 0 ts ≡ done e rest
unary_number k ts n rest e w q = unary_is k ts ∙ next_takes numeral_in read_number (next ident_in (in_name (downs k)) (operand_at (downs k))) n ts rest w ∙ ap (λ x. done x rest) (sym q)

pub unary_named : (k : ℕ) (ts : List Token) (n : List ℕ) (s : Spot) (rest : List Token) → Lacks numeral_in ts → Takes ident_in (record { name = n; spot = s }) ts rest → (readers k).binary 0 ts ≡ named_at (downs k) n rest
unary_named k ts n s rest v w = unary_is k ts ∙ next_lacks numeral_in read_number (next ident_in (in_name (downs k)) (operand_at (downs k))) ts v
    ∙ next_takes ident_in (in_name (downs k)) (operand_at (downs k)) (record { name = n; spot = s }) ts rest w

pub unary_named_done : (k : ℕ) (ts : List Token) (n : List ℕ) (s : Spot) (rest : List Token) (e : ExprTree) (end : List Token) → Lacks numeral_in ts → Takes ident_in (record { name = n; spot = s }) ts rest
    → named_at (downs k) n rest ≡ done e end → (readers k).binary 0 ts ≡ done e end
unary_named_done k ts n s rest e end v w x = unary_named k ts n s rest v w ∙ x

pub unary_named_halts : (k : ℕ) (ts : List Token) (n : List ℕ) (s : Spot) (rest : List Token) (h : Halt) → Lacks numeral_in ts → Takes ident_in (record { name = n; spot = s }) ts rest
    → HaltsAs (named_at (downs k) n rest) h → HaltsAs ((readers k).binary 0 ts) h
unary_named_halts k ts n s rest h v w x = halts_by ((readers k).binary 0 ts) (named_at (downs k) n rest) h (unary_named k ts n s rest v w) x

pub unary_operand : (k : ℕ) (ts : List Token) → Lacks numeral_in ts → Lacks ident_in ts → (readers k).binary 0 ts ≡ operand_at (downs k) ts
unary_operand k ts v w = unary_is k ts ∙ next_lacks numeral_in read_number (next ident_in (in_name (downs k)) (operand_at (downs k))) ts v
    ∙ next_lacks ident_in (in_name (downs k)) (operand_at (downs k)) ts w

pub unary_operand_done : (k : ℕ) (ts : List Token) (e : ExprTree) (end : List Token) → Lacks numeral_in ts → Lacks ident_in ts → operand_at (downs k) ts ≡ done e end → (readers k).binary 0 ts ≡ done e end
unary_operand_done k ts e end v w x = unary_operand k ts v w ∙ x

pub unary_operand_halts : (k : ℕ) (ts : List Token) (h : Halt) → Lacks numeral_in ts → Lacks ident_in ts → HaltsAs (operand_at (downs k) ts) h → HaltsAs ((readers k).binary 0 ts) h
unary_operand_halts k ts h v w x = halts_by ((readers k).binary 0 ts) (operand_at (downs k) ts) h (unary_operand k ts v w) x

pub ruleset unary_steps = (unary_number, unary_named_done, unary_named_halts, unary_operand_done, unary_operand_halts)

-- operators before their operand, parentheses, braces
abbrev braces_at : Option Readers → List Token → Outcome ExprTree
braces_at down = enter down (mark_in BraceOpen) in_braces refuse

abbrev parens_at : Option Readers → List Token → Outcome ExprTree
parens_at down = enter down (mark_in ParenOpen) in_paren (braces_at down)

pub prefix_deep : (k : ℕ) (ts : List Token) (p : Prefix) (inner : List Token) (h : Halt) → Takes prefix_in p ts inner → k ≤ 0 → h ≡ Refused true (length ts) → HaltsAs (operand_at (downs k) ts) h
prefix_deep k ts p inner h w i q = halts_at (operand_at (downs k) ts) true ts h (enter_none (downs k) prefix_in in_unary (parens_at (downs k)) p ts inner (downs_none k i) w) q

prefix_enters : (k j : ℕ) (ts : List Token) (p : Prefix) (inner : List Token) → Takes prefix_in p ts inner → j + 1 ≡ k → operand_at (downs k) ts ≡ in_unary (readers j) p inner
prefix_enters k j ts p inner w i = enter_some (downs k) prefix_in in_unary (parens_at (downs k)) (readers j) p ts inner (downs_some k j i) w

pub prefix_is : (k j : ℕ) (ts : List Token) (p : Prefix) (op : UnaryOp) (inner : List Token) → Takes prefix_in p ts inner → p.op ≡ op → j + 1 ≡ k
    → operand_at (downs k) ts ≡ then_read ((readers j).binary 0 inner) (λ a. done (unary op a))
prefix_is k j ts p op inner w o i = prefix_enters k j ts p inner w i ∙ ap (λ y. then_read ((readers j).binary 0 inner) (λ a. done (unary y a))) o

operand_parens : (k : ℕ) (ts : List Token) → Lacks prefix_in ts → operand_at (downs k) ts ≡ parens_at (downs k) ts
operand_parens k ts w = enter_lacks (downs k) prefix_in in_unary (parens_at (downs k)) ts w

pub paren_deep : (k : ℕ) (ts : List Token) (s : Spot) (inner : List Token) (h : Halt) → Lacks prefix_in ts → Takes (mark_in ParenOpen) s ts inner → k ≤ 0 → h ≡ Refused true (length ts) → HaltsAs (operand_at (downs k) ts) h
paren_deep k ts s inner h v w i q = halts_at (operand_at (downs k) ts) true ts h (operand_parens k ts v ∙ enter_none (downs k) (mark_in ParenOpen) in_paren (braces_at (downs k)) s ts inner (downs_none k i) w) q

pub paren_enters : (k j : ℕ) (ts : List Token) (s : Spot) (inner : List Token) → Lacks prefix_in ts → Takes (mark_in ParenOpen) s ts inner → j + 1 ≡ k → operand_at (downs k) ts ≡ then_read ((readers j).expr inner) at_paren
paren_enters k j ts s inner v w i = operand_parens k ts v ∙ enter_some (downs k) (mark_in ParenOpen) in_paren (braces_at (downs k)) (readers j) s ts inner (downs_some k j i) w

pub paren_done : (k j : ℕ) (ts : List Token) (s : Spot) (inner : List Token) (e : ExprTree) (end : List Token) → Lacks prefix_in ts → Takes (mark_in ParenOpen) s ts inner → j + 1 ≡ k
    → then_read ((readers j).expr inner) at_paren ≡ done e end → operand_at (downs k) ts ≡ done e end
paren_done k j ts s inner e end v w i x = paren_enters k j ts s inner v w i ∙ x

pub paren_halts : (k j : ℕ) (ts : List Token) (s : Spot) (inner : List Token) (h : Halt) → Lacks prefix_in ts → Takes (mark_in ParenOpen) s ts inner → j + 1 ≡ k
    → HaltsAs (then_read ((readers j).expr inner) at_paren) h → HaltsAs (operand_at (downs k) ts) h
paren_halts k j ts s inner h v w i x = halts_by (operand_at (downs k) ts) (then_read ((readers j).expr inner) at_paren) h (paren_enters k j ts s inner v w i) x

operand_braces : (k : ℕ) (ts : List Token) → Lacks prefix_in ts → Lacks (mark_in ParenOpen) ts → operand_at (downs k) ts ≡ braces_at (downs k) ts
operand_braces k ts v w = operand_parens k ts v ∙ enter_lacks (downs k) (mark_in ParenOpen) in_paren (braces_at (downs k)) ts w

pub operand_refused : (k : ℕ) (ts : List Token) (h : Halt) → Lacks prefix_in ts → Lacks (mark_in ParenOpen) ts → Lacks (mark_in BraceOpen) ts → h ≡ Refused false (length ts) → HaltsAs (operand_at (downs k) ts) h
operand_refused k ts h u v w q = halts_at (operand_at (downs k) ts) false ts h (operand_braces k ts u v ∙ enter_lacks (downs k) (mark_in BraceOpen) in_braces refuse ts w) q

pub brace_deep : (k : ℕ) (ts : List Token) (s : Spot) (inner : List Token) (h : Halt) → Lacks prefix_in ts → Lacks (mark_in ParenOpen) ts → Takes (mark_in BraceOpen) s ts inner → k ≤ 0 → h ≡ Refused true (length ts)
    → HaltsAs (operand_at (downs k) ts) h
brace_deep k ts s inner h u v w i q = halts_at (operand_at (downs k) ts) true ts h (operand_braces k ts u v ∙ enter_none (downs k) (mark_in BraceOpen) in_braces refuse s ts inner (downs_none k i) w) q

pub brace_enters : (k j : ℕ) (ts : List Token) (s : Spot) (inner : List Token) → Lacks prefix_in ts → Lacks (mark_in ParenOpen) ts → Takes (mark_in BraceOpen) s ts inner → j + 1 ≡ k
    → operand_at (downs k) ts ≡ then_read ((readers j).expr inner) (behind_first (readers j))
brace_enters k j ts s inner u v w i = operand_braces k ts u v ∙ enter_some (downs k) (mark_in BraceOpen) in_braces refuse (readers j) s ts inner (downs_some k j i) w

pub brace_done : (k j : ℕ) (ts : List Token) (s : Spot) (inner : List Token) (e : ExprTree) (end : List Token) → Lacks prefix_in ts → Lacks (mark_in ParenOpen) ts → Takes (mark_in BraceOpen) s ts inner → j + 1 ≡ k
    → then_read ((readers j).expr inner) (behind_first (readers j)) ≡ done e end → operand_at (downs k) ts ≡ done e end
brace_done k j ts s inner e end u v w i x = brace_enters k j ts s inner u v w i ∙ x

pub brace_halts : (k j : ℕ) (ts : List Token) (s : Spot) (inner : List Token) (h : Halt) → Lacks prefix_in ts → Lacks (mark_in ParenOpen) ts → Takes (mark_in BraceOpen) s ts inner → j + 1 ≡ k
    → HaltsAs (then_read ((readers j).expr inner) (behind_first (readers j))) h → HaltsAs (operand_at (downs k) ts) h
brace_halts k j ts s inner h u v w i x = halts_by (operand_at (downs k) ts) (then_read ((readers j).expr inner) (behind_first (readers j))) h (brace_enters k j ts s inner u v w i) x

pub ruleset operand_steps = (prefix_deep, paren_deep, paren_done, paren_halts, operand_refused, brace_deep, brace_done, brace_halts)

pub prefixed_halts : (k : ℕ) (ts : List Token) (op : UnaryOp) (h : Halt) → HaltsAs ((readers k).binary 0 ts) h → HaltsAs (then_read ((readers k).binary 0 ts) (λ a. done (unary op a))) h
prefixed_halts k ts op h x = halts_then ((readers k).binary 0 ts) (λ a. done (unary op a)) h x

pub prefixed_done : (k : ℕ) (ts : List Token) (op : UnaryOp) (a : ExprTree) (rest : List Token) (e : ExprTree) → (readers k).binary 0 ts ≡ done a rest → e ≡ unary op a
    → then_read ((readers k).binary 0 ts) (λ a. done (unary op a)) ≡ done e rest
prefixed_done k ts op a rest e x q = then_done ((readers k).binary 0 ts) (λ a. done (unary op a)) a rest x ∙ ap (λ y. done y rest) (sym q)

pub ruleset prefixed_steps = (prefixed_halts, prefixed_done)

pub in_paren_halts : (k : ℕ) (ts : List Token) (h : Halt) → HaltsAs ((readers k).expr ts) h → HaltsAs (then_read ((readers k).expr ts) at_paren) h
in_paren_halts k ts h x = halts_then ((readers k).expr ts) at_paren h x

pub paren_open : (k : ℕ) (ts : List Token) (a : ExprTree) (mid : List Token) (h : Halt) → (readers k).expr ts ≡ done a mid → Lacks (mark_in ParenClose) mid → h ≡ Refused false (length mid)
    → HaltsAs (then_read ((readers k).expr ts) at_paren) h
paren_open k ts a mid h e w q = halts_by (then_read ((readers k).expr ts) at_paren) (at_paren a mid) h (then_done ((readers k).expr ts) at_paren a mid e) (expect_halts (mark_in ParenClose) (λ _. done (paren a)) mid h w q)

pub paren_closed : (k : ℕ) (ts : List Token) (a : ExprTree) (mid : List Token) (s : Spot) (rest : List Token) (e : ExprTree) → (readers k).expr ts ≡ done a mid → Takes (mark_in ParenClose) s mid rest → e ≡ paren a
    → then_read ((readers k).expr ts) at_paren ≡ done e rest
paren_closed k ts a mid s rest e x w q = then_done ((readers k).expr ts) at_paren a mid x ∙ next_takes (mark_in ParenClose) (λ _. done (paren a)) refuse s mid rest w ∙ ap (λ y. done y rest) (sym q)

pub ruleset paren_steps = (in_paren_halts, paren_open, paren_closed)

-- names and selects
abbrev at_bracket : List ℕ → Readers → Spot → List Token → Outcome ExprTree
at_bracket n r _ ts = then_read (select r ts) (λ s. done (selected n s))

pub named_plain : (k : ℕ) (n : List ℕ) (ts : List Token) (e : ExprTree) → Lacks (mark_in BracketOpen) ts → e ≡ name n → named_at (downs k) n ts ≡ done e ts
named_plain k n ts e w q = enter_lacks (downs k) (mark_in BracketOpen) (at_bracket n) (done (name n)) ts w ∙ ap (λ x. done x ts) (sym q)

pub named_deep : (k : ℕ) (n : List ℕ) (ts : List Token) (s : Spot) (inner : List Token) (h : Halt) → Takes (mark_in BracketOpen) s ts inner → k ≤ 0 → h ≡ Refused true (length ts) → HaltsAs (named_at (downs k) n ts) h
named_deep k n ts s inner h w i q = halts_at (named_at (downs k) n ts) true ts h (enter_none (downs k) (mark_in BracketOpen) (at_bracket n) (done (name n)) s ts inner (downs_none k i) w) q

named_enters : (k j : ℕ) (n : List ℕ) (ts : List Token) (s : Spot) (inner : List Token) → Takes (mark_in BracketOpen) s ts inner → j + 1 ≡ k → named_at (downs k) n ts ≡ at_bracket n (readers j) s inner
named_enters k j n ts s inner w i = enter_some (downs k) (mark_in BracketOpen) (at_bracket n) (done (name n)) (readers j) s ts inner (downs_some k j i) w

pub named_halts : (k j : ℕ) (n : List ℕ) (ts : List Token) (s : Spot) (inner : List Token) (h : Halt) → Takes (mark_in BracketOpen) s ts inner → j + 1 ≡ k → HaltsAs (select (readers j) inner) h → HaltsAs (named_at (downs k) n ts) h
named_halts k j n ts s inner h w i x = halts_by (named_at (downs k) n ts) (at_bracket n (readers j) s inner) h (named_enters k j n ts s inner w i) (halts_then (select (readers j) inner) (λ s. done (selected n s)) h x)

pub named_done : (k j : ℕ) (n : List ℕ) (ts : List Token) (s : Spot) (inner : List Token) (b : Select) (rest : List Token) (e : ExprTree) → Takes (mark_in BracketOpen) s ts inner → j + 1 ≡ k
    → select (readers j) inner ≡ done b rest → e ≡ selected n b → named_at (downs k) n ts ≡ done e rest
named_done k j n ts s inner b rest e w i x q = named_enters k j n ts s inner w i ∙ then_done (select (readers j) inner) (λ s. done (selected n s)) b rest x ∙ ap (λ y. done y rest) (sym q)

pub ruleset named_steps = (named_plain, named_deep, named_halts, named_done)

pub select_first_halts : (k : ℕ) (ts : List Token) (h : Halt) → HaltsAs ((readers k).expr ts) h → HaltsAs (select (readers k) ts) h
select_first_halts k ts h x = halts_then ((readers k).expr ts) (behind_index (readers k)) h x

select_begins : (k : ℕ) (ts : List Token) (a : ExprTree) (mid : List Token) → (readers k).expr ts ≡ done a mid → select (readers k) ts ≡ behind_index (readers k) a mid
select_begins k ts a mid e = then_done ((readers k).expr ts) (behind_index (readers k)) a mid e

pub select_index : (k : ℕ) (ts : List Token) (a : ExprTree) (mid : List Token) (s : Spot) (rest : List Token) → (readers k).expr ts ≡ done a mid → Takes (mark_in BracketClose) s mid rest → select (readers k) ts ≡ done (at_index a) rest
select_index k ts a mid s rest e w = select_begins k ts a mid e ∙ next_takes (mark_in BracketClose) (λ _. done (at_index a)) (at_part (readers k) a) s mid rest w

select_divided : (k : ℕ) (ts : List Token) (a : ExprTree) (mid : List Token) → (readers k).expr ts ≡ done a mid → Lacks (mark_in BracketClose) mid → select (readers k) ts ≡ at_part (readers k) a mid
select_divided k ts a mid e w = select_begins k ts a mid e ∙ next_lacks (mark_in BracketClose) (λ _. done (at_index a)) (at_part (readers k) a) mid w

pub select_refused : (k : ℕ) (ts : List Token) (a : ExprTree) (mid : List Token) (h : Halt) → (readers k).expr ts ≡ done a mid → Lacks (mark_in BracketClose) mid → Lacks divider_in mid → h ≡ Refused false (length mid)
    → HaltsAs (select (readers k) ts) h
select_refused k ts a mid h e v w q = halts_by (select (readers k) ts) (at_part (readers k) a mid) h (select_divided k ts a mid e v) (expect_halts divider_in (in_bound (readers k) a) mid h w q)

select_right : (k : ℕ) (ts : List Token) (a : ExprTree) (mid : List Token) (kind : PartKind) (s : Spot) (inner : List Token) → (readers k).expr ts ≡ done a mid → Lacks (mark_in BracketClose) mid → Takes divider_in (record { kind = kind; spot = s }) mid inner
    → select (readers k) ts ≡ then_read ((readers k).expr inner) (at_bound kind a)
select_right k ts a mid kind s inner e v w = select_divided k ts a mid e v ∙ next_takes divider_in (in_bound (readers k) a) refuse (record { kind = kind; spot = s }) mid inner w

pub select_right_halts : (k : ℕ) (ts : List Token) (a : ExprTree) (mid : List Token) (kind : PartKind) (s : Spot) (inner : List Token) (h : Halt) → (readers k).expr ts ≡ done a mid → Lacks (mark_in BracketClose) mid → Takes divider_in (record { kind = kind; spot = s }) mid inner
    → HaltsAs ((readers k).expr inner) h → HaltsAs (select (readers k) ts) h
select_right_halts k ts a mid kind s inner h e v w x = halts_by (select (readers k) ts) (then_read ((readers k).expr inner) (at_bound kind a)) h (select_right k ts a mid kind s inner e v w) (halts_then ((readers k).expr inner) (at_bound kind a) h x)

select_bound : (k : ℕ) (ts : List Token) (a : ExprTree) (mid : List Token) (kind : PartKind) (s : Spot) (inner : List Token) (b : ExprTree) (last : List Token) → (readers k).expr ts ≡ done a mid → Lacks (mark_in BracketClose) mid
    → Takes divider_in (record { kind = kind; spot = s }) mid inner → (readers k).expr inner ≡ done b last → select (readers k) ts ≡ at_bound kind a b last
select_bound k ts a mid kind s inner b last e v w x = select_right k ts a mid kind s inner e v w ∙ then_done ((readers k).expr inner) (at_bound kind a) b last x

pub select_open : (k : ℕ) (ts : List Token) (a : ExprTree) (mid : List Token) (kind : PartKind) (s : Spot) (inner : List Token) (b : ExprTree) (last : List Token) (h : Halt) → (readers k).expr ts ≡ done a mid → Lacks (mark_in BracketClose) mid
    → Takes divider_in (record { kind = kind; spot = s }) mid inner → (readers k).expr inner ≡ done b last → Lacks (mark_in BracketClose) last → h ≡ Refused false (length last) → HaltsAs (select (readers k) ts) h
select_open k ts a mid kind s inner b last h e v w x y q = halts_by (select (readers k) ts) (at_bound kind a b last) h (select_bound k ts a mid kind s inner b last e v w x)
    (expect_halts (mark_in BracketClose) (λ _. done (between kind a b)) last h y q)

pub select_part : (k : ℕ) (ts : List Token) (a : ExprTree) (mid : List Token) (kind : PartKind) (s : Spot) (inner : List Token) (b : ExprTree) (last : List Token) (t : Spot) (rest : List Token) → (readers k).expr ts ≡ done a mid
    → Lacks (mark_in BracketClose) mid → Takes divider_in (record { kind = kind; spot = s }) mid inner → (readers k).expr inner ≡ done b last → Takes (mark_in BracketClose) t last rest → select (readers k) ts ≡ done (between kind a b) rest
select_part k ts a mid kind s inner b last t rest e v w x y = select_bound k ts a mid kind s inner b last e v w x ∙ next_takes (mark_in BracketClose) (λ _. done (between kind a b)) refuse t last rest y

pub ruleset select_steps = (select_first_halts, select_index, select_refused, select_right_halts, select_open, select_part)

-- braces
pub braces_first_halts : (k : ℕ) (ts : List Token) (h : Halt) → HaltsAs ((readers k).expr ts) h → HaltsAs (then_read ((readers k).expr ts) (behind_first (readers k))) h
braces_first_halts k ts h x = halts_then ((readers k).expr ts) (behind_first (readers k)) h x

pub braces_repeat : (k : ℕ) (ts : List Token) (c : ExprTree) (mid : List Token) (s : Spot) (inner : List Token) → (readers k).expr ts ≡ done c mid → Takes (mark_in BraceOpen) s mid inner
    → then_read ((readers k).expr ts) (behind_first (readers k)) ≡ then_read ((readers k).expr inner) (behind_part (readers k) c)
braces_repeat k ts c mid s inner e w = then_done ((readers k).expr ts) (behind_first (readers k)) c mid e ∙ next_takes (mark_in BraceOpen) (in_repeat (readers k) c) (in_join (readers k) c) s mid inner w

pub braces_repeat_done : (k : ℕ) (ts : List Token) (c : ExprTree) (mid : List Token) (s : Spot) (inner : List Token) (e : ExprTree) (rest : List Token) → (readers k).expr ts ≡ done c mid → Takes (mark_in BraceOpen) s mid inner
    → then_read ((readers k).expr inner) (behind_part (readers k) c) ≡ done e rest → then_read ((readers k).expr ts) (behind_first (readers k)) ≡ done e rest
braces_repeat_done k ts c mid s inner e rest x w y = braces_repeat k ts c mid s inner x w ∙ y

pub braces_repeat_halts : (k : ℕ) (ts : List Token) (c : ExprTree) (mid : List Token) (s : Spot) (inner : List Token) (h : Halt) → (readers k).expr ts ≡ done c mid → Takes (mark_in BraceOpen) s mid inner
    → HaltsAs (then_read ((readers k).expr inner) (behind_part (readers k) c)) h → HaltsAs (then_read ((readers k).expr ts) (behind_first (readers k))) h
braces_repeat_halts k ts c mid s inner h x w y = halts_by (then_read ((readers k).expr ts) (behind_first (readers k))) (then_read ((readers k).expr inner) (behind_part (readers k) c)) h (braces_repeat k ts c mid s inner x w) y

pub braces_join : (k : ℕ) (ts : List Token) (a : ExprTree) (mid : List Token) → (readers k).expr ts ≡ done a mid → Lacks (mark_in BraceOpen) mid → then_read ((readers k).expr ts) (behind_first (readers k)) ≡ in_join (readers k) a mid
braces_join k ts a mid e w = then_done ((readers k).expr ts) (behind_first (readers k)) a mid e ∙ next_lacks (mark_in BraceOpen) (in_repeat (readers k) a) (in_join (readers k) a) mid w

pub braces_join_done : (k : ℕ) (ts : List Token) (a : ExprTree) (mid : List Token) (e : ExprTree) (rest : List Token) → (readers k).expr ts ≡ done a mid → Lacks (mark_in BraceOpen) mid → in_join (readers k) a mid ≡ done e rest
    → then_read ((readers k).expr ts) (behind_first (readers k)) ≡ done e rest
braces_join_done k ts a mid e rest x w y = braces_join k ts a mid x w ∙ y

pub braces_join_halts : (k : ℕ) (ts : List Token) (a : ExprTree) (mid : List Token) (h : Halt) → (readers k).expr ts ≡ done a mid → Lacks (mark_in BraceOpen) mid → HaltsAs (in_join (readers k) a mid) h
    → HaltsAs (then_read ((readers k).expr ts) (behind_first (readers k))) h
braces_join_halts k ts a mid h x w y = halts_by (then_read ((readers k).expr ts) (behind_first (readers k))) (in_join (readers k) a mid) h (braces_join k ts a mid x w) y

pub ruleset brace_steps = (braces_first_halts, braces_repeat_done, braces_repeat_halts, braces_join_done, braces_join_halts)

pub join_halts : (k : ℕ) (a : ExprTree) (ts : List Token) (h : Halt) → HaltsAs (more (mark_in Comma) (readers k).expr ts) h → HaltsAs (in_join (readers k) a ts) h
join_halts k a ts h x = halts_then (more (mark_in Comma) (readers k).expr ts) (at_join a) h x

pub join_open : (k : ℕ) (a : ExprTree) (ts : List Token) (bs : List ExprTree) (mid : List Token) (h : Halt) → more (mark_in Comma) (readers k).expr ts ≡ done bs mid → Lacks (mark_in BraceClose) mid → h ≡ Refused false (length mid)
    → HaltsAs (in_join (readers k) a ts) h
join_open k a ts bs mid h e w q = halts_by (in_join (readers k) a ts) (at_join a bs mid) h (then_done (more (mark_in Comma) (readers k).expr ts) (at_join a) bs mid e)
    (expect_halts (mark_in BraceClose) (λ _. done (join (and_trees a (trees_of bs)))) mid h w q)

pub join_done : (k : ℕ) (a : ExprTree) (ts : List Token) (bs es : List ExprTree) (mid : List Token) (s : Spot) (rest : List Token) (e : ExprTree) → more (mark_in Comma) (readers k).expr ts ≡ done bs mid → es ≡ a ∷ bs
    → Takes (mark_in BraceClose) s mid rest → e ≡ join (trees_of es) → in_join (readers k) a ts ≡ done e rest
join_done k a ts bs es mid s rest e x l w q = then_done (more (mark_in Comma) (readers k).expr ts) (at_join a) bs mid x ∙ next_takes (mark_in BraceClose) (λ _. done (join (and_trees a (trees_of bs)))) refuse s mid rest w
    ∙ ap (λ y. done y rest) (sym (q ∙ ap (λ z. join (trees_of z)) l))

pub ruleset join_steps = (join_halts, join_open, join_done)

abbrev behind_list : ExprTree → List ExprTree → List Token → Outcome ExprTree
behind_list c es = expect (mark_in BraceClose) (λ _. closed BraceClose (repeat c (trees_of es)))

regroup : (r : Readers) (c : ExprTree) (o : Outcome ExprTree) → then_read o (behind_part r c) ≡ then_read (then_read o (λ a rest. then_read (more (mark_in Comma) r.expr rest) (λ bs. done (a ∷ bs)))) (behind_list c)
regroup r c (stop d rest) = refl
regroup r c (done a rest) = go (more (mark_in Comma) r.expr rest)
  where
    go : (m : Outcome (List ExprTree)) → then_read m (at_repeat c a) ≡ then_read (then_read m (λ bs. done (a ∷ bs))) (behind_list c)
    go (stop d last) = refl
    go (done bs last) = refl

repeat_is : (k : ℕ) (c : ExprTree) (ts : List Token) → then_read ((readers k).expr ts) (behind_part (readers k) c) ≡ then_read (exprs_at (readers k) ts) (behind_list c)
repeat_is k c ts = regroup (readers k) c ((readers k).expr ts)

pub repeat_halts : (k : ℕ) (c : ExprTree) (ts : List Token) (h : Halt) → HaltsAs (exprs_at (readers k) ts) h → HaltsAs (then_read ((readers k).expr ts) (behind_part (readers k) c)) h
repeat_halts k c ts h x = halts_by (then_read ((readers k).expr ts) (behind_part (readers k) c)) (then_read (exprs_at (readers k) ts) (behind_list c)) h (repeat_is k c ts) (halts_then (exprs_at (readers k) ts) (behind_list c) h x)

repeat_begins : (k : ℕ) (c : ExprTree) (ts : List Token) (es : List ExprTree) (mid : List Token) → exprs_at (readers k) ts ≡ done es mid → then_read ((readers k).expr ts) (behind_part (readers k) c) ≡ behind_list c es mid
repeat_begins k c ts es mid e = repeat_is k c ts ∙ then_done (exprs_at (readers k) ts) (behind_list c) es mid e

pub repeat_open : (k : ℕ) (c : ExprTree) (ts : List Token) (es : List ExprTree) (mid : List Token) (h : Halt) → exprs_at (readers k) ts ≡ done es mid → Lacks (mark_in BraceClose) mid → h ≡ Refused false (length mid)
    → HaltsAs (then_read ((readers k).expr ts) (behind_part (readers k) c)) h
repeat_open k c ts es mid h e w q = halts_by (then_read ((readers k).expr ts) (behind_part (readers k) c)) (behind_list c es mid) h (repeat_begins k c ts es mid e)
    (expect_halts (mark_in BraceClose) (λ _. closed BraceClose (repeat c (trees_of es))) mid h w q)

repeat_closes : (k : ℕ) (c : ExprTree) (ts : List Token) (es : List ExprTree) (mid : List Token) (s : Spot) (last : List Token) → exprs_at (readers k) ts ≡ done es mid → Takes (mark_in BraceClose) s mid last
    → then_read ((readers k).expr ts) (behind_part (readers k) c) ≡ closed BraceClose (repeat c (trees_of es)) last
repeat_closes k c ts es mid s last e w = repeat_begins k c ts es mid e ∙ next_takes (mark_in BraceClose) (λ _. closed BraceClose (repeat c (trees_of es))) refuse s mid last w

pub repeat_open_still : (k : ℕ) (c : ExprTree) (ts : List Token) (es : List ExprTree) (mid : List Token) (s : Spot) (last : List Token) (h : Halt) → exprs_at (readers k) ts ≡ done es mid → Takes (mark_in BraceClose) s mid last
    → Lacks (mark_in BraceClose) last → h ≡ Refused false (length last) → HaltsAs (then_read ((readers k).expr ts) (behind_part (readers k) c)) h
repeat_open_still k c ts es mid s last h e w v q = halts_by (then_read ((readers k).expr ts) (behind_part (readers k) c)) (closed BraceClose (repeat c (trees_of es)) last) h (repeat_closes k c ts es mid s last e w)
    (expect_halts (mark_in BraceClose) (λ _. done (repeat c (trees_of es))) last h v q)

pub repeat_done : (k : ℕ) (c : ExprTree) (ts : List Token) (es : List ExprTree) (mid : List Token) (s : Spot) (last : List Token) (t : Spot) (rest : List Token) (e : ExprTree) → exprs_at (readers k) ts ≡ done es mid
    → Takes (mark_in BraceClose) s mid last → Takes (mark_in BraceClose) t last rest → e ≡ repeat c (trees_of es) → then_read ((readers k).expr ts) (behind_part (readers k) c) ≡ done e rest
repeat_done k c ts es mid s last t rest e x w v q = repeat_closes k c ts es mid s last x w ∙ next_takes (mark_in BraceClose) (λ _. done (repeat c (trees_of es))) refuse t last rest v ∙ ap (λ y. done y rest) (sym q)

pub ruleset repeat_steps = (repeat_halts, repeat_open, repeat_open_still, repeat_done)

-- lists
pub exprs_first_halts : (k : ℕ) (ts : List Token) (h : Halt) → HaltsAs ((readers k).expr ts) h → HaltsAs (exprs_at (readers k) ts) h
exprs_first_halts k ts h x = halts_then ((readers k).expr ts) (λ a rest. then_read (more (mark_in Comma) (readers k).expr rest) (λ bs. done (a ∷ bs))) h x

pub exprs_begin : (k : ℕ) (ts : List Token) (a : ExprTree) (mid : List Token) → (readers k).expr ts ≡ done a mid → exprs_at (readers k) ts ≡ then_read (more (mark_in Comma) (readers k).expr mid) (λ bs. done (a ∷ bs))
exprs_begin k ts a mid e = then_done ((readers k).expr ts) (λ a rest. then_read (more (mark_in Comma) (readers k).expr rest) (λ bs. done (a ∷ bs))) a mid e

pub exprs_more_halts : (k : ℕ) (ts : List Token) (a : ExprTree) (mid : List Token) (h : Halt) → (readers k).expr ts ≡ done a mid → HaltsAs (more (mark_in Comma) (readers k).expr mid) h → HaltsAs (exprs_at (readers k) ts) h
exprs_more_halts k ts a mid h e x = halts_by (exprs_at (readers k) ts) (then_read (more (mark_in Comma) (readers k).expr mid) (λ bs. done (a ∷ bs))) h (exprs_begin k ts a mid e)
    (halts_then (more (mark_in Comma) (readers k).expr mid) (λ bs. done (a ∷ bs)) h x)

pub exprs_done : (k : ℕ) (ts : List Token) (a : ExprTree) (mid : List Token) (bs es : List ExprTree) (rest : List Token) → (readers k).expr ts ≡ done a mid → es ≡ a ∷ bs → more (mark_in Comma) (readers k).expr mid ≡ done bs rest
    → exprs_at (readers k) ts ≡ done es rest
exprs_done k ts a mid bs es rest e l x = exprs_begin k ts a mid e ∙ then_done (more (mark_in Comma) (readers k).expr mid) (λ bs. done (a ∷ bs)) bs rest x ∙ ap (λ y. done y rest) (sym l)

pub ruleset exprs_steps = (exprs_first_halts, exprs_more_halts, exprs_done)

-- how far a list is read behind its first expression
pub record Gathers (k : ℕ) (whole : Outcome (List ExprTree)) (a : ExprTree) (es : List Expr) (rest : List Token) : Type 0 where
  pub others : List ExprTree
  pub all : map tree_of es ≡ a ∷ others
  pub lists : Listing (mark_in Comma) (readers k).expr whole others rest

map_push : (es : List Expr) (x : Expr) → map tree_of (es ++ x ∷ []) ≡ map tree_of es ++ tree_of x ∷ []
map_push [] x = refl
map_push (e ∷ es) x = ap (λ z. tree_of e ∷ z) (map_push es x)

pub gathers_none : (k : ℕ) (x : Expr) (es : List Expr) (ts : List Token) → es ≡ x ∷ [] → Gathers k (more (mark_in Comma) (readers k).expr ts) (tree_of x) es ts
gathers_none k x es ts e = record { others = []; all = ap (map tree_of) e; lists = listing_none (mark_in Comma) (readers k).expr ts }

pub gathers_more : (k : ℕ) (whole : Outcome (List ExprTree)) (a : ExprTree) (es fs : List Expr) (ts : List Token) (s : Spot) (after : List Token) (x : Expr) (rest : List Token) → Gathers k whole a es ts
    → Takes (mark_in Comma) s ts after → (readers k).expr after ≡ done (tree_of x) rest → fs ≡ es ++ x ∷ [] → Gathers k whole a fs rest
gathers_more k whole a es fs ts s after x rest g w e l = record {
  others = g.others ++ tree_of x ∷ [];
  all = ap (map tree_of) l ∙ map_push es x ∙ ap (λ z. z ++ tree_of x ∷ []) g.all;
  lists = listing_more (mark_in Comma) (readers k).expr (local k).expr whole g.others s ts after (tree_of x) rest g.lists w e;
}

pub gathers_halts : (k : ℕ) (whole : Outcome (List ExprTree)) (a : ExprTree) (es : List Expr) (ts : List Token) (s : Spot) (after : List Token) (h : Halt) → Gathers k whole a es ts → Takes (mark_in Comma) s ts after
    → HaltsAs ((readers k).expr after) h → HaltsAs whole h
gathers_halts k whole a es ts s after h g w x = listing_halts (mark_in Comma) (readers k).expr whole g.others s ts after h g.lists w x

pub gathers_end : (k : ℕ) (whole : Outcome (List ExprTree)) (a : ExprTree) (es : List Expr) (ts : List Token) → Gathers k whole a es ts → Lacks (mark_in Comma) ts
    → (bs : List ExprTree) × (map tree_of es ≡ a ∷ bs) × (whole ≡ done bs ts)
gathers_end k whole a es ts g w = (g.others, g.all, listing_end (mark_in Comma) (readers k).expr whole g.others ts g.lists w)

heights_push : (bs : List ExprTree) (a : ExprTree) → heights (trees_of (bs ++ a ∷ [])) ≡ max (heights (trees_of bs)) (suc (height a))
heights_push [] a = omega arith
heights_push (b ∷ bs) a = let z = heights_push bs a in omega (arith, z)

pub tall_none : (x : Expr) (es : List Expr) (m : ℕ) → es ≡ x ∷ [] → m ≡ height (tree_of x) → heights (trees_of (map tree_of es)) ≡ m + 1
tall_none x es m e i = ap (λ z. heights (trees_of (map tree_of z))) e ∙ (let z : max (suc (height (tree_of x))) 0 ≡ m + 1 = omega (arith, i) in z)

pub tall_more : (es fs : List Expr) (x : Expr) (m n y : ℕ) → fs ≡ es ++ x ∷ [] → heights (trees_of (map tree_of es)) ≡ m + 1 → y ≡ height (tree_of x) → n ≡ max m y → heights (trees_of (map tree_of fs)) ≡ n + 1
tall_more es fs x m n y e i q l = ap (λ z. heights (trees_of (map tree_of z))) e ∙ ap (λ z. heights (trees_of z)) (map_push es x) ∙ heights_push (map tree_of es) (tree_of x)
    ∙ (let z : max (heights (trees_of (map tree_of es))) (suc (height (tree_of x))) ≡ n + 1 = omega (arith, i, q, l) in z)

pub ruleset more_steps = (gathers_none, gathers_more, gathers_halts, gathers_end, tall_none, tall_more)
