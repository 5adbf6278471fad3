-- The steps of the reader of statements: one for each way out of a function of the parser.
use Rattle.std.proofs.Common.{◌≡◌, ℕ, zero, suc, ◌+◌, ◌≤◌, Bool, true, false, List, [], ◌∷◌, ◌++◌, map, length, Option, Some, None, refl, sym, ap, subst, ◌∙◌, arith, rules, if◌then◌else◌}
use Rattle.std.proofs.lemmas.Bool.{false≢true}
use Rattle.cdc_base.specs.declared.words.Keyword.{Keyword}
use Rattle.cdc_base.specs.declared.words.Keyword.TheVariants.{If, Else, Case, CaseZ, EndCase, Default, Begin, End}
use Rattle.verilog_ast.specs.declared.CaseItem.{CaseItem}
use Rattle.verilog_ast.specs.declared.Delay.{Delay}
use Rattle.verilog_ast.specs.declared.Stmt.{Stmt}
use Rattle.verilog_exprs.specs.declared.halt.Halt.{Halt}
use Rattle.verilog_exprs.specs.declared.halt.Halt.TheVariants.{Refused}
use Rattle.verilog_exprs.specs.Halts.{HaltsAs}
use Rattle.verilog_exprs.specs.Next.{Takes, Lacks}
use Rattle.verilog_exprs.proofs.Steps.{halts_then, halts_by, halts_at, halts_for_memory, then_done, next_takes, next_lacks, deep_takes, enter_some, enter_none, enter_lacks, descend_some, descend_none, descend_lacks, expect_halts}
use Rattle.verilog_lex.specs.declared.token.Token.{Token}
use Rattle.verilog_lex.specs.declared.token.TokenKind.{TokenKind}
use Rattle.verilog_lex.specs.declared.token.TokenKind.TheVariants.{Word, Ident, Mark}
use Rattle.verilog_lex.specs.declared.marks.MarkKind.TheVariants.{ParenOpen, ParenClose, BraceOpen, Comma, Colon, Semicolon}
use Rattle.verilog_reading.specs.Lexemes.{Spot, spot_of, mark_in, word_in, mark_of, word_of, ident_in}
use Rattle.verilog_reading.specs.ExprTree.{ExprTree, TargetTree}
use Rattle.verilog_reading.specs.Outcome.{Outcome, done, stop, then_read, on_option, next, expect, refuse, deep, enter, descend}
use Rattle.verilog_reading.specs.Lists.{more, many}
use Rattle.verilog_reading.specs.Reader.{readers, closed}
use Rattle.verilog_reading.specs.TargetReader.{read_target}
use Rattle.verilog_reading.specs.StmtReader.{target_of, target_in, start_of, start_in, Ending, ending_of, ending_in, CaseHead, case_head, masks_of, as_case, case_of, case_in, Lower, lower, at_semicolon, at_assignment, in_set, in_else, at_else, in_if, in_case, label, arm_end, in_arm, more_labels, arm, case_end, behind_default, default_body, in_default, at_ending, more_items, first_item, block_end, block_rows, at_label_name, in_block, stmt_at, read_stmt}
use Rattle.verilog_reading.specs.StmtTree.{StmtTree, null, set, when, either, switch, switch_else, block, no_rows, stmt_tree_of, stmt_trees_of, Subject as SubjectTree, subject_of, LabelTree, ArmTree, arms_before, arms_of, takes_else}
use Rattle.verilog_reading.proofs.StmtLocal.{eats_stmts, eats_arms}
use Rattle.verilog_reading.proofs.Tests.{mark_is, word_is}
use Rattle.verilog_reading.proofs.StmtSays.{case_is}
use Rattle.verilog_stmts.specs.Forms.{condition_at, if_at, case_at, compound_at, labels_at, subject_tree, arm_tree_of, ArmsBehind}
use Rattle.verilog_stmts.specs.declared.make.Subject.{Subject}
use Rattle.verilog_stmts.specs.Levels.{lower_in}
use Rattle.verilog_stmts.proofs.AssignmentSteps.{GoesToValue}
use Rattle.verilog_stmts.proofs.ListSteps.{Rows, rows_behind, rows_none, rows_more, rows_halts, rows_end}

-- what begins a statement
pub target_starts : (ts rest : List Token) → Takes target_in tt ts rest → Takes start_in tt ts rest
target_starts ts rest w = record { token = w.token; is = w.is; finds = go w.token.kind w.finds }
  where
    go : (k : TokenKind) → target_of k ≡ Some tt → start_of k ≡ Some tt
    go (Ident n) e = refl
    go (Mark BraceOpen) e = refl
    go k e = absurd (search (rules, e))

pub semicolon_starts : (s : Spot) (ts rest : List Token) → Takes (mark_in Semicolon) s ts rest → Takes start_in tt ts rest
semicolon_starts s ts rest w = record { token = w.token; is = w.is; finds = ap start_in (mark_is Semicolon w.token s w.finds) }

pub word_starts : (x : Keyword) (s : Spot) (ts rest : List Token) → start_of (Word x) ≡ Some tt → Takes (word_in x) s ts rest → Takes start_in tt ts rest
word_starts x s ts rest e w = record { token = w.token; is = w.is; finds = ap start_in (word_is x w.token s w.finds) ∙ e }

pub case_found : (w : Keyword) (masks : Bool) (t : Token) → t.kind ≡ Word w → masks_of w ≡ Some masks → case_in t ≡ Some (record { masks = masks; spot = spot_of t })
case_found w masks t e q = ap (λ k. case_of k (spot_of t)) e ∙ ap (λ o. as_case o (spot_of t)) q

pub case_starts : (i : CaseHead) (ts rest : List Token) → Takes case_in i ts rest → Takes start_in tt ts rest
case_starts i ts rest w = record { token = w.token; is = w.is; finds = ap start_in (case_is w.token i w.finds) ∙ go i.masks }
  where
    go : (masks : Bool) → start_in (case_head (record { masks = masks; spot = i.spot })) ≡ Some tt
    go true = refl
    go false = refl

no_start : (k : TokenKind) (s : Spot) → mark_of Semicolon k s ≡ None → word_of If k s ≡ None → case_of k s ≡ None → word_of Begin k s ≡ None → target_of k ≡ None → start_of k ≡ None
no_start (Ident n) s a b c d e = absurd (search (rules, e))
no_start (Mark BraceOpen) s a b c d e = absurd (search (rules, e))
no_start (Mark Semicolon) s a b c d e = absurd (search (rules, a))
no_start (Word If) s a b c d e = absurd (search (rules, b))
no_start (Word Case) s a b c d e = absurd (search (rules, c))
no_start (Word CaseZ) s a b c d e = absurd (search (rules, c))
no_start (Word Begin) s a b c d e = absurd (search (rules, d))
no_start k s a b c d e = refl

pub none_starts : (ts : List Token) → Lacks (mark_in Semicolon) ts → Lacks (word_in If) ts → Lacks case_in ts → Lacks (word_in Begin) ts → Lacks target_in ts → Lacks start_in ts
none_starts [] a b c d e = record { free = tt }
none_starts (t ∷ ts) a b c d e = record { free = no_start t.kind (spot_of t) a.free b.free c.free d.free e.free }

-- the level below
pub lower_some : (k j : ℕ) → j + 1 ≡ k → lower_in k ≡ Some (lower j)
lower_some k j i = let z : k ≡ suc j = omega (arith, i) in ap lower_in z

pub lower_none : (k : ℕ) → k ≤ 0 → lower_in k ≡ None
lower_none k i = let z : k ≡ 0 = omega (arith, i) in ap lower_in z

stmt_is : (k : ℕ) (ts : List Token) → read_stmt k ts ≡ stmt_at (lower_in k) ts
unfolding read_stmt
stmt_is zero ts = refl
stmt_is (suc k) ts = refl

-- statements that take no `else`
pub takes_none : (s t : StmtTree) (rest : List Token) → s ≡ t → takes_else t ≡ false → takes_else s ≡ true → Lacks (word_in Else) rest
takes_none s t rest e f g = absurd (false≢true (sym f ∙ ap takes_else (sym e) ∙ g))

abbrev at_target : Option Lower → List Token → Outcome StmtTree
at_target down = descend down target_in in_set (compound_at down)

pub stmt_null : (k : ℕ) (ts : List Token) (s : Spot) (rest : List Token) (e : StmtTree) → Takes (mark_in Semicolon) s ts rest → e ≡ null → read_stmt k ts ≡ done e rest
stmt_null k ts s rest e w q = stmt_is k ts ∙ next_takes (mark_in Semicolon) (λ _. done null) (at_target (lower_in k)) s ts rest w ∙ ap (λ x. done x rest) (sym q)

stmt_others : (k : ℕ) (ts : List Token) → Lacks (mark_in Semicolon) ts → read_stmt k ts ≡ at_target (lower_in k) ts
stmt_others k ts w = stmt_is k ts ∙ next_lacks (mark_in Semicolon) (λ _. done null) (at_target (lower_in k)) ts w

pub stmt_deep : (k : ℕ) (ts rest : List Token) (h : Halt) → Lacks (mark_in Semicolon) ts → Takes target_in tt ts rest → k ≤ 0 → h ≡ Refused true (length ts) → HaltsAs (read_stmt k ts) h
stmt_deep k ts rest h v w i q = halts_at (read_stmt k ts) true ts h (stmt_others k ts v ∙ descend_none (lower_in k) target_in in_set (compound_at (lower_in k)) tt ts rest (lower_none k i) w) q

pub stmt_set : (k j : ℕ) (ts rest : List Token) → Lacks (mark_in Semicolon) ts → Takes target_in tt ts rest → j + 1 ≡ k → read_stmt k ts ≡ in_set (lower j) ts
stmt_set k j ts rest v w i = stmt_others k ts v ∙ descend_some (lower_in k) target_in in_set (compound_at (lower_in k)) (lower j) tt ts rest (lower_some k j i) w

pub stmt_compound : (k : ℕ) (ts : List Token) → Lacks (mark_in Semicolon) ts → Lacks target_in ts → read_stmt k ts ≡ compound_at (lower_in k) ts
stmt_compound k ts v w = stmt_others k ts v ∙ descend_lacks (lower_in k) target_in in_set (compound_at (lower_in k)) ts w

pub ruleset stmt_steps = (stmt_null, stmt_deep, takes_none)

abbrev at_begin : Option Lower → List Token → Outcome StmtTree
at_begin down = next (word_in Begin) (λ _. in_block down) refuse

abbrev at_case : Option Lower → List Token → Outcome StmtTree
at_case down = enter down case_in in_case (at_begin down)

pub compound_if_deep : (k : ℕ) (ts : List Token) (s : Spot) (inner : List Token) (h : Halt) → Takes (word_in If) s ts inner → k ≤ 0 → h ≡ Refused true (length ts) → HaltsAs (compound_at (lower_in k) ts) h
compound_if_deep k ts s inner h w i q = halts_at (compound_at (lower_in k) ts) true ts h (enter_none (lower_in k) (word_in If) in_if (at_case (lower_in k)) s ts inner (lower_none k i) w) q

pub compound_if : (k j : ℕ) (ts : List Token) (s : Spot) (inner : List Token) → Takes (word_in If) s ts inner → j + 1 ≡ k → compound_at (lower_in k) ts ≡ if_at (lower j) inner
compound_if k j ts s inner w i = enter_some (lower_in k) (word_in If) in_if (at_case (lower_in k)) (lower j) s ts inner (lower_some k j i) w

compound_case_at : (k : ℕ) (ts : List Token) → Lacks (word_in If) ts → compound_at (lower_in k) ts ≡ at_case (lower_in k) ts
compound_case_at k ts w = enter_lacks (lower_in k) (word_in If) in_if (at_case (lower_in k)) ts w

pub compound_case_deep : (k : ℕ) (ts : List Token) (i : CaseHead) (inner : List Token) (h : Halt) → Lacks (word_in If) ts → Takes case_in i ts inner → k ≤ 0 → h ≡ Refused true (length ts)
    → HaltsAs (compound_at (lower_in k) ts) h
compound_case_deep k ts i inner h v w z q = halts_at (compound_at (lower_in k) ts) true ts h (compound_case_at k ts v ∙ enter_none (lower_in k) case_in in_case (at_begin (lower_in k)) i ts inner (lower_none k z) w) q

pub compound_case : (k j : ℕ) (ts : List Token) (masks : Bool) (s : Spot) (inner : List Token) → Lacks (word_in If) ts → Takes case_in (record { masks = masks; spot = s }) ts inner → j + 1 ≡ k
    → compound_at (lower_in k) ts ≡ case_at (lower j) masks inner
compound_case k j ts masks s inner v w i = compound_case_at k ts v ∙ enter_some (lower_in k) case_in in_case (at_begin (lower_in k)) (lower j) (record { masks = masks; spot = s }) ts inner (lower_some k j i) w

compound_begin_at : (k : ℕ) (ts : List Token) → Lacks (word_in If) ts → Lacks case_in ts → compound_at (lower_in k) ts ≡ at_begin (lower_in k) ts
compound_begin_at k ts v w = compound_case_at k ts v ∙ enter_lacks (lower_in k) case_in in_case (at_begin (lower_in k)) ts w

pub compound_refused : (k : ℕ) (ts : List Token) (h : Halt) → Lacks (word_in If) ts → Lacks case_in ts → Lacks (word_in Begin) ts → h ≡ Refused false (length ts) → HaltsAs (compound_at (lower_in k) ts) h
compound_refused k ts h u v w q = halts_at (compound_at (lower_in k) ts) false ts h (compound_begin_at k ts u v ∙ next_lacks (word_in Begin) (λ _. in_block (lower_in k)) refuse ts w) q

pub compound_begin : (k : ℕ) (ts : List Token) (s : Spot) (inner : List Token) → Lacks (word_in If) ts → Lacks case_in ts → Takes (word_in Begin) s ts inner → compound_at (lower_in k) ts ≡ in_block (lower_in k) inner
compound_begin k ts s inner u v w = compound_begin_at k ts u v ∙ next_takes (word_in Begin) (λ _. in_block (lower_in k)) refuse s ts inner w

pub ruleset compound_steps = (compound_if_deep, compound_case_deep, compound_refused)

-- assignments
pub set_target_halts : (k : ℕ) (ts : List Token) (h : Halt) → HaltsAs (read_target k ts) h → HaltsAs (in_set (lower k) ts) h
set_target_halts k ts h x = halts_then (read_target k ts) (at_assignment (lower k)) h x

set_begins : (k : ℕ) (ts : List Token) (t : TargetTree) (mid : List Token) → read_target k ts ≡ done t mid → in_set (lower k) ts ≡ at_assignment (lower k) t mid
set_begins k ts t mid e = then_done (read_target k ts) (at_assignment (lower k)) t mid e

pub set_mark_halts : (k : ℕ) (ts : List Token) (t : TargetTree) (mid : List Token) (h : Halt) → read_target k ts ≡ done t mid → ((l : Lower) (t : TargetTree) → HaltsAs (at_assignment l t mid) h) → HaltsAs (in_set (lower k) ts) h
set_mark_halts k ts t mid h e x = halts_by (in_set (lower k) ts) (at_assignment (lower k) t mid) h (set_begins k ts t mid e) (x (lower k) t)

set_value : (k : ℕ) (ts : List Token) (t : TargetTree) (mid : List Token) (b : Bool) (d : Option Delay) (inner : List Token) → read_target k ts ≡ done t mid → GoesToValue b d mid inner
    → in_set (lower k) ts ≡ then_read ((readers k).expr inner) (at_semicolon b t d)
set_value k ts t mid b d inner e x = set_begins k ts t mid e ∙ x (lower k) t

pub set_value_halts : (k : ℕ) (ts : List Token) (t : TargetTree) (mid : List Token) (b : Bool) (d : Option Delay) (inner : List Token) (h : Halt) → read_target k ts ≡ done t mid → GoesToValue b d mid inner
    → HaltsAs ((readers k).expr inner) h → HaltsAs (in_set (lower k) ts) h
set_value_halts k ts t mid b d inner h e x y = halts_by (in_set (lower k) ts) (then_read ((readers k).expr inner) (at_semicolon b t d)) h (set_value k ts t mid b d inner e x) (halts_then ((readers k).expr inner) (at_semicolon b t d) h y)

set_ends : (k : ℕ) (ts : List Token) (t : TargetTree) (mid : List Token) (b : Bool) (d : Option Delay) (inner : List Token) (v : ExprTree) (last : List Token) → read_target k ts ≡ done t mid → GoesToValue b d mid inner
    → (readers k).expr inner ≡ done v last → in_set (lower k) ts ≡ at_semicolon b t d v last
set_ends k ts t mid b d inner v last e x y = set_value k ts t mid b d inner e x ∙ then_done ((readers k).expr inner) (at_semicolon b t d) v last y

pub set_open : (k : ℕ) (ts : List Token) (t : TargetTree) (mid : List Token) (b : Bool) (d : Option Delay) (inner : List Token) (v : ExprTree) (last : List Token) (h : Halt) → read_target k ts ≡ done t mid → GoesToValue b d mid inner
    → (readers k).expr inner ≡ done v last → Lacks (mark_in Semicolon) last → h ≡ Refused false (length last) → HaltsAs (in_set (lower k) ts) h
set_open k ts t mid b d inner v last h e x y w q = halts_by (in_set (lower k) ts) (at_semicolon b t d v last) h (set_ends k ts t mid b d inner v last e x y) (expect_halts (mark_in Semicolon) (λ _. done (set b d t v)) last h w q)

pub set_done : (k : ℕ) (ts : List Token) (t : TargetTree) (mid : List Token) (b : Bool) (d : Option Delay) (inner : List Token) (v : ExprTree) (last : List Token) (s : Spot) (rest : List Token) (z : StmtTree) → read_target k ts ≡ done t mid
    → GoesToValue b d mid inner → (readers k).expr inner ≡ done v last → Takes (mark_in Semicolon) s last rest → z ≡ set b d t v → in_set (lower k) ts ≡ done z rest
set_done k ts t mid b d inner v last s rest z e x y w q = set_ends k ts t mid b d inner v last e x y ∙ next_takes (mark_in Semicolon) (λ _. done (set b d t v)) refuse s last rest w ∙ ap (λ z. done z rest) (sym q)

pub ruleset set_steps = (set_target_halts, set_mark_halts, set_value_halts, set_open, set_done, takes_none)

-- conditions
abbrev close_at : ExprTree → List Token → Outcome ExprTree
close_at c = closed ParenClose c

abbrev open_at : Lower → Spot → List Token → Outcome ExprTree
open_at l _ ts = then_read (l.exprs.expr ts) close_at

pub condition_unopened : (k : ℕ) (ts : List Token) (h : Halt) → Lacks (mark_in ParenOpen) ts → h ≡ Refused false (length ts) → HaltsAs (condition_at (lower k) ts) h
condition_unopened k ts h w q = expect_halts (mark_in ParenOpen) (open_at (lower k)) ts h w q

condition_enters : (k : ℕ) (ts : List Token) (s : Spot) (inner : List Token) → Takes (mark_in ParenOpen) s ts inner → condition_at (lower k) ts ≡ then_read ((readers k).expr inner) close_at
condition_enters k ts s inner w = next_takes (mark_in ParenOpen) (open_at (lower k)) refuse s ts inner w

pub condition_halts : (k : ℕ) (ts : List Token) (s : Spot) (inner : List Token) (h : Halt) → Takes (mark_in ParenOpen) s ts inner → HaltsAs ((readers k).expr inner) h → HaltsAs (condition_at (lower k) ts) h
condition_halts k ts s inner h w x = halts_by (condition_at (lower k) ts) (then_read ((readers k).expr inner) close_at) h (condition_enters k ts s inner w) (halts_then ((readers k).expr inner) close_at h x)

condition_ends : (k : ℕ) (ts : List Token) (s : Spot) (inner : List Token) (c : ExprTree) (mid : List Token) → Takes (mark_in ParenOpen) s ts inner → (readers k).expr inner ≡ done c mid → condition_at (lower k) ts ≡ close_at c mid
condition_ends k ts s inner c mid w e = condition_enters k ts s inner w ∙ then_done ((readers k).expr inner) close_at c mid e

pub condition_open : (k : ℕ) (ts : List Token) (s : Spot) (inner : List Token) (c : ExprTree) (mid : List Token) (h : Halt) → Takes (mark_in ParenOpen) s ts inner → (readers k).expr inner ≡ done c mid → Lacks (mark_in ParenClose) mid
    → h ≡ Refused false (length mid) → HaltsAs (condition_at (lower k) ts) h
condition_open k ts s inner c mid h w e v q = halts_by (condition_at (lower k) ts) (close_at c mid) h (condition_ends k ts s inner c mid w e) (expect_halts (mark_in ParenClose) (λ _. done c) mid h v q)

pub condition_done : (k : ℕ) (ts : List Token) (s : Spot) (inner : List Token) (c : ExprTree) (mid : List Token) (t : Spot) (rest : List Token) → Takes (mark_in ParenOpen) s ts inner → (readers k).expr inner ≡ done c mid
    → Takes (mark_in ParenClose) t mid rest → condition_at (lower k) ts ≡ done c rest
condition_done k ts s inner c mid t rest w e v = condition_ends k ts s inner c mid w e ∙ next_takes (mark_in ParenClose) (λ _. done c) refuse t mid rest v

pub ruleset condition_steps = (condition_unopened, condition_halts, condition_open, condition_done)

-- a form that begins with a condition
behind_close : (f : ExprTree → List Token → Outcome StmtTree) (c : ExprTree) (ts : List Token) → expect (mark_in ParenClose) (λ _. f c) ts ≡ then_read (close_at c ts) f
behind_close f c [] = refl
behind_close f c (t ∷ ts) = go (mark_in ParenClose t)
  where
    go : (o : Option Spot) → on_option o (λ _. f c ts) (stop false (t ∷ ts)) ≡ then_read (on_option o (λ _. done c ts) (stop false (t ∷ ts))) f
    go (Some s) = refl
    go None = refl

behind_expr : (f : ExprTree → List Token → Outcome StmtTree) (o : Outcome ExprTree) → then_read o (λ c. expect (mark_in ParenClose) (λ _. f c)) ≡ then_read (then_read o close_at) f
behind_expr f (done c rest) = behind_close f c rest
behind_expr f (stop d rest) = refl

behind_condition : (k : ℕ) (f : ExprTree → List Token → Outcome StmtTree) (ts : List Token)
    → expect (mark_in ParenOpen) (λ _ ts. then_read ((readers k).expr ts) (λ c. expect (mark_in ParenClose) (λ _. f c))) ts ≡ then_read (condition_at (lower k) ts) f
behind_condition k f [] = refl
behind_condition k f (t ∷ ts) = go (mark_in ParenOpen t)
  where
    go : (o : Option Spot) → on_option o (λ _. then_read ((readers k).expr ts) (λ c. expect (mark_in ParenClose) (λ _. f c))) (stop false (t ∷ ts))
        ≡ then_read (on_option o (λ _. then_read ((readers k).expr ts) close_at) (stop false (t ∷ ts))) f
    go (Some s) = behind_expr f ((readers k).expr ts)
    go None = refl

-- `if`
abbrev branch_at : ℕ → ExprTree → List Token → Outcome StmtTree
branch_at k c ts = then_read (read_stmt k ts) (at_else (lower k) c)

if_is : (k : ℕ) (ts : List Token) → if_at (lower k) ts ≡ then_read (condition_at (lower k) ts) (branch_at k)
if_is k ts = behind_condition k (branch_at k) ts

pub if_condition_halts : (k : ℕ) (ts : List Token) (h : Halt) → HaltsAs (condition_at (lower k) ts) h → HaltsAs (if_at (lower k) ts) h
if_condition_halts k ts h x = halts_by (if_at (lower k) ts) (then_read (condition_at (lower k) ts) (branch_at k)) h (if_is k ts) (halts_then (condition_at (lower k) ts) (branch_at k) h x)

if_branch : (k : ℕ) (ts : List Token) (c : ExprTree) (mid : List Token) → condition_at (lower k) ts ≡ done c mid → if_at (lower k) ts ≡ branch_at k c mid
if_branch k ts c mid e = if_is k ts ∙ then_done (condition_at (lower k) ts) (branch_at k) c mid e

pub if_branch_halts : (k : ℕ) (ts : List Token) (c : ExprTree) (mid : List Token) (h : Halt) → condition_at (lower k) ts ≡ done c mid → HaltsAs (read_stmt k mid) h → HaltsAs (if_at (lower k) ts) h
if_branch_halts k ts c mid h e x = halts_by (if_at (lower k) ts) (branch_at k c mid) h (if_branch k ts c mid e) (halts_then (read_stmt k mid) (at_else (lower k) c) h x)

if_else : (k : ℕ) (ts : List Token) (c : ExprTree) (mid : List Token) (y : StmtTree) (last : List Token) → condition_at (lower k) ts ≡ done c mid → read_stmt k mid ≡ done y last → if_at (lower k) ts ≡ at_else (lower k) c y last
if_else k ts c mid y last e f = if_branch k ts c mid e ∙ then_done (read_stmt k mid) (at_else (lower k) c) y last f

without_else : (l : Lower) (c : ExprTree) (y : StmtTree) (ts : List Token) → Lacks (word_in Else) ts → at_else l c y ts ≡ done (when c y) ts
without_else l c y ts w = go (takes_else y)
  where
    go : (b : Bool) → (if b then done (when c y) else next (word_in Else) (in_else l c y) (done (when c y))) ts ≡ done (when c y) ts
    go true = refl
    go false = next_lacks (word_in Else) (in_else l c y) (done (when c y)) ts w

both : (ts : List Token) (s : Spot) (rest : List Token) → Takes (word_in Else) s ts rest → Lacks (word_in Else) ts → ⊥
both ts s rest w v = let z : word_in Else w.token ≡ None = (subst (λ x. Lacks (word_in Else) x) w.is v).free in let e : Some s ≡ None = sym w.finds ∙ z in absurd (search (rules, e))

with_else : (l : Lower) (c : ExprTree) (y : StmtTree) (ts : List Token) (s : Spot) (rest : List Token) → (takes_else y ≡ true → Lacks (word_in Else) ts) → Takes (word_in Else) s ts rest
    → at_else l c y ts ≡ then_read (l.stmt rest) (λ z. done (either c y z))
with_else l c y ts s rest n w = go (takes_else y) refl
  where
    go : (b : Bool) → takes_else y ≡ b → (if b then done (when c y) else next (word_in Else) (in_else l c y) (done (when c y))) ts ≡ then_read (l.stmt rest) (λ z. done (either c y z))
    go true e = absurd (both ts s rest w (n e))
    go false e = next_takes (word_in Else) (in_else l c y) (done (when c y)) s ts rest w

pub if_when : (k : ℕ) (ts : List Token) (c : ExprTree) (mid : List Token) (y : StmtTree) (last : List Token) (d : StmtTree) → condition_at (lower k) ts ≡ done c mid → read_stmt k mid ≡ done y last → Lacks (word_in Else) last
    → d ≡ when c y → if_at (lower k) ts ≡ done d last
if_when k ts c mid y last d e f w q = if_else k ts c mid y last e f ∙ without_else (lower k) c y last w ∙ ap (λ z. done z last) (sym q)

if_other : (k : ℕ) (ts : List Token) (c : ExprTree) (mid : List Token) (y : StmtTree) (last : List Token) (s : Spot) (inner : List Token) → condition_at (lower k) ts ≡ done c mid → read_stmt k mid ≡ done y last
    → (takes_else y ≡ true → Lacks (word_in Else) last) → Takes (word_in Else) s last inner → if_at (lower k) ts ≡ then_read (read_stmt k inner) (λ z. done (either c y z))
if_other k ts c mid y last s inner e f n w = if_else k ts c mid y last e f ∙ with_else (lower k) c y last s inner n w

pub if_other_halts : (k : ℕ) (ts : List Token) (c : ExprTree) (mid : List Token) (y : StmtTree) (last : List Token) (s : Spot) (inner : List Token) (h : Halt) → condition_at (lower k) ts ≡ done c mid → read_stmt k mid ≡ done y last
    → (takes_else y ≡ true → Lacks (word_in Else) last) → Takes (word_in Else) s last inner → HaltsAs (read_stmt k inner) h → HaltsAs (if_at (lower k) ts) h
if_other_halts k ts c mid y last s inner h e f n w x = halts_by (if_at (lower k) ts) (then_read (read_stmt k inner) (λ z. done (either c y z))) h (if_other k ts c mid y last s inner e f n w)
    (halts_then (read_stmt k inner) (λ z. done (either c y z)) h x)

pub if_either : (k : ℕ) (ts : List Token) (c : ExprTree) (mid : List Token) (y : StmtTree) (last : List Token) (s : Spot) (inner : List Token) (z : StmtTree) (rest : List Token) (d : StmtTree) → condition_at (lower k) ts ≡ done c mid
    → read_stmt k mid ≡ done y last → (takes_else y ≡ true → Lacks (word_in Else) last) → Takes (word_in Else) s last inner → read_stmt k inner ≡ done z rest → d ≡ either c y z → if_at (lower k) ts ≡ done d rest
if_either k ts c mid y last s inner z rest d e f n w x q = if_other k ts c mid y last s inner e f n w ∙ then_done (read_stmt k inner) (λ z. done (either c y z)) z rest x ∙ ap (λ x. done x rest) (sym q)

pub lacks_when : (s : StmtTree) (c : ExprTree) (y : StmtTree) (rest : List Token) → Lacks (word_in Else) rest → takes_else s ≡ true → Lacks (word_in Else) rest
lacks_when s c y rest w e = w

pub lacks_either : (s : StmtTree) (c : ExprTree) (y z : StmtTree) (rest : List Token) → s ≡ either c y z → (takes_else z ≡ true → Lacks (word_in Else) rest) → takes_else s ≡ true → Lacks (word_in Else) rest
lacks_either s c y z rest e n f = n (sym (ap takes_else e) ∙ f)

pub ruleset if_steps = (if_condition_halts, if_branch_halts, if_when, if_other_halts, if_either, lacks_either, halts_for_memory)

-- items of a `case`
abbrev behind_labels : ℕ → List LabelTree → List Token → Outcome ArmTree
behind_labels k ls = expect (mark_in Colon) (in_arm (lower k) ls)

arm_groups : (k : ℕ) (m : Bool) (o : Outcome LabelTree) → then_read o (more_labels (lower k) m) ≡ then_read (then_read o (λ a rest. then_read (more (mark_in Comma) (label (lower k) m) rest) (λ bs. done (a ∷ bs)))) (behind_labels k)
arm_groups k m (stop d rest) = refl
arm_groups k m (done a rest) = go (more (mark_in Comma) (label (lower k) m) rest)
  where
    go : (m : Outcome (List LabelTree)) → then_read m (λ bs. expect (mark_in Colon) (in_arm (lower k) (a ∷ bs))) ≡ then_read (then_read m (λ bs. done (a ∷ bs))) (behind_labels k)
    go (stop d last) = refl
    go (done bs last) = refl

arm_is : (k : ℕ) (m : Bool) (ts : List Token) → arm (lower k) m ts ≡ then_read (labels_at (lower k) m ts) (behind_labels k)
arm_is k m ts = arm_groups k m (label (lower k) m ts)

pub arm_labels_halt : (k : ℕ) (m : Bool) (ts : List Token) (h : Halt) → HaltsAs (labels_at (lower k) m ts) h → HaltsAs (arm (lower k) m ts) h
arm_labels_halt k m ts h x = halts_by (arm (lower k) m ts) (then_read (labels_at (lower k) m ts) (behind_labels k)) h (arm_is k m ts) (halts_then (labels_at (lower k) m ts) (behind_labels k) h x)

arm_colon : (k : ℕ) (m : Bool) (ts : List Token) (ls : List LabelTree) (mid : List Token) → labels_at (lower k) m ts ≡ done ls mid → arm (lower k) m ts ≡ behind_labels k ls mid
arm_colon k m ts ls mid e = arm_is k m ts ∙ then_done (labels_at (lower k) m ts) (behind_labels k) ls mid e

pub arm_colon_halts : (k : ℕ) (m : Bool) (ts : List Token) (ls : List LabelTree) (mid : List Token) (h : Halt) → labels_at (lower k) m ts ≡ done ls mid → Lacks (mark_in Colon) mid → h ≡ Refused false (length mid) → HaltsAs (arm (lower k) m ts) h
arm_colon_halts k m ts ls mid h e w q = halts_by (arm (lower k) m ts) (behind_labels k ls mid) h (arm_colon k m ts ls mid e) (expect_halts (mark_in Colon) (in_arm (lower k) ls) mid h w q)

arm_body : (k : ℕ) (m : Bool) (ts : List Token) (ls : List LabelTree) (mid : List Token) (s : Spot) (inner : List Token) → labels_at (lower k) m ts ≡ done ls mid → Takes (mark_in Colon) s mid inner
    → arm (lower k) m ts ≡ then_read (read_stmt k inner) (arm_end ls)
arm_body k m ts ls mid s inner e w = arm_colon k m ts ls mid e ∙ next_takes (mark_in Colon) (in_arm (lower k) ls) refuse s mid inner w

pub arm_body_halts : (k : ℕ) (m : Bool) (ts : List Token) (ls : List LabelTree) (mid : List Token) (s : Spot) (inner : List Token) (h : Halt) → labels_at (lower k) m ts ≡ done ls mid → Takes (mark_in Colon) s mid inner
    → HaltsAs (read_stmt k inner) h → HaltsAs (arm (lower k) m ts) h
arm_body_halts k m ts ls mid s inner h e w x = halts_by (arm (lower k) m ts) (then_read (read_stmt k inner) (arm_end ls)) h (arm_body k m ts ls mid s inner e w) (halts_then (read_stmt k inner) (arm_end ls) h x)

pub arm_done : (k : ℕ) (m : Bool) (ts : List Token) (ls : List LabelTree) (mid : List Token) (s : Spot) (inner : List Token) (b : StmtTree) (rest : List Token) (d : ArmTree) → labels_at (lower k) m ts ≡ done ls mid → Takes (mark_in Colon) s mid inner
    → read_stmt k inner ≡ done b rest → d ≡ record { labels = ls; body = b } → arm (lower k) m ts ≡ done d rest
arm_done k m ts ls mid s inner b rest d e w x q = arm_body k m ts ls mid s inner e w ∙ then_done (read_stmt k inner) (arm_end ls) b rest x ∙ ap (λ z. done z rest) (sym q)

pub ruleset arm_steps = (arm_labels_halt, arm_colon_halts, arm_body_halts, arm_done)

-- what ends the items before `default`
end_ends : (s : Spot) (ts rest : List Token) → Takes (word_in EndCase) s ts rest → Takes ending_in (record { last = true; spot = s }) ts rest
end_ends s ts rest w = record { token = w.token; is = w.is; finds = ap ending_in (word_is EndCase w.token s w.finds) }

default_ends : (s : Spot) (ts rest : List Token) → Takes (word_in Default) s ts rest → Takes ending_in (record { last = false; spot = s }) ts rest
default_ends s ts rest w = record { token = w.token; is = w.is; finds = ap ending_in (word_is Default w.token s w.finds) }

no_ending : (k : TokenKind) (s : Spot) → word_of EndCase k s ≡ None → word_of Default k s ≡ None → ending_of k s ≡ None
no_ending (Word EndCase) s e f = absurd (search (rules, e))
no_ending (Word Default) s e f = absurd (search (rules, f))
no_ending k s e f = refl

none_ends : (ts : List Token) → Lacks (word_in EndCase) ts → Lacks (word_in Default) ts → Lacks ending_in ts
none_ends [] v w = record { free = tt }
none_ends (t ∷ ts) v w = record { free = no_ending t.kind (spot_of t) v.free w.free }

-- how far the items before `default` are read
pub record Items (k : ℕ) (c : SubjectTree) (whole : Outcome StmtTree) (xs : List CaseItem) (rest : List Token) : Type 0 where
  pub first : ArmTree
  pub start : List Token
  pub whole_is : whole ≡ then_read (many ending_in (arm (lower k) c.masks) start) (at_ending (lower k) c first)
  pub lists : Rows arm_tree_of ending_in (arm (lower k) c.masks) (many ending_in (arm (lower k) c.masks) start) (first ∷ []) xs rest

pub items_first_halts : (k : ℕ) (c : SubjectTree) (ts : List Token) (h : Halt) → HaltsAs (arm (lower k) c.masks ts) h → HaltsAs (first_item (lower k) c ts) h
items_first_halts k c ts h x = halts_then (arm (lower k) c.masks ts) (more_items (lower k) c) h x

pub items_first : (k : ℕ) (c : SubjectTree) (ts : List Token) (x : CaseItem) (xs : List CaseItem) (rest : List Token) → arm (lower k) c.masks ts ≡ done (arm_tree_of x) rest → xs ≡ x ∷ [] → Items k c (first_item (lower k) c ts) xs rest
items_first k c ts x xs rest e q = record {
  first = arm_tree_of x;
  start = rest;
  whole_is = then_done (arm (lower k) c.masks ts) (more_items (lower k) c) (arm_tree_of x) rest e;
  lists = subst (λ b. Rows arm_tree_of ending_in (arm (lower k) c.masks) (many ending_in (arm (lower k) c.masks) rest) b xs rest) (ap (map arm_tree_of) q) (rows_behind arm_tree_of ending_in (arm (lower k) c.masks) xs rest);
}

pub items_more : (k : ℕ) (c : SubjectTree) (whole : Outcome StmtTree) (xs ys : List CaseItem) (ts : List Token) (x : CaseItem) (rest : List Token) → Items k c whole xs ts → Lacks (word_in EndCase) ts → Lacks (word_in Default) ts
    → arm (lower k) c.masks ts ≡ done (arm_tree_of x) rest → ys ≡ xs ++ x ∷ [] → Items k c whole ys rest
items_more k c whole xs ys ts x rest g v w e q = record {
  first = g.first;
  start = g.start;
  whole_is = g.whole_is;
  lists = rows_more arm_tree_of ending_in (arm (lower k) c.masks) (eats_arms k c.masks) (many ending_in (arm (lower k) c.masks) g.start) (g.first ∷ []) xs ys ts x rest g.lists (none_ends ts v w) e q;
}

pub items_halt : (k : ℕ) (c : SubjectTree) (whole : Outcome StmtTree) (xs : List CaseItem) (ts : List Token) (h : Halt) → Items k c whole xs ts → Lacks (word_in EndCase) ts → Lacks (word_in Default) ts → HaltsAs (arm (lower k) c.masks ts) h
    → HaltsAs whole h
items_halt k c whole xs ts h g v w x = halts_by whole (then_read (many ending_in (arm (lower k) c.masks) g.start) (at_ending (lower k) c g.first)) h g.whole_is
    (halts_then (many ending_in (arm (lower k) c.masks) g.start) (at_ending (lower k) c g.first) h
    (rows_halts arm_tree_of ending_in (arm (lower k) c.masks) (many ending_in (arm (lower k) c.masks) g.start) (g.first ∷ []) xs ts h g.lists (none_ends ts v w) x))

items_stop : (k : ℕ) (c : SubjectTree) (whole : Outcome StmtTree) (xs : List CaseItem) (ts : List Token) (e : Ending) (rest : List Token) → (g : Items k c whole xs ts) → Takes ending_in e ts rest
    → whole ≡ at_ending (lower k) c g.first (g.lists.rows, e) rest
items_stop k c whole xs ts e rest g w = g.whole_is ∙ then_done (many ending_in (arm (lower k) c.masks) g.start) (at_ending (lower k) c g.first) (g.lists.rows, e) rest
    (rows_end arm_tree_of ending_in (arm (lower k) c.masks) (many ending_in (arm (lower k) c.masks) g.start) (g.first ∷ []) xs e ts rest g.lists w)

pub items_end : (k : ℕ) (x y : Subject) (whole : Outcome StmtTree) (xs : List CaseItem) (ts : List Token) (s : Spot) (rest : List Token) (d : StmtTree) → Items k (subject_tree y) whole xs ts → Takes (word_in EndCase) s ts rest
    → d ≡ switch (subject_tree x) (arms_of (map arm_tree_of xs)) → x ≡ y → whole ≡ done d rest
items_end k x y whole xs ts s rest d g w q e = items_stop k (subject_tree y) whole xs ts (record { last = true; spot = s }) rest g (end_ends s ts rest w)
    ∙ ap (λ z. done (switch (subject_tree y) (arms_of z)) rest) (sym g.lists.all) ∙ ap (λ z. done z rest) (sym (q ∙ ap (λ z. switch (subject_tree z) (arms_of (map arm_tree_of xs))) e))

pub items_default : (k : ℕ) (x y : Subject) (whole : Outcome StmtTree) (xs : List CaseItem) (ts : List Token) (s : Spot) (inner : List Token) → Items k (subject_tree y) whole xs ts → Takes (word_in Default) s ts inner → x ≡ y
    → whole ≡ in_default (lower k) (subject_tree x) (map arm_tree_of xs) inner
items_default k x y whole xs ts s inner g w e = items_stop k (subject_tree y) whole xs ts (record { last = false; spot = s }) inner g (default_ends s ts inner w)
    ∙ ap (λ z. in_default (lower k) (subject_tree y) z inner) (sym g.lists.all) ∙ ap (λ z. in_default (lower k) (subject_tree z) (map arm_tree_of xs) inner) (sym e)

pub ruleset items_steps = (items_first_halts, items_first, items_more, items_halt, items_end, halts_for_memory, takes_none)

-- `case`
abbrev subject_at : ℕ → SubjectTree → List Token → Outcome StmtTree
subject_at k c = next (word_in Default) (λ _. in_default (lower k) c []) (first_item (lower k) c)

abbrev of_subject : ℕ → Bool → ExprTree → List Token → Outcome StmtTree
of_subject k m c = subject_at k (subject_of m c)

case_reads : (k : ℕ) (m : Bool) (ts : List Token) → case_at (lower k) m ts ≡ then_read (condition_at (lower k) ts) (of_subject k m)
case_reads k m ts = behind_condition k (of_subject k m) ts

pub case_subject_halts : (k : ℕ) (m : Bool) (ts : List Token) (h : Halt) → HaltsAs (condition_at (lower k) ts) h → HaltsAs (case_at (lower k) m ts) h
case_subject_halts k m ts h x = halts_by (case_at (lower k) m ts) (then_read (condition_at (lower k) ts) (of_subject k m)) h (case_reads k m ts) (halts_then (condition_at (lower k) ts) (of_subject k m) h x)

case_begins : (k : ℕ) (m : Bool) (ts : List Token) (c : ExprTree) (mid : List Token) → condition_at (lower k) ts ≡ done c mid → case_at (lower k) m ts ≡ of_subject k m c mid
case_begins k m ts c mid e = case_reads k m ts ∙ then_done (condition_at (lower k) ts) (of_subject k m) c mid e

pub case_default : (k : ℕ) (m : Bool) (ts : List Token) (c : ExprTree) (mid : List Token) (s : Spot) (inner : List Token) (xs : List CaseItem) → condition_at (lower k) ts ≡ done c mid → Takes (word_in Default) s mid inner → xs ≡ []
    → case_at (lower k) m ts ≡ in_default (lower k) (subject_of m c) (map arm_tree_of xs) inner
case_default k m ts c mid s inner xs e w q = case_begins k m ts c mid e ∙ next_takes (word_in Default) (λ _. in_default (lower k) (subject_of m c) []) (first_item (lower k) (subject_of m c)) s mid inner w
    ∙ ap (λ z. in_default (lower k) (subject_of m c) (map arm_tree_of z) inner) (sym q)

pub case_items : (k : ℕ) (m : Bool) (ts : List Token) (c : ExprTree) (mid : List Token) → condition_at (lower k) ts ≡ done c mid → Lacks (word_in Default) mid → case_at (lower k) m ts ≡ first_item (lower k) (subject_of m c) mid
case_items k m ts c mid e w = case_begins k m ts c mid e ∙ next_lacks (word_in Default) (λ _. in_default (lower k) (subject_of m c) []) (first_item (lower k) (subject_of m c)) mid w

pub ruleset case_steps = (case_subject_halts, halts_for_memory)

-- behind `default`
pub colon_goes : (ts : List Token) (s : Spot) (rest : List Token) → Takes (mark_in Colon) s ts rest → (l : Lower) (c : SubjectTree) (b : List ArmTree) → in_default l c b ts ≡ default_body l c b rest
colon_goes ts s rest w l c b = next_takes (mark_in Colon) (λ _. default_body l c b) (default_body l c b) s ts rest w

pub no_colon_goes : (ts : List Token) → Lacks (mark_in Colon) ts → (l : Lower) (c : SubjectTree) (b : List ArmTree) → in_default l c b ts ≡ default_body l c b ts
no_colon_goes ts w l c b = next_lacks (mark_in Colon) (λ _. default_body l c b) (default_body l c b) ts w

pub ruleset colon_steps = (colon_goes, no_colon_goes)

abbrev pub GoesToBody : List Token → List Token → Type 0
GoesToBody ts inner = (l : Lower) (c : SubjectTree) (b : List ArmTree) → in_default l c b ts ≡ default_body l c b inner

pub default_body_halts : (k : ℕ) (c : SubjectTree) (b : List ArmTree) (ts inner : List Token) (h : Halt) → GoesToBody ts inner → HaltsAs (read_stmt k inner) h → HaltsAs (in_default (lower k) c b ts) h
default_body_halts k c b ts inner h e x = halts_by (in_default (lower k) c b ts) (default_body (lower k) c b inner) h (e (lower k) c b) (halts_then (read_stmt k inner) (behind_default (lower k) c b) h x)

default_rows : (k : ℕ) (c : SubjectTree) (b : List ArmTree) (ts inner : List Token) (d : StmtTree) (mid : List Token) → GoesToBody ts inner → read_stmt k inner ≡ done d mid
    → in_default (lower k) c b ts ≡ then_read (many (word_in EndCase) (arm (lower k) c.masks) mid) (case_end c b d)
default_rows k c b ts inner d mid e x = e (lower k) c b ∙ then_done (read_stmt k inner) (behind_default (lower k) c b) d mid x

pub default_rows_halt : (k : ℕ) (c : SubjectTree) (b : List ArmTree) (ts inner : List Token) (d : StmtTree) (mid : List Token) (h : Halt) → GoesToBody ts inner → read_stmt k inner ≡ done d mid
    → HaltsAs (many (word_in EndCase) (arm (lower k) c.masks) mid) h → HaltsAs (in_default (lower k) c b ts) h
default_rows_halt k c b ts inner d mid h e x y = halts_by (in_default (lower k) c b ts) (then_read (many (word_in EndCase) (arm (lower k) c.masks) mid) (case_end c b d)) h (default_rows k c b ts inner d mid e x)
    (halts_then (many (word_in EndCase) (arm (lower k) c.masks) mid) (case_end c b d) h y)

arms_join : (bs cs : List ArmTree) → arms_of (bs ++ cs) ≡ arms_before bs (arms_of cs)
arms_join [] cs = refl
arms_join (b ∷ bs) cs = search (rules, arms_join bs cs)

pub default_done : (k : ℕ) (c : SubjectTree) (b : List ArmTree) (ts inner : List Token) (d : StmtTree) (mid : List Token) (all : List ArmTree) (rest : List Token) (e : StmtTree) → GoesToBody ts inner → read_stmt k inner ≡ done d mid
    → ArmsBehind (lower k) c.masks mid b all rest → e ≡ switch_else c (arms_of all) d → in_default (lower k) c b ts ≡ done e rest
default_done k c b ts inner d mid all rest e f x y q = default_rows k c b ts inner d mid f x ∙ then_done (many (word_in EndCase) (arm (lower k) c.masks) mid) (case_end c b d) (y.rows, y.spot) rest y.reads
    ∙ ap (λ z. done (switch_else c z d) rest) (sym (arms_join b y.rows)) ∙ ap (λ z. done (switch_else c (arms_of z) d) rest) (sym y.joined) ∙ ap (λ z. done z rest) (sym q)

pub ruleset default_steps = (default_body_halts, default_rows_halt, default_done, halts_for_memory, takes_none)

abbrev pub ArmRows : ℕ → Bool → Outcome (List ArmTree × Spot) → List ArmTree → List CaseItem → List Token → Type 0
ArmRows k m whole base xs rest = Rows arm_tree_of (word_in EndCase) (arm (lower k) m) whole base xs rest

pub last_items_none : (k : ℕ) (m : Bool) (xs : List CaseItem) (ts : List Token) → ArmRows k m (many (word_in EndCase) (arm (lower k) m) ts) (map arm_tree_of xs) xs ts
last_items_none k m xs ts = rows_behind arm_tree_of (word_in EndCase) (arm (lower k) m) xs ts

pub last_items_more : (k : ℕ) (m : Bool) (whole : Outcome (List ArmTree × Spot)) (base : List ArmTree) (xs ys : List CaseItem) (ts : List Token) (x : CaseItem) (rest : List Token) → ArmRows k m whole base xs ts → Lacks (word_in EndCase) ts
    → arm (lower k) m ts ≡ done (arm_tree_of x) rest → ys ≡ xs ++ x ∷ [] → ArmRows k m whole base ys rest
last_items_more k m whole base xs ys ts x rest g w e q = rows_more arm_tree_of (word_in EndCase) (arm (lower k) m) (eats_arms k m) whole base xs ys ts x rest g w e q

pub last_items_halt : (k : ℕ) (m : Bool) (whole : Outcome (List ArmTree × Spot)) (base : List ArmTree) (xs : List CaseItem) (ts : List Token) (h : Halt) → ArmRows k m whole base xs ts → Lacks (word_in EndCase) ts → HaltsAs (arm (lower k) m ts) h
    → HaltsAs whole h
last_items_halt k m whole base xs ts h g w x = rows_halts arm_tree_of (word_in EndCase) (arm (lower k) m) whole base xs ts h g w x

pub last_items_end : (k : ℕ) (m : Bool) (start : List Token) (base : List ArmTree) (xs : List CaseItem) (ts : List Token) (s : Spot) (rest : List Token) → ArmRows k m (many (word_in EndCase) (arm (lower k) m) start) base xs ts
    → Takes (word_in EndCase) s ts rest → ArmsBehind (lower k) m start base (map arm_tree_of xs) rest
last_items_end k m start base xs ts s rest g w = record {
  rows = g.rows;
  spot = s;
  reads = rows_end arm_tree_of (word_in EndCase) (arm (lower k) m) (many (word_in EndCase) (arm (lower k) m) start) base xs s ts rest g w;
  joined = g.all;
}

pub ruleset last_items_steps = (last_items_none, last_items_more, last_items_halt, last_items_end, halts_for_memory)

-- blocks
abbrev pub GoesToRows : List Token → List Token → Type 0
GoesToRows ts inner = (down : Option Lower) → in_block down ts ≡ block_rows down inner

pub unlabelled : (ts : List Token) → Lacks (mark_in Colon) ts → GoesToRows ts ts
unlabelled ts w down = next_lacks (mark_in Colon) (at_label_name down) (block_rows down) ts w

pub label_refused : (ts : List Token) (s : Spot) (inner : List Token) (h : Halt) → Takes (mark_in Colon) s ts inner → Lacks ident_in inner → h ≡ Refused false (length inner) → (down : Option Lower) → HaltsAs (in_block down ts) h
label_refused ts s inner h v w q down = halts_by (in_block down ts) (at_label_name down s inner) h (next_takes (mark_in Colon) (at_label_name down) (block_rows down) s ts inner v)
    (expect_halts ident_in (λ _. block_rows down) inner h w q)

pub labelled : (ts : List Token) (s : Spot) (inner : List Token) (n : List ℕ) (t : Spot) (rest : List Token) → Takes (mark_in Colon) s ts inner → Takes ident_in (record { name = n; spot = t }) inner rest → GoesToRows ts rest
labelled ts s inner n t rest v w down = next_takes (mark_in Colon) (at_label_name down) (block_rows down) s ts inner v ∙ next_takes ident_in (λ _. block_rows down) refuse (record { name = n; spot = t }) inner rest w

pub ruleset label_steps = (unlabelled, label_refused, labelled)

pub block_label_halts : (k : ℕ) (ts : List Token) (h : Halt) → ((down : Option Lower) → HaltsAs (in_block down ts) h) → HaltsAs (in_block (lower_in k) ts) h
block_label_halts k ts h x = x (lower_in k)

pub block_empty : (k : ℕ) (ts inner : List Token) → GoesToRows ts inner → k ≡ 0 → in_block (lower_in k) ts ≡ block_rows (lower_in 0) inner
block_empty k ts inner e q = e (lower_in k) ∙ ap (λ z. block_rows (lower_in z) inner) q

block_goes : (k j : ℕ) (ts inner : List Token) → GoesToRows ts inner → j + 1 ≡ k → in_block (lower_in k) ts ≡ then_read (many (word_in End) (read_stmt j) inner) block_end
block_goes k j ts inner e i = e (lower_in k) ∙ ap (λ d. block_rows d inner) (lower_some k j i)

pub block_halts : (k j : ℕ) (ts inner : List Token) (h : Halt) → GoesToRows ts inner → j + 1 ≡ k → HaltsAs (many (word_in End) (read_stmt j) inner) h → HaltsAs (in_block (lower_in k) ts) h
block_halts k j ts inner h e i x = halts_by (in_block (lower_in k) ts) (then_read (many (word_in End) (read_stmt j) inner) block_end) h (block_goes k j ts inner e i) (halts_then (many (word_in End) (read_stmt j) inner) block_end h x)

pub block_done : (k j : ℕ) (ts inner : List Token) (ss : List StmtTree) (s : Spot) (rest : List Token) (d : StmtTree) → GoesToRows ts inner → j + 1 ≡ k → many (word_in End) (read_stmt j) inner ≡ done (ss, s) rest
    → d ≡ block (stmt_trees_of ss) → in_block (lower_in k) ts ≡ done d rest
block_done k j ts inner ss s rest d e i x q = block_goes k j ts inner e i ∙ then_done (many (word_in End) (read_stmt j) inner) block_end (ss, s) rest x ∙ ap (λ z. done z rest) (sym q)

pub ruleset block_steps = (block_label_halts, block_halts, block_done, takes_none)

pub empty_done : (ts : List Token) (s : Spot) (rest : List Token) (xs : List Stmt) (d : StmtTree) → Takes (word_in End) s ts rest → xs ≡ [] → d ≡ block (stmt_trees_of (map stmt_tree_of xs)) → block_rows (lower_in 0) ts ≡ done d rest
empty_done ts s rest xs d w e q = next_takes (word_in End) (λ _. done (block no_rows)) (deep start_in refuse) s ts rest w ∙ ap (λ z. done (block (stmt_trees_of (map stmt_tree_of z))) rest) (sym e) ∙ ap (λ z. done z rest) (sym q)

pub empty_refused : (ts : List Token) (b : Bool) (h : Halt) → Lacks (word_in End) ts → (b ≡ true → (rest : List Token) × Takes start_in tt ts rest) → (b ≡ false → Lacks start_in ts) → h ≡ Refused b (length ts)
    → HaltsAs (block_rows (lower_in 0) ts) h
empty_refused ts true h w f g q = let z = f refl in halts_at (block_rows (lower_in 0) ts) true ts h
    (next_lacks (word_in End) (λ _. done (block no_rows)) (deep start_in refuse) ts w ∙ deep_takes start_in refuse tt ts z.0 z.1) q
empty_refused ts false h w f g q = halts_at (block_rows (lower_in 0) ts) false ts h
    (next_lacks (word_in End) (λ _. done (block no_rows)) (deep start_in refuse) ts w ∙ enter_lacks {D = Lower} None start_in (λ _ _. refuse) refuse ts (g refl)) q

pub ruleset empty_block_steps = (empty_done, empty_refused, takes_none)

abbrev pub StmtRows : ℕ → Outcome (List StmtTree × Spot) → List Stmt → List Token → Type 0
StmtRows k whole xs rest = Rows stmt_tree_of (word_in End) (read_stmt k) whole [] xs rest

pub stmts_none : (k : ℕ) (xs : List Stmt) (ts : List Token) → xs ≡ [] → StmtRows k (many (word_in End) (read_stmt k) ts) xs ts
stmts_none k xs ts e = rows_none stmt_tree_of (word_in End) (read_stmt k) xs ts e

pub stmts_more : (k : ℕ) (whole : Outcome (List StmtTree × Spot)) (xs ys : List Stmt) (ts : List Token) (x : Stmt) (rest : List Token) → StmtRows k whole xs ts → Lacks (word_in End) ts
    → read_stmt k ts ≡ done (stmt_tree_of x) rest → ys ≡ xs ++ x ∷ [] → StmtRows k whole ys rest
stmts_more k whole xs ys ts x rest g w e q = rows_more stmt_tree_of (word_in End) (read_stmt k) (eats_stmts k) whole [] xs ys ts x rest g w e q

pub stmts_halt : (k : ℕ) (whole : Outcome (List StmtTree × Spot)) (xs : List Stmt) (ts : List Token) (h : Halt) → StmtRows k whole xs ts → Lacks (word_in End) ts → HaltsAs (read_stmt k ts) h → HaltsAs whole h
stmts_halt k whole xs ts h g w x = rows_halts stmt_tree_of (word_in End) (read_stmt k) whole [] xs ts h g w x

pub stmts_end : (k : ℕ) (whole : Outcome (List StmtTree × Spot)) (xs : List Stmt) (ts : List Token) (s : Spot) (rest : List Token) → StmtRows k whole xs ts → Takes (word_in End) s ts rest
    → (p : Spot) × (whole ≡ done (map stmt_tree_of xs, p) rest)
stmts_end k whole xs ts s rest g w = (s, rows_end stmt_tree_of (word_in End) (read_stmt k) whole [] xs s ts rest g w ∙ ap (λ z. done (z, s) rest) (sym g.all))

pub ruleset stmts_steps = (stmts_none, stmts_more, stmts_halt, stmts_end, halts_for_memory)
