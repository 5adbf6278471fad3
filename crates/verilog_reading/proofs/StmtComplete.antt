-- What reads as a statement within the depth is read as it, unless an `else` follows that belongs to it.
use Rattle.std.proofs.Common.{◌≡◌, ℕ, zero, suc, ◌≤◌, max, Bool, true, false, List, [], ◌∷◌, ◌++◌, Option, Some, None, refl, sym, ap, subst, ◌∙◌, append_assoc, arith, rules, if◌then◌else◌}
use Rattle.cdc_base.specs.declared.words.Keyword.TheVariants.{If, Else, Case, CaseZ, EndCase, Default, Begin, End}
use Rattle.verilog_lex.specs.declared.token.Token.{Token}
use Rattle.verilog_lex.specs.declared.marks.MarkKind.TheVariants.{ParenOpen, ParenClose, BracketOpen, Comma, Colon, Semicolon, Hash}
use Rattle.verilog_ast.specs.declared.Delay.{Delay}
use Rattle.verilog_reading.specs.Lexemes.{Spot, mark, mark_in, word, word_in, ident, Masked, masked, mask_in, by_number, by_name}
use Rattle.verilog_reading.specs.ExprTree.{ExprTree, height, TargetTree, target_height}
use Rattle.verilog_reading.specs.Outcome.{done, then_read, next}
use Rattle.verilog_reading.specs.Lists.{more, many, AreMore, no_more, one_more, AreMany, none_of, one_of}
use Rattle.verilog_reading.specs.Reading.{IsExpr, IsTarget, is_whole, is_index_of, is_part_of, is_join_of}
use Rattle.verilog_reading.specs.StmtTree.{StmtTree, null, set, when, either, switch_else, block, StmtTrees, and_rows, stmt_trees_of, Subject, subject_of, LabelTree, by_value, by_mask, ArmTrees, and_arms, ArmTree, arms_before, arms_of, choose, label_height, label_heights, stmt_height, row_heights, arm_heights, takes_else}
use Rattle.verilog_reading.specs.StmtReading.{IsStmt, AreStmts, AreItems, MayBe, is_absent, is_present, IsLabel, no_label, a_label, is_dval, IsLater, at_once, after_value, after_parens, IsChoice, is_value, is_mask, case_word, assign_mark, some_item, is_null, is_set, is_when, is_either, is_case, is_block, no_stmts, more_stmts, no_items, is_arm, is_default}
use Rattle.verilog_reading.specs.StmtReader.{Lower, lower, Ending, ending_in, in_case, at_semicolon, in_value, in_later, later, at_assignment, in_set, in_else, at_else, at_condition, value_label, label, arm_end, at_label, more_labels, arm, case_end, behind_default, default_body, in_default, at_ending, more_items, first_item, in_items, at_subject, block_end, block_rows, at_label_name, in_block, stmt_at, read_stmt}
use Rattle.verilog_reading.specs.Laws.{Free}
use Rattle.verilog_reading.specs.Stands.{Stands, StmtEnds}
use Rattle.verilog_reading.proofs.Complete.{next_free, c_more, c_many}
use Rattle.verilog_reading.proofs.ExprComplete.{c_expr, stands_mark, behind_paren, before_comma, before_colon}
use Rattle.verilog_reading.proofs.Targets.{c_target}
use Rattle.verilog_reading.proofs.Starts.{expr_starts, target_starts, word_no_start, hash_no_start, IsNoStart}
use Rattle.verilog_reading.proofs.StmtSays.{arm_height}
use Rattle.verilog_reading.proofs.StmtLocal.{eats_stmts, eats_arms}

abbrev pub ReadsStmt : List Token → StmtTree → Type 0
ReadsStmt u s = (k : ℕ) → stmt_height s ≤ k → (rest : List Token) → StmtEnds s rest → read_stmt k (u ++ rest) ≡ done s rest

stmts_below : (j : ℕ) (ts : List Token) → read_stmt (suc j) ts ≡ stmt_at (Some (lower j)) ts
unfolding read_stmt
stmts_below j ts = refl

pub before_semicolon : (p : Spot) (ts : List Token) → Stands (mark Semicolon p ∷ ts)
before_semicolon p ts = stands_mark Semicolon p ts refl refl refl

null_reads : (k : ℕ) (p : Spot) (rest : List Token) → read_stmt k (mark Semicolon p ∷ rest) ≡ done null rest
unfolding read_stmt
null_reads zero p rest = refl
null_reads (suc k) p rest = refl

-- assignments
set_enters : (j : ℕ) {u : List Token} {t : TargetTree} → IsTarget u t → (rest : List Token) → stmt_at (Some (lower j)) (u ++ rest) ≡ in_set (lower j) (u ++ rest)
set_enters j (is_whole n) rest = refl
set_enters j (is_index_of n p q x) rest = refl
set_enters j (is_part_of n x) rest = refl
set_enters j (is_join_of p q x y) rest = refl

no_bracket : (b : Bool) (p : Spot) → mark_in BracketOpen (mark (assign_mark b) p) ≡ None
no_bracket true p = refl
no_bracket false p = refl

-- a delay is read, or none where the value stands at once
later_reads : {b : Bool} {w : List Token} {d : Option Delay} → IsLater b w d → (ts : List Token) → Free (mark_in Hash) ts → later (w ++ ts) ≡ done d ts
later_reads at_once ts f = next_free (mark_in Hash) in_later (done None) ts f
later_reads (after_value p (is_dval (by_number n))) ts f = refl
later_reads (after_value p (is_dval (by_name n))) ts f = refl
later_reads (after_parens p q r (is_dval (by_number n))) ts f = refl
later_reads (after_parens p q r (is_dval (by_name n))) ts f = refl

assigned : (l : Lower) (t : TargetTree) (b : Bool) (p : Spot) {w : List Token} {d : Option Delay} → IsLater b w d → (ts : List Token) → Free (mark_in Hash) ts
    → at_assignment l t (mark (assign_mark b) p ∷ (w ++ ts)) ≡ in_value l t b d ts
assigned l t true p at_once ts f = refl
assigned l t false p y ts f = ap (λ o. then_read o (in_value l t false)) (later_reads y ts f)

set_reads : (k : ℕ) (b : Bool) (p q : Spot) (u w v : List Token) (t : TargetTree) (d : Option Delay) (e : ExprTree) → suc (max (target_height t) (height e)) ≤ k → IsTarget u t → IsLater b w d → IsExpr v e
    → (rest : List Token) → read_stmt k (u ++ mark (assign_mark b) p ∷ (w ++ (v ++ mark Semicolon q ∷ rest))) ≡ done (set b d t e) rest
set_reads zero b p q u w v t d e h x z y rest = absurd (omega (arith, h))
set_reads (suc j) b p q u w v t d e h x z y rest = let last = mark (assign_mark b) p ∷ (w ++ (v ++ mark Semicolon q ∷ rest)) in
    stmts_below j (u ++ last) ∙ set_enters j x last
    ∙ ap (λ o. then_read o (at_assignment (lower j))) (c_target x j (omega (arith, h)) last (no_bracket b p))
    ∙ assigned (lower j) t b p z (v ++ mark Semicolon q ∷ rest) (expr_starts (mark_in Hash) hash_no_start y (mark Semicolon q ∷ rest))
    ∙ ap (λ o. then_read o (at_semicolon b t d)) (c_expr y j (omega (arith, h)) (mark Semicolon q ∷ rest) (before_semicolon q rest))

-- `if`
else_when : (l : Lower) (c : ExprTree) (s : StmtTree) (rest : List Token) → Free (word_in Else) rest → (b : Bool)
    → (if b then done (when c s) else next (word_in Else) (in_else l c s) (done (when c s))) rest ≡ done (when c s) rest
else_when l c s rest f true = refl
else_when l c s rest f false = next_free (word_in Else) (in_else l c s) (done (when c s)) rest f

when_reads : (k : ℕ) (i p q : Spot) (u v : List Token) (c : ExprTree) (s : StmtTree) (rest : List Token) → suc (max (height c) (stmt_height s)) ≤ k → IsExpr u c → ReadsStmt v s → Free (word_in Else) rest
    → read_stmt k (word If i ∷ (mark ParenOpen p ∷ (u ++ mark ParenClose q ∷ (v ++ rest)))) ≡ done (when c s) rest
when_reads zero i p q u v c s rest h x r f = absurd (omega (arith, h))
when_reads (suc j) i p q u v c s rest h x r f = stmts_below j (word If i ∷ (mark ParenOpen p ∷ (u ++ mark ParenClose q ∷ (v ++ rest))))
    ∙ ap (λ o. then_read o (at_condition (lower j))) (c_expr x j (omega (arith, h)) (mark ParenClose q ∷ (v ++ rest)) (behind_paren q (v ++ rest)))
    ∙ ap (λ o. then_read o (at_else (lower j) c)) (r j (omega (arith, h)) rest (λ _. f)) ∙ else_when (lower j) c s rest f (takes_else s)

else_either : (l : Lower) (c : ExprTree) (s z : StmtTree) (ts : List Token) (b : Bool) → b ≡ false → (o : Spot)
    → (if b then done (when c s) else next (word_in Else) (in_else l c s) (done (when c s))) (word Else o ∷ ts) ≡ in_else l c s o ts
else_either l c s z ts true e o = absurd (search (rules, e))
else_either l c s z ts false e o = refl

either_reads : (k : ℕ) (i p q o : Spot) (u v w : List Token) (c : ExprTree) (s z : StmtTree) (rest : List Token) → suc (max (height c) (max (stmt_height s) (stmt_height z))) ≤ k → IsExpr u c → ReadsStmt v s → takes_else s ≡ false → ReadsStmt w z → StmtEnds z rest
    → read_stmt k (word If i ∷ (mark ParenOpen p ∷ (u ++ mark ParenClose q ∷ (v ++ word Else o ∷ (w ++ rest))))) ≡ done (either c s z) rest
either_reads zero i p q o u v w c s z rest h x r e t f = absurd (omega (arith, h))
either_reads (suc j) i p q o u v w c s z rest h x r e t f = let last = word Else o ∷ (w ++ rest) in
    stmts_below j (word If i ∷ (mark ParenOpen p ∷ (u ++ mark ParenClose q ∷ (v ++ last))))
    ∙ ap (λ y. then_read y (at_condition (lower j))) (c_expr x j (omega (arith, h)) (mark ParenClose q ∷ (v ++ last)) (behind_paren q (v ++ last)))
    ∙ ap (λ y. then_read y (at_else (lower j) c)) (r j (omega (arith, h)) last (λ g. absurd (search (rules, e, g))))
    ∙ else_either (lower j) c s z (w ++ rest) (takes_else s) e o
    ∙ ap (λ y. then_read y (λ z. done (either c s z))) (t j (omega (arith, h)) rest f)

case_free : {B : Type 0} (test : Token → Option B) → ((p : Spot) → test (word CaseZ p) ≡ None) → ((p : Spot) → test (word Case p) ≡ None) → (masks : Bool) (i : Spot)
    → test (word (case_word masks) i) ≡ None
case_free test e f true i = e i
case_free test e f false i = f i

-- what a statement does not begin with
pub no_else : {u : List Token} {s : StmtTree} → IsStmt u s → (rest : List Token) → Free (word_in Else) (u ++ rest)
no_else (is_null p) rest = refl
no_else (is_set b p q {u} {v} {w} x d y) rest = subst (Free (word_in Else)) (sym (append_assoc u (mark (assign_mark b) p ∷ (v ++ (w ++ mark Semicolon q ∷ []))) rest)) (target_starts (word_in Else) (word_no_start Else) x _)
no_else (is_when i p q x y) rest = refl
no_else (is_either i p q e x y f z) rest = refl
no_else (is_case masks i p q e x y f) rest = case_free (word_in Else) (λ p. refl) (λ p. refl) masks i
no_else (is_block p q x y) rest = refl

pub no_end : {u : List Token} {s : StmtTree} → IsStmt u s → (rest : List Token) → Free (word_in End) (u ++ rest)
no_end (is_null p) rest = refl
no_end (is_set b p q {u} {v} {w} x d y) rest = subst (Free (word_in End)) (sym (append_assoc u (mark (assign_mark b) p ∷ (v ++ (w ++ mark Semicolon q ∷ []))) rest)) (target_starts (word_in End) (word_no_start End) x _)
no_end (is_when i p q x y) rest = refl
no_end (is_either i p q e x y f z) rest = refl
no_end (is_case masks i p q e x y f) rest = case_free (word_in End) (λ p. refl) (λ p. refl) masks i
no_end (is_block p q x y) rest = refl

no_colon : {u : List Token} {s : StmtTree} → IsStmt u s → (rest : List Token) → Free (mark_in Colon) (u ++ rest)
no_colon (is_null p) rest = refl
no_colon (is_set b p q {u} {v} {w} x d y) rest = subst (Free (mark_in Colon)) (sym (append_assoc u (mark (assign_mark b) p ∷ (v ++ (w ++ mark Semicolon q ∷ []))) rest)) (go x _)
  where
    go : {u : List Token} {t : TargetTree} → IsTarget u t → (rest : List Token) → Free (mark_in Colon) (u ++ rest)
    go (is_whole n) rest = refl
    go (is_index_of n p q x) rest = refl
    go (is_part_of n x) rest = refl
    go (is_join_of p q x y) rest = refl
no_colon (is_when i p q x y) rest = refl
no_colon (is_either i p q e x y f z) rest = refl
no_colon (is_case masks i p q e x y f) rest = case_free (mark_in Colon) (λ p. refl) (λ p. refl) masks i
no_colon (is_block p q x y) rest = refl

abbrev Good : List Token → StmtTree → Type 0
Good u s = IsStmt u s × ReadsStmt u s

-- blocks
abbrev GoodTo : ℕ → List Token → StmtTree → Type 0
GoodTo j u s = IsStmt u s × ReadsStmt u s × (stmt_height s ≤ j)

low_rows : (j : ℕ) {u : List Token} {rows : List StmtTree} → AreMany Good u rows → row_heights (stmt_trees_of rows) ≤ suc j → AreMany (GoodTo j) u rows
low_rows j none_of h = none_of
low_rows j (one_of {u} {v} {a} {bs} p q) h = one_of (p.0, p.1, omega (arith, h)) (low_rows j q (omega (arith, h)))

behind_row : (j : ℕ) {v : List Token} {rows : List StmtTree} → AreMany (GoodTo j) v rows → (q : Spot) (rest : List Token) → Free (word_in Else) (v ++ word End q ∷ rest)
behind_row j none_of q rest = refl
behind_row j (one_of {u} {v} {a} {bs} x y) q rest = subst (Free (word_in Else)) (sym (append_assoc u v (word End q ∷ rest))) (no_else x.0 (v ++ word End q ∷ rest))

rows_colon : {v : List Token} {rows : List StmtTree} → AreMany Good v rows → (q : Spot) (rest : List Token) → Free (mark_in Colon) (v ++ word End q ∷ rest)
rows_colon none_of q rest = refl
rows_colon (one_of {u} {v} {a} {bs} x y) q rest = subst (Free (mark_in Colon)) (sym (append_assoc u v (word End q ∷ rest))) (no_colon x.0 (v ++ word End q ∷ rest))

abbrev lowers : ℕ → Option Lower
lowers zero = None
lowers (suc k) = Some (lower k)

stmts_are : (k : ℕ) (ts : List Token) → read_stmt k ts ≡ stmt_at (lowers k) ts
unfolding read_stmt
stmts_are zero ts = refl
stmts_are (suc k) ts = refl

begin_enters : (down : Option Lower) (p : Spot) (ts : List Token) → stmt_at down (word Begin p ∷ ts) ≡ in_block down ts
begin_enters None p ts = refl
begin_enters (Some l) p ts = refl

rows_read : (k : ℕ) {u : List Token} {rows : List StmtTree} → AreMany Good u rows → row_heights (stmt_trees_of rows) ≤ k → (q : Spot) (rest : List Token) → block_rows (lowers k) (u ++ word End q ∷ rest) ≡ done (block (stmt_trees_of rows)) rest
rows_read zero none_of h q rest = refl
rows_read zero (one_of x y) h q rest = absurd (omega (arith, h))
rows_read (suc j) {u} {rows} m h q rest = ap (λ o. then_read o block_end)
    (c_many (word_in End) (read_stmt j) (eats_stmts j) (GoodTo j) (λ u a x. no_end x.0) (word End q) q refl
    (λ u v a rows x y rest. x.1 j x.2 (v ++ word End q ∷ rest) (λ _. behind_row j y q rest)) (low_rows j m h) rest)

block_reads : (k : ℕ) (p q : Spot) {l u : List Token} {rows : List StmtTree} → IsLabel l → AreMany Good u rows → row_heights (stmt_trees_of rows) ≤ k → (rest : List Token)
    → read_stmt k (word Begin p ∷ (l ++ (u ++ word End q ∷ rest))) ≡ done (block (stmt_trees_of rows)) rest
block_reads k p q {u = u} no_label m h rest = stmts_are k (word Begin p ∷ (u ++ word End q ∷ rest)) ∙ begin_enters (lowers k) p (u ++ word End q ∷ rest)
    ∙ next_free (mark_in Colon) (at_label_name (lowers k)) (block_rows (lowers k)) (u ++ word End q ∷ rest) (rows_colon m q rest) ∙ rows_read k m h q rest
block_reads k p q {u = u} (a_label o n) m h rest = stmts_are k (word Begin p ∷ (mark Colon o ∷ (ident n ∷ (u ++ word End q ∷ rest)))) ∙ begin_enters (lowers k) p (mark Colon o ∷ (ident n ∷ (u ++ word End q ∷ rest)))
    ∙ rows_read k m h q rest

-- items of a `case`
abbrev GoodBody : StmtTree → List Token → Type 0
GoodBody s u = ReadsStmt u s

pub data IsGoodArm : Bool → List Token → ArmTree → Type 0 where
  a_good_arm : {masks : Bool} (p : Spot) {u v w : List Token} {a : LabelTree} {bs : List LabelTree} {s : StmtTree} → IsChoice masks u a → AreMore (mark Comma) (IsChoice masks) v bs → Good w s
      → IsGoodArm masks (u ++ (v ++ mark Colon p ∷ w)) (record { labels = a ∷ bs; body = s })

abbrev ArmTo : Bool → ℕ → List Token → ArmTree → Type 0
ArmTo masks j u a = IsGoodArm masks u a × (arm_height a ≤ j)

-- a label does not begin with what begins no expression and is no mask
choice_starts : {B : Type 0} (test : Token → Option B) (is : IsNoStart test) → ((n : Masked) → test (masked n) ≡ None) → {masks : Bool} {u : List Token} {a : LabelTree} → IsChoice masks u a → (rest : List Token)
    → Free test (u ++ rest)
choice_starts test is m (is_value x) rest = expr_starts test is x rest
choice_starts test is m (is_mask n) rest = m n

mask_no_start : IsNoStart mask_in
mask_no_start = record { numeral = λ n. refl; ident = λ n. refl; prefix = λ p e. refl; paren = λ p. refl; brace = λ p. refl }

value_reads : (j : ℕ) (u : List Token) (e : ExprTree) → IsExpr u e → height e ≤ j → (rest : List Token) → Stands rest → (masks : Bool) → label (lower j) masks (u ++ rest) ≡ done (by_value e) rest
value_reads j u e x h rest s true =
    next_free mask_in (λ n. done (by_mask n.value n.opened n.width)) (value_label (lower j)) (u ++ rest) (expr_starts mask_in mask_no_start x rest)
    ∙ ap (λ o. then_read o (λ e. done (by_value e))) (c_expr x j h rest s)
value_reads j u e x h rest s false = ap (λ o. then_read o (λ e. done (by_value e))) (c_expr x j h rest s)

label_reads : (j : ℕ) {masks : Bool} {u : List Token} {a : LabelTree} → IsChoice masks u a → label_height a ≤ j → (rest : List Token) → Stands rest → label (lower j) masks (u ++ rest) ≡ done a rest
label_reads j (is_value {masks} {u} {e} x) h rest s = value_reads j u e x h rest s masks
label_reads j (is_mask n) h rest s = refl

low_labels : (masks : Bool) (j : ℕ) {v : List Token} {bs : List LabelTree} → AreMore (mark Comma) (IsChoice masks) v bs → label_heights bs ≤ j → AreMore (mark Comma) (λ v a. IsChoice masks v a × (label_height a ≤ j)) v bs
low_labels masks j no_more h = no_more
low_labels masks j (one_more p {u} {v} {a} {bs} x y) h = one_more p (x, omega (arith, h)) (low_labels masks j y (omega (arith, h)))

pub labels_read : (masks : Bool) (j : ℕ) {v : List Token} {bs : List LabelTree} → AreMore (mark Comma) (IsChoice masks) v bs → label_heights bs ≤ j → (rest : List Token) → Stands rest → Free (mark_in Comma) rest
    → more (mark_in Comma) (label (lower j) masks) (v ++ rest) ≡ done bs rest
labels_read masks j m h rest s f = c_more (mark_in Comma) (label (lower j) masks) (mark Comma) (λ p. refl) (λ v a. IsChoice masks v a × (label_height a ≤ j)) Stands before_comma
    (λ u a p rest s. label_reads j p.0 p.1 rest s) (low_labels masks j m h) rest s f

pub behind_labels : {masks : Bool} {v : List Token} {bs : List LabelTree} → AreMore (mark Comma) (IsChoice masks) v bs → (rest : List Token) → Stands rest → Stands (v ++ rest)
behind_labels no_more rest s = s
behind_labels (one_more p {u} {v} {a} {bs} x y) rest s = before_comma p ((u ++ v) ++ rest)

arm_reads : (masks : Bool) (j : ℕ) {u : List Token} {a : ArmTree} → ArmTo masks j u a → (rest : List Token) → Free (word_in Else) rest → arm (lower j) masks (u ++ rest) ≡ done a rest
arm_reads masks j x rest f = go x.0 x.1
  where
    go : {u : List Token} {a : ArmTree} → IsGoodArm masks u a → arm_height a ≤ j → arm (lower j) masks (u ++ rest) ≡ done a rest
    go (a_good_arm p {u} {v} {w} {a} {bs} {s} x y z) h = let last = mark Colon p ∷ (w ++ rest) in
        ap (arm (lower j) masks) (append_assoc u (v ++ mark Colon p ∷ w) rest ∙ ap (λ o. u ++ o) (append_assoc v (mark Colon p ∷ w) rest))
        ∙ ap (λ o. then_read o (more_labels (lower j) masks)) (label_reads j x (omega (arith, h)) (v ++ last) (behind_labels y last (before_colon p (w ++ rest))))
        ∙ ap (λ o. then_read o (at_label (lower j) a)) (labels_read masks j y (omega (arith, h)) last (before_colon p (w ++ rest)) refl)
        ∙ ap (λ o. then_read o (arm_end (a ∷ bs))) (z.1 j (omega (arith, h)) rest (λ _. f))

arm_starts : {B : Type 0} (test : Token → Option B) (is : IsNoStart test) → ((n : Masked) → test (masked n) ≡ None) → {masks : Bool} {u : List Token} {a : ArmTree} → IsGoodArm masks u a → (rest : List Token)
    → Free test (u ++ rest)
arm_starts test is m (a_good_arm p {u} {v} {w} x y z) rest = subst (Free test) (sym (append_assoc u (v ++ mark Colon p ∷ w) rest)) (choice_starts test is m x ((v ++ mark Colon p ∷ w) ++ rest))

arms_else : (masks : Bool) (j : ℕ) {v : List Token} {rows : List ArmTree} → AreMany (ArmTo masks j) v rows → (t : Token) (rest : List Token) → word_in Else t ≡ None → Free (word_in Else) (v ++ t ∷ rest)
arms_else masks j none_of t rest e = e
arms_else masks j (one_of {u} {v} {a} {bs} x y) t rest e = subst (Free (word_in Else)) (sym (append_assoc u v (t ∷ rest))) (arm_starts (word_in Else) (word_no_start Else) (λ n. refl) x.0 (v ++ t ∷ rest))

-- no ending begins an item
ending_no_start : IsNoStart ending_in
ending_no_start = record { numeral = λ n. refl; ident = λ n. refl; prefix = λ p e. refl; paren = λ p. refl; brace = λ p. refl }

arms_to_ending : (masks : Bool) (j : ℕ) {v : List Token} {rows : List ArmTree} → AreMany (ArmTo masks j) v rows → (t : Token) (e : Ending) → ending_in t ≡ Some e → word_in Else t ≡ None → (rest : List Token)
    → many ending_in (arm (lower j) masks) (v ++ t ∷ rest) ≡ done (rows, e) rest
arms_to_ending masks j m t e is n rest = c_many ending_in (arm (lower j) masks) (eats_arms j masks) (ArmTo masks j) (λ u a x. arm_starts ending_in ending_no_start (λ n. refl) x.0) t e is
    (λ u v a rows x y rest. arm_reads masks j x (v ++ t ∷ rest) (arms_else masks j y t rest n)) m rest

arms_to_endcase : (masks : Bool) (j : ℕ) {v : List Token} {rows : List ArmTree} → AreMany (ArmTo masks j) v rows → (t : Spot) (rest : List Token) → many (word_in EndCase) (arm (lower j) masks) (v ++ word EndCase t ∷ rest) ≡ done (rows, t) rest
arms_to_endcase masks j m t rest = c_many (word_in EndCase) (arm (lower j) masks) (eats_arms j masks) (ArmTo masks j) (λ u a x. arm_starts (word_in EndCase) (word_no_start EndCase) (λ n. refl) x.0) (word EndCase t) t refl
    (λ u v a rows x y rest. arm_reads masks j x (v ++ word EndCase t ∷ rest) (arms_else masks j y (word EndCase t) rest refl)) m rest

-- the parts of the items: those before the `default`, it, and those behind it
pub data Split (masks : Bool) (j : ℕ) : List Token → ArmTrees → Option StmtTree → Type 0 where
  plain_items : {v : List Token} (rows : List ArmTree) → AreMany (ArmTo masks j) v rows → Split masks j v (arms_of rows) None
  with_default : (p : Spot) {v w x y : List Token} (before after : List ArmTree) {s : StmtTree} → AreMany (ArmTo masks j) v before → MayBe Colon w → Good x s → stmt_height s ≤ j → AreMany (ArmTo masks j) y after
      → Split masks j (v ++ word Default p ∷ (w ++ (x ++ y))) (arms_before before (arms_of after)) (Some s)

split_more : (masks : Bool) (j : ℕ) {u x : List Token} {a : ArmTree} {arms : ArmTrees} {d : Option StmtTree} → ArmTo masks j u a → Split masks j x arms d → Split masks j (u ++ x) (and_arms a.labels a.body arms) d
split_more masks j {a = a} h (plain_items rows m) = plain_items (a ∷ rows) (one_of h m)
split_more masks j {u} {a = a} h (with_default p {v} {w} {x} {y} before after {s} m c g t n) =
    subst (λ o. Split masks j o (arms_before (a ∷ before) (arms_of after)) (Some s)) (append_assoc u v (word Default p ∷ (w ++ (x ++ y)))) (with_default p (a ∷ before) after (one_of h m) c g t n)

split_default : (masks : Bool) (j : ℕ) (p : Spot) {w x y : List Token} {s : StmtTree} {arms : ArmTrees} → MayBe Colon w → Good x s → stmt_height s ≤ j → Split masks j y arms None → Split masks j (word Default p ∷ (w ++ (x ++ y))) arms (Some s)
split_default masks j p {w} {x} {s = s} c g t h = go h refl
  where
    go : {y : List Token} {arms : ArmTrees} {d : Option StmtTree} → Split masks j y arms d → d ≡ None → Split masks j (word Default p ∷ (w ++ (x ++ y))) arms (Some s)
    go (plain_items rows m) e = with_default p [] rows none_of c g t m
    go (with_default o before after m n i z l) e = absurd (search (rules, e))

default_reads : (j : ℕ) (c : Subject) (before : List ArmTree) {w x : List Token} {s : StmtTree} {y : List Token} {after : List ArmTree} → MayBe Colon w → Good x s → stmt_height s ≤ j → AreMany (ArmTo c.masks j) y after → (t : Spot) (rest : List Token)
    → in_default (lower j) c before (w ++ (x ++ (y ++ word EndCase t ∷ rest))) ≡ done (switch_else c (arms_before before (arms_of after)) s) rest
default_reads j c before {w} {x} {s} {y} {after} mb g h m t rest = start mb ∙ body
  where
    last : List Token
    last = x ++ (y ++ word EndCase t ∷ rest)

    start : {w : List Token} → MayBe Colon w → in_default (lower j) c before (w ++ (x ++ (y ++ word EndCase t ∷ rest))) ≡ default_body (lower j) c before (x ++ (y ++ word EndCase t ∷ rest))
    start is_absent = next_free (mark_in Colon) (λ _. default_body (lower j) c before) (default_body (lower j) c before) (x ++ (y ++ word EndCase t ∷ rest)) (no_colon g.0 (y ++ word EndCase t ∷ rest))
    start (is_present p) = refl

    body : default_body (lower j) c before (x ++ (y ++ word EndCase t ∷ rest)) ≡ done (switch_else c (arms_before before (arms_of after)) s) rest
    body = ap (λ o. then_read o (behind_default (lower j) c before)) (g.1 j h (y ++ word EndCase t ∷ rest) (λ _. arms_else c.masks j m (word EndCase t) rest refl))
        ∙ ap (λ o. then_read o (case_end c before s)) (arms_to_endcase c.masks j m t rest)

items_read : (j : ℕ) (c : Subject) (q : Spot) {v : List Token} {arms : ArmTrees} {d : Option StmtTree} → Split c.masks j v arms d → some_item arms d ≡ true → (t : Spot) (rest : List Token)
    → in_items (lower j) c q (v ++ word EndCase t ∷ rest) ≡ done (choose c arms d) rest
items_read j c q (plain_items [] none_of) e t rest = absurd (search (rules, e))
items_read j c q (plain_items rows (one_of {u} {v} {a} {bs} x y)) e t rest =
    ap (in_items (lower j) c q) (append_assoc u v (word EndCase t ∷ rest))
    ∙ next_free (word_in Default) (λ _. in_default (lower j) c []) (first_item (lower j) c) (u ++ (v ++ word EndCase t ∷ rest)) (arm_starts (word_in Default) (word_no_start Default) (λ n. refl) x.0 (v ++ word EndCase t ∷ rest))
    ∙ ap (λ o. then_read o (more_items (lower j) c)) (arm_reads c.masks j x (v ++ word EndCase t ∷ rest) (arms_else c.masks j y (word EndCase t) rest refl))
    ∙ ap (λ o. then_read o (at_ending (lower j) c a)) (arms_to_ending c.masks j y (word EndCase t) (record { last = true; spot = t }) refl refl rest)
items_read j c q (with_default p {v} {w} {x} {y} before after {s} m mb g h n) e t rest = go m
  where
    back : (w x y : List Token) → (w ++ (x ++ y)) ++ word EndCase t ∷ rest ≡ w ++ (x ++ (y ++ word EndCase t ∷ rest))
    back w x y = append_assoc w (x ++ y) (word EndCase t ∷ rest) ∙ ap (λ o. w ++ o) (append_assoc x y (word EndCase t ∷ rest))

    go : {v : List Token} {before : List ArmTree} → AreMany (ArmTo c.masks j) v before
        → in_items (lower j) c q ((v ++ word Default p ∷ (w ++ (x ++ y))) ++ word EndCase t ∷ rest) ≡ done (switch_else c (arms_before before (arms_of after)) s) rest
    go none_of = ap (in_default (lower j) c []) (back w x y) ∙ default_reads j c [] mb g h n t rest
    go (one_of {u} {v} {a} {bs} k l) = let last = word Default p ∷ ((w ++ (x ++ y)) ++ word EndCase t ∷ rest) in
        ap (in_items (lower j) c q) (append_assoc (u ++ v) (word Default p ∷ (w ++ (x ++ y))) (word EndCase t ∷ rest) ∙ append_assoc u v last)
        ∙ next_free (word_in Default) (λ _. in_default (lower j) c []) (first_item (lower j) c) (u ++ (v ++ last)) (arm_starts (word_in Default) (word_no_start Default) (λ n. refl) k.0 (v ++ last))
        ∙ ap (λ o. then_read o (more_items (lower j) c)) (arm_reads c.masks j k (v ++ last) (arms_else c.masks j l (word Default p) ((w ++ (x ++ y)) ++ word EndCase t ∷ rest) refl))
        ∙ ap (λ o. then_read o (at_ending (lower j) c a)) (arms_to_ending c.masks j l (word Default p) (record { last = false; spot = p }) refl refl ((w ++ (x ++ y)) ++ word EndCase t ∷ rest))
        ∙ ap (in_default (lower j) c (a ∷ bs)) (back w x y) ∙ default_reads j c (a ∷ bs) mb g h n t rest

case_enters : (j : ℕ) (masks : Bool) (i : Spot) (ts : List Token) → stmt_at (Some (lower j)) (word (case_word masks) i ∷ ts) ≡ in_case (lower j) (record { masks = masks; spot = i }) ts
case_enters j true i ts = refl
case_enters j false i ts = refl

case_reads : (k : ℕ) (i p q t : Spot) (u v : List Token) (c : Subject) (arms : ArmTrees) (d : Option StmtTree) → 1 ≤ k → ((j : ℕ) → k ≡ suc j → height c.value ≤ j × Split c.masks j v arms d) → IsExpr u c.value
    → some_item arms d ≡ true → (rest : List Token)
    → read_stmt k (word (case_word c.masks) i ∷ (mark ParenOpen p ∷ (u ++ mark ParenClose q ∷ (v ++ word EndCase t ∷ rest)))) ≡ done (choose c arms d) rest
case_reads zero i p q t u v c arms d h s x e rest = absurd (omega (arith, h))
case_reads (suc j) i p q t u v c arms d h s x e rest = let last = mark ParenClose q ∷ (v ++ word EndCase t ∷ rest) in
    stmts_below j (word (case_word c.masks) i ∷ (mark ParenOpen p ∷ (u ++ last)))
    ∙ case_enters j c.masks i (mark ParenOpen p ∷ (u ++ last))
    ∙ ap (λ o. then_read o (λ e. at_subject (lower j) (subject_of c.masks e))) (c_expr x j (s j refl).0 last (behind_paren q (v ++ word EndCase t ∷ rest)))
    ∙ items_read j c q (s j refl).1 e t rest

-- what the items ask of the depth
case_low : (c : Subject) (arms : ArmTrees) (d : Option StmtTree) (k j : ℕ) → stmt_height (choose c arms d) ≤ k → k ≡ suc j → (height c.value ≤ j) × (arm_heights arms ≤ j)
case_low c arms None k j h e = (omega (arith, h, e), omega (arith, h, e))
case_low c arms (Some d) k j h e = (omega (arith, h, e), omega (arith, h, e))

case_some : (c : Subject) (arms : ArmTrees) (d : Option StmtTree) (k : ℕ) → stmt_height (choose c arms d) ≤ k → 1 ≤ k
case_some c arms None k h = omega (arith, h)
case_some c arms (Some d) k h = omega (arith, h)

abbrev LowDefault : Option StmtTree → ℕ → Type 0
LowDefault None j = Unit {0}
LowDefault (Some d) j = stmt_height d ≤ j

default_low : (c : Subject) (arms : ArmTrees) (d : Option StmtTree) (k j : ℕ) → stmt_height (choose c arms d) ≤ k → k ≡ suc j → LowDefault d j
default_low c arms None k j h e = tt
default_low c arms (Some d) k j h e = omega (arith, h, e)

mutual
  pub c_stmt : {u : List Token} {s : StmtTree} → IsStmt u s → ReadsStmt u s
  c_stmt (is_null p) k h rest f = null_reads k p rest
  c_stmt (is_set b p q {u} {v} {w} {t} {d} {e} x y z) k h rest f =
      subst (λ o. read_stmt k o ≡ done (set b d t e) rest)
      (sym (append_assoc u (mark (assign_mark b) p ∷ (v ++ (w ++ mark Semicolon q ∷ []))) rest
      ∙ ap (λ o. u ++ mark (assign_mark b) p ∷ o) (append_assoc v (w ++ mark Semicolon q ∷ []) rest ∙ ap (λ o. v ++ o) (append_assoc w (mark Semicolon q ∷ []) rest))))
      (set_reads k b p q u v w t d e h x y z rest)
  c_stmt (is_when i p q {u} {v} {c} {s} x y) k h rest f = subst (λ o. read_stmt k (word If i ∷ (mark ParenOpen p ∷ o)) ≡ done (when c s) rest) (sym (append_assoc u (mark ParenClose q ∷ v) rest))
      (when_reads k i p q u v c s rest h x (c_stmt y) (f refl))
  c_stmt (is_either i p q o {u} {v} {w} {c} {s} {z} x y e l) k h rest f = subst (λ t. read_stmt k (word If i ∷ (mark ParenOpen p ∷ t)) ≡ done (either c s z) rest)
      (sym (append_assoc u (mark ParenClose q ∷ (v ++ word Else o ∷ w)) rest ∙ ap (λ t. u ++ mark ParenClose q ∷ t) (append_assoc v (word Else o ∷ w) rest)))
      (either_reads k i p q o u v w c s z rest h x (c_stmt y) e (c_stmt l) f)
  c_stmt (is_case masks i p q t {u} {v} {c = e} {arms} {d} x y s) k h rest f = let c = subject_of masks e in
      subst (λ o. read_stmt k (word (case_word masks) i ∷ (mark ParenOpen p ∷ o)) ≡ done (choose c arms d) rest)
      (sym (append_assoc u (mark ParenClose q ∷ (v ++ word EndCase t ∷ [])) rest ∙ ap (λ o. u ++ mark ParenClose q ∷ o) (append_assoc v (word EndCase t ∷ []) rest)))
      (case_reads k i p q t u v c arms d (case_some c arms d k h)
      (λ j g. let z = case_low c arms d k j h g in (z.0, c_items y j z.1 (default_low c arms d k j h g))) x s rest)
  c_stmt (is_block p q {l} {u} {rows} x y) k h rest f = let z = c_rows y in
      subst (λ o. read_stmt k (word Begin p ∷ o) ≡ done (block rows) rest) (sym (append_assoc l (u ++ word End q ∷ []) rest ∙ ap (λ o. l ++ o) (append_assoc u (word End q ∷ []) rest)))
      (subst (λ (o : StmtTrees). read_stmt k (word Begin p ∷ (l ++ (u ++ word End q ∷ rest))) ≡ done (block o) rest) z.1 (block_reads k p q x z.2 (subst (λ (o : StmtTrees). row_heights o ≤ k) (sym z.1) h) rest))

  c_rows : {u : List Token} {rows : StmtTrees} → AreStmts u rows → (l : List StmtTree) × (stmt_trees_of l ≡ rows) × AreMany Good u l
  c_rows no_stmts = ([], refl, none_of)
  c_rows (more_stmts {u} {v} {s} {rows} x y) = let z = c_rows y in (s ∷ z.0, ap (and_rows s) z.1, one_of (x, c_stmt x) z.2)

  c_items : {masks : Bool} {v : List Token} {arms : ArmTrees} {d : Option StmtTree} → AreItems masks v arms d → (j : ℕ) → arm_heights arms ≤ j → LowDefault d j → Split masks j v arms d
  c_items no_items j h g = plain_items [] none_of
  c_items (is_arm {masks} p {u} {v} {w} {x} {a} {bs} {s} {arms} {d} e m t r) j h g =
      split_more masks j (a_good_arm p e m (t, c_stmt t), omega (arith, h)) (c_items r j (omega (arith, h)) g)
  c_items (is_default {masks} p {u} {v} {w} {s} {arms} m t r) j h g = split_default masks j p m (t, c_stmt t) g (c_items r j h tt)
