-- The reader of statements sees no token behind the first of its rest, and takes a token where it reads one.
use Rattle.std.proofs.Common.{◌≡◌, ℕ, zero, suc, ◌+◌, ◌≤◌, Bool, true, false, List, [], ◌∷◌, ◌++◌, length, length-append, Option, Some, None, refl, ap, subst, ◌∙◌, arith, rules}
use Rattle.cdc_base.specs.declared.words.Keyword.TheVariants.{If, Else, EndCase, Default, Begin, End}
use Rattle.verilog_lex.specs.declared.token.Token.{Token}
use Rattle.verilog_lex.specs.declared.marks.MarkKind.TheVariants.{ParenOpen, ParenClose, Comma, Colon, Semicolon, Hash, Equals, LessEqual}
use Rattle.verilog_ast.specs.declared.Delay.{Delay}
use Rattle.verilog_reading.specs.Lexemes.{Spot, mark, mark_in, word_in, ident_in, mask_in, dval_in}
use Rattle.verilog_reading.specs.ExprTree.{ExprTree, TargetTree}
use Rattle.verilog_reading.specs.Outcome.{Outcome, done, then_read, next, refuse, deep, expect}
use Rattle.verilog_reading.specs.Lists.{more, many}
use Rattle.verilog_reading.specs.StmtTree.{StmtTree, null, set, when, either, switch, switch_else, block, no_rows, stmt_trees_of, Subject, subject_of, LabelTree, by_value, by_mask, ArmTree, arms_before, arms_of, takes_else}
use Rattle.verilog_reading.specs.StmtReading.{IsStmt, is_null, is_set, is_when, is_either, is_case, is_block, assign_mark, delay_by}
use Rattle.verilog_reading.specs.StmtReader.{Lower, lower, target_in, start_in, Ending, ending_in, CaseHead, case_in, at_semicolon, in_value, delay, later_end, in_later, later, behind_arrow, at_assignment, in_set, in_else, at_else, in_branch, at_condition, in_condition, in_if, value_label, label, arm_end, in_arm, at_label, more_labels, arm, case_end, behind_default, default_body, in_default, at_ending, more_items, first_item, in_items, at_subject, in_subject, in_case, block_end, block_rows, at_label_name, in_block, stmt_at, read_stmt}
use Rattle.verilog_reading.specs.Laws.{Says, Local}
use Rattle.verilog_reading.proofs.Local.{local_done, local_stop, local_then, local_next, local_expect, local_closed, local_deep, local_enter, local_descend, local_if, local_more, local_many, Eats}
use Rattle.verilog_reading.proofs.ExprLocal.{LocalAll, local}
use Rattle.verilog_reading.proofs.ExprSays.{says}
use Rattle.verilog_reading.proofs.Targets.{local_targets, says_targets}
use Rattle.verilog_reading.proofs.StmtSays.{StmtIn, ArmIn, IsArm, an_arm, SaysLower, says_arm, says_stmts}

-- what reads only where there is a token takes one
pub eats_by : {A : Type 0} (R : List Token → A → Type 0) (item : List Token → Outcome A) → ((ts : List Token) → Says R ts (item ts)) → ((u : List Token) (a : A) → R u a → 1 ≤ length u) → Eats item
eats_by R item said some ts a rest e =
    let s = subst (Says R ts) e (said ts) in
    let h = some s.0 a s.2 in
    let l : length ts ≡ length s.0 + length rest = ap length s.1 ∙ length-append s.0 rest in
    omega (arith, h, l)

behind_some : (u v : List Token) (t : Token) → 1 ≤ length (u ++ t ∷ v)
behind_some u v t = let l : length (u ++ t ∷ v) ≡ length u + length (t ∷ v) = length-append u (t ∷ v) in omega (arith, l)

pub stmt_has_token : {u : List Token} {s : StmtTree} → IsStmt u s → 1 ≤ length u
stmt_has_token (is_null p) = omega arith
stmt_has_token (is_set b p q {u} {v} {w} x d y) = behind_some u (v ++ (w ++ mark Semicolon q ∷ [])) (mark (assign_mark b) p)
stmt_has_token (is_when i p q x y) = omega arith
stmt_has_token (is_either i p q e x y f z) = omega arith
stmt_has_token (is_case masks i p q e x y f) = omega arith
stmt_has_token (is_block p q x y) = omega arith

arm_has_token : {masks : Bool} {u : List Token} {a : ArmTree} → IsArm masks u a → 1 ≤ length u
arm_has_token (an_arm p {u} {v} {w} x y z) = let l : length (u ++ (v ++ mark Colon p ∷ w)) ≡ length u + length (v ++ mark Colon p ∷ w) = length-append u (v ++ mark Colon p ∷ w) in
    let m = behind_some v w (mark Colon p) in omega (arith, l, m)

pub record LocalLower (l : Lower) : Type 0 where
  pub exprs : LocalAll l.exprs
  pub target : Local l.target
  pub stmt : Local l.stmt
  pub stmt_eats : Eats l.stmt
  pub arm_eats : (masks : Bool) → Eats (arm l masks)

-- assignments
pub local_value : (l : Lower) → LocalLower l → (t : TargetTree) (b : Bool) (d : Option Delay) → Local (in_value l t b d)
local_value l h t b d = local_then l.exprs.expr (at_semicolon b t d) h.exprs.expr (λ e. local_closed Semicolon (set b d t e))

pub local_delay : Local delay
local_delay = local_expect dval_in (λ d. done (delay_by d)) (λ d. local_done (delay_by d))

pub local_later : Local later
local_later = local_next (mark_in Hash) in_later (done None)
    (λ _. local_next (mark_in ParenOpen) (λ _ ts. then_read (delay ts) later_end) (λ ts. then_read (delay ts) (λ d. done (Some d)))
    (λ _. local_then delay later_end local_delay (λ d. local_closed ParenClose (Some d)))
    (local_then delay (λ d. done (Some d)) local_delay (λ d. local_done (Some d)))) (local_done None)

pub local_arrow : (l : Lower) → LocalLower l → (t : TargetTree) (p : Spot) → Local (behind_arrow l t p)
local_arrow l h t p = local_then later (in_value l t false) local_later (local_value l h t false)

pub local_assignment : (l : Lower) → LocalLower l → (t : TargetTree) → Local (at_assignment l t)
local_assignment l h t = local_next (mark_in Equals) (λ _. in_value l t true None) (expect (mark_in LessEqual) (behind_arrow l t)) (λ _. local_value l h t true None)
    (local_expect (mark_in LessEqual) (behind_arrow l t) (local_arrow l h t))

pub local_set : (l : Lower) → LocalLower l → Local (in_set l)
local_set l h = local_then l.target (at_assignment l) h.target (local_assignment l h)

-- `if`
pub local_in_else : (l : Lower) → LocalLower l → (c : ExprTree) (s : StmtTree) (p : Spot) → Local (in_else l c s p)
local_in_else l h c s p = local_then l.stmt (λ z. done (either c s z)) h.stmt (λ z. local_done (either c s z))

pub local_else : (l : Lower) → LocalLower l → (c : ExprTree) (s : StmtTree) → Local (at_else l c s)
local_else l h c s = local_if (takes_else s) (done (when c s)) (next (word_in Else) (in_else l c s) (done (when c s))) (local_done (when c s))
    (local_next (word_in Else) (in_else l c s) (done (when c s)) (local_in_else l h c s) (local_done (when c s)))

pub local_branch : (l : Lower) → LocalLower l → (c : ExprTree) (p : Spot) → Local (in_branch l c p)
local_branch l h c p = local_then l.stmt (at_else l c) h.stmt (local_else l h c)

pub local_condition : (l : Lower) → LocalLower l → (c : ExprTree) → Local (at_condition l c)
local_condition l h c = local_expect (mark_in ParenClose) (in_branch l c) (local_branch l h c)

pub local_in_condition : (l : Lower) → LocalLower l → (p : Spot) → Local (in_condition l p)
local_in_condition l h p = local_then l.exprs.expr (at_condition l) h.exprs.expr (local_condition l h)

pub local_in_if : (l : Lower) → LocalLower l → (p : Spot) → Local (in_if l p)
local_in_if l h p = local_expect (mark_in ParenOpen) (in_condition l) (local_in_condition l h)

-- items of a `case`
pub local_value_label : (l : Lower) → LocalAll l.exprs → Local (value_label l)
local_value_label l i = local_then l.exprs.expr (λ e. done (by_value e)) i.expr (λ e. local_done (by_value e))

pub local_choice : (l : Lower) → LocalAll l.exprs → (masks : Bool) → Local (label l masks)
local_choice l i masks = local_if masks (next mask_in (λ n. done (by_mask n.value n.opened n.width)) (value_label l)) (value_label l)
    (local_next mask_in (λ n. done (by_mask n.value n.opened n.width)) (value_label l) (λ n. local_done (by_mask n.value n.opened n.width)) (local_value_label l i)) (local_value_label l i)

local_in_arm : (l : Lower) → Local l.stmt → (labels : List LabelTree) (p : Spot) → Local (in_arm l labels p)
local_in_arm l h labels p = local_then l.stmt (arm_end labels) h (λ s. local_done (record { labels = labels; body = s }))

pub local_label : (l : Lower) → Local l.stmt → (a : LabelTree) (bs : List LabelTree) → Local (at_label l a bs)
local_label l h a bs = local_expect (mark_in Colon) (in_arm l (a ∷ bs)) (local_in_arm l h (a ∷ bs))

pub local_labels : (l : Lower) → LocalAll l.exprs → Local l.stmt → (masks : Bool) (a : LabelTree) → Local (more_labels l masks a)
local_labels l i h masks a = local_then (more (mark_in Comma) (label l masks)) (at_label l a) (local_more (mark_in Comma) (label l masks) (local_choice l i masks)) (local_label l h a)

pub local_arm : (l : Lower) → LocalAll l.exprs → Local l.stmt → (masks : Bool) → Local (arm l masks)
local_arm l i h masks = local_then (label l masks) (more_labels l masks) (local_choice l i masks) (local_labels l i h masks)

pub local_behind_default : (l : Lower) → LocalLower l → (c : Subject) (before : List ArmTree) (d : StmtTree) → Local (behind_default l c before d)
local_behind_default l h c before d = local_then (many (word_in EndCase) (arm l c.masks)) (case_end c before d) (local_many (word_in EndCase) (arm l c.masks) (h.arm_eats c.masks) (local_arm l h.exprs h.stmt c.masks))
    (λ rows. local_done (switch_else c (arms_before before (arms_of rows.0)) d))

pub local_default_body : (l : Lower) → LocalLower l → (c : Subject) (before : List ArmTree) → Local (default_body l c before)
local_default_body l h c before = local_then l.stmt (behind_default l c before) h.stmt (local_behind_default l h c before)

pub local_default : (l : Lower) → LocalLower l → (c : Subject) (before : List ArmTree) → Local (in_default l c before)
local_default l h c before = local_next (mark_in Colon) (λ _. default_body l c before) (default_body l c before) (λ _. local_default_body l h c before) (local_default_body l h c before)

pub local_ending : (l : Lower) → LocalLower l → (c : Subject) (a : ArmTree) (rows : List ArmTree × Ending) → Local (at_ending l c a rows)
local_ending l h c a rows = local_if rows.1.last (done (switch c (arms_of (a ∷ rows.0)))) (in_default l c (a ∷ rows.0)) (local_done (switch c (arms_of (a ∷ rows.0)))) (local_default l h c (a ∷ rows.0))

pub local_items : (l : Lower) → LocalLower l → (c : Subject) (a : ArmTree) → Local (more_items l c a)
local_items l h c a = local_then (many ending_in (arm l c.masks)) (at_ending l c a) (local_many ending_in (arm l c.masks) (h.arm_eats c.masks) (local_arm l h.exprs h.stmt c.masks)) (local_ending l h c a)

pub local_first_item : (l : Lower) → LocalLower l → (c : Subject) → Local (first_item l c)
local_first_item l h c = local_then (arm l c.masks) (more_items l c) (local_arm l h.exprs h.stmt c.masks) (local_items l h c)

pub local_in_items : (l : Lower) → LocalLower l → (c : Subject) (p : Spot) → Local (in_items l c p)
local_in_items l h c p = local_next (word_in Default) (λ _. in_default l c []) (first_item l c) (λ _. local_default l h c []) (local_first_item l h c)

pub local_subject : (l : Lower) → LocalLower l → (c : Subject) → Local (at_subject l c)
local_subject l h c = local_expect (mark_in ParenClose) (in_items l c) (local_in_items l h c)

pub local_in_subject : (l : Lower) → LocalLower l → (masks : Bool) (p : Spot) → Local (in_subject l masks p)
local_in_subject l h masks p = local_then l.exprs.expr (λ c. at_subject l (subject_of masks c)) h.exprs.expr (λ c. local_subject l h (subject_of masks c))

pub local_in_case : (l : Lower) → LocalLower l → (i : CaseHead) → Local (in_case l i)
local_in_case l h i = local_expect (mark_in ParenOpen) (in_subject l i.masks) (local_in_subject l h i.masks)

-- blocks
abbrev pub LocalSome : Option Lower → Type 0
LocalSome down = (l : Lower) → down ≡ Some l → LocalLower l

pub local_rows : (down : Option Lower) → LocalSome down → Local (block_rows down)
local_rows None D = local_next (word_in End) (λ _. done (block no_rows)) (deep start_in refuse) (λ _. local_done (block no_rows)) (local_deep start_in refuse (local_stop false))
local_rows (Some l) D = local_then (many (word_in End) l.stmt) block_end (local_many (word_in End) l.stmt (D l refl).stmt_eats (D l refl).stmt) (λ rows. local_done (block (stmt_trees_of rows.0)))

pub local_label_name : (down : Option Lower) → LocalSome down → (p : Spot) → Local (at_label_name down p)
local_label_name down D p = local_expect ident_in (λ _. block_rows down) (λ _. local_rows down D)

pub local_block : (down : Option Lower) → LocalSome down → Local (in_block down)
local_block down D = local_next (mark_in Colon) (at_label_name down) (block_rows down) (local_label_name down D) (local_rows down D)

pub local_stmt : (down : Option Lower) → LocalSome down → Local (stmt_at down)
local_stmt down D = local_next (mark_in Semicolon) (λ _. done null) _ (λ _. local_done null)
    (local_descend down target_in in_set _ (λ l e. local_set l (D l e))
    (local_enter down (word_in If) in_if _ (λ l e. local_in_if l (D l e))
    (local_enter down case_in in_case _ (λ l e. local_in_case l (D l e))
    (local_next (word_in Begin) (λ _. in_block down) refuse (λ _. local_block down D) (local_stop false)))))

pub says_lower : (k : ℕ) → SaysLower k (lower k)
says_lower k = (says k, says_targets k, says_stmts k)

pub eats_stmts : (k : ℕ) → Eats (read_stmt k)
eats_stmts k = eats_by (StmtIn k) (read_stmt k) (says_stmts k) (λ u a p. stmt_has_token p.0)

pub eats_arms : (k : ℕ) (masks : Bool) → Eats (arm (lower k) masks)
eats_arms k masks = eats_by (ArmIn masks k) (arm (lower k) masks) (says_arm masks k (lower k) (says_lower k)) (λ u a p. arm_has_token p.0)

lower_with : (k : ℕ) → Local (read_stmt k) → LocalLower (lower k)
lower_with k h = record { exprs = local k; target = local_targets k; stmt = h; stmt_eats = eats_stmts k; arm_eats = eats_arms k }

pub local_stmts : (k : ℕ) → Local (read_stmt k)
unfolding read_stmt
local_stmts zero = local_stmt None (λ l e. search rules)
local_stmts (suc k) = local_stmt (Some (lower k)) (λ l e. let z : lower k ≡ l = search rules in subst LocalLower z (lower_with k (local_stmts k)))

pub local_lower : (k : ℕ) → LocalLower (lower k)
local_lower k = lower_with k (local_stmts k)
