-- With three levels more a statement's outcome is the same, but for a token that is refused for its depth: that one is passed.
use Rattle.std.proofs.Common.{◌≡◌, ℕ, zero, suc, ◌<◌, Bool, true, false, List, [], ◌∷◌, length, Option, Some, None, refl, ap, subst, arith, rules}
use Rattle.cdc_base.specs.declared.words.Keyword.TheVariants.{If, Else, Case, CaseZ, EndCase, Default, Begin, End}
use Rattle.verilog_lex.specs.declared.token.Token.{Token}
use Rattle.verilog_lex.specs.declared.token.TokenKind.{TokenKind}
use Rattle.verilog_lex.specs.declared.token.TokenKind.TheVariants.{Word, Ident, Mark}
use Rattle.verilog_lex.specs.declared.marks.MarkKind.TheVariants.{ParenOpen, ParenClose, BraceOpen, Comma, Colon, Semicolon, Hash, Equals, LessEqual}
use Rattle.verilog_ast.specs.declared.Delay.{Delay}
use Rattle.verilog_reading.specs.Lexemes.{Spot, spot_of, token_at, mark_in, word_in, Named, ident_in, mask_in, dval_in}
use Rattle.verilog_reading.specs.ExprTree.{ExprTree, TargetTree}
use Rattle.verilog_reading.specs.Outcome.{Outcome, done, stop, then_read, next, refuse, expect, on_option}
use Rattle.verilog_reading.specs.Lists.{more, many, many_in}
use Rattle.verilog_reading.specs.Reader.{readers}
use Rattle.verilog_reading.specs.TargetReader.{below, read_target, in_target, in_targets}
use Rattle.verilog_reading.specs.StmtTree.{StmtTree, null, set, when, either, switch, switch_else, block, no_rows, stmt_trees_of, Subject, subject_of, by_value, by_mask, ArmTree, arms_before, arms_of, takes_else}
use Rattle.verilog_reading.specs.StmtReading.{delay_by}
use Rattle.verilog_reading.specs.StmtReader.{Lower, lower, target_of, target_in, start_of, start_in, ending_in, CaseHead, case_in, at_semicolon, in_value, delay, later_end, in_later, later, behind_arrow, at_assignment, in_set, in_else, at_else, in_branch, at_condition, in_condition, in_if, value_label, label, arm_end, in_arm, at_label, more_labels, arm, case_end, behind_default, default_body, in_default, at_ending, more_items, first_item, in_items, at_subject, in_subject, in_case, block_end, block_rows, at_label_name, in_block, stmt_at, read_stmt}
use Rattle.verilog_reading.specs.Laws.{Above, Local, Free, rest_of}
use Rattle.verilog_reading.proofs.Local.{shrinks, local_done, local_closed, local_then, row_end, local_many_in}
use Rattle.verilog_reading.proofs.Above.{above_then, above_next, above_done, above_refuse, above_expect, above_closed, above_enter, above_descend, above_trans, above_more, above_many, above_if, Passes}
use Rattle.verilog_reading.proofs.ExprLocal.{local}
use Rattle.verilog_reading.proofs.ExprAbove.{above}
use Rattle.verilog_reading.proofs.Targets.{local_targets, local_braced, local_name_of, LocalBelow, above_targets}
use Rattle.verilog_reading.proofs.StmtLocal.{LocalLower, LocalSome, local_value, local_choice, local_assignment, local_else, local_condition, local_in_if, local_label, local_labels, local_arm, local_behind_default, local_ending, local_items, local_subject, local_in_case, local_block, local_lower}

pub record AboveLower (l l2 : Lower) : Type 0 where
  pub exprs : (ts : List Token) → Above (l.exprs.expr ts) (l2.exprs.expr ts)
  pub target : (ts : List Token) → Above (l.target ts) (l2.target ts)
  pub stmt : (ts : List Token) → Above (l.stmt ts) (l2.stmt ts)

above_delay : (ts : List Token) → Above (delay ts) (delay ts)
above_delay = above_expect dval_in (λ d. done (delay_by d)) (λ d. done (delay_by d)) (λ d. above_done (delay_by d))

above_later : (ts : List Token) → Above (later ts) (later ts)
above_later = above_next (mark_in Hash) in_later in_later (done None) (done None)
    (λ _. above_next (mark_in ParenOpen) (λ _ ts. then_read (delay ts) later_end) (λ _ ts. then_read (delay ts) later_end) (λ ts. then_read (delay ts) (λ d. done (Some d))) (λ ts. then_read (delay ts) (λ d. done (Some d)))
    (λ _ ts. above_then (delay ts) (delay ts) (above_delay ts) later_end later_end (λ d rest _. above_closed ParenClose (Some d) rest) (λ d. local_closed ParenClose (Some d)))
    (λ ts. above_then (delay ts) (delay ts) (above_delay ts) (λ d. done (Some d)) (λ d. done (Some d)) (λ d rest _. above_done (Some d) rest) (λ d. local_done (Some d)))) (above_done None)

module _ (l l2 : Lower) (h : AboveLower l l2) (i : LocalLower l2) where
  above_value : (t : TargetTree) (b : Bool) (d : Option Delay) (ts : List Token) → Above (in_value l t b d ts) (in_value l2 t b d ts)
  above_value t b d ts = above_then (l.exprs.expr ts) (l2.exprs.expr ts) (h.exprs ts) (at_semicolon b t d) (at_semicolon b t d) (λ e rest _. above_closed Semicolon (set b d t e) rest) (λ e. local_closed Semicolon (set b d t e))

  above_arrow : (t : TargetTree) (p : Spot) (ts : List Token) → Above (behind_arrow l t p ts) (behind_arrow l2 t p ts)
  above_arrow t p ts = above_then (later ts) (later ts) (above_later ts) (in_value l t false) (in_value l2 t false) (λ d rest _. above_value t false d rest) (local_value l2 i t false)

  above_set : (ts : List Token) → Above (in_set l ts) (in_set l2 ts)
  above_set ts = above_then (l.target ts) (l2.target ts) (h.target ts) (at_assignment l) (at_assignment l2)
      (λ t rest _. above_next (mark_in Equals) (λ _. in_value l t true None) (λ _. in_value l2 t true None) (expect (mark_in LessEqual) (behind_arrow l t)) (expect (mark_in LessEqual) (behind_arrow l2 t))
      (λ _. above_value t true None) (above_expect (mark_in LessEqual) (behind_arrow l t) (behind_arrow l2 t) (above_arrow t)) rest)
      (local_assignment l2 i)

  above_in_else : (c : ExprTree) (s : StmtTree) (p : Spot) (ts : List Token) → Above (in_else l c s p ts) (in_else l2 c s p ts)
  above_in_else c s p ts = above_then (l.stmt ts) (l2.stmt ts) (h.stmt ts) (λ z. done (either c s z)) (λ z. done (either c s z)) (λ z rest _. above_done (either c s z) rest) (λ z. local_done (either c s z))

  above_else : (c : ExprTree) (s : StmtTree) (ts : List Token) → Above (at_else l c s ts) (at_else l2 c s ts)
  above_else c s = above_if (takes_else s) (done (when c s)) (done (when c s)) (next (word_in Else) (in_else l c s) (done (when c s))) (next (word_in Else) (in_else l2 c s) (done (when c s))) (above_done (when c s))
      (above_next (word_in Else) (in_else l c s) (in_else l2 c s) (done (when c s)) (done (when c s)) (above_in_else c s) (above_done (when c s)))

  above_branch : (c : ExprTree) (p : Spot) (ts : List Token) → Above (in_branch l c p ts) (in_branch l2 c p ts)
  above_branch c p ts = above_then (l.stmt ts) (l2.stmt ts) (h.stmt ts) (at_else l c) (at_else l2 c) (λ s rest _. above_else c s rest) (local_else l2 i c)

  above_in_if : (p : Spot) (ts : List Token) → Above (in_if l p ts) (in_if l2 p ts)
  above_in_if p = above_expect (mark_in ParenOpen) (in_condition l) (in_condition l2)
      (λ q ts. above_then (l.exprs.expr ts) (l2.exprs.expr ts) (h.exprs ts) (at_condition l) (at_condition l2)
      (λ c rest _. above_expect (mark_in ParenClose) (in_branch l c) (in_branch l2 c) (above_branch c) rest) (local_condition l2 i))

  above_value_label : (ts : List Token) → Above (value_label l ts) (value_label l2 ts)
  above_value_label ts = above_then (l.exprs.expr ts) (l2.exprs.expr ts) (h.exprs ts) (λ e. done (by_value e)) (λ e. done (by_value e)) (λ e rest _. above_done (by_value e) rest) (λ e. local_done (by_value e))

  above_label : (masks : Bool) (ts : List Token) → Above (label l masks ts) (label l2 masks ts)
  above_label masks = above_if masks (next mask_in (λ n. done (by_mask n.value n.opened n.width)) (value_label l)) (next mask_in (λ n. done (by_mask n.value n.opened n.width)) (value_label l2)) (value_label l) (value_label l2)
      (above_next mask_in (λ n. done (by_mask n.value n.opened n.width)) (λ n. done (by_mask n.value n.opened n.width)) (value_label l) (value_label l2) (λ n. above_done (by_mask n.value n.opened n.width)) above_value_label) above_value_label

  above_arm : (masks : Bool) (ts : List Token) → Above (arm l masks ts) (arm l2 masks ts)
  above_arm masks ts = above_then (label l masks ts) (label l2 masks ts) (above_label masks ts) (more_labels l masks) (more_labels l2 masks)
      (λ a rest _. above_then (more (mark_in Comma) (label l masks) rest) (more (mark_in Comma) (label l2 masks) rest) (above_more (mark_in Comma) (label l masks) (label l2 masks) (above_label masks) (local_choice l2 i.exprs masks) rest) (at_label l a) (at_label l2 a)
      (λ bs ys _. above_expect (mark_in Colon) (in_arm l (a ∷ bs)) (in_arm l2 (a ∷ bs))
      (λ p zs. above_then (l.stmt zs) (l2.stmt zs) (h.stmt zs) (arm_end (a ∷ bs)) (arm_end (a ∷ bs)) (λ s xs _. above_done (record { labels = a ∷ bs; body = s }) xs) (λ s. local_done (record { labels = a ∷ bs; body = s }))) ys)
      (local_label l2 i.stmt a))
      (local_labels l2 i.exprs i.stmt masks)

  above_default_body : (c : Subject) (before : List ArmTree) (ts : List Token) → Above (default_body l c before ts) (default_body l2 c before ts)
  above_default_body c before ts = above_then (l.stmt ts) (l2.stmt ts) (h.stmt ts) (behind_default l c before) (behind_default l2 c before)
      (λ d rest _. above_then (many (word_in EndCase) (arm l c.masks) rest) (many (word_in EndCase) (arm l2 c.masks) rest) (above_many (word_in EndCase) (arm l c.masks) (arm l2 c.masks) (above_arm c.masks) (local_arm l2 i.exprs i.stmt c.masks) rest) (case_end c before d) (case_end c before d)
      (λ rows ys _. above_done (switch_else c (arms_before before (arms_of rows.0)) d) ys) (λ rows. local_done (switch_else c (arms_before before (arms_of rows.0)) d)))
      (local_behind_default l2 i c before)

  above_default : (c : Subject) (before : List ArmTree) (ts : List Token) → Above (in_default l c before ts) (in_default l2 c before ts)
  above_default c before = above_next (mark_in Colon) (λ _. default_body l c before) (λ _. default_body l2 c before) (default_body l c before) (default_body l2 c before) (λ _. above_default_body c before) (above_default_body c before)

  above_items : (c : Subject) (p : Spot) (ts : List Token) → Above (in_items l c p ts) (in_items l2 c p ts)
  above_items c p = above_next (word_in Default) (λ _. in_default l c []) (λ _. in_default l2 c []) (first_item l c) (first_item l2 c) (λ _. above_default c [])
      (λ xs. above_then (arm l c.masks xs) (arm l2 c.masks xs) (above_arm c.masks xs) (more_items l c) (more_items l2 c)
      (λ a rest _. above_then (many ending_in (arm l c.masks) rest) (many ending_in (arm l2 c.masks) rest) (above_many ending_in (arm l c.masks) (arm l2 c.masks) (above_arm c.masks) (local_arm l2 i.exprs i.stmt c.masks) rest) (at_ending l c a) (at_ending l2 c a)
      (λ rows ys _. above_if rows.1.last (done (switch c (arms_of (a ∷ rows.0)))) (done (switch c (arms_of (a ∷ rows.0)))) (in_default l c (a ∷ rows.0)) (in_default l2 c (a ∷ rows.0))
      (above_done (switch c (arms_of (a ∷ rows.0)))) (above_default c (a ∷ rows.0)) ys)
      (local_ending l2 i c a))
      (local_items l2 i c))

  above_in_case : (o : CaseHead) (ts : List Token) → Above (in_case l o ts) (in_case l2 o ts)
  above_in_case o = above_expect (mark_in ParenOpen) (in_subject l o.masks) (in_subject l2 o.masks)
      (λ q ts. above_then (l.exprs.expr ts) (l2.exprs.expr ts) (h.exprs ts) (λ c. at_subject l (subject_of o.masks c)) (λ c. at_subject l2 (subject_of o.masks c))
      (λ c rest _. above_expect (mark_in ParenClose) (in_items l (subject_of o.masks c)) (in_items l2 (subject_of o.masks c)) (above_items (subject_of o.masks c)) rest)
      (λ c. local_subject l2 i (subject_of o.masks c)))

-- readers with levels enough to pass each token that begins a statement or a target
pub record IsHigh (l : Lower) : Type 0 where
  pub lower : LocalLower l
  pub target : Passes target_in l.target
  pub stmt : Passes start_in l.stmt
  pub other : (ts : List Token) → Free start_in ts → l.stmt ts ≡ stop false ts

abbrev AboveSome : Option Lower → Lower → Type 0
AboveSome down l2 = (l : Lower) → down ≡ Some l → AboveLower l l2

-- blocks
local_end : (rows : List StmtTree × Spot) → Local (block_end rows)
local_end rows = local_done (block (stmt_trees_of rows.0))

above_rows : (down : Option Lower) (l2 : Lower) → AboveSome down l2 → IsHigh l2 → (ts : List Token) → Above (block_rows down ts) (block_rows (Some l2) ts)
above_rows (Some l) l2 D i ts = above_then (many (word_in End) l.stmt ts) (many (word_in End) l2.stmt ts) (above_many (word_in End) l.stmt l2.stmt (D l refl).stmt i.lower.stmt ts) block_end block_end
    (λ rows rest _. above_done (block (stmt_trees_of rows.0)) rest) local_end
above_rows None l2 D i [] = ap (λ o. then_read (then_read o (row_end (word_in End) l2.stmt 0)) block_end) (i.other [] tt)
above_rows None l2 D i (t ∷ ts) = go (word_in End t) (start_in t) refl
  where
    local_row : (a : StmtTree) → Local (row_end (word_in End) l2.stmt (length (t ∷ ts)) a)
    local_row a = local_then (many_in (word_in End) l2.stmt (length (t ∷ ts))) (λ bs. done (a ∷ bs.0, bs.1)) (local_many_in (word_in End) l2.stmt i.lower.stmt (length (t ∷ ts))) (λ bs. local_done (a ∷ bs.0, bs.1))

    go : (b : Option Spot) (o : Option (Unit {0})) → start_in t ≡ o → Above (on_option b (λ _. done (block no_rows) ts) (on_option o (λ _. stop true (t ∷ ts)) (stop false (t ∷ ts))))
        (then_read (on_option b (λ s. done ([], s) ts) (then_read (l2.stmt (t ∷ ts)) (row_end (word_in End) l2.stmt (length (t ∷ ts))))) block_end)
    go (Some s) o e = refl
    go None (Some u) e = above_then (stop true (t ∷ ts)) (then_read (l2.stmt (t ∷ ts)) (row_end (word_in End) l2.stmt (length (t ∷ ts))))
        (above_then (stop true (t ∷ ts)) (l2.stmt (t ∷ ts)) (i.stmt t u ts e) (row_end (word_in End) l2.stmt (length (t ∷ ts))) (row_end (word_in End) l2.stmt (length (t ∷ ts))) (λ a rest q. absurd (search (rules, q))) local_row)
        block_end block_end (λ rows rest q. absurd (search (rules, q))) local_end
    go None None e = ap (λ o. then_read (then_read o (row_end (word_in End) l2.stmt (length (t ∷ ts)))) block_end) (i.other (t ∷ ts) e)

above_block : (down : Option Lower) (l2 : Lower) → AboveSome down l2 → IsHigh l2 → (ts : List Token) → Above (in_block down ts) (in_block (Some l2) ts)
above_block down l2 D i = above_next (mark_in Colon) (at_label_name down) (at_label_name (Some l2)) (block_rows down) (block_rows (Some l2))
    (λ p. above_expect ident_in (λ _. block_rows down) (λ _. block_rows (Some l2)) (λ _. above_rows down l2 D i)) (above_rows down l2 D i)

-- what passes goes on to pass
passes_then : {A B C : Type 0} (test : Token → Option C) (r : List Token → Outcome A) (f : A → List Token → Outcome B) → Passes test r → ((a : A) → Local (f a)) → Passes test (λ ts. then_read (r ts) f)
passes_then {A} {B} test r f h g t b ts e = go (r (t ∷ ts)) (h t b ts e)
  where
    go : (o : Outcome A) → length (rest_of o) < length (t ∷ ts) → length (rest_of (then_read o f)) < length (t ∷ ts)
    go (done a rest) m = let z = shrinks (f a) (g a) rest in omega (arith, m, z)
    go (stop d rest) m = m

above_stmt : (down : Option Lower) (l2 : Lower) → AboveSome down l2 → IsHigh l2 → (ts : List Token) → Above (stmt_at down ts) (stmt_at (Some l2) ts)
above_stmt down l2 D i = above_next (mark_in Semicolon) (λ _. done null) (λ _. done null) _ _ (λ _. above_done null)
    (above_descend down l2 target_in in_set in_set _ _ (λ l e. above_set l l2 (D l e) i.lower) (passes_then target_in l2.target (at_assignment l2) i.target (local_assignment l2 i.lower))
    (above_enter down l2 (word_in If) in_if in_if _ _ (λ l e. above_in_if l l2 (D l e) i.lower) (local_in_if l2 i.lower)
    (above_enter down l2 case_in in_case in_case _ _ (λ l e. above_in_case l l2 (D l e) i.lower) (local_in_case l2 i.lower)
    (above_next (word_in Begin) (λ _. in_block down) (λ _. in_block (Some l2)) refuse refuse (λ _. above_block down l2 D i) above_refuse))))

local_named : (k : ℕ) (n : Named) → Local (in_target (Some (below k)) n)
local_named k n = local_name_of (Some (below k)) (λ b e. let z : below k ≡ b = search rules in subst LocalBelow z (local k, local_targets k)) n

local_some : (k : ℕ) → LocalSome (Some (lower k))
local_some k l e = let z : lower k ≡ l = search rules in subst LocalLower z (local_lower k)

-- with a level left each token that begins a target is passed
target_passes : (k : ℕ) → Passes target_in (read_target (suc k))
unfolding read_target
target_passes k t u ts e = go t.kind (spot_of t) e
  where
    go : (x : TokenKind) (s : Spot) → target_of x ≡ Some u → length (rest_of (read_target (suc k) (token_at x s ∷ ts))) < length (token_at x s ∷ ts)
    go (Ident n) s f = let h = shrinks (in_target (Some (below k)) (record { name = n; spot = s })) (local_named k (record { name = n; spot = s })) ts in omega (arith, h)
    go (Mark BraceOpen) s f = let h = shrinks (in_targets (below k) s) (local_braced (below k) (local k, local_targets k) s) ts in omega (arith, h)
    go x s f = absurd (search (rules, f))

-- with two each that begins a statement
stmt_passes : (k : ℕ) → Passes start_in (read_stmt (suc (suc k)))
unfolding read_stmt
stmt_passes k t u ts e = go t.kind (spot_of t) e
  where
    set_shrinks : (x : TokenKind) (s : Spot) → target_of x ≡ Some tt → length (rest_of (in_set (lower (suc k)) (token_at x s ∷ ts))) < length (token_at x s ∷ ts)
    set_shrinks x s f = passes_then target_in (read_target (suc k)) (at_assignment (lower (suc k))) (target_passes k) (local_assignment (lower (suc k)) (local_lower (suc k))) (token_at x s) tt ts f

    case_shrinks : (i : CaseHead) → length (rest_of (in_case (lower (suc k)) i ts)) < suc (length ts)
    case_shrinks i = let h = shrinks (in_case (lower (suc k)) i) (local_in_case (lower (suc k)) (local_lower (suc k)) i) ts in omega (arith, h)

    go : (x : TokenKind) (s : Spot) → start_of x ≡ Some u → length (rest_of (read_stmt (suc (suc k)) (token_at x s ∷ ts))) < length (token_at x s ∷ ts)
    go (Ident n) s f = set_shrinks (Ident n) s refl
    go (Mark BraceOpen) s f = set_shrinks (Mark BraceOpen) s refl
    go (Mark Semicolon) s f = omega arith
    go (Word If) s f = let h = shrinks (in_if (lower (suc k)) s) (local_in_if (lower (suc k)) (local_lower (suc k)) s) ts in omega (arith, h)
    go (Word Case) s f = case_shrinks (record { masks = false; spot = s })
    go (Word CaseZ) s f = case_shrinks (record { masks = true; spot = s })
    go (Word Begin) s f = let h = shrinks (in_block (Some (lower (suc k)))) (local_block (Some (lower (suc k))) (local_some (suc k))) ts in omega (arith, h)
    go x s f = absurd (search (rules, f))

-- what begins no statement is refused for good
others : (k : ℕ) (ts : List Token) → Free start_in ts → read_stmt (suc k) ts ≡ stop false ts
unfolding read_stmt
others k [] h = refl
others k (t ∷ ts) h = go t.kind (spot_of t) h
  where
    go : (x : TokenKind) (s : Spot) → start_of x ≡ None → read_stmt (suc k) (token_at x s ∷ ts) ≡ stop false (token_at x s ∷ ts)
    go (Ident n) s f = absurd (search (rules, f))
    go (Mark BraceOpen) s f = absurd (search (rules, f))
    go (Mark Semicolon) s f = absurd (search (rules, f))
    go (Word If) s f = absurd (search (rules, f))
    go (Word Case) s f = absurd (search (rules, f))
    go (Word CaseZ) s f = absurd (search (rules, f))
    go (Word Begin) s f = absurd (search (rules, f))
    go x s f = refl

is_high : (k : ℕ) → IsHigh (lower (suc (suc k)))
is_high k = record { lower = local_lower (suc (suc k)); target = target_passes (suc k); stmt = stmt_passes k; other = others (suc k) }

pub above_exprs : (k : ℕ) (ts : List Token) → Above ((readers k).expr ts) ((readers (suc (suc (suc k)))).expr ts)
above_exprs k ts = above_trans ((readers k).expr ts) ((readers (suc (suc k))).expr ts) ((readers (suc (suc (suc k)))).expr ts)
    (above_trans ((readers k).expr ts) ((readers (suc k)).expr ts) ((readers (suc (suc k))).expr ts) ((above k).expr ts) ((above (suc k)).expr ts)) ((above (suc (suc k))).expr ts)

pub above_aims : (k : ℕ) (ts : List Token) → Above (read_target k ts) (read_target (suc (suc (suc k))) ts)
above_aims k ts = above_trans (read_target k ts) (read_target (suc (suc k)) ts) (read_target (suc (suc (suc k))) ts)
    (above_trans (read_target k ts) (read_target (suc k) ts) (read_target (suc (suc k)) ts) (above_targets k ts) (above_targets (suc k) ts)) (above_targets (suc (suc k)) ts)

pub above_stmts : (k : ℕ) (ts : List Token) → Above (read_stmt k ts) (read_stmt (suc (suc (suc k))) ts)
unfolding read_stmt
above_stmts zero = above_stmt None (lower 2) (λ l e. search rules) (is_high 0)
above_stmts (suc k) = above_stmt (Some (lower k)) (lower (suc (suc (suc k))))
    (λ l e. let z : lower k ≡ l = search rules in subst (λ x. AboveLower x (lower (suc (suc (suc k))))) z (record { exprs = above_exprs k; target = above_aims k; stmt = above_stmts k })) (is_high (suc k))
