-- What the reader of statements gives is read, and what it refuses can be completed up to there.
use Rattle.std.proofs.Common.{◌≡◌, ℕ, zero, suc, ◌≤◌, max, Bool, true, false, List, [], ◌∷◌, ◌++◌, Option, Some, None, refl, sym, ap, subst, ◌∙◌, append_assoc, append-nil, arith, rules, if◌then◌else◌}
use Rattle.cdc_base.specs.declared.words.Keyword.{Keyword}
use Rattle.cdc_base.specs.declared.words.Keyword.TheVariants.{If, Else, Case, CaseZ, EndCase, Default, Begin, End}
use Rattle.verilog_lex.specs.declared.token.Token.{Token}
use Rattle.verilog_lex.specs.declared.token.TokenKind.{TokenKind}
use Rattle.verilog_lex.specs.declared.token.TokenKind.TheVariants.{Word}
use Rattle.verilog_lex.specs.declared.marks.MarkKind.TheVariants.{ParenOpen, ParenClose, Comma, Colon, Semicolon, Hash, Equals, LessEqual}
use Rattle.verilog_ast.specs.declared.Delay.{Delay}
use Rattle.verilog_reading.specs.Lexemes.{Spot, spot_of, mark, mark_in, word, word_in, ident, ident_in, masked, mask_in, by_name, dval, dval_in}
use Rattle.verilog_reading.specs.ExprTree.{ExprTree, TargetTree}
use Rattle.verilog_reading.specs.Outcome.{done, then_read, next, refuse, deep, expect}
use Rattle.verilog_reading.specs.Lists.{more, many, AreMore, no_more, one_more, AreMany, none_of, one_of}
use Rattle.verilog_reading.specs.StmtTree.{StmtTree, null, set, when, either, switch, switch_else, block, no_rows, stmt_trees_of, Subject, subject_of, LabelTree, by_value, by_mask, ArmTrees, no_arms, and_arms, ArmTree, arms_before, arms_of, label_height, label_heights, stmt_height, row_heights, arm_heights, takes_else}
use Rattle.verilog_reading.specs.StmtReading.{IsStmt, AreStmts, AreItems, MayBe, is_absent, is_present, IsLabel, no_label, a_label, IsDval, is_dval, IsLater, at_once, after_value, after_parens, delay_by, IsChoice, is_value, is_mask, case_word, assign_mark, some_item, is_null, is_set, is_when, is_either, is_case, is_block, no_stmts, more_stmts, no_items, is_arm, is_default}
use Rattle.verilog_reading.specs.StmtReader.{Lower, lower, target_in, start_in, Ending, ending, ending_of, ending_in, ending_word, CaseHead, case_head, masks_of, as_case, case_of, case_in, at_semicolon, in_value, delay, later_end, in_later, later, behind_arrow, at_assignment, in_set, in_else, at_else, in_branch, at_condition, in_condition, in_if, value_label, label, arm_end, in_arm, at_label, more_labels, arm, case_end, behind_default, default_body, in_default, at_ending, more_items, first_item, in_items, at_subject, in_subject, in_case, block_end, block_rows, at_label_name, in_block, stmt_at, read_stmt}
use Rattle.verilog_reading.specs.Laws.{Says, Within}
use Rattle.verilog_reading.proofs.Tests.{nowhere, mark_is, word_is, ident_is, mask_is, dval_is, token_is}
use Rattle.verilog_reading.proofs.Says.{says_done, says_stop, says_then, says_next, says_mark, says_word, says_must, says_expect, says_closed, says_deep, says_enter, says_descend, says_map}
use Rattle.verilog_reading.proofs.Lists.{says_more, says_many}
use Rattle.verilog_reading.proofs.ExprSays.{ExprIn, SaysAll, says}
use Rattle.verilog_reading.proofs.Targets.{TargetIn, says_targets, some_name}

abbrev pub StmtIn : ℕ → List Token → StmtTree → Type 0
StmtIn = Within IsStmt stmt_height

-- one item of a `case`, with labels
pub data IsArm : Bool → List Token → ArmTree → Type 0 where
  an_arm : {masks : Bool} (p : Spot) {u v w : List Token} {a : LabelTree} {bs : List LabelTree} {s : StmtTree} → IsChoice masks u a → AreMore (mark Comma) (IsChoice masks) v bs → IsStmt w s
      → IsArm masks (u ++ (v ++ mark Colon p ∷ w)) (record { labels = a ∷ bs; body = s })

abbrev pub ChoiceIn : Bool → ℕ → List Token → LabelTree → Type 0
ChoiceIn masks = Within (IsChoice masks) label_height

abbrev pub arm_height : ArmTree → ℕ
arm_height a = max (label_heights a.labels) (stmt_height a.body)

abbrev pub ArmIn : Bool → ℕ → List Token → ArmTree → Type 0
ArmIn masks = Within (IsArm masks) arm_height

abbrev pub SaysLower : ℕ → Lower → Type 0
SaysLower j l = SaysAll j l.exprs × ((ts : List Token) → Says (TargetIn j) ts (l.target ts)) × ((ts : List Token) → Says (StmtIn j) ts (l.stmt ts))

abbrev pub StmtSaysDown : ℕ → Option Lower → Type 0
StmtSaysDown k down = (l : Lower) → down ≡ Some l → (j : ℕ) × (k ≡ suc j) × SaysLower j l

-- the least statement
abbrev pub semi : Token
semi = mark Semicolon nowhere

pub semi_in : (k : ℕ) → StmtIn k (semi ∷ []) null
semi_in k = (is_null nowhere, omega arith)

-- assignments
abbrev Later : List Token → Option Delay → Type 0
Later = IsLater false

says_delay : (ts : List Token) → Says IsDval ts (delay ts)
says_delay = says_must IsDval dval_in dval dval_is (by_name some_name) (λ d. done (delay_by d)) (λ d. says_done (λ v. IsDval (dval d ∷ v)) (delay_by d) (is_dval d))

pub says_later : (ts : List Token) → Says Later ts (later ts)
says_later = says_mark Later Hash in_later (done None)
    (λ p. says_mark (λ v. Later (mark Hash p ∷ v)) ParenOpen (λ _ ts. then_read (delay ts) later_end) (λ ts. then_read (delay ts) (λ d. done (Some d)))
    (λ q ts. says_then IsDval (λ v. Later (mark Hash p ∷ (mark ParenOpen q ∷ v))) ts (delay ts) (says_delay ts) later_end
    (λ u d x. says_closed (λ v. Later (mark Hash p ∷ (mark ParenOpen q ∷ (u ++ v)))) ParenClose (Some d) (λ r. after_parens p q r x)))
    (λ ts. says_then IsDval (λ v. Later (mark Hash p ∷ v)) ts (delay ts) (says_delay ts) (λ d. done (Some d))
    (λ u d x. says_done (λ v. Later (mark Hash p ∷ (u ++ v))) (Some d) (subst (λ o. Later (mark Hash p ∷ o) (Some d)) (sym (append-nil u)) (after_value p x)))))
    (says_done Later None at_once)

says_value : (k j : ℕ) → k ≡ suc j → (l : Lower) → SaysLower j l → (u : List Token) (t : TargetTree) → TargetIn j u t → (b : Bool) (p : Spot) (w : List Token) (d : Option Delay) → IsLater b w d → (ts : List Token)
    → Says (λ v. StmtIn k (u ++ mark (assign_mark b) p ∷ (w ++ v))) ts (in_value l t b d ts)
says_value k j e l s u t h b p w d g ts = let P = λ (v : List Token). StmtIn k (u ++ mark (assign_mark b) p ∷ (w ++ v)) in
    says_then (ExprIn j) P ts (l.exprs.expr ts) (s.0.expr ts) (at_semicolon b t d)
    (λ v a i. says_closed (λ x. P (v ++ x)) Semicolon (set b d t a) (λ q. (is_set b p q h.0 g i.0, omega (arith, h.1, i.1, e))))

says_arrow : (k j : ℕ) → k ≡ suc j → (l : Lower) → SaysLower j l → (u : List Token) (t : TargetTree) → TargetIn j u t → (p : Spot) (ts : List Token)
    → Says (λ v. StmtIn k (u ++ mark LessEqual p ∷ v)) ts (behind_arrow l t p ts)
says_arrow k j e l s u t h p ts = says_then Later (λ v. StmtIn k (u ++ mark LessEqual p ∷ v)) ts (later ts) (says_later ts) (in_value l t false)
    (λ w d g. says_value k j e l s u t h false p w d g)

says_set : (k j : ℕ) → k ≡ suc j → (l : Lower) → SaysLower j l → (ts : List Token) → Says (StmtIn k) ts (in_set l ts)
says_set k j e l s ts = says_then (TargetIn j) (StmtIn k) ts (l.target ts) (s.1 ts) (at_assignment l)
    (λ u t h. says_mark (λ v. StmtIn k (u ++ v)) Equals (λ _. in_value l t true None) (expect (mark_in LessEqual) (behind_arrow l t))
    (λ p. says_value k j e l s u t h true p [] None at_once)
    (says_expect (λ v. StmtIn k (u ++ v)) LessEqual (behind_arrow l t) (says_arrow k j e l s u t h)))

-- `if`
says_else : (k j : ℕ) → k ≡ suc j → (l : Lower) → SaysLower j l → (i p q : Spot) (u v : List Token) (c : ExprTree) (s : StmtTree) → ExprIn j u c → StmtIn j v s → (b : Bool) → takes_else s ≡ b → (ts : List Token)
    → Says (λ x. StmtIn k (word If i ∷ (mark ParenOpen p ∷ (u ++ mark ParenClose q ∷ (v ++ x))))) ts ((if b then done (when c s) else next (word_in Else) (in_else l c s) (done (when c s))) ts)
says_else k j e l says i p q u v c s h g true f = says_done (λ x. StmtIn k (word If i ∷ (mark ParenOpen p ∷ (u ++ mark ParenClose q ∷ (v ++ x))))) (when c s)
    (subst (λ x. IsStmt (word If i ∷ (mark ParenOpen p ∷ (u ++ mark ParenClose q ∷ x))) (when c s)) (sym (append-nil v)) (is_when i p q h.0 g.0), omega (arith, h.1, g.1, e))
says_else k j e l says i p q u v c s h g false f = let P = λ (x : List Token). StmtIn k (word If i ∷ (mark ParenOpen p ∷ (u ++ mark ParenClose q ∷ (v ++ x)))) in
    says_word P Else (in_else l c s) (done (when c s))
    (λ o ts. says_then (StmtIn j) (λ x. P (word Else o ∷ x)) ts (l.stmt ts) (says.2 ts) (λ z. done (either c s z))
    (λ w z r. says_done (λ x. P (word Else o ∷ (w ++ x))) (either c s z)
    (subst (λ x. IsStmt (word If i ∷ (mark ParenOpen p ∷ (u ++ mark ParenClose q ∷ (v ++ word Else o ∷ x)))) (either c s z)) (sym (append-nil w)) (is_either i p q o h.0 g.0 f r.0), omega (arith, h.1, g.1, r.1, e))))
    (says_done P (when c s) (subst (λ x. IsStmt (word If i ∷ (mark ParenOpen p ∷ (u ++ mark ParenClose q ∷ x))) (when c s)) (sym (append-nil v)) (is_when i p q h.0 g.0), omega (arith, h.1, g.1, e)))

says_if : (k j : ℕ) → k ≡ suc j → (l : Lower) → SaysLower j l → (i : Spot) (ts : List Token) → Says (λ v. StmtIn k (word If i ∷ v)) ts (in_if l i ts)
says_if k j e l s i = let P = λ (v : List Token). StmtIn k (word If i ∷ v) in
    says_expect P ParenOpen (in_condition l)
    (λ p ts. says_then (ExprIn j) (λ v. P (mark ParenOpen p ∷ v)) ts (l.exprs.expr ts) (s.0.expr ts) (at_condition l)
    (λ u c h. says_expect (λ v. P (mark ParenOpen p ∷ (u ++ v))) ParenClose (in_branch l c)
    (λ q xs. says_then (StmtIn j) (λ v. P (mark ParenOpen p ∷ (u ++ mark ParenClose q ∷ v))) xs (l.stmt xs) (s.2 xs) (at_else l c)
    (λ v a g. says_else k j e l s i p q u v c a h g (takes_else a) refl))))

-- items of a `case`
ending_kind : (k : TokenKind) (s : Spot) (e : Ending) → ending_of k s ≡ Some e → (k ≡ Word (ending_word e.last)) × (s ≡ e.spot)
ending_kind (Word EndCase) s e h = let z : record { last = true; spot = s } ≡ e = search (rules, h) in (ap (λ x. Word (ending_word x.last)) z, ap (λ x. x.spot) z)
ending_kind (Word Default) s e h = let z : record { last = false; spot = s } ≡ e = search (rules, h) in (ap (λ x. Word (ending_word x.last)) z, ap (λ x. x.spot) z)
ending_kind k s e h = absurd (search (rules, h))

pub ending_is : (t : Token) (e : Ending) → ending_in t ≡ Some e → t ≡ ending e
ending_is t e h = let z = ending_kind t.kind (spot_of t) e h in token_is t (Word (ending_word e.last)) e.spot z.0 z.1

masks_word : (w : Keyword) (masks : Bool) → masks_of w ≡ Some masks → w ≡ case_word masks
masks_word Case masks e = let h : false ≡ masks = search (rules, e) in ap case_word h
masks_word CaseZ masks e = let h : true ≡ masks = search (rules, e) in ap case_word h
masks_word w masks e = absurd (search (rules, e))

as_case_is : (o : Option Bool) (s : Spot) (h : CaseHead) → as_case o s ≡ Some h → (o ≡ Some h.masks) × (s ≡ h.spot)
as_case_is None s h e = absurd (search (rules, e))
as_case_is (Some masks) s h e = let z : record { masks = masks; spot = s } ≡ h = search (rules, e) in (ap (λ x. Some x.masks) z, ap (λ x. x.spot) z)

case_kind : (k : TokenKind) (s : Spot) (h : CaseHead) → case_of k s ≡ Some h → (k ≡ Word (case_word h.masks)) × (s ≡ h.spot)
case_kind (Word w) s h e = let z = as_case_is (masks_of w) s h e in (ap Word (masks_word w h.masks z.0), z.1)
case_kind k s h e = absurd (search (rules, e))

pub case_is : (t : Token) (h : CaseHead) → case_in t ≡ Some h → t ≡ case_head h
case_is t h e = let z = case_kind t.kind (spot_of t) h e in token_is t (Word (case_word h.masks)) h.spot z.0 z.1

-- labels
says_value_label : (masks : Bool) (j : ℕ) (l : Lower) → SaysLower j l → (ts : List Token) → Says (ChoiceIn masks j) ts (value_label l ts)
says_value_label masks j l s ts = says_then (ExprIn j) (ChoiceIn masks j) ts (l.exprs.expr ts) (s.0.expr ts) (λ e. done (by_value e))
    (λ u e h. says_done (λ x. ChoiceIn masks j (u ++ x)) (by_value e) (subst (λ x. IsChoice masks x (by_value e)) (sym (append-nil u)) (is_value h.0), h.1))

pub says_label : (masks : Bool) (j : ℕ) (l : Lower) → SaysLower j l → (ts : List Token) → Says (ChoiceIn masks j) ts (label l masks ts)
says_label true j l s = says_next (ChoiceIn true j) mask_in masked mask_is (λ n. done (by_mask n.value n.opened n.width)) (value_label l)
    (λ n. says_done (λ v. ChoiceIn true j (masked n ∷ v)) (by_mask n.value n.opened n.width) (is_mask n, omega arith)) (says_value_label true j l s)
says_label false j l s = says_value_label false j l s

are_labels : (masks : Bool) (j : ℕ) {v : List Token} {bs : List LabelTree} → AreMore (mark Comma) (ChoiceIn masks j) v bs → AreMore (mark Comma) (IsChoice masks) v bs × (label_heights bs ≤ j)
are_labels masks j no_more = (no_more, omega arith)
are_labels masks j (one_more p {u} {v} {a} {bs} x y) = let z = are_labels masks j y in (one_more p x.0 z.0, omega (arith, x.1, z.1))

pub says_arm : (masks : Bool) (j : ℕ) (l : Lower) → SaysLower j l → (ts : List Token) → Says (ArmIn masks j) ts (arm l masks ts)
says_arm masks j l s ts = let L = ChoiceIn masks j in
    says_then L (ArmIn masks j) ts (label l masks ts) (says_label masks j l s ts) (more_labels l masks)
    (λ u a h xs. says_then (AreMore (mark Comma) L) (λ x. ArmIn masks j (u ++ x)) xs (more (mark_in Comma) (label l masks) xs)
    (says_more (mark_in Comma) (label l masks) (mark Comma) (mark_is Comma) L (says_label masks j l s) xs) (at_label l a)
    (λ v bs m. let z = are_labels masks j m in says_expect (λ x. ArmIn masks j (u ++ (v ++ x))) Colon (in_arm l (a ∷ bs))
    (λ p ys. says_then (StmtIn j) (λ x. ArmIn masks j (u ++ (v ++ mark Colon p ∷ x))) ys (l.stmt ys) (s.2 ys) (arm_end (a ∷ bs))
    (λ w b i. says_done (λ x. ArmIn masks j (u ++ (v ++ mark Colon p ∷ (w ++ x)))) (record { labels = a ∷ bs; body = b })
    (subst (λ x. IsArm masks (u ++ (v ++ mark Colon p ∷ x)) (record { labels = a ∷ bs; body = b })) (sym (append-nil w)) (an_arm p h.0 z.0 i.0), omega (arith, h.1, z.1, i.1))))))

-- an item before others
pub arm_before : {masks : Bool} {u x : List Token} {a : ArmTree} {arms : ArmTrees} {d : Option StmtTree} → IsArm masks u a → AreItems masks x arms d → AreItems masks (u ++ x) (and_arms a.labels a.body arms) d
arm_before (an_arm p x y z) rest = is_arm p x y z rest

pub arms_are : (masks : Bool) (j : ℕ) {v w : List Token} {rows : List ArmTree} {arms : ArmTrees} {d : Option StmtTree} → AreMany (ArmIn masks j) v rows → AreItems masks w arms d → arm_heights arms ≤ j
    → AreItems masks (v ++ w) (arms_before rows arms) d × (arm_heights (arms_before rows arms) ≤ j)
arms_are masks j none_of rest h = (rest, h)
arms_are masks j {w = w} {arms = arms} {d = d} (one_of {u} {v} {a} {bs} x y) rest h = let z = arms_are masks j y rest h in
    (subst (λ t. AreItems masks t (and_arms a.labels a.body (arms_before bs arms)) d) (sym (append_assoc u v w)) (arm_before x.0 z.0), omega (arith, x.1, z.1))

module _ (k j : ℕ) (e : k ≡ suc j) (l : Lower) (s : SaysLower j l) (i p q : Spot) (u : List Token) (c : Subject) (h : ExprIn j u c.value) where
  abbrev In : List Token → StmtTree → Type 0
  In v = StmtIn k (word (case_word c.masks) i ∷ (mark ParenOpen p ∷ (u ++ mark ParenClose q ∷ v)))

  -- what stands behind a `default`
  says_behind_default : (v w : List Token) (before : List ArmTree) (d : Spot) → AreMany (ArmIn c.masks j) v before → MayBe Colon w → (ts : List Token)
      → Says (λ x. In (v ++ word Default d ∷ (w ++ x))) ts (default_body l c before ts)
  says_behind_default v w before d m mb ts = says_then (StmtIn j) (λ x. In (v ++ word Default d ∷ (w ++ x))) ts (l.stmt ts) (s.2 ts) (behind_default l c before)
      (λ y a g xs. says_then (λ x rows. (z : List Token) × (x ≡ z ++ word EndCase rows.1 ∷ []) × AreMany (ArmIn c.masks j) z rows.0) (λ x. In (v ++ word Default d ∷ (w ++ (y ++ x)))) xs (many (word_in EndCase) (arm l c.masks) xs)
      (says_many (word_in EndCase) (arm l c.masks) (word EndCase) (word_is EndCase) (ArmIn c.masks j) (says_arm c.masks j l s) nowhere xs) (case_end c before a)
      (λ x rows r. let after = arms_are c.masks j r.2 no_items (omega arith) in
      let all = arms_are c.masks j m (is_default d mb g.0 after.0) after.1 in
      says_done (λ z. In (v ++ word Default d ∷ (w ++ (y ++ (x ++ z))))) (switch_else c (arms_before before (arms_of rows.0)) a) (
        subst (λ z. IsStmt (word (case_word c.masks) i ∷ (mark ParenOpen p ∷ (u ++ mark ParenClose q ∷ z))) (switch_else c (arms_before before (arms_of rows.0)) a))
            (moved v w y x r.0 d rows.1 r.1)
            (is_case c.masks i p q rows.1 h.0 all.0 (has_some (arms_before before (arms_of rows.0)) a)),
        omega (arith, h.1, all.1, g.1, e),
      )))
    where
      has_some : (arms : ArmTrees) (a : StmtTree) → some_item arms (Some a) ≡ true
      has_some no_arms a = refl
      has_some (and_arms labels b arms) a = refl

      moved : (v w y x z : List Token) (d t : Spot) → x ≡ z ++ word EndCase t ∷ [] → (v ++ word Default d ∷ (w ++ (y ++ (z ++ [])))) ++ word EndCase t ∷ [] ≡ v ++ word Default d ∷ (w ++ (y ++ (x ++ [])))
      moved v w y x z d t f = append_assoc v (word Default d ∷ (w ++ (y ++ (z ++ [])))) (word EndCase t ∷ [])
          ∙ ap (λ o. v ++ word Default d ∷ o) (append_assoc w (y ++ (z ++ [])) (word EndCase t ∷ []) ∙ ap (λ o. w ++ o) (append_assoc y (z ++ []) (word EndCase t ∷ [])
          ∙ ap (λ o. y ++ o) (ap (λ o. o ++ word EndCase t ∷ []) (append-nil z) ∙ sym f ∙ sym (append-nil x))))

  says_default : (v : List Token) (before : List ArmTree) (d : Spot) → AreMany (ArmIn c.masks j) v before → (ts : List Token) → Says (λ x. In (v ++ word Default d ∷ x)) ts (in_default l c before ts)
  says_default v before d m = says_mark (λ x. In (v ++ word Default d ∷ x)) Colon (λ _. default_body l c before) (default_body l c before)
      (λ o. says_behind_default v (mark Colon o ∷ []) before d m (is_present o)) (says_behind_default v [] before d m is_absent)

  says_ending : (v w : List Token) (a : ArmTree) (rows : List ArmTree) (b : Bool) (t : Spot) → ArmIn c.masks j v a → AreMany (ArmIn c.masks j) w rows → (ts : List Token)
      → Says (λ x. In (v ++ ((w ++ ending (record { last = b; spot = t }) ∷ []) ++ x))) ts (at_ending l c a (rows, record { last = b; spot = t }) ts)
  says_ending v w a rows true t x y = let all = arms_are c.masks j (one_of x y) no_items (omega arith) in
      says_done (λ o. In (v ++ ((w ++ word EndCase t ∷ []) ++ o))) (switch c (arms_of (a ∷ rows))) (
        subst (λ z. IsStmt (word (case_word c.masks) i ∷ (mark ParenOpen p ∷ (u ++ mark ParenClose q ∷ z))) (switch c (arms_of (a ∷ rows))))
            (ap (λ o. o ++ word EndCase t ∷ []) (append-nil (v ++ w)) ∙ append_assoc v w (word EndCase t ∷ []) ∙ ap (λ o. v ++ o) (sym (append-nil (w ++ word EndCase t ∷ []))))
            (is_case c.masks i p q t h.0 all.0 refl),
        omega (arith, h.1, all.1, e),
      )
  says_ending v w a rows false t x y = λ ts. says_map (λ o. In ((v ++ w) ++ word Default t ∷ o)) (λ o. In (v ++ ((w ++ word Default t ∷ []) ++ o)))
      (λ o z. subst (λ o. In o z) (append_assoc v w (word Default t ∷ o) ∙ ap (λ o. v ++ o) (sym (append_assoc w (word Default t ∷ []) o)))) ts (in_default l c (a ∷ rows) ts) (says_default (v ++ w) (a ∷ rows) t (one_of x y) ts)

  says_items : (ts : List Token) → Says In ts (in_items l c q ts)
  says_items = says_word In Default (λ _. in_default l c []) (first_item l c) (λ t. says_default [] [] t none_of)
      (λ xs. says_then (ArmIn c.masks j) In xs (arm l c.masks xs) (says_arm c.masks j l s xs) (more_items l c)
      (λ v a m ys. says_then (λ x rows. (z : List Token) × (x ≡ z ++ ending rows.1 ∷ []) × AreMany (ArmIn c.masks j) z rows.0) (λ x. In (v ++ x)) ys (many ending_in (arm l c.masks) ys)
      (says_many ending_in (arm l c.masks) ending ending_is (ArmIn c.masks j) (says_arm c.masks j l s) (record { last = true; spot = nowhere }) ys) (at_ending l c a)
      (λ w rows z rest. subst (λ x. Says (λ o. In (v ++ (x ++ o))) rest (at_ending l c a rows rest)) (sym z.1) (says_ending v z.0 a rows.0 rows.1.last rows.1.spot m z.2 rest))))

says_case : (k j : ℕ) → k ≡ suc j → (l : Lower) → SaysLower j l → (i : CaseHead) (ts : List Token) → Says (λ v. StmtIn k (case_head i ∷ v)) ts (in_case l i ts)
says_case k j e l s i = let P = λ (v : List Token). StmtIn k (case_head i ∷ v) in
    says_expect P ParenOpen (in_subject l i.masks)
    (λ p ts. says_then (ExprIn j) (λ v. P (mark ParenOpen p ∷ v)) ts (l.exprs.expr ts) (s.0.expr ts) (λ c. at_subject l (subject_of i.masks c))
    (λ u c h. says_expect (λ v. P (mark ParenOpen p ∷ (u ++ v))) ParenClose (in_items l (subject_of i.masks c)) (λ q. says_items k j e l s i.spot p q u (subject_of i.masks c) h)))

-- blocks
are_stmts : (j : ℕ) {u : List Token} {rows : List StmtTree} → AreMany (StmtIn j) u rows → AreStmts u (stmt_trees_of rows) × (row_heights (stmt_trees_of rows) ≤ suc j)
are_stmts j none_of = (no_stmts, omega arith)
are_stmts j (one_of {u} {v} {a} {bs} p q) = let z = are_stmts j q in (more_stmts p.0 z.0, omega (arith, p.1, z.1))

says_rows : (k : ℕ) (down : Option Lower) → StmtSaysDown k down → (p : Spot) (u : List Token) → IsLabel u → (ts : List Token) → Says (λ v. StmtIn k (word Begin p ∷ (u ++ v))) ts (block_rows down ts)
says_rows k None D p u n =
    let P = λ (v : List Token). StmtIn k (word Begin p ∷ (u ++ v)) in
    let e : (q : Spot) → P (word End q ∷ []) (block no_rows) = λ q. (is_block p q n no_stmts, omega arith) in
    says_word P End (λ _. done (block no_rows)) (deep start_in refuse) (λ q. says_done (λ v. P (word End q ∷ v)) (block no_rows) (e q))
    (says_deep P start_in refuse (word End nowhere ∷ []) (block no_rows) (e nowhere) (says_stop P false (word End nowhere ∷ []) (block no_rows) (e nowhere)))
says_rows k (Some l) D p u n = let d = D l refl in λ ts.
    says_then (λ x rows. (z : List Token) × (x ≡ z ++ word End rows.1 ∷ []) × AreMany (StmtIn d.0) z rows.0) (λ v. StmtIn k (word Begin p ∷ (u ++ v))) ts (many (word_in End) l.stmt ts)
    (says_many (word_in End) l.stmt (word End) (word_is End) (StmtIn d.0) d.2.2 nowhere ts) block_end
    (λ x rows r. let z = are_stmts d.0 r.2 in says_done (λ v. StmtIn k (word Begin p ∷ (u ++ (x ++ v)))) (block (stmt_trees_of rows.0))
    (subst (λ v. IsStmt (word Begin p ∷ (u ++ v)) (block (stmt_trees_of rows.0))) (sym (append-nil x ∙ r.1)) (is_block p rows.1 n z.0), omega (arith, z.1, d.1)))

says_block : (k : ℕ) (down : Option Lower) → StmtSaysDown k down → (p : Spot) (ts : List Token) → Says (λ v. StmtIn k (word Begin p ∷ v)) ts (in_block down ts)
says_block k down D p = let P = λ (v : List Token). StmtIn k (word Begin p ∷ v) in
    says_mark P Colon (at_label_name down) (block_rows down)
    (λ o. says_must (λ v. P (mark Colon o ∷ v)) ident_in ident ident_is some_name (λ _. block_rows down) (λ n. says_rows k down D p (mark Colon o ∷ (ident n ∷ [])) (a_label o n)))
    (says_rows k down D p [] no_label)

pub says_stmt : (k : ℕ) (down : Option Lower) → StmtSaysDown k down → (ts : List Token) → Says (StmtIn k) ts (stmt_at down ts)
says_stmt k down D =
    let P = StmtIn k in
    says_mark P Semicolon (λ _. done null) _ (λ p. says_done (λ v. P (mark Semicolon p ∷ v)) null (is_null p, omega arith))
    (says_descend P down target_in in_set _ (semi ∷ []) null (semi_in k) (λ l q ts. let d = D l q in says_set k d.0 d.1 l d.2 ts)
    (says_enter P down (word_in If) (word If) (word_is If) in_if _ (semi ∷ []) null (semi_in k) (λ l q i _. let d = D l q in says_if k d.0 d.1 l d.2 i)
    (says_enter P down case_in case_head case_is in_case _ (semi ∷ []) null (semi_in k) (λ l q i _. let d = D l q in says_case k d.0 d.1 l d.2 i)
    (says_word P Begin (λ _. in_block down) refuse (says_block k down D) (says_stop P false (semi ∷ []) null (semi_in k))))))

pub says_stmts : (k : ℕ) (ts : List Token) → Says (StmtIn k) ts (read_stmt k ts)
unfolding read_stmt
says_stmts zero = says_stmt zero None (λ l e. search rules)
says_stmts (suc k) = says_stmt (suc k) (Some (lower k)) (λ l e. let z : lower k ≡ l = search rules in (k, refl, subst (SaysLower k) z (says k, says_targets k, says_stmts k)))
