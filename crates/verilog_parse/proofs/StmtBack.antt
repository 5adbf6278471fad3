-- Tokens of the kinds that are printed of a statement read as it.
use Rattle.std.proofs.Common.{◌≡◌, Bool, List, [], ◌∷◌, ◌++◌, map, Option, Some, None, sym, ap, subst, ◌∙◌, append_assoc, append-nil}
use Rattle.cdc_base.specs.declared.words.Keyword.TheVariants as k
use Rattle.verilog_lex.specs.declared.token.Token.{Token}
use Rattle.verilog_lex.specs.declared.token.TokenKind.TheVariants.{Word, Mark}
use Rattle.verilog_lex.specs.declared.marks.MarkKind.TheVariants.{ParenOpen, ParenClose, Comma, Colon}
use Rattle.verilog_reading.specs.Lexemes.{token_at, Dval, by_number, by_name}
use Rattle.verilog_reading.specs.Lists.{AreMore, no_more, one_more}
use Rattle.cdc_base.specs.declared.size.NumberSize.TheVariants.{Sized}
use Rattle.verilog_ast.specs.declared.Delay.{Delay}
use Rattle.verilog_reading.specs.StmtReading.{delay_by, IsDval, is_dval, IsLater, at_once, after_value, after_parens, case_word, IsChoice, is_value, is_mask, IsStmt, AreStmts, AreItems, is_present, no_label, is_null, is_set, is_when, is_either, is_case, is_block, no_stmts, more_stmts, no_items, is_arm, is_default}
use Rattle.verilog_reading.specs.StmtTree.{StmtTree, StmtTrees, switch_else, subject_of, LabelTree, ArmTrees, no_arms, and_arms}
use Rattle.verilog_parse.specs.Printed.{Printed, mark, word, new_line, behind, in_turn}
use Rattle.verilog_parse.specs.Pieces.{expr_pieces, delay_value, delay_pieces, label_pieces, stmt_pieces, default_line, each_row, each_arm}
use Rattle.verilog_parse.proofs.Back.{Back, at_end, at_token, at_last, at_line, at_all, at_part, grouped, back_expr, back_target}

-- entries behind their commas
pub back_more : {A : Type 0} (R : List Token → A → Type 0) (f : A → List Printed) → ((u : List Token) (a : A) → R u a → Back (λ v. R v a) (f a)) → {u : List Token} {bs : List A}
    → AreMore (token_at (Mark Comma)) R u bs → Back (λ v. AreMore (token_at (Mark Comma)) R v bs) (behind (mark Comma) (map f bs))
back_more R f g no_more = at_end no_more
back_more R f g (one_more p {u} {v} {a} {bs} x y) = at_token (λ s. at_part (g u a x) (λ u a. at_all (back_more R f g y) (λ v b. one_more s a b)))

-- a delay, which needs no parentheses
back_dval : (d : Dval) → Back (λ v. IsDval v (delay_by d)) (delay_value (delay_by d))
back_dval (by_number n) = at_last (λ s. is_dval (by_number (record { value = n.value; width = 64; size = Sized; spot = s })))
back_dval (by_name n) = at_last (λ s. is_dval (by_name (record { name = n.name; spot = s })))

back_later : {b : Bool} {u : List Token} {d : Option Delay} → IsLater b u d → Back (λ v. IsLater b v d) (delay_pieces d)
back_later at_once = at_end at_once
back_later (after_value p (is_dval d)) = at_token (λ s. at_all (back_dval d) (λ u x. after_value s x))
back_later (after_parens p q r (is_dval d)) = at_token (λ s. at_all (back_dval d) (λ u x. after_value s x))

back_choice : (masks : Bool) (u : List Token) (a : LabelTree) → IsChoice masks u a → Back (λ v. IsChoice masks v a) (label_pieces a)
back_choice masks u a x = go x
  where
    go : {masks : Bool} {u : List Token} {a : LabelTree} → IsChoice masks u a → Back (λ v. IsChoice masks v a) (label_pieces a)
    go (is_value y) = at_all (back_expr y) (λ u e. is_value e)
    go (is_mask n) = at_last (λ s. is_mask (record { value = n.value; opened = n.opened; width = n.width; spot = s }))

-- the tokens of a line of a `case`, and of what stands behind it
arm_tokens : (u v w y x : List Token) (p : Token) → (u ++ (v ++ p ∷ (w ++ y))) ++ x ≡ (u ++ (v ++ p ∷ w)) ++ (y ++ x)
arm_tokens u v w y x p = append_assoc u (v ++ p ∷ (w ++ y)) x ∙ ap (λ z. u ++ z) (append_assoc v (p ∷ (w ++ y)) x ∙ ap (λ z. v ++ p ∷ z) (append_assoc w y x) ∙ sym (append_assoc v (p ∷ w) (y ++ x)))
    ∙ sym (append_assoc u (v ++ p ∷ w) (y ++ x))

mutual
  pub back_stmt : {u : List Token} {s : StmtTree} → IsStmt u s → Back (λ v. IsStmt v s) (stmt_pieces s)
  back_stmt (is_null p) = at_last (λ i. is_null i)
  back_stmt (is_set blocking p q x d y) = at_part (back_target x) (λ u t. at_token (λ i. at_part (back_later d) (λ v l. at_part (back_expr y) (λ w e. at_last (λ j. is_set blocking i j t l e)))))
  back_stmt (is_when i p q {u} {v} {c} {s} x y) = at_token (λ a. at_token (λ b. grouped (expr_pieces c) (mark ParenClose) (stmt_pieces s) (at_part (back_expr x) (λ u e. at_token (λ d.
      at_all (back_stmt y) (λ v f. is_when a b d e f))))))
  back_stmt (is_either i p q e {u} {v} {w} {c} {s} {z} x y t o) = at_token (λ a. at_token (λ b. grouped (expr_pieces c) (mark ParenClose) (stmt_pieces s ++ (word k.Else ++ stmt_pieces z)) (at_part (back_expr x) (λ u e.
      at_token (λ d. at_part (back_stmt y) (λ v f. at_token (λ g. at_all (back_stmt o) (λ w h. is_either a b d g e f t h))))))))
  back_stmt (is_case masks i p q e {u} {v} {c} {arms} {d = None} x y z) = at_token (λ a. at_token (λ b. grouped (expr_pieces c) (mark ParenClose) (new_line ++ (in_turn (each_arm arms) ++ word k.EndCase)) (at_part (back_expr x) (λ u e.
      at_token (λ d. at_line (at_part (back_arms y) (λ v f. at_last (λ g. is_case masks a b d g e (subst (λ w. AreItems masks w arms None) (append-nil v) (f [] None no_items)) z))))))))
  back_stmt (is_case masks i p q e {u} {v} {c} {arms} {d = Some m} x y z) = at_token (λ a. at_token (λ b. grouped (expr_pieces c) (mark ParenClose) (new_line ++ (in_turn (each_arm arms) ++ (default_line (stmt_pieces m) ++ word k.EndCase)))
      (at_part (back_expr x) (λ u e. at_token (λ d. at_line (at_part (back_arms y) (λ v f. at_part (back_default y) (λ w h. at_last (λ g.
      subst (λ r. IsStmt (token_at (Word (case_word masks)) a ∷ (token_at (Mark ParenOpen) b ∷ (u ++ token_at (Mark ParenClose) d ∷ r))) (switch_else (subject_of masks c) arms m)) (append_assoc v w (token_at (Word k.EndCase) g ∷ []))
      (is_case masks a b d g e (f w (Some m) h) z))))))))))
  back_stmt (is_block p q l y) = at_token (λ a. at_line (at_part (back_stmts y) (λ u r. at_last (λ b. is_block a b no_label r))))

  back_stmts : {u : List Token} {rows : StmtTrees} → AreStmts u rows → Back (λ v. AreStmts v rows) (in_turn (each_row rows))
  back_stmts no_stmts = at_end no_stmts
  back_stmts (more_stmts {u} {v} {s} {rows} x y) = grouped (stmt_pieces s) new_line (in_turn (each_row rows)) (at_part (back_stmt x) (λ u a. at_line (at_all (back_stmts y) (λ v b. more_stmts a b))))

  -- the items that have labels, before those that may follow
  back_arms : {masks : Bool} {u : List Token} {arms : ArmTrees} {d : Option StmtTree} → AreItems masks u arms d
      → Back (λ v. (x : List Token) (e : Option StmtTree) → AreItems masks x no_arms e → AreItems masks (v ++ x) arms e) (in_turn (each_arm arms))
  back_arms no_items = at_end (λ x e r. r)
  back_arms (is_arm {masks} p {u} {v} {w} {x} {a} {bs} {s} {arms} {d} f g h i) = let A = label_pieces a in let B = behind (mark Comma) (map label_pieces bs) in let S = stmt_pieces s in let R = in_turn (each_arm arms) in
      grouped (A ++ B) (mark Colon ++ (S ++ new_line)) R (grouped A B (mark Colon ++ ((S ++ new_line) ++ R)) (at_part (back_choice masks u a f) (λ u l. at_part (back_more (IsChoice masks) label_pieces (back_choice masks) g) (λ v b.
      at_token (λ c. grouped S new_line R (at_part (back_stmt h) (λ w t. at_line (at_all (back_arms i) (λ y r x e q.
      subst (λ z. AreItems masks z (and_arms (a ∷ bs) s arms) e) (sym (arm_tokens u v w y x (token_at (Mark Colon) c))) (is_arm c l b t (r x e q)))))))))))
  back_arms (is_default p m h i) = back_arms i

  back_default : {masks : Bool} {u : List Token} {arms : ArmTrees} {s : StmtTree} → AreItems masks u arms (Some s) → Back (λ v. AreItems masks v no_arms (Some s)) (default_line (stmt_pieces s))
  back_default (is_arm p f g h i) = back_default i
  back_default (is_default p m h i) = at_token (λ a. at_token (λ c. at_part (back_stmt h) (λ v t. at_line (at_end (is_default a (is_present c) t no_items)))))
