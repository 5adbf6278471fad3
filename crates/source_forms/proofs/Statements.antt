-- Expressions, targets and statements that are read of tokens whose numbers fit are formed.
use Rattle.std.proofs.Common.{ℕ, Bool, List, [], ◌∷◌, ◌++◌, Option, Some, None}
use Rattle.std.specs.Prelude.{All}
use Rattle.std.proofs.lemmas.List.Elements.{All-head, All-cons, All-nil, All-tail}
use Rattle.verilog_lex.specs.declared.token.Token.{Token}
use Rattle.verilog_lex.specs.declared.marks.MarkKind.TheVariants.{Colon}
use Rattle.verilog_reading.specs.Lexemes.{mark}
use Rattle.verilog_reading.specs.ExprTree.{ExprTree, ExprTrees, TargetTree, TargetTrees}
use Rattle.verilog_reading.specs.Lists.{AreMore, no_more, one_more}
use Rattle.verilog_reading.specs.Reading.{IsUnary, IsBinary, IsExpr, AreMoreExprs, IsPart, is_number, is_name, is_index, is_part, is_paren, is_join, is_repeat, is_unary, is_single, is_tighter, is_binary, is_plain, is_choice, no_exprs, more_exprs, are_bounds, IsTarget, AreMoreTargets, is_whole, is_index_of, is_part_of, is_join_of, no_targets, more_targets}
use Rattle.verilog_reading.specs.StmtReading.{IsChoice, is_value, is_mask, IsStmt, AreStmts, AreItems, is_null, is_set, is_when, is_either, is_case, is_block, no_stmts, more_stmts, no_items, is_arm, is_default}
use Rattle.verilog_ast.specs.declared.PartKind.{PartKind}
use Rattle.verilog_reading.specs.StmtTree.{StmtTree, StmtTrees, LabelTree, ArmTrees}
use Rattle.flat_unfolding.specs.Formed.{IsFormed, AreFormed, IsTargetFormed, AreTargetsFormed, IsLabelFormed, IsStmtFormed, AreRowsFormed, AreArmsFormed}
use Rattle.source_forms.specs.Numerals.{IsNumeral, AreNumerals}

-- numbers that fit, token by token
pub data Fit : List Token → Type 0 where
  f_end : Fit []
  f_more : {t : Token} {ts : List Token} → IsNumeral t.kind → Fit ts → Fit (t ∷ ts)

pub fit : (ts : List Token) → AreNumerals ts → Fit ts
fit [] h = f_end
fit (t ∷ ts) h = f_more (All-head (λ (t : Token). IsNumeral t.kind) t ts h) (fit ts (All-tail (λ (t : Token). IsNumeral t.kind) t ts h))

pub are_numerals : {ts : List Token} → Fit ts → AreNumerals ts
are_numerals f_end = All-nil (λ (t : Token). IsNumeral t.kind)
are_numerals (f_more {t} {ts} h r) = All-cons (λ (t : Token). IsNumeral t.kind) t ts h (are_numerals r)

pub front : (u v : List Token) → Fit (u ++ v) → Fit u
front [] v r = f_end
front (t ∷ u) v (f_more h r) = f_more h (front u v r)

pub rest : (u v : List Token) → Fit (u ++ v) → Fit v
rest [] v r = r
rest (t ∷ u) v (f_more h r) = rest u v r

pub tail : {t : Token} {ts : List Token} → Fit (t ∷ ts) → Fit ts
tail (f_more h r) = r

mutual
  unary_formed : {u : List Token} {a : ExprTree} → IsUnary u a → Fit u → IsFormed a
  unary_formed (is_number n) (f_more h r) = h
  unary_formed (is_name n) r = tt
  unary_formed (is_index n p q {u} x) r = expr_formed x (front u _ (tail (tail r)))
  unary_formed (is_part n x) r = part_formed x (tail r)
  unary_formed (is_paren p q {u} x) r = expr_formed x (front u _ (tail r))
  unary_formed (is_join p q {u} {v} x y) r = (tt, (expr_formed x (front u _ (tail r)), exprs_formed y (front v _ (rest u _ (tail r)))))
  unary_formed (is_repeat p o q s {u} {v} {w} x y z) r = let t = tail (rest u _ (tail r)) in
      (expr_formed x (front u _ (tail r)), tt, (expr_formed y (front v _ t), exprs_formed z (front w _ (rest v _ t))))
  unary_formed (is_unary p e x) r = unary_formed x (tail r)

  pub part_formed : {kind : PartKind} {u : List Token} {a b : ExprTree} → IsPart kind u a b → Fit u → IsFormed a × IsFormed b
  part_formed (are_bounds p o q {u} {v} x y) r = (expr_formed x (front u _ (tail r)), expr_formed y (front v _ (tail (rest u _ (tail r)))))

  binary_formed : {l : ℕ} {u : List Token} {a : ExprTree} → IsBinary l u a → Fit u → IsFormed a
  binary_formed (is_single x) r = unary_formed x r
  binary_formed (is_tighter l x) r = binary_formed x r
  binary_formed (is_binary l j {u} {v} e x y) r = (binary_formed x (front u _ r), binary_formed y (tail (rest u _ r)))

  pub expr_formed : {u : List Token} {a : ExprTree} → IsExpr u a → Fit u → IsFormed a
  expr_formed (is_plain x) r = binary_formed x r
  expr_formed (is_choice p q {u} {v} {w} x y z) r = let t = tail (rest u _ r) in (binary_formed x (front u _ r), expr_formed y (front v _ t), expr_formed z (tail (rest v _ t)))

  exprs_formed : {u : List Token} {bs : ExprTrees} → AreMoreExprs u bs → Fit u → AreFormed bs
  exprs_formed no_exprs r = tt
  exprs_formed (more_exprs p {u} {v} x y) r = (expr_formed x (front u _ (tail r)), exprs_formed y (rest u _ (tail r)))

mutual
  pub target_formed : {u : List Token} {t : TargetTree} → IsTarget u t → Fit u → IsTargetFormed t
  target_formed (is_whole n) r = tt
  target_formed (is_index_of n p q {u} x) r = expr_formed x (front u _ (tail (tail r)))
  target_formed (is_part_of n x) r = part_formed x (tail r)
  target_formed (is_join_of p q {u} {v} x y) r = (tt, (target_formed x (front u _ (tail r)), targets_formed y (front v _ (rest u _ (tail r)))))

  targets_formed : {u : List Token} {bs : TargetTrees} → AreMoreTargets u bs → Fit u → AreTargetsFormed bs
  targets_formed no_targets r = tt
  targets_formed (more_targets p {u} {v} x y) r = (target_formed x (front u _ (tail r)), targets_formed y (rest u _ (tail r)))

-- what tokens with such numbers read as has the property
abbrev pub Gives : {A : Type 0} → (List Token → A → Type 0) → (A → Type 0) → Type 0
Gives {A} R P = (u : List Token) (a : A) → R u a → Fit u → P a

pub more_formed : {A B : Type 0} {separator : B → Token} (R : List Token → A → Type 0) (P : A → Type 0) → Gives R P → {u : List Token} {bs : List A} → AreMore separator R u bs → Fit u → All P bs
more_formed R P f no_more r = All-nil P
more_formed R P f (one_more b {u} {v} {a} {bs} x y) r = All-cons P a bs (f u a x (front u _ (tail r))) (more_formed R P f y (rest u _ (tail r)))

pub each_formed : Gives IsExpr IsFormed
each_formed u a x r = expr_formed x r

label_formed : {masks : Bool} → Gives (IsChoice masks) IsLabelFormed
label_formed _ _ (is_value x) r = expr_formed x r
label_formed _ _ (is_mask n) (f_more h r) = h

mutual
  pub stmt_formed : {u : List Token} {s : StmtTree} → IsStmt u s → Fit u → IsStmtFormed s
  stmt_formed (is_null p) r = tt
  stmt_formed (is_set b p q {u} {v} {w} x y z) r = (target_formed x (front u _ r), expr_formed z (front w _ (rest v _ (tail (rest u _ r)))))
  stmt_formed (is_when i p q {u} {v} x y) r = let t = tail (tail r) in (expr_formed x (front u _ t), stmt_formed y (tail (rest u _ t)))
  stmt_formed (is_either i p q e {u} {v} {w} x y h z) r = let t = tail (tail r) in let s = tail (rest u _ t) in
      (expr_formed x (front u _ t), stmt_formed y (front v _ s), stmt_formed z (tail (rest v _ s)))
  stmt_formed (is_case masks i p q e {u} {v} {d = None} x y h) r = let t = tail (tail r) in (expr_formed x (front u _ t), arms_formed y (front v _ (tail (rest u _ t))))
  stmt_formed (is_case masks i p q e {u} {v} {d = Some m} x y h) r = let t = tail (tail r) in let s = front v _ (tail (rest u _ t)) in
      (expr_formed x (front u _ t), arms_formed y s, default_formed y s)
  stmt_formed (is_block p q {l} {u} x y) r = stmts_formed y (front u _ (rest l _ (tail r)))

  stmts_formed : {u : List Token} {rows : StmtTrees} → AreStmts u rows → Fit u → AreRowsFormed rows
  stmts_formed no_stmts r = tt
  stmts_formed (more_stmts {u} {v} x y) r = (stmt_formed x (front u _ r), stmts_formed y (rest u _ r))

  arms_formed : {masks : Bool} {u : List Token} {arms : ArmTrees} {d : Option StmtTree} → AreItems masks u arms d → Fit u → AreArmsFormed arms
  arms_formed no_items r = tt
  arms_formed (is_arm p {u} {v} {w} {x} {a} {bs} f g h i) r = let s = front (u ++ (v ++ mark Colon p ∷ w)) _ r in let t = rest u _ s in
      (All-cons IsLabelFormed a bs (label_formed _ a f (front u _ s)) (more_formed (IsChoice _) IsLabelFormed label_formed g (front v _ t)), stmt_formed h (tail (rest v _ t)), arms_formed i (rest (u ++ (v ++ mark Colon p ∷ w)) _ r))
  arms_formed (is_default p {u} {v} {w} m h i) r = arms_formed i (rest v _ (rest u _ (tail r)))

  default_formed : {masks : Bool} {u : List Token} {arms : ArmTrees} {s : StmtTree} → AreItems masks u arms (Some s) → Fit u → IsStmtFormed s
  default_formed (is_arm p {u} {v} {w} {x} f g h i) r = default_formed i (rest (u ++ (v ++ mark Colon p ∷ w)) _ r)
  default_formed (is_default p {u} {v} {w} m h i) r = stmt_formed h (front v _ (rest u _ (tail r)))
