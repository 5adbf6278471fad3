-- What a text can hold stays so where it is read and printed: expressions and statements.
use Rattle.std.proofs.Common.{ℕ, ◌<◌, ◌^◌, arith, ◌≡◌, Bool, true, false, refl, rules, List, [], ◌∷◌, ◌++◌, map, Option, Some, None}
use Rattle.std.specs.Prelude.{⊤}
use Rattle.cdc_base.specs.declared.size.NumberSize.{NumberSize}
use Rattle.cdc_base.specs.declared.size.NumberSize.TheVariants.{Plain, Unsized, Sized}
use Rattle.cdc_base.specs.declared.words.Keyword.{Keyword}
use Rattle.verilog_lex.specs.declared.token.Token.{Token}
use Rattle.verilog_lex.specs.declared.token.TokenKind.{TokenKind}
use Rattle.verilog_lex.specs.declared.token.TokenKind.TheVariants.{Word, Ident, Number, Mask, Mark, End}
use Rattle.verilog_lex.specs.declared.marks.MarkKind.{MarkKind}
use Rattle.verilog_lex.specs.declared.marks.MarkKind.TheVariants.{ParenClose, Comma, Colon}
use Rattle.verilog_ast.specs.declared.Delay.{Delay}
use Rattle.verilog_ast.specs.declared.PartKind.{PartKind}
use Rattle.verilog_reading.specs.Lexemes.{token_at, by_number, by_name}
use Rattle.verilog_reading.specs.ExprTree.{ExprTree, ExprTrees, TargetTree, TargetTrees}
use Rattle.verilog_reading.specs.Lists.{AreMore, no_more, one_more}
use Rattle.verilog_reading.specs.Reading.{IsUnary, IsBinary, IsExpr, AreMoreExprs, IsPart, is_number, is_name, is_index, is_part, is_paren, is_join, is_repeat, is_unary, is_single, is_tighter, is_binary, is_plain, is_choice, no_exprs, more_exprs, are_bounds, IsTarget, AreMoreTargets, is_whole, is_index_of, is_part_of, is_join_of, no_targets, more_targets}
use Rattle.verilog_reading.specs.StmtReading.{IsDval, is_dval, IsLater, at_once, after_value, after_parens, IsChoice, is_value, is_mask, IsStmt, AreStmts, AreItems, is_null, is_set, is_when, is_either, is_case, is_block, no_stmts, more_stmts, no_items, is_arm, is_default}
use Rattle.verilog_reading.specs.StmtTree.{StmtTree, StmtTrees, LabelTree, ArmTrees}
use Rattle.verilog_parse.specs.Printed.{Printed, token, line_end, mark, behind, in_turn}
use Rattle.verilog_parse.specs.Pieces.{expr_pieces, each_expr, in_brackets, from_to, target_pieces, each_target, delay_value, delay_pieces, label_pieces, stmt_pieces, default_line, each_row, each_arm}
use Rattle.verilog_parse.specs.Written.{IsWritable, can_be_size, is_unsized, begins_unsized, AreWritable}
use Rattle.verilog_parse.proofs.NumberTexts.{below_word}

-- a kind of token that a text has
abbrev pub CanStand : TokenKind → Type 0
CanStand (Word w) = ⊤
CanStand (Ident n) = IsWritable (Ident n)
CanStand (Number value width size) = IsWritable (Number value width size)
CanStand (Mask value opened width) = IsWritable (Mask value opened width)
CanStand (Mark s) = ⊤
CanStand End = ⊤

pub data Stand : List Token → Type 0 where
  s_end : Stand []
  s_more : {t : Token} {ts : List Token} → CanStand t.kind → Stand ts → Stand (t ∷ ts)

pub front : (u v : List Token) → Stand (u ++ v) → Stand u
front [] v h = s_end
front (t ∷ u) v (s_more h r) = s_more h (front u v r)

pub rest : (u v : List Token) → Stand (u ++ v) → Stand v
rest [] v h = h
rest (t ∷ u) v (s_more h r) = rest u v r

pub tail : {t : Token} {ts : List Token} → Stand (t ∷ ts) → Stand ts
tail (s_more h r) = r

-- what is printed can be written; one flag tells that a plain number may stand before it, the other that it may end with one
pub data Written : Bool → Bool → List Printed → Type 0 where
  w_end : {b : Bool} → Written false b []
  w_still : Written true true []
  w_piece : {a b : Bool} {kind : TokenKind} {ps : List Printed} → IsWritable kind → (a ≡ true → is_unsized kind ≡ false) → Written (can_be_size kind) b ps → Written a b (token kind ∷ ps)
  w_line : {a b : Bool} {ps : List Printed} → Written a b ps → Written a b (line_end ∷ ps)

pub w_token : {a b : Bool} {n : List ℕ} {ps : List Printed} → IsWritable (Ident n) → Written false b ps → Written a b (token (Ident n) ∷ ps)
w_token h w = w_piece h (λ e. refl) w

pub w_mark : {a b : Bool} {s : MarkKind} {ps : List Printed} → Written false b ps → Written a b (token (Mark s) ∷ ps)
w_mark w = w_piece tt (λ e. refl) w

pub w_word : {a b : Bool} {k : Keyword} {ps : List Printed} → Written false b ps → Written a b (token (Word k) ∷ ps)
w_word w = w_piece tt (λ e. refl) w

w_number : (v w : ℕ) (z : NumberSize) → IsWritable (Number v w z) → Written false true (token (Number v w z) ∷ [])
w_number v w Plain h = w_piece h (λ e. refl) w_still
w_number v w Unsized h = w_piece h (λ e. absurd (search (rules, e))) w_end
w_number v w Sized h = w_piece h (λ e. refl) w_end

-- what can stand behind a plain number can stand anywhere
anywhere : {a b : Bool} {ps : List Printed} → Written a b ps → Written false b ps
anywhere w_end = w_end
anywhere w_still = w_end
anywhere (w_piece h g x) = w_piece h (λ e. absurd (search (rules, e))) x
anywhere (w_line x) = w_line (anywhere x)

pub both : {a b c : Bool} {ps qs : List Printed} → Written a b ps → Written b c qs → Written a c (ps ++ qs)
both w_end y = anywhere y
both w_still y = y
both (w_piece h g x) y = w_piece h g (both x y)
both (w_line x) y = w_line (both x y)

-- behind a plain number no base stands
no_base : {a b : Bool} {ps : List Printed} → Written a b ps → a ≡ true → begins_unsized ps ≡ false
no_base w_end e = refl
no_base w_still e = refl
no_base (w_piece h g x) e = g e
no_base (w_line x) e = no_base x e

pub writable : {a b : Bool} {ps : List Printed} → Written a b ps → AreWritable ps
writable w_end = tt
writable w_still = tt
writable (w_piece h g x) = (h, no_base x, writable x)
writable (w_line x) = writable x

mutual
  kept_unary : {u : List Token} {a : ExprTree} → IsUnary u a → Stand u → Written false true (expr_pieces a)
  kept_unary (is_number n) (s_more h r) = w_number n.value n.width n.size h
  kept_unary (is_name n) (s_more h r) = w_token h w_end
  kept_unary (is_index n p q {u} x) (s_more h (s_more g r)) = w_token h (w_mark (both (kept_expr x (front u _ r)) (w_mark w_end)))
  kept_unary (is_part n x) (s_more h r) = w_token h (kept_part x r)
  kept_unary (is_paren p q {u} x) (s_more h r) = w_mark (both (kept_expr x (front u _ r)) (w_mark w_end))
  kept_unary (is_join p q {u} {v} x y) (s_more h r) = w_mark (both (both (kept_expr x (front u _ r)) (kept_exprs y (front v _ (rest u _ r)))) (w_mark w_end))
  kept_unary (is_repeat p o q s {u} {v} {w} x y z) (s_more h r) = let t = tail (rest u _ r) in
      w_mark (both {b = false} (both (kept_expr x (front u _ r)) (w_mark (both (both (kept_expr y (front v _ t)) (kept_exprs z (front w _ (rest v _ t)))) (w_mark w_end)))) (w_mark w_end))
  kept_unary (is_unary p e x) (s_more h r) = w_mark (kept_unary x r)

  pub kept_part : {z : Bool} {kind : PartKind} {u : List Token} {a b : ExprTree} → IsPart kind u a b → Stand u → Written false z (in_brackets (from_to kind (expr_pieces a) (expr_pieces b)))
  kept_part (are_bounds p o q {u} {v} x y) (s_more h r) = w_mark (both (both (kept_expr x (front u _ r)) (w_mark (kept_expr y (front v _ (tail (rest u _ r)))))) (w_mark w_end))

  kept_binary : {l : ℕ} {u : List Token} {a : ExprTree} → IsBinary l u a → Stand u → Written false true (expr_pieces a)
  kept_binary (is_single x) r = kept_unary x r
  kept_binary (is_tighter l x) r = kept_binary x r
  kept_binary (is_binary l j {u} {v} e x y) r = both (kept_binary x (front u _ r)) (w_mark (kept_binary y (tail (rest u _ r))))

  pub kept_expr : {u : List Token} {a : ExprTree} → IsExpr u a → Stand u → Written false true (expr_pieces a)
  kept_expr (is_plain x) r = kept_binary x r
  kept_expr (is_choice p q {u} {v} {w} x y z) r = let t = tail (rest u _ r) in both (kept_binary x (front u _ r)) (w_mark (both (kept_expr y (front v _ t)) (w_mark (kept_expr z (tail (rest v _ t))))))

  kept_exprs : {u : List Token} {bs : ExprTrees} → AreMoreExprs u bs → Stand u → Written true true (behind (mark Comma) (each_expr bs))
  kept_exprs no_exprs r = w_still
  kept_exprs (more_exprs p {u} {v} x y) (s_more h r) = w_mark (both (kept_expr x (front u _ r)) (kept_exprs y (rest u _ r)))

mutual
  pub kept_target : {z : Bool} {u : List Token} {t : TargetTree} → IsTarget u t → Stand u → Written false z (target_pieces t)
  kept_target (is_whole n) (s_more h r) = w_token h w_end
  kept_target (is_index_of n p q {u} x) (s_more h (s_more g r)) = w_token h (w_mark (both (kept_expr x (front u _ r)) (w_mark w_end)))
  kept_target (is_part_of n x) (s_more h r) = w_token h (kept_part x r)
  kept_target (is_join_of p q {u} {v} x y) (s_more h r) = w_mark (both (both (kept_target x (front u _ r)) (kept_targets y (front v _ (rest u _ r)))) (w_mark w_end))

  kept_targets : {u : List Token} {bs : TargetTrees} → AreMoreTargets u bs → Stand u → Written true true (behind (mark Comma) (each_target bs))
  kept_targets no_targets r = w_still
  kept_targets (more_targets p {u} {v} x y) (s_more h r) = w_mark (both (kept_target x (front u _ r)) (kept_targets y (rest u _ r)))

abbrev pub Keeps : {A : Type 0} → (List Token → A → Type 0) → (A → List Printed) → Type 0
Keeps {A} R f = (u : List Token) (a : A) → R u a → Stand u → Written false true (f a)

pub kept_more : {A : Type 0} (R : List Token → A → Type 0) (f : A → List Printed) → Keeps R f → {u : List Token} {bs : List A} → AreMore (token_at (Mark Comma)) R u bs → Stand u → Written true true (behind (mark Comma) (map f bs))
kept_more R f g no_more r = w_still
kept_more R f g (one_more p {u} {v} {a} {bs} x y) (s_more h r) = w_mark (both (g u a x (front u _ r)) (kept_more R f g y (rest u _ r)))

-- a delay, whose number has 64 bits at most
below_64 : (v w : ℕ) (z : NumberSize) → IsWritable (Number v w z) → v < 2 ^ 64
below_64 v w Plain h = omega (arith, h.1)
below_64 v w Unsized h = omega (arith, h.1)
below_64 v w Sized h = below_word v w h.2 h.1

kept_dval : {u : List Token} {d : Delay} → IsDval u d → (v : List Token) → Stand (u ++ v) → Written false false (delay_value d)
kept_dval (is_dval (by_number n)) v (s_more h r) = w_piece (omega arith, omega arith, below_64 n.value n.width n.size h) (λ e. refl) w_end
kept_dval (is_dval (by_name n)) v (s_more h r) = w_token h w_end

kept_later : {b : Bool} {u : List Token} {d : Option Delay} → IsLater b u d → (v : List Token) → Stand (u ++ v) → Written false false (delay_pieces d)
kept_later at_once v r = w_end
kept_later (after_value p {u} x) v (s_more h r) = w_mark (kept_dval x v r)
kept_later (after_parens p q o {u} x) v (s_more h (s_more g r)) = w_mark (kept_dval x _ (front (u ++ token_at (Mark ParenClose) o ∷ []) v r))

kept_choice : (masks : Bool) → Keeps (IsChoice masks) label_pieces
kept_choice masks u a x = go x
  where
    go : {masks : Bool} {u : List Token} {a : LabelTree} → IsChoice masks u a → Stand u → Written false true (label_pieces a)
    go (is_value y) r = kept_expr y r
    go (is_mask n) (s_more h r) = w_piece h (λ e. refl) w_end

mutual
  pub kept_stmt : {u : List Token} {s : StmtTree} → IsStmt u s → Stand u → Written false false (stmt_pieces s)
  kept_stmt (is_null p) r = w_mark w_end
  kept_stmt (is_set b p q {u} {v} {w} x d y) r = let t = tail (rest u _ r) in
      both {b = false} (kept_target x (front u _ r)) (w_mark (both (kept_later d _ t) (both (kept_expr y (front w _ (rest v _ t))) (w_mark w_end))))
  kept_stmt (is_when i p q {u} {v} x y) (s_more h (s_more g r)) = w_word (w_mark (both (both (kept_expr x (front u _ r)) (w_mark w_end)) (kept_stmt y (tail (rest u _ r)))))
  kept_stmt (is_either i p q e {u} {v} {w} x y t z) (s_more h (s_more g r)) = let s = tail (rest u _ r) in
      w_word (w_mark (both (both (kept_expr x (front u _ r)) (w_mark w_end)) (both (kept_stmt y (front v _ s)) (w_word (kept_stmt z (tail (rest v _ s)))))))
  kept_stmt (is_case masks i p q e {u} {v} {d = None} x y z) (s_more h (s_more g r)) = let s = tail (rest u _ r) in
      w_word (w_mark (both (both (kept_expr x (front u _ r)) (w_mark w_end)) (w_line (both (kept_arms y (front v _ s)) (w_word w_end)))))
  kept_stmt (is_case masks i p q e {u} {v} {d = Some m} x y z) (s_more h (s_more g r)) = let s = tail (rest u _ r) in
      w_word (w_mark (both (both (kept_expr x (front u _ r)) (w_mark w_end)) (w_line (both (kept_arms y (front v _ s)) (both (kept_default y (front v _ s)) (w_word w_end))))))
  kept_stmt (is_block p q {l} {u} x y) (s_more h r) = w_word (w_line (both (kept_stmts y (front u _ (rest l _ r))) (w_word w_end)))

  kept_stmts : {u : List Token} {rows : StmtTrees} → AreStmts u rows → Stand u → Written false false (in_turn (each_row rows))
  kept_stmts no_stmts r = w_end
  kept_stmts (more_stmts {u} {v} x y) r = both (both (kept_stmt x (front u _ r)) (w_line w_end)) (kept_stmts y (rest u _ r))

  kept_arms : {masks : Bool} {u : List Token} {arms : ArmTrees} {d : Option StmtTree} → AreItems masks u arms d → Stand u → Written false false (in_turn (each_arm arms))
  kept_arms no_items r = w_end
  kept_arms (is_arm {masks} p {u} {v} {w} {x} {a = l} f g h i) r = let a = front (u ++ (v ++ token_at (Mark Colon) p ∷ w)) _ r in
      both (both (both (kept_choice masks u l f (front u _ a)) (kept_more (IsChoice masks) label_pieces (kept_choice masks) g (front v _ (rest u _ a)))) (w_mark (both (kept_stmt h (tail (rest v _ (rest u _ a)))) (w_line w_end))))
      (kept_arms i (rest (u ++ (v ++ token_at (Mark Colon) p ∷ w)) _ r))
  kept_arms (is_default p {u} {v} {w} m h i) (s_more g r) = kept_arms i (rest v _ (rest u _ r))

  kept_default : {masks : Bool} {u : List Token} {arms : ArmTrees} {s : StmtTree} → AreItems masks u arms (Some s) → Stand u → Written false false (default_line (stmt_pieces s))
  kept_default (is_arm p {u} {v} {w} {x} f g h i) r = kept_default i (rest (u ++ (v ++ token_at (Mark Colon) p ∷ w)) _ r)
  kept_default (is_default p {u} {v} {w} m h i) (s_more g r) = w_word (w_mark (both (kept_stmt h (front v _ (rest u _ r))) (w_line w_end)))
