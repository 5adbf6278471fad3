-- Tokens of the kinds that are printed of an expression or a target read as it.
use Rattle.std.proofs.Common.{◌≡◌, ℕ, List, [], ◌∷◌, ◌++◌, Option, Some, None, refl, sym, ap, subst, ◌∙◌, append_assoc, rules}
use Rattle.verilog_ast.specs.declared.UnaryOp.{UnaryOp}
use Rattle.verilog_ast.specs.declared.UnaryOp.TheVariants as u
use Rattle.verilog_ast.specs.declared.BinaryOp.{BinaryOp}
use Rattle.verilog_ast.specs.declared.BinaryOp.TheVariants as b
use Rattle.verilog_ast.specs.declared.PartKind.{PartKind}
use Rattle.verilog_reading.specs.Parts.{part_mark}
use Rattle.verilog_lex.specs.declared.token.Token.{Token}
use Rattle.verilog_lex.specs.declared.token.TokenKind.{TokenKind}
use Rattle.verilog_lex.specs.declared.marks.MarkKind.{MarkKind}
use Rattle.verilog_lex.specs.declared.marks.MarkKind.TheVariants.{BracketClose, BraceOpen, BraceClose, Comma}
use Rattle.verilog_reading.specs.Lexemes.{Spot, token_at}
use Rattle.verilog_reading.specs.Operators.{unary_of, binary_of, at_level, joins}
use Rattle.verilog_reading.specs.ExprTree.{ExprTree, ExprTrees, TargetTree, TargetTrees}
use Rattle.verilog_reading.specs.Reading.{IsUnary, IsBinary, IsExpr, AreMoreExprs, IsPart, is_number, is_name, is_index, is_part, is_paren, is_join, is_repeat, is_unary, is_single, is_tighter, is_binary, is_plain, is_choice, no_exprs, more_exprs, are_bounds, IsTarget, AreMoreTargets, is_whole, is_index_of, is_part_of, is_join_of, no_targets, more_targets}
use Rattle.verilog_parse.specs.Printed.{Printed, token, line_end, mark, behind}
use Rattle.verilog_parse.specs.Pieces.{unary_mark, binary_mark, expr_pieces, each_expr, in_brackets, from_to, target_pieces, each_target}
use Rattle.verilog_parse.specs.Written.{HasKinds}

-- what holds of all tokens of printed kinds
pub record Back (P : List Token → Type 0) (ps : List Printed) : Type 0 where
  pub read : (v : List Token) → HasKinds v ps → P v

pub at_end : {P : List Token → Type 0} → P [] → Back P []
at_end {P} p = record { read = λ v h. subst P (sym h) p }

pub at_token : {P : List Token → Type 0} {kind : TokenKind} {ps : List Printed} → ((s : Spot) → Back (λ v. P (token_at kind s ∷ v)) ps) → Back P (token kind ∷ ps)
at_token {P} f = record { read = λ v h. subst P (sym h.2) ((f h.0).read h.1 h.3) }

pub at_last : {P : List Token → Type 0} {kind : TokenKind} → ((s : Spot) → P (token_at kind s ∷ [])) → Back P (token kind ∷ [])
at_last f = at_token (λ s. at_end (f s))

pub at_line : {P : List Token → Type 0} {ps : List Printed} → Back P ps → Back P (line_end ∷ ps)
at_line b = record { read = λ v h. b.read v h }

pub at_all : {P Q : List Token → Type 0} {ps : List Printed} → Back Q ps → ((u : List Token) → Q u → P u) → Back P ps
at_all b f = record { read = λ v h. f v (b.read v h) }

-- a part is read, and then the rest
part_of_pieces : (P Q : List Token → Type 0) (ps qs : List Printed) → Back Q ps → ((u : List Token) → Q u → Back (λ v. P (u ++ v)) qs) → Back P (ps ++ qs)
part_of_pieces P Q [] qs b f = f [] (b.read [] refl)
part_of_pieces P Q (token kind ∷ ps) qs b f = at_token (λ s. part_of_pieces (λ v. P (token_at kind s ∷ v)) (λ v. Q (token_at kind s ∷ v)) ps qs
    (record { read = λ v h. b.read (token_at kind s ∷ v) (s, v, refl, h) }) (λ u q. f (token_at kind s ∷ u) q))
part_of_pieces P Q (line_end ∷ ps) qs b f = at_line (part_of_pieces P Q ps qs (record { read = λ v h. b.read v h }) f)

pub at_part : {P Q : List Token → Type 0} {ps qs : List Printed} → Back Q ps → ((u : List Token) → Q u → Back (λ v. P (u ++ v)) qs) → Back P (ps ++ qs)
at_part {P} {Q} {ps} {qs} b f = part_of_pieces P Q ps qs b f

-- two parts that are printed together
pub grouped : {P : List Token → Type 0} (ps qs rs : List Printed) → Back P (ps ++ (qs ++ rs)) → Back P ((ps ++ qs) ++ rs)
grouped {P} ps qs rs b = subst (Back P) (sym (append_assoc ps qs rs)) b

pub ungrouped : {P : List Token → Type 0} (ps qs rs : List Printed) → Back P ((ps ++ qs) ++ rs) → Back P (ps ++ (qs ++ rs))
ungrouped {P} ps qs rs b = subst (Back P) (append_assoc ps qs rs) b

-- a mark of an operator is read as it
unary_back : (op : UnaryOp) → unary_of (unary_mark op) ≡ Some op
unary_back u.Minus = refl
unary_back u.Not = refl
unary_back u.LogicNot = refl
unary_back u.And = refl
unary_back u.Or = refl
unary_back u.Xor = refl
unary_back u.Nand = refl
unary_back u.Nor = refl
unary_back u.Xnor = refl

binary_back : (op : BinaryOp) → binary_of (binary_mark op) ≡ Some op
binary_back b.Mul = refl
binary_back b.Div = refl
binary_back b.Mod = refl
binary_back b.Add = refl
binary_back b.Sub = refl
binary_back b.Shl = refl
binary_back b.Shr = refl
binary_back b.Lt = refl
binary_back b.Le = refl
binary_back b.Gt = refl
binary_back b.Ge = refl
binary_back b.Eq = refl
binary_back b.Ne = refl
binary_back b.And = refl
binary_back b.Xor = refl
binary_back b.Xnor = refl
binary_back b.Or = refl
binary_back b.LogicAnd = refl
binary_back b.LogicOr = refl

level_back : (l : ℕ) (o : Option BinaryOp) (op : BinaryOp) → at_level l o ≡ Some op → at_level l (Some op) ≡ Some op
level_back l None op e = absurd (search (rules, e))
level_back l (Some q) op e = let z : q ≡ op = search (rules, e) in subst (λ x. at_level l (Some x) ≡ Some op) z e

joins_back : (l : ℕ) (s : MarkKind) (op : BinaryOp) → joins l s ≡ Some op → joins l (binary_mark op) ≡ Some op
joins_back l s op e = ap (at_level l) (binary_back op) ∙ level_back l (binary_of s) op e

mutual
  back_unary : {u : List Token} {a : ExprTree} → IsUnary u a → Back (λ v. IsUnary v a) (expr_pieces a)
  back_unary (is_number n) = at_last (λ s. is_number (record { value = n.value; width = n.width; size = n.size; spot = s }))
  back_unary (is_name n) = at_last (λ s. is_name (record { name = n.name; spot = s }))
  back_unary (is_index n p q x) = at_token (λ s. at_token (λ o. at_part (back_expr x) (λ u y. at_last (λ r. is_index (record { name = n.name; spot = s }) o r y))))
  back_unary (is_part n x) = at_token (λ s. at_all (back_part x) (λ u y. is_part (record { name = n.name; spot = s }) y))
  back_unary (is_paren p q x) = at_token (λ o. at_part (back_expr x) (λ u y. at_last (λ r. is_paren o r y)))
  back_unary (is_join p q {u} {v} {a} {bs} x y) = at_token (λ o. grouped (expr_pieces a) (behind (mark Comma) (each_expr bs)) (mark BraceClose) (at_part (back_expr x) (λ u a. at_part (back_exprs y) (λ v b. at_last (λ r. is_join o r a b)))))
  back_unary (is_repeat p o q r {u} {v} {w} {c} {a} {bs} x y z) = let ms = behind (mark Comma) (each_expr bs) in
      at_token (λ s. grouped (expr_pieces c) (mark BraceOpen ++ ((expr_pieces a ++ ms) ++ mark BraceClose)) (mark BraceClose) (at_part (back_expr x) (λ u c.
      at_token (λ t. grouped (expr_pieces a ++ ms) (mark BraceClose) (mark BraceClose) (grouped (expr_pieces a) ms (mark BraceClose ++ mark BraceClose) (at_part (back_expr y) (λ v a. at_part (back_exprs z) (λ w b.
      at_token (λ i. at_last (λ j. is_repeat s t i j c a b))))))))))
  back_unary (is_unary p e x) = at_token (λ s. at_all (back_unary x) (λ u a. is_unary (record { op = p.op; sign = unary_mark p.op; spot = s }) (unary_back p.op) a))

  pub back_part : {kind : PartKind} {u : List Token} {a b : ExprTree} → IsPart kind u a b → Back (λ v. IsPart kind v a b) (in_brackets (from_to kind (expr_pieces a) (expr_pieces b)))
  back_part (are_bounds {kind} p o q {u} {v} {a} {b} x y) = at_token (λ s. grouped (expr_pieces a) (mark (part_mark kind) ++ expr_pieces b) (mark BracketClose) (at_part (back_expr x) (λ u a. at_token (λ t. at_part (back_expr y) (λ v b. at_last (λ r. are_bounds s t r a b))))))

  back_binary : {l : ℕ} {u : List Token} {a : ExprTree} → IsBinary l u a → Back (λ v. IsBinary l v a) (expr_pieces a)
  back_binary (is_single x) = at_all (back_unary x) (λ u a. is_single a)
  back_binary (is_tighter l x) = at_all (back_binary x) (λ u a. is_tighter l a)
  back_binary (is_binary l j e x y) = at_part (back_binary x) (λ u a. at_token (λ s. at_all (back_binary y) (λ v b. is_binary l (record { op = j.op; sign = binary_mark j.op; spot = s }) (joins_back l j.sign j.op e) a b)))

  pub back_expr : {u : List Token} {a : ExprTree} → IsExpr u a → Back (λ v. IsExpr v a) (expr_pieces a)
  back_expr (is_plain x) = at_all (back_binary x) (λ u a. is_plain a)
  back_expr (is_choice p q x y z) = at_part (back_binary x) (λ u c. at_token (λ s. at_part (back_expr y) (λ v a. at_token (λ t. at_all (back_expr z) (λ w b. is_choice s t c a b)))))

  back_exprs : {u : List Token} {bs : ExprTrees} → AreMoreExprs u bs → Back (λ v. AreMoreExprs v bs) (behind (mark Comma) (each_expr bs))
  back_exprs no_exprs = at_end no_exprs
  back_exprs (more_exprs p x y) = at_token (λ s. at_part (back_expr x) (λ u a. at_all (back_exprs y) (λ v b. more_exprs s a b)))

mutual
  pub back_target : {u : List Token} {t : TargetTree} → IsTarget u t → Back (λ v. IsTarget v t) (target_pieces t)
  back_target (is_whole n) = at_last (λ s. is_whole (record { name = n.name; spot = s }))
  back_target (is_index_of n p q x) = at_token (λ s. at_token (λ o. at_part (back_expr x) (λ u y. at_last (λ r. is_index_of (record { name = n.name; spot = s }) o r y))))
  back_target (is_part_of n x) = at_token (λ s. at_all (back_part x) (λ u y. is_part_of (record { name = n.name; spot = s }) y))
  back_target (is_join_of p q {u} {v} {a} {bs} x y) = at_token (λ o. grouped (target_pieces a) (behind (mark Comma) (each_target bs)) (mark BraceClose) (at_part (back_target x) (λ u a. at_part (back_targets y) (λ v b. at_last (λ r. is_join_of o r a b)))))

  back_targets : {u : List Token} {bs : TargetTrees} → AreMoreTargets u bs → Back (λ v. AreMoreTargets v bs) (behind (mark Comma) (each_target bs))
  back_targets no_targets = at_end no_targets
  back_targets (more_targets p x y) = at_token (λ s. at_part (back_target x) (λ u a. at_all (back_targets y) (λ v b. more_targets s a b)))
