-- What a list of tokens reads as: a case for each line of the grammar of expressions and targets.
use Rattle.std.specs.Prelude.{ℕ, zero, suc, ◌≡◌, Some, List, [], ◌∷◌, ◌++◌}
use Rattle.verilog_lex.specs.declared.token.Token.{Token}
use Rattle.verilog_lex.specs.declared.marks.MarkKind.TheVariants.{ParenOpen, ParenClose, BracketOpen, BracketClose, BraceOpen, BraceClose, Comma, Colon, Question}
use Rattle.verilog_ast.specs.declared.PartKind.{PartKind}
use Rattle.verilog_ast.specs.declared.PartKind.TheVariants as kind
use Rattle.verilog_reading.specs.Lexemes.{Spot, mark, Named, ident, Numeral, numeral}
use Rattle.verilog_reading.specs.Parts.{part_mark}
use Rattle.verilog_reading.specs.Operators.{Prefix, prefix, unary_of, Joint, joint, joins, levels}
use Rattle.verilog_reading.specs.ExprTree.{ExprTree, number, name, index, part, unary, binary, choice, join, repeat, paren, ExprTrees, no_trees, and_trees, TargetTree, whole, index_of, part_of, join_of, TargetTrees, no_parts, and_parts}

mutual
  -- `primary = number | id | id "[" expr "]" | id part | "(" expr ")" | "{" expr { , expr } "}" | "{" expr "{" expr { , expr } "}" "}"`,
  -- or a unary operator before a unary expression
  pub data IsUnary : List Token → ExprTree → Type 0 where
    is_number : (n : Numeral) → IsUnary (numeral n ∷ []) (number n.value n.width n.size)
    is_name : (n : Named) → IsUnary (ident n ∷ []) (name n.name)
    is_index : (n : Named) (p q : Spot) {u : List Token} {i : ExprTree} → IsExpr u i
        → IsUnary (ident n ∷ (mark BracketOpen p ∷ (u ++ mark BracketClose q ∷ []))) (index n.name i)
    is_part : (n : Named) {kind : PartKind} {u : List Token} {a b : ExprTree} → IsPart kind u a b → IsUnary (ident n ∷ u) (part n.name kind a b)
    is_paren : (p q : Spot) {u : List Token} {a : ExprTree} → IsExpr u a → IsUnary (mark ParenOpen p ∷ (u ++ mark ParenClose q ∷ [])) (paren a)
    is_join : (p q : Spot) {u v : List Token} {a : ExprTree} {bs : ExprTrees} → IsExpr u a → AreMoreExprs v bs
        → IsUnary (mark BraceOpen p ∷ (u ++ (v ++ mark BraceClose q ∷ []))) (join (and_trees a bs))
    is_repeat : (p o q r : Spot) {u v w : List Token} {c a : ExprTree} {bs : ExprTrees} → IsExpr u c → IsExpr v a → AreMoreExprs w bs
        → IsUnary (mark BraceOpen p ∷ (u ++ mark BraceOpen o ∷ (v ++ (w ++ mark BraceClose q ∷ (mark BraceClose r ∷ []))))) (repeat c (and_trees a bs))
    is_unary : (p : Prefix) {u : List Token} {a : ExprTree} → unary_of p.sign ≡ Some p.op → IsUnary u a → IsUnary (prefix p ∷ u) (unary p.op a)

  -- unary expressions that operators of the first levels join, each of them from the left
  pub data IsBinary : ℕ → List Token → ExprTree → Type 0 where
    is_single : {u : List Token} {a : ExprTree} → IsUnary u a → IsBinary zero u a
    is_tighter : (l : ℕ) {u : List Token} {a : ExprTree} → IsBinary l u a → IsBinary (suc l) u a
    is_binary : (l : ℕ) (j : Joint) {u v : List Token} {a b : ExprTree} → joins l j.sign ≡ Some j.op → IsBinary (suc l) u a → IsBinary l v b
        → IsBinary (suc l) (u ++ joint j ∷ v) (binary j.op a b)

  -- `expr = binary [ ? expr : expr ]`
  pub data IsExpr : List Token → ExprTree → Type 0 where
    is_plain : {u : List Token} {a : ExprTree} → IsBinary levels u a → IsExpr u a
    is_choice : (p q : Spot) {u v w : List Token} {c a b : ExprTree} → IsBinary levels u c → IsExpr v a → IsExpr w b
        → IsExpr (u ++ mark Question p ∷ (v ++ mark Colon q ∷ w)) (choice c a b)

  -- `{ , expr }`
  pub data AreMoreExprs : List Token → ExprTrees → Type 0 where
    no_exprs : AreMoreExprs [] no_trees
    more_exprs : (p : Spot) {u v : List Token} {a : ExprTree} {bs : ExprTrees} → IsExpr u a → AreMoreExprs v bs → AreMoreExprs (mark Comma p ∷ (u ++ v)) (and_trees a bs)

  -- `part = "[" expr ( : | +: | -: ) expr "]"`
  pub data IsPart : PartKind → List Token → ExprTree → ExprTree → Type 0 where
    are_bounds : {kind : PartKind} (p o q : Spot) {u v : List Token} {a b : ExprTree} → IsExpr u a → IsExpr v b
        → IsPart kind (mark BracketOpen p ∷ (u ++ mark (part_mark kind) o ∷ (v ++ mark BracketClose q ∷ []))) a b

-- `range = "[" expr : expr "]"`
abbrev pub IsRange : List Token → ExprTree → ExprTree → Type 0
IsRange u a b = IsPart kind.Range u a b

mutual
  -- `target = id | id "[" expr "]" | id part | "{" target { , target } "}"`
  pub data IsTarget : List Token → TargetTree → Type 0 where
    is_whole : (n : Named) → IsTarget (ident n ∷ []) (whole n.name)
    is_index_of : (n : Named) (p q : Spot) {u : List Token} {i : ExprTree} → IsExpr u i
        → IsTarget (ident n ∷ (mark BracketOpen p ∷ (u ++ mark BracketClose q ∷ []))) (index_of n.name i)
    is_part_of : (n : Named) {kind : PartKind} {u : List Token} {a b : ExprTree} → IsPart kind u a b → IsTarget (ident n ∷ u) (part_of n.name kind a b)
    is_join_of : (p q : Spot) {u v : List Token} {a : TargetTree} {bs : TargetTrees} → IsTarget u a → AreMoreTargets v bs
        → IsTarget (mark BraceOpen p ∷ (u ++ (v ++ mark BraceClose q ∷ []))) (join_of (and_parts a bs))

  -- `{ , target }`
  pub data AreMoreTargets : List Token → TargetTrees → Type 0 where
    no_targets : AreMoreTargets [] no_parts
    more_targets : (p : Spot) {u v : List Token} {a : TargetTree} {bs : TargetTrees} → IsTarget u a → AreMoreTargets v bs
        → AreMoreTargets (mark Comma p ∷ (u ++ v)) (and_parts a bs)
