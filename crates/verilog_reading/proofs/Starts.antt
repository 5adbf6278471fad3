-- What an expression, a target or a statement begins with.
use Rattle.std.proofs.Common.{◌≡◌, ℕ, List, ◌∷◌, ◌++◌, Option, Some, None, refl, sym, subst, append_assoc, rules}
use Rattle.cdc_base.specs.declared.words.Keyword.{Keyword}
use Rattle.verilog_lex.specs.declared.token.Token.{Token}
use Rattle.verilog_lex.specs.declared.marks.MarkKind.TheVariants.{ParenOpen, BraceOpen, Comma, ParenClose, Dot, Hash}
use Rattle.verilog_lex.specs.declared.marks.MarkKind.{MarkKind}
use Rattle.verilog_reading.specs.Lexemes.{Spot, mark, mark_in, word_in, Named, ident, Numeral, numeral}
use Rattle.verilog_reading.specs.Operators.{Prefix, prefix, unary_of, joint}
use Rattle.verilog_reading.specs.ExprTree.{ExprTree, TargetTree}
use Rattle.verilog_reading.specs.Reading.{IsUnary, IsBinary, IsExpr, IsTarget, is_number, is_name, is_index, is_part, is_paren, is_join, is_repeat, is_unary, is_single, is_tighter, is_binary, is_plain, is_choice, is_whole, is_index_of, is_part_of, is_join_of}
use Rattle.verilog_reading.specs.Laws.{Free}

-- a test that finds nothing in a token that begins an expression
pub record IsNoStart {B : Type 0} (test : Token → Option B) : Type 0 where
  pub numeral : (n : Numeral) → test (numeral n) ≡ None
  pub ident : (n : Named) → test (ident n) ≡ None
  pub prefix : (p : Prefix) → unary_of p.sign ≡ Some p.op → test (prefix p) ≡ None
  pub paren : (p : Spot) → test (mark ParenOpen p) ≡ None
  pub brace : (p : Spot) → test (mark BraceOpen p) ≡ None

module _ {B : Type 0} (test : Token → Option B) (is : IsNoStart test) where
  unary_starts : {u : List Token} {a : ExprTree} → IsUnary u a → (rest : List Token) → Free test (u ++ rest)
  unary_starts (is_number n) rest = is.numeral n
  unary_starts (is_name n) rest = is.ident n
  unary_starts (is_index n p q x) rest = is.ident n
  unary_starts (is_part n x) rest = is.ident n
  unary_starts (is_paren p q x) rest = is.paren p
  unary_starts (is_join p q x y) rest = is.brace p
  unary_starts (is_repeat p o q r x y z) rest = is.brace p
  unary_starts (is_unary p e x) rest = is.prefix p e

  binary_starts : {l : ℕ} {u : List Token} {a : ExprTree} → IsBinary l u a → (rest : List Token) → Free test (u ++ rest)
  binary_starts (is_single x) rest = unary_starts x rest
  binary_starts (is_tighter l x) rest = binary_starts x rest
  binary_starts (is_binary l j {u} {v} {a} {b} e x y) rest = subst (Free test) (sym (append_assoc u (joint j ∷ v) rest)) (binary_starts x (joint j ∷ (v ++ rest)))

  pub expr_starts : {u : List Token} {a : ExprTree} → IsExpr u a → (rest : List Token) → Free test (u ++ rest)
  expr_starts (is_plain x) rest = binary_starts x rest
  expr_starts (is_choice p q {u} {v} {w} {c} {a} {b} x y z) rest = subst (Free test) (sym (append_assoc u _ rest)) (binary_starts x _)

  pub target_starts : {u : List Token} {a : TargetTree} → IsTarget u a → (rest : List Token) → Free test (u ++ rest)
  target_starts (is_whole n) rest = is.ident n
  target_starts (is_index_of n p q x) rest = is.ident n
  target_starts (is_part_of n x) rest = is.ident n
  target_starts (is_join_of p q x y) rest = is.brace p

-- no word begins an expression
pub word_no_start : (w : Keyword) → IsNoStart (word_in w)
word_no_start w = record { numeral = λ n. refl; ident = λ n. refl; prefix = λ p e. refl; paren = λ p. refl; brace = λ p. refl }

no_prefix_comma : (m : MarkKind) (p : Prefix) → m ≡ p.sign → unary_of m ≡ Some p.op → mark_in Comma (mark m p.spot) ≡ None
no_prefix_comma Comma p f e = absurd (search (rules, e))
no_prefix_comma m p f e = refl

no_prefix_close : (m : MarkKind) (p : Prefix) → m ≡ p.sign → unary_of m ≡ Some p.op → mark_in ParenClose (mark m p.spot) ≡ None
no_prefix_close ParenClose p f e = absurd (search (rules, e))
no_prefix_close m p f e = refl

no_prefix_dot : (m : MarkKind) (p : Prefix) → m ≡ p.sign → unary_of m ≡ Some p.op → mark_in Dot (mark m p.spot) ≡ None
no_prefix_dot Dot p f e = absurd (search (rules, e))
no_prefix_dot m p f e = refl

no_prefix_hash : (m : MarkKind) (p : Prefix) → m ≡ p.sign → unary_of m ≡ Some p.op → mark_in Hash (mark m p.spot) ≡ None
no_prefix_hash Hash p f e = absurd (search (rules, e))
no_prefix_hash m p f e = refl

pub comma_no_start : IsNoStart (mark_in Comma)
comma_no_start = record { numeral = λ n. refl; ident = λ n. refl; prefix = λ p e. no_prefix_comma p.sign p refl e; paren = λ p. refl; brace = λ p. refl }

pub close_no_start : IsNoStart (mark_in ParenClose)
close_no_start = record { numeral = λ n. refl; ident = λ n. refl; prefix = λ p e. no_prefix_close p.sign p refl e; paren = λ p. refl; brace = λ p. refl }

pub hash_no_start : IsNoStart (mark_in Hash)
hash_no_start = record { numeral = λ n. refl; ident = λ n. refl; prefix = λ p e. no_prefix_hash p.sign p refl e; paren = λ p. refl; brace = λ p. refl }

pub dot_no_start : IsNoStart (mark_in Dot)
dot_no_start = record { numeral = λ n. refl; ident = λ n. refl; prefix = λ p e. no_prefix_dot p.sign p refl e; paren = λ p. refl; brace = λ p. refl }
