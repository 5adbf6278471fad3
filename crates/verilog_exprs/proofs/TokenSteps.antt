-- What a token's kind says about the tests of it.
use Rattle.std.specs.List.{slice_get}
use Rattle.std.proofs.Common.{◌≡◌, ◌==◌, ℕ, Bool, true, eq-eqb, List, [], ◌∷◌, Option, Some, None, sym, ap, ◌∙◌, rules, if◌then◌else◌}
use Rattle.cdc_base.specs.declared.words.Keyword.{Keyword}
use Rattle.cdc_base.specs.contracts.words.KeywordPartialEq.TheImpl as words
use Rattle.cdc_base.specs.contracts.words.Keyword.{the_type as keyword_type}
use Rattle.verilog_ast.specs.declared.UnaryOp.{UnaryOp}
use Rattle.verilog_ast.specs.declared.BinaryOp.{BinaryOp}
use Rattle.verilog_ast.specs.declared.PartKind.{PartKind}
use Rattle.verilog_lex.specs.declared.marks.MarkKind.{MarkKind}
use Rattle.verilog_lex.specs.contracts.marks.MarkKindPartialEq.TheImpl as marks
use Rattle.verilog_lex.specs.contracts.marks.MarkKind.{the_type as mark_type}
use Rattle.verilog_lex.specs.declared.token.Token.{Token}
use Rattle.verilog_lex.specs.declared.token.TokenKind.TheVariants.{Word, Mark}
use Rattle.verilog_reading.specs.Lexemes.{spot_of, mark_of, mark_in, word_of, word_in}
use Rattle.verilog_reading.specs.Parts.{part_kind_of, as_divider, divider_of, divider_in}
use Rattle.verilog_reading.specs.Operators.{as_prefix, unary_of, prefix_in, prefix_of, as_joint, joint_in, joint_of, joins, at_level, level_of}
use denote.Enum.Bare.{same_true, true_same}

some_if : {A : Type 0} (b : Bool) (x : A) → b ≡ true → (if b then Some x else None) ≡ Some x
some_if b x e = ap (λ z. if z then Some x else None) e

pub mark_found : (m n : MarkKind) (t : Token) → t.kind ≡ Mark n → marks.ghosts.eq n m ≡ true → mark_in m t ≡ Some (spot_of t)
mark_found m n t e q = ap (λ k. mark_of m k (spot_of t)) e ∙ some_if (marks.ghosts.eq m n) (spot_of t) (true_same mark_type m n (sym (same_true mark_type (search rules) n m q)))

pub word_found : (w v : Keyword) (t : Token) → t.kind ≡ Word v → words.ghosts.eq v w ≡ true → word_in w t ≡ Some (spot_of t)
word_found w v t e q = ap (λ k. word_of w k (spot_of t)) e ∙ some_if (words.ghosts.eq w v) (spot_of t) (true_same keyword_type w v (sym (same_true keyword_type (search rules) v w q)))

pub prefix_found : (m : MarkKind) (op : UnaryOp) (t : Token) → t.kind ≡ Mark m → unary_of m ≡ Some op → prefix_in t ≡ Some (record { op = op; sign = m; spot = spot_of t })
prefix_found m op t e q = ap (λ k. prefix_of k (spot_of t)) e ∙ ap (λ o. as_prefix o m (spot_of t)) q

pub joint_found : (l : ℕ) (m : MarkKind) (op : BinaryOp) (t : Token) → t.kind ≡ Mark m → joins l m ≡ Some op → joint_in l t ≡ Some (record { op = op; sign = m; spot = spot_of t })
joint_found l m op t e q = ap (λ k. joint_of l k (spot_of t)) e ∙ ap (λ o. as_joint o m (spot_of t)) q

pub divider_found : (m : MarkKind) (kind : PartKind) (t : Token) → t.kind ≡ Mark m → part_kind_of m ≡ Some kind → divider_in t ≡ Some (record { kind = kind; spot = spot_of t })
divider_found m kind t e q = ap (λ k. divider_of k (spot_of t)) e ∙ ap (λ o. as_divider o (spot_of t)) q

pub at_level_found : (o : Option BinaryOp) (l : ℕ) (op : BinaryOp) → o ≡ Some op → level_of op ≡ l → at_level l o ≡ Some op
at_level_found o l op e q = ap (at_level l) e ∙ some_if (level_of op == l) op (eq-eqb (level_of op) l q)

-- the first of a list, and what is behind it
pub behind_first : (ts : List Token) (t : Token) → slice_get ts 0 ≡ Some t → (rest : List Token) × (ts ≡ t ∷ rest)
behind_first [] t e = absurd (search (rules, e))
behind_first (u ∷ ts) t e = (ts, search (rules, e))
