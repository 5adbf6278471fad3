-- What a test of the next token says.
use Rattle.std.proofs.Common.{◌≡◌, ℕ, Bool, true, false, Option, Some, None, refl, sym, ap, ap₂, rules, if◌then◌else◌}
use Rattle.cdc_base.specs.declared.words.Keyword.{Keyword}
use Rattle.cdc_base.specs.contracts.words.KeywordPartialEq.TheImpl as words
use Rattle.cdc_base.specs.contracts.words.Keyword.{the_type as keyword_type}
use Rattle.verilog_ast.specs.declared.UnaryOp.{UnaryOp}
use Rattle.verilog_ast.specs.declared.BinaryOp.{BinaryOp}
use Rattle.verilog_lex.specs.declared.marks.MarkKind.{MarkKind}
use Rattle.verilog_lex.specs.declared.marks.MarkKind.TheVariants.{Colon, PlusColon, MinusColon}
use Rattle.verilog_ast.specs.declared.PartKind.{PartKind}
use Rattle.verilog_ast.specs.declared.PartKind.TheVariants.{Range, Up, Down}
use Rattle.verilog_lex.specs.contracts.marks.MarkKindPartialEq.TheImpl as marks
use Rattle.verilog_lex.specs.contracts.marks.MarkKind.{the_type as mark_type}
use Rattle.verilog_lex.specs.declared.token.Token.{Token}
use Rattle.verilog_lex.specs.declared.token.TokenKind.{TokenKind}
use Rattle.verilog_lex.specs.declared.token.TokenKind.TheVariants.{Word, Ident, Number, Mask, Mark, End}
use Rattle.verilog_reading.specs.Lexemes.{Spot, spot_of, token_at, mark, word, Named, ident, Numeral, numeral, Masked, masked, Dval, by_number, by_name, dval, closing, mark_of, mark_in, word_of, word_in, ident_of, ident_in, numeral_of, numeral_in, mask_of, mask_in, dval_of, dval_in, end_of, end_in}
use Rattle.verilog_reading.specs.Parts.{part_mark, part_kind_of, Divider, divider, as_divider, divider_of, divider_in}
use Rattle.verilog_reading.specs.Operators.{Prefix, prefix, prefix_in, prefix_of, as_prefix, unary_of, Joint, joint, joint_in, joint_of, as_joint, joins}
use denote.Enum.Bare.{same_true}

pub nowhere : Spot
nowhere = record { place = record { line = 0; column = 0 }; start = 0; stop = 0 }

pub same_marks : (m n : MarkKind) → marks.ghosts.eq m n ≡ true → m ≡ n
same_marks m n e = same_true mark_type (search rules) m n e

pub same_words : (m n : Keyword) → words.ghosts.eq m n ≡ true → m ≡ n
same_words m n e = same_true keyword_type (search rules) m n e

-- a token is its kind and its spot
pub token_is : (t : Token) (k : TokenKind) (s : Spot) → t.kind ≡ k → spot_of t ≡ s → t ≡ token_at k s
token_is t k s e f = ap₂ token_at e f

if_some : {A : Type 0} (b : Bool) (x y : A) → (if b then Some x else None) ≡ Some y → (b ≡ true) × (x ≡ y)
if_some true x y e = (refl, search (rules, e))
if_some false x y e = absurd (search (rules, e))

mark_kind : (m : MarkKind) (k : TokenKind) (s p : Spot) → mark_of m k s ≡ Some p → (k ≡ Mark m) × (s ≡ p)
mark_kind m (Mark n) s p e = let h = if_some (marks.ghosts.eq m n) s p e in (ap Mark (sym (same_marks m n h.0)), h.1)
mark_kind m k s p e = absurd (search (rules, e))

pub mark_is : (m : MarkKind) (t : Token) (p : Spot) → mark_in m t ≡ Some p → t ≡ mark m p
mark_is m t p e = let h = mark_kind m t.kind (spot_of t) p e in token_is t (Mark m) p h.0 h.1

word_kind : (w : Keyword) (k : TokenKind) (s p : Spot) → word_of w k s ≡ Some p → (k ≡ Word w) × (s ≡ p)
word_kind w (Word v) s p e = let h = if_some (words.ghosts.eq w v) s p e in (ap Word (sym (same_words w v h.0)), h.1)
word_kind w k s p e = absurd (search (rules, e))

pub word_is : (w : Keyword) (t : Token) (p : Spot) → word_in w t ≡ Some p → t ≡ word w p
word_is w t p e = let h = word_kind w t.kind (spot_of t) p e in token_is t (Word w) p h.0 h.1

ident_kind : (k : TokenKind) (s : Spot) (n : Named) → ident_of k s ≡ Some n → (k ≡ Ident n.name) × (s ≡ n.spot)
ident_kind (Ident w) s n e = let h : record { name = w; spot = s } ≡ n = search (rules, e) in (ap (λ x. Ident x.name) h, ap (λ x. x.spot) h)
ident_kind k s n e = absurd (search (rules, e))

pub ident_is : (t : Token) (n : Named) → ident_in t ≡ Some n → t ≡ ident n
ident_is t n e = let h = ident_kind t.kind (spot_of t) n e in token_is t (Ident n.name) n.spot h.0 h.1

numeral_kind : (k : TokenKind) (s : Spot) (n : Numeral) → numeral_of k s ≡ Some n → (k ≡ Number n.value n.width n.size) × (s ≡ n.spot)
numeral_kind (Number v w p) s n e = let h : record { value = v; width = w; size = p; spot = s } ≡ n = search (rules, e) in
    (ap (λ x. Number x.value x.width x.size) h, ap (λ x. x.spot) h)
numeral_kind k s n e = absurd (search (rules, e))

pub numeral_is : (t : Token) (n : Numeral) → numeral_in t ≡ Some n → t ≡ numeral n
numeral_is t n e = let h = numeral_kind t.kind (spot_of t) n e in token_is t (Number n.value n.width n.size) n.spot h.0 h.1

mask_kind : (k : TokenKind) (s : Spot) (n : Masked) → mask_of k s ≡ Some n → (k ≡ Mask n.value n.opened n.width) × (s ≡ n.spot)
mask_kind (Mask v o w) s n e = let h : record { value = v; opened = o; width = w; spot = s } ≡ n = search (rules, e) in
    (ap (λ x. Mask x.value x.opened x.width) h, ap (λ x. x.spot) h)
mask_kind k s n e = absurd (search (rules, e))

pub mask_is : (t : Token) (n : Masked) → mask_in t ≡ Some n → t ≡ masked n
mask_is t n e = let h = mask_kind t.kind (spot_of t) n e in token_is t (Mask n.value n.opened n.width) n.spot h.0 h.1

dval_kind : (k : TokenKind) (s : Spot) (d : Dval) → dval_of k s ≡ Some d → token_at k s ≡ dval d
dval_kind (Number v w z) s d e = let h : by_number (record { value = v; width = w; size = z; spot = s }) ≡ d = search (rules, e) in ap dval h
dval_kind (Ident n) s d e = let h : by_name (record { name = n; spot = s }) ≡ d = search (rules, e) in ap dval h
dval_kind k s d e = absurd (search (rules, e))

pub dval_is : (t : Token) (d : Dval) → dval_in t ≡ Some d → t ≡ dval d
dval_is t d e = dval_kind t.kind (spot_of t) d e

pub dval_found : (d : Dval) → dval_in (dval d) ≡ Some d
dval_found (by_number n) = refl
dval_found (by_name n) = refl

kind_mark : (m : MarkKind) (kind : PartKind) → part_kind_of m ≡ Some kind → m ≡ part_mark kind
kind_mark Colon kind e = let h : Range ≡ kind = search (rules, e) in ap part_mark h
kind_mark PlusColon kind e = let h : Up ≡ kind = search (rules, e) in ap part_mark h
kind_mark MinusColon kind e = let h : Down ≡ kind = search (rules, e) in ap part_mark h
kind_mark m kind e = absurd (search (rules, e))

as_divider_is : (o : Option PartKind) (s : Spot) (d : Divider) → as_divider o s ≡ Some d → (o ≡ Some d.kind) × (s ≡ d.spot)
as_divider_is None s d e = absurd (search (rules, e))
as_divider_is (Some kind) s d e = let h : record { kind = kind; spot = s } ≡ d = search (rules, e) in (ap (λ x. Some x.kind) h, ap (λ x. x.spot) h)

divider_kind : (k : TokenKind) (s : Spot) (d : Divider) → divider_of k s ≡ Some d → (k ≡ Mark (part_mark d.kind)) × (s ≡ d.spot)
divider_kind (Mark m) s d e = let h = as_divider_is (part_kind_of m) s d e in (ap Mark (kind_mark m d.kind h.0), h.1)
divider_kind k s d e = absurd (search (rules, e))

pub divider_is : (t : Token) (d : Divider) → divider_in t ≡ Some d → t ≡ divider d
divider_is t d e = let h = divider_kind t.kind (spot_of t) d e in token_is t (Mark (part_mark d.kind)) d.spot h.0 h.1

pub divider_found : (kind : PartKind) (p : Spot) → divider_in (mark (part_mark kind) p) ≡ Some (record { kind = kind; spot = p })
divider_found Range p = refl
divider_found Up p = refl
divider_found Down p = refl

end_kind : (k : TokenKind) (s p : Spot) → end_of k s ≡ Some p → (k ≡ End) × (s ≡ p)
end_kind End s p e = (refl, search (rules, e))
end_kind k s p e = absurd (search (rules, e))

pub end_is : (t : Token) (p : Spot) → end_in t ≡ Some p → t ≡ closing p
end_is t p e = let h = end_kind t.kind (spot_of t) p e in token_is t End p h.0 h.1

-- operators
as_prefix_is : (o : Option UnaryOp) (m : MarkKind) (s : Spot) (p : Prefix) → as_prefix o m s ≡ Some p → (o ≡ Some p.op) × (m ≡ p.sign) × (s ≡ p.spot)
as_prefix_is None m s p e = absurd (search (rules, e))
as_prefix_is (Some op) m s p e = let h : record { op = op; sign = m; spot = s } ≡ p = search (rules, e) in (ap (λ x. Some x.op) h, ap (λ x. x.sign) h, ap (λ x. x.spot) h)

prefix_kind : (k : TokenKind) (s : Spot) (p : Prefix) → prefix_of k s ≡ Some p → (k ≡ Mark p.sign) × (s ≡ p.spot)
prefix_kind (Mark m) s p e = let h = as_prefix_is (unary_of m) m s p e in (ap Mark h.1, h.2)
prefix_kind k s p e = absurd (search (rules, e))

pub prefix_is : (t : Token) (p : Prefix) → prefix_in t ≡ Some p → t ≡ prefix p
prefix_is t p e = let h = prefix_kind t.kind (spot_of t) p e in token_is t (Mark p.sign) p.spot h.0 h.1

pub prefix_op : (p : Prefix) → prefix_in (prefix p) ≡ Some p → unary_of p.sign ≡ Some p.op
prefix_op p e = (as_prefix_is (unary_of p.sign) p.sign p.spot p e).0

pub prefix_found : (p : Prefix) → unary_of p.sign ≡ Some p.op → prefix_in (prefix p) ≡ Some p
prefix_found p e = ap (λ o. as_prefix o p.sign p.spot) e

as_joint_is : (o : Option BinaryOp) (m : MarkKind) (s : Spot) (p : Joint) → as_joint o m s ≡ Some p → (o ≡ Some p.op) × (m ≡ p.sign) × (s ≡ p.spot)
as_joint_is None m s p e = absurd (search (rules, e))
as_joint_is (Some op) m s p e = let h : record { op = op; sign = m; spot = s } ≡ p = search (rules, e) in (ap (λ x. Some x.op) h, ap (λ x. x.sign) h, ap (λ x. x.spot) h)

joint_kind : (l : ℕ) (k : TokenKind) (s : Spot) (p : Joint) → joint_of l k s ≡ Some p → (k ≡ Mark p.sign) × (s ≡ p.spot)
joint_kind l (Mark m) s p e = let h = as_joint_is (joins l m) m s p e in (ap Mark h.1, h.2)
joint_kind l k s p e = absurd (search (rules, e))

pub joint_is : (l : ℕ) (t : Token) (p : Joint) → joint_in l t ≡ Some p → t ≡ joint p
joint_is l t p e = let h = joint_kind l t.kind (spot_of t) p e in token_is t (Mark p.sign) p.spot h.0 h.1

pub joint_op : (l : ℕ) (j : Joint) → joint_in l (joint j) ≡ Some j → joins l j.sign ≡ Some j.op
joint_op l j e = (as_joint_is (joins l j.sign) j.sign j.spot j e).0

pub joint_found : (l : ℕ) (j : Joint) → joins l j.sign ≡ Some j.op → joint_in l (joint j) ≡ Some j
joint_found l j e = ap (λ o. as_joint o j.sign j.spot) e
