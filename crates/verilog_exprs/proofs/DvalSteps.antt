-- A number or a name, where either may stand next.
use Rattle.std.proofs.Common.{◌≡◌, List, [], ◌∷◌, Some, None, refl, ap, rules}
use Rattle.verilog_exprs.specs.Next.{Takes, Lacks}
use Rattle.verilog_lex.specs.declared.token.Token.{Token}
use Rattle.verilog_lex.specs.declared.token.TokenKind.{TokenKind}
use Rattle.verilog_lex.specs.declared.token.TokenKind.TheVariants.{Ident, Number}
use Rattle.verilog_reading.specs.Lexemes.{Spot, spot_of, Named, ident_of, ident_in, Numeral, numeral_of, numeral_in, Dval, by_number, by_name, dval_of, dval_in}

number_kind : (k : TokenKind) (s : Spot) (n : Numeral) → numeral_of k s ≡ Some n → dval_of k s ≡ Some (by_number n)
number_kind (Number v w z) s n e = let h : record { value = v; width = w; size = z; spot = s } ≡ n = search (rules, e) in ap (λ x. Some (by_number x)) h
number_kind k s n e = absurd (search (rules, e))

name_kind : (k : TokenKind) (s : Spot) (n : Named) → ident_of k s ≡ Some n → dval_of k s ≡ Some (by_name n)
name_kind (Ident m) s n e = let h : record { name = m; spot = s } ≡ n = search (rules, e) in ap (λ x. Some (by_name x)) h
name_kind k s n e = absurd (search (rules, e))

other_kind : (k : TokenKind) (s : Spot) → numeral_of k s ≡ None → ident_of k s ≡ None → dval_of k s ≡ None
other_kind (Number v w z) s e f = absurd (search (rules, e))
other_kind (Ident m) s e f = absurd (search (rules, f))
other_kind k s e f = refl

pub takes_number : (ts rest : List Token) (n : Numeral) → Takes numeral_in n ts rest → Takes dval_in (by_number n) ts rest
takes_number ts rest n w = record { token = w.token; is = w.is; finds = number_kind w.token.kind (spot_of w.token) n w.finds }

pub takes_name : (ts rest : List Token) (n : Named) → Takes ident_in n ts rest → Takes dval_in (by_name n) ts rest
takes_name ts rest n w = record { token = w.token; is = w.is; finds = name_kind w.token.kind (spot_of w.token) n w.finds }

pub number_value : (ts rest : List Token) (n : Numeral) → Takes numeral_in n ts rest → (d : Dval) × Takes dval_in d ts rest
number_value ts rest n w = (by_number n, takes_number ts rest n w)

pub name_value : (ts rest : List Token) (n : Named) → Takes ident_in n ts rest → (d : Dval) × Takes dval_in d ts rest
name_value ts rest n w = (by_name n, takes_name ts rest n w)

pub no_value : (ts : List Token) → Lacks numeral_in ts → Lacks ident_in ts → Lacks dval_in ts
no_value [] v w = record { free = tt }
no_value (t ∷ ts) v w = record { free = other_kind t.kind (spot_of t) v.free w.free }
