-- The tokens of a printed text.
use Rattle.std.proofs.Common.{◌≡◌, ℕ, Bool, true, false, ◌+◌, ◌-◌, ◌==◌, List, [], ◌∷◌, ◌++◌, arith, cond, refl, sym, ap, subst, ◌∙◌, rules, length, take, drop, append_assoc, codes, Ok}
use Rattle.std.specs.Prelude.{not}
use Rattle.std.specs.Fmt.{decimal}
use Rattle.cdc_base.specs.declared.bytes.Class.TheVariants as class
use Rattle.cdc_base.specs.declared.size.NumberSize.TheVariants.{Plain, Unsized, Sized}
use Rattle.cdc_base.specs.declared.fault.Place.{Place}
use Rattle.cdc_base.specs.Bytes.{front, is_blank}
use Rattle.verilog_lex.specs.declared.token.Piece.{Piece}
use Rattle.verilog_lex.specs.declared.token.Piece.TheVariants as piece
use Rattle.verilog_lex.specs.declared.token.Token.{Token}
use Rattle.verilog_lex.specs.declared.token.TokenKind.{TokenKind}
use Rattle.verilog_lex.specs.declared.token.TokenKind.TheVariants as kind
use Rattle.verilog_lex.specs.Pieces.{piece_of, extent, run, Fits}
use Rattle.verilog_lex.specs.Tokens.{tokens_from, next_place, place_behind, with_before, joined}
use Rattle.verilog_lex.proofs.Fitting.{piece_fits}
use Rattle.verilog_lex.proofs.Walks.{one_piece, at_end}
use Rattle.verilog_reading.specs.Lexemes.{Spot, token_at, closing}
use Rattle.verilog_parse.specs.Printed.{Printed, token, line_end, bytes_of, spelled, spelled_number}
use Rattle.verilog_parse.specs.Written.{IsWritable, is_unsized, begins_unsized, can_be_size, AreWritable, HasKinds, HasTokens}
use Rattle.verilog_parse.proofs.Spelled.{Is, NoQuote, run_more, no_quote_behind, opens, with_blank, drop_front, both_true, if_true, mark_text, word_text, name_text}
use Rattle.verilog_parse.proofs.MaskTexts.{mask_text, mask_opens}
use Rattle.verilog_parse.proofs.NumberTexts.{plain_text, unsized_text, sized_text, plain_opens, sized_opens}

-- white space is skipped byte by byte
blank_first : (at : ℕ) (p : Place) (b : ℕ) (bs : List ℕ) → is_blank b ≡ true → tokens_from at p 0 (b ∷ bs) ≡ tokens_from (at + 1) (next_place p b) (run class.Blank bs) bs
unfolding tokens_from piece_of
blank_first at p b bs h =
    ap (λ q. joined at p q (tokens_from (at + 1) (next_place p b) (extent q - 1) bs)) (if_true (is_blank b) _ _ h ∙ ap (λ t. piece.Blank (cond t (1 + run class.Blank bs) 0)) h)
    ∙ ap (λ n. tokens_from (at + 1) (next_place p b) n bs) (let e : 1 + run class.Blank bs - 1 ≡ run class.Blank bs = omega arith in e)

blank_run : (at : ℕ) (p : Place) (text : List ℕ) → tokens_from at p (run class.Blank text) text ≡ tokens_from at p 0 text
unfolding tokens_from
blank_run at p [] = refl
blank_run at p (b ∷ bs) = by (is_blank b) refl
  where
    by : (t : Bool) → is_blank b ≡ t → tokens_from at p (run class.Blank (b ∷ bs)) (b ∷ bs) ≡ tokens_from at p 0 (b ∷ bs)
    by true e = ap (λ n. tokens_from at p n (b ∷ bs)) (run_more b bs e) ∙ sym (blank_first at p b bs e)
    by false e = ap (λ t. tokens_from at p (cond t (1 + run class.Blank bs) 0) (b ∷ bs)) e

blank_skipped : (at : ℕ) (p : Place) (b : ℕ) (bs : List ℕ) → is_blank b ≡ true → tokens_from at p 0 (b ∷ bs) ≡ tokens_from (at + 1) (next_place p b) 0 bs
blank_skipped at p b bs h = blank_first at p b bs h ∙ blank_run (at + 1) (next_place p b) bs

not_true : (t : Bool) → not t ≡ true → t ≡ false
not_true true e = absurd (search (rules, e))
not_true false e = refl

no_quote_at : (text : List ℕ) → opens (front text) ≡ true → NoQuote text
no_quote_at [] h = refl
no_quote_at (b ∷ bs) h = let i = both_true (not (is_blank b)) (not (b == 39)) h in
    subst (λ t. (front (drop (cond t (1 + run class.Blank bs) 0) (b ∷ bs)) == 39) ≡ false) (sym (not_true (is_blank b) i.0)) (not_true (b == 39) i.1)

token_opens : (k : TokenKind) (rest : List ℕ) → IsWritable k → is_unsized k ≡ false → opens (front (with_blank (spelled k) rest)) ≡ true
token_opens (kind.Word w) rest h u = (word_text w rest).1
token_opens (kind.Ident n) rest h u = (name_text n rest h.0 h.1).1
token_opens (kind.Number v w Plain) rest h u = plain_opens v rest (omega (arith, h.1))
token_opens (kind.Number v w Unsized) rest h u = absurd (search (rules, u))
token_opens (kind.Number v w Sized) rest h u = sized_opens v w rest (omega (arith, h.1))
token_opens (kind.Mask v o w) rest h u = mask_opens v o w rest (omega (arith, h.1))
token_opens (kind.Mark s) rest h u = (mark_text s rest).1
token_opens kind.End rest h u = absurd h

printed_first : (k : TokenKind) (ps : List Printed) → bytes_of (token k ∷ ps) ≡ with_blank (spelled k) (bytes_of ps)
printed_first k ps = append_assoc (spelled k) (codes " ") (bytes_of ps)

no_quote : (ps : List Printed) → AreWritable ps → begins_unsized ps ≡ false → NoQuote (bytes_of ps)
no_quote [] h u = refl
no_quote (token k ∷ ps) h u = subst NoQuote (sym (printed_first k ps)) (no_quote_at (with_blank (spelled k) (bytes_of ps)) (token_opens k (bytes_of ps) h.0 u))
no_quote (line_end ∷ ps) h u = no_quote_behind 10 (bytes_of ps) refl (no_quote ps h u)

token_piece : (k : TokenKind) (ps : List Printed) → IsWritable k → (can_be_size k ≡ true → begins_unsized ps ≡ false) → AreWritable ps → Is k (spelled k) (bytes_of ps)
token_piece (kind.Word w) ps h b a = (word_text w (bytes_of ps)).0
token_piece (kind.Ident n) ps h b a = (name_text n (bytes_of ps) h.0 h.1).0
token_piece (kind.Number v w Plain) ps h b a = subst (λ z. Is (kind.Number v z Plain) (decimal v) (bytes_of ps)) (sym h.0) (plain_text v (bytes_of ps) h.1 (no_quote ps a (b refl)))
token_piece (kind.Number v w Unsized) ps h b a = subst (λ z. Is (kind.Number v z Unsized) (spelled_number v z Unsized) (bytes_of ps)) (sym h.0) (unsized_text v (bytes_of ps) h.1)
token_piece (kind.Number v w Sized) ps h b a = sized_text v w (bytes_of ps) h.0 h.1 h.2
token_piece (kind.Mask v o w) ps h b a = mask_text v o w (bytes_of ps) h.0 h.1 h.2 h.3 h.4
token_piece (kind.Mark s) ps h b a = (mark_text s (bytes_of ps)).0
token_piece kind.End ps h b a = absurd h

blank_fits : (text rest : List ℕ) → Fits (with_blank text rest) (piece_of (with_blank text rest))
blank_fits [] rest = piece_fits 32 rest
blank_fits (b ∷ bs) rest = piece_fits b (bs ++ (32 ∷ rest))

-- a printed token, and the text behind its blank
token_first : (at : ℕ) (p : Place) (k : TokenKind) (text rest : List ℕ) → Is k text rest
    → tokens_from at p 0 (with_blank text rest) ≡ with_before (record { kind = k; place = p; start = at; «end» = at + length text } ∷ [])
    (tokens_from (at + length text + 1) (next_place (place_behind p (take (length text) (with_blank text rest))) 32) 0 rest)
token_first at p k text rest e =
    let f : Fits (with_blank text rest) (piece.Token k (length text)) = subst (λ (q : Piece). Fits (with_blank text rest) q) e (blank_fits text rest) in
    one_piece at p (with_blank text rest) (piece.Token k (length text)) (sym e) f.0 f.1
    ∙ ap (λ z. with_before (record { kind = k; place = p; start = at; «end» = at + length text } ∷ []) (tokens_from (at + length text) (place_behind p (take (length text) (with_blank text rest))) 0 z))
    (drop_front text (32 ∷ rest))
    ∙ ap (with_before (record { kind = k; place = p; start = at; «end» = at + length text } ∷ [])) (blank_skipped (at + length text) (place_behind p (take (length text) (with_blank text rest))) 32 rest refl)

-- what a printed text that stands here gives
record Lexes (at : ℕ) (p : Place) (ps : List Printed) : Type 0 where
  tokens : List Token
  end_spot : Spot
  lexed : tokens_from at p 0 (bytes_of ps) ≡ Ok (tokens ++ closing end_spot ∷ [])
  kinds : HasKinds tokens ps

lexes : (at : ℕ) (p : Place) (ps : List Printed) → AreWritable ps → Lexes at p ps
lexes at p [] h = record { tokens = []; end_spot = record { place = p; start = at; stop = at }; lexed = at_end at p; kinds = refl }
lexes at p (token k ∷ ps) h = let text = spelled k in
    let r = lexes (at + length text + 1) (next_place (place_behind p (take (length text) (with_blank text (bytes_of ps)))) 32) ps h.2 in
    let s : Spot = record { place = p; start = at; stop = at + length text } in
    record {
      tokens = token_at k s ∷ r.tokens;
      end_spot = r.end_spot;
      lexed = ap (tokens_from at p 0) (printed_first k ps) ∙ token_first at p k text (bytes_of ps) (token_piece k ps h.0 h.1 h.2) ∙ ap (with_before (token_at k s ∷ [])) r.lexed;
      kinds = (s, r.tokens, refl, r.kinds);
    }
lexes at p (line_end ∷ ps) h = let r = lexes (at + 1) (next_place p 10) ps h in
    record { tokens = r.tokens; end_spot = r.end_spot; lexed = blank_skipped at p 10 (bytes_of ps) refl ∙ r.lexed; kinds = r.kinds }

-- a printed text has the tokens that are printed
pub printed_tokens : (ps : List Printed) → AreWritable ps → HasTokens (bytes_of ps) ps
printed_tokens ps h = let r = lexes 0 (record { line = 1; column = 1 }) ps h in record { tokens = r.tokens; end_spot = r.end_spot; lexed = r.lexed; kinds = r.kinds }
