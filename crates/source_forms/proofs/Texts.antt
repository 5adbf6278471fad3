-- What texts read as is formed.
use Rattle.std.proofs.Common.{ℕ, ◌≡◌, List, sym, subst, ◌^◌, ◌<◌, ◌≤◌, arith, rules}
use Rattle.std.specs.Prelude.{Ok}
use Rattle.verilog_ast.specs.declared.Source.{Source}
use Rattle.cdc_base.specs.declared.size.NumberSize.TheVariants.{Plain, Unsized, Sized}
use Rattle.verilog_lex.specs.declared.token.Token.{Token}
use Rattle.verilog_lex.specs.declared.token.TokenKind.{TokenKind}
use Rattle.verilog_lex.specs.declared.token.TokenKind.TheVariants.{Word, Ident, Number, Mask, Mark, End}
use Rattle.verilog_lex.specs.Tokens.{tokens_of}
use Rattle.verilog_reading.specs.ItemReading.{IsSource}
use Rattle.verilog_reading.specs.Refusals.{IsEnded}
use Rattle.verilog_reading.specs.SourceTree.{source_of}
use Rattle.verilog_parse.proofs.Kept.{CanStand, Stand, s_end, s_more}
use Rattle.verilog_parse.proofs.Ended.{texts_are_ended, texts_stand}
use Rattle.flat_unfolding.specs.Formed.{IsSourceFormed}
use Rattle.source_forms.specs.Numerals.{IsNumeral, AreNumerals}
use Rattle.source_forms.proofs.Statements.{Fit, f_end, f_more, are_numerals}
use Rattle.source_forms.proofs.Sources.{source_formed}

-- 32 bits hold a number without a size
wide_fits : (v w : ℕ) → w ≡ 32 → v < 2 ^ 32 → (1 ≤ w) × (w ≤ 64) × (v < 2 ^ w)
wide_fits v w e h = (omega (arith, e), omega (arith, e), subst (λ z. v < 2 ^ z) (sym e) h)

-- a kind of token that a text has is a number that fits, or none
numeral_stands : (kind : TokenKind) → CanStand kind → IsNumeral kind
numeral_stands (Word w) h = tt
numeral_stands (Ident n) h = tt
numeral_stands (Number v w Plain) h = let f = wide_fits v w h.0 (omega (arith, h.1)) in (f.0, f.1, f.2, λ e. (h.0, h.1))
numeral_stands (Number v w Unsized) h = let f = wide_fits v w h.0 h.1 in (f.0, f.1, f.2, λ e. absurd (search (rules, e)))
numeral_stands (Number v w Sized) h = (h.0, h.1, h.2, λ e. absurd (search (rules, e)))
numeral_stands (Mask v b w) h = (h.0, h.1, h.2, h.3)
numeral_stands (Mark s) h = tt
numeral_stands End h = tt

stand_fit : {ts : List Token} → Stand ts → Fit ts
stand_fit s_end = f_end
stand_fit (s_more {t} h r) = f_more (numeral_stands t.kind h) (stand_fit r)

pub numbers_fit : (text : List ℕ) (ts : List Token) → tokens_of text ≡ Ok ts → AreNumerals ts
numbers_fit text ts e = are_numerals (stand_fit (texts_stand text ts e))

pub parsed_are_formed : (text : List ℕ) (ts : List Token) (source : Source) → tokens_of text ≡ Ok ts → (IsEnded ts → IsSource ts (source_of source)) → IsSourceFormed (source_of source)
parsed_are_formed text ts source e f = source_formed ts (source_of source) (numbers_fit text ts e) (f (texts_are_ended text ts e))
