-- Tokens that a text can have, and those of a printed text.
use Rattle.std.specs.Prelude.{ℕ, ◌≡◌, ◌≢◌, ◌≤◌, ◌<◌, ◌^◌, Bool, true, false, List, [], ◌∷◌, ◌++◌, Ok, ⊤}
use Rattle.std.specs.Int.{bit_at}
use Rattle.cdc_base.specs.declared.bytes.Class.TheVariants.{Visible}
use Rattle.cdc_base.specs.declared.size.NumberSize.TheVariants.{Plain, Unsized, Sized}
use Rattle.verilog_lex.specs.declared.token.Token.{Token}
use Rattle.verilog_lex.specs.declared.token.TokenKind.{TokenKind}
use Rattle.verilog_lex.specs.declared.token.TokenKind.TheVariants.{Word, Ident, Number, Mask, Mark, End}
use Rattle.verilog_lex.specs.Laws.{AllOf}
use Rattle.verilog_lex.specs.Tokens.{tokens_of}
use Rattle.verilog_reading.specs.Lexemes.{Spot, token_at, closing}
use Rattle.verilog_parse.specs.Printed.{Printed, token, line_end}

-- the value is 0 at the open bits
abbrev pub Apart : ℕ → ℕ → Type 0
Apart value opened = (n : ℕ) → bit_at opened n ≡ 1 → bit_at value n ≡ 0

-- a name of visible signs, and a number or mask that its width holds; a number without a size has a width of 32 bits, and a
-- plain one is below 2 ^ 31
abbrev pub IsWritable : TokenKind → Type 0
IsWritable (Word w) = ⊤
IsWritable (Ident n) = (n ≢ []) × AllOf Visible n
IsWritable (Number value width Plain) = (width ≡ 32) × (value < 2 ^ 31)
IsWritable (Number value width Unsized) = (width ≡ 32) × (value < 2 ^ 32)
IsWritable (Number value width Sized) = (1 ≤ width) × (width ≤ 64) × (value < 2 ^ width)
IsWritable (Mask value opened width) = (1 ≤ width) × (width ≤ 64) × (value < 2 ^ width) × (opened < 2 ^ width) × Apart value opened
IsWritable (Mark s) = ⊤
IsWritable End = ⊥

-- a number that begins with its base
abbrev pub is_unsized : TokenKind → Bool
is_unsized (Word w) = false
is_unsized (Ident n) = false
is_unsized (Number value width Plain) = false
is_unsized (Number value width Unsized) = true
is_unsized (Number value width Sized) = false
is_unsized (Mask value bits width) = false
is_unsized (Mark s) = false
is_unsized End = false

abbrev pub begins_unsized : List Printed → Bool
begins_unsized [] = false
begins_unsized (token kind ∷ ps) = is_unsized kind
begins_unsized (line_end ∷ ps) = begins_unsized ps

-- a decimal run alone
abbrev pub can_be_size : TokenKind → Bool
can_be_size (Word w) = false
can_be_size (Ident n) = false
can_be_size (Number value width Plain) = true
can_be_size (Number value width Unsized) = false
can_be_size (Number value width Sized) = false
can_be_size (Mask value bits width) = false
can_be_size (Mark s) = false
can_be_size End = false

-- tokens that a text can have: no plain number stands before a base, whose size it would be
abbrev pub AreWritable : List Printed → Type 0
AreWritable [] = ⊤
AreWritable (token kind ∷ ps) = IsWritable kind × (can_be_size kind ≡ true → begins_unsized ps ≡ false) × AreWritable ps
AreWritable (line_end ∷ ps) = AreWritable ps

-- the tokens are those that are printed, each at some spot
abbrev pub HasKinds : List Token → List Printed → Type 0
HasKinds ts [] = ts ≡ []
HasKinds ts (token kind ∷ ps) = (s : Spot) × (rest : List Token) × (ts ≡ token_at kind s ∷ rest) × HasKinds rest ps
HasKinds ts (line_end ∷ ps) = HasKinds ts ps

-- the tokens of the text are those that are printed, and the closing end
pub record HasTokens (text : List ℕ) (ps : List Printed) : Type 0 where
  pub tokens : List Token
  pub end_spot : Spot
  pub lexed : tokens_of text ≡ Ok (tokens ++ closing end_spot ∷ [])
  pub kinds : HasKinds tokens ps
