-- What holds of the sources that texts read as.
use Rattle.std.specs.Prelude.{ℕ, ◌≡◌, List, Ok}
use Rattle.verilog_ast.specs.declared.Source.{Source}
use Rattle.verilog_lex.specs.declared.token.Token.{Token}
use Rattle.verilog_lex.specs.Tokens.{tokens_of}
use Rattle.verilog_reading.specs.ItemReading.{IsSource}
use Rattle.verilog_reading.specs.Refusals.{IsEnded}
use Rattle.verilog_reading.specs.SourceTree.{ModuleTree, source_of}
use Rattle.flat_unfolding.specs.Formed.{IsSourceFormed}
use Rattle.source_forms.specs.Numerals.{AreNumerals}

-- what tokens with such numbers read as is formed
abbrev pub ReadingsAreFormed : Type 0
ReadingsAreFormed = (ts : List Token) (modules : List ModuleTree) → AreNumerals ts → IsSource ts modules → IsSourceFormed modules

-- each number among the tokens of a text is such
abbrev pub NumbersFit : Type 0
NumbersFit = (text : List ℕ) (ts : List Token) → tokens_of text ≡ Ok ts → AreNumerals ts

-- so is the source that the tokens of a text are parsed as; the parser tells it of tokens that end with their one end
abbrev pub ParsedAreFormed : Type 0
ParsedAreFormed = (text : List ℕ) (ts : List Token) (source : Source) → tokens_of text ≡ Ok ts → (IsEnded ts → IsSource ts (source_of source)) → IsSourceFormed (source_of source)
