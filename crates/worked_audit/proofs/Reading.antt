-- The netlist's tokens, and the one source that they read as.
use Rattle.std.proofs.Common.{◌≡◌, List, [], Ok, Err, refl, sym, subst, ◌∙◌, append-nil}
use Rattle.cdc_base.specs.Words.{keyword_of, is_left_out}
use Rattle.verilog_lex.specs.declared.token.Token.{Token}
use Rattle.verilog_lex.specs.Marks.{mark_of}
use Rattle.verilog_lex.specs.Pieces.{piece_of, word_piece, mark_piece, is_event}
use Rattle.verilog_lex.specs.Tokens.{tokens_of, tokens_from, Lexed}
use Rattle.verilog_reading.specs.ItemReader.{read_source}
use Rattle.verilog_reading.specs.Outcome.{done}
use Rattle.verilog_reading.specs.Reader.{readers}
use Rattle.verilog_reading.specs.StmtReader.{read_stmt}
use Rattle.verilog_reading.specs.TargetReader.{read_target}
use Rattle.verilog_reading.specs.ItemReading.{IsSource}
use Rattle.verilog_reading.specs.Laws.{Says, Within}
use Rattle.verilog_reading.specs.SourceTree.{ModuleTree, source_height}
use Rattle.verilog_reading.specs.Stands.{SourceEnds}
use Rattle.verilog_reading.proofs.ItemComplete.{c_source}
use Rattle.verilog_reading.proofs.ItemSays.{says_sources}
use Rattle.verilog_reading.proofs.Unique.{one_reading}
use Rattle.worked_audit.specs.Texts.{netlist}
use Rattle.worked_audit.specs.Modules.{modules}

abbrev pub tokens_in : Lexed → List Token
tokens_in (Ok ts) = ts
tokens_in (Err f) = []

abbrev pub tokens : List Token
unfolding tokens_from piece_of word_piece mark_piece is_event keyword_of is_left_out mark_of
tokens = tokens_in (tokens_of netlist)

pub are_tokens : tokens_of netlist ≡ Ok tokens
unfolding tokens_from piece_of word_piece mark_piece is_event keyword_of is_left_out mark_of
are_tokens = refl

pub are_read : read_source 255 tokens ≡ done modules []
unfolding tokens_from piece_of word_piece mark_piece is_event keyword_of is_left_out mark_of readers read_target read_stmt read_source
are_read = refl

pub reads : IsSource tokens modules
reads =
    let r = subst (Says (Within IsSource source_height 255) tokens) are_read (says_sources 255 tokens) in
    subst (λ ts. IsSource ts modules) (sym (r.1 ∙ append-nil r.0)) r.2.0

-- they read as nothing else
pub alone : (others : List ModuleTree) → IsSource tokens others → others ≡ modules
alone others h = one_reading IsSource source_height SourceEnds read_source (λ u a p k low rest _. c_source p k low rest) (λ a. tt) tokens others modules h reads
