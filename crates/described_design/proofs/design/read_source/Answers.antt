use Rattle.std.proofs.Common.{◌≡◌, Ok, refl, rules}
use Rattle.std.specs.Prelude.{IfErr}
use Rattle.refusals.specs.Numbers.{token_numbers, grammar_numbers}
use Rattle.described_design.proofs.TokenNumbers.{token_stop}
use Rattle.verilog_lex.specs.Tokens.{tokens_of}
use Rattle.verilog_reading.specs.SourceTree.{source_of}
use Rattle.described_design.specs.Described.{ReadsAs}
use Rattle.command_files.specs.Endings.{HasCause, IsOfFiles}
use Rattle.described_design.proofs.Described.{text_reads}
use Rattle.described_design.proofs.Designs.{given_holds}
use Rattle.described_design.specs.Refused.{IsNetlistRefused}
use Rattle.described_design.proofs.Refused.{caused, reading_cause, token_cause}
use Rattle.described_design.proofs.design.read_source.Goals as goal

pub returns-in_err-tokens-clause-of_files : goal.returns-in_err-tokens-clause-of_files
returns-in_err-tokens-clause-of_files c =
    let refused : IfErr c.or_refused.result IsOfFiles = c.or_refused.ensures.ended token_numbers refl (token_stop _ _ c.lex.ensures.refused) in
    search rules

pub returns-clause-of_files : goal.returns-clause-of_files
returns-clause-of_files c = c.or_refused-2.ensures.ended grammar_numbers refl c.parse.ensures.numbered

pub returns-clause-reads : goal.returns-clause-reads
returns-clause-reads c =
    let text = c.args.text.now in
    let are = given_holds (λ ts. tokens_of text ≡ Ok ts) _ (Ok c.in_ok-tokens.tokens) c.in_ok-tokens.ensures.given c.lex.ensures.tokens in
    given_holds (λ s. ReadsAs text (source_of s)) _ _ c.or_refused-2.ensures.given
    (text_reads text c.in_ok-tokens.tokens c.parse.result are (rw c.as_slice.ensures at c.parse.ensures.reading) (rw c.as_slice.ensures at c.parse.ensures.one))

pub returns-in_err-tokens-clause-refused : goal.returns-in_err-tokens-clause-refused
returns-in_err-tokens-clause-refused c =
    let text = c.args.text.now in
    let refused : IfErr c.or_refused.result (HasCause (λ status fault. IsNetlistRefused text fault status))
    = caused (λ status fault. IsNetlistRefused text fault status) _ _ _ c.or_refused.ensures.exact (token_cause text _ c.lex.ensures.refused) in
    search rules

pub returns-clause-refused : goal.returns-clause-refused
returns-clause-refused c =
    let text = c.args.text.now in
    let are = given_holds (λ ts. tokens_of text ≡ Ok ts) _ (Ok c.in_ok-tokens.tokens) c.in_ok-tokens.ensures.given c.lex.ensures.tokens in
    caused (λ status fault. IsNetlistRefused text fault status) _ _ _ c.or_refused-2.ensures.exact
    (reading_cause text c.in_ok-tokens.tokens c.parse.result are (rw c.as_slice.ensures at c.parse.ensures.refused))
