use Rattle.verilog_parse.proofs.Lexes.{printed_tokens}
use Rattle.verilog_parse.proofs.laws.printed_tokens_are_read.Goals as goal

pub returns : goal.returns
returns c = printed_tokens
