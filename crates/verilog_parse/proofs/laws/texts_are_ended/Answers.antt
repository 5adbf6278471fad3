use Rattle.verilog_parse.proofs.Ended.{texts_are_ended}
use Rattle.verilog_parse.proofs.laws.texts_are_ended.Goals as goal

pub returns : goal.returns
returns c = texts_are_ended
