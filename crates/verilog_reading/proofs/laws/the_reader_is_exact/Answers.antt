use Rattle.verilog_reading.proofs.Exact.{exact}
use Rattle.verilog_reading.proofs.laws.the_reader_is_exact.Goals as goal

pub returns : goal.returns
returns c = exact
