use Rattle.verilog_parse.proofs.ParseSteps as Steps
use Rattle.verilog_parse.proofs.parse.Goals as goal

pub returns-in-Ok-clause-reading : goal.returns-in-Ok-clause-reading
returns-in-Ok-clause-reading c = Steps.reading_of 255 _ _ c.in-Ok.ensures.read

pub returns-in-Ok-clause-within : goal.returns-in-Ok-clause-within
returns-in-Ok-clause-within c = Steps.depth_of 255 _ _ c.in-Ok.ensures.read

pub returns-in-Ok-clause-one : goal.returns-in-Ok-clause-one
returns-in-Ok-clause-one c = Steps.one_of 255 _ _ c.in-Ok.ensures.read

pub returns-in-Err-clause-refused : goal.returns-in-Err-clause-refused
returns-in-Err-clause-refused c = Steps.refuses_first 255 _ _ _ c.in-Err.ensures.halts c.stop_at.ensures.memory c.stop_at.ensures.told
