use Rattle.std.proofs.Common.{rules}
use Rattle.verilog_reading.specs.Lexemes.{spot_of}
use Rattle.verilog_stmts.proofs.label.after_mask.Goals as goal

pub returns-clause-found : goal.returns-clause-found
returns-clause-found c = let t = c.in_ok-first.first.now in
    (record { value = c.in-Mask.value; opened = c.in-Mask.«open»; width = c.in-Mask.width; spot = spot_of t }, record { token = t; is = search rules; finds = search rules }, search rules)
