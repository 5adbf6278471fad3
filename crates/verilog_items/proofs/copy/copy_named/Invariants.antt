use Rattle.std.proofs.Common.{◌≡◌, ◌++◌, map, drop}
use Rattle.verilog_reading.specs.SourceTree.{conn_of}
use Rattle.verilog_items.proofs.copy.copy_named.Given as goal

abbrev pub invariant-loop-conn : goal.invariant-loop-conn
invariant-loop-conn l = map conn_of l.conns ≡ map conn_of l.copies ++ map conn_of (drop l.conn-index l.conns)
