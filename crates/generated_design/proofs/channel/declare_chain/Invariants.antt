use Rattle.std.proofs.Common.{◌≡◌, ◌++◌, map}
use Rattle.verilog_reading.specs.SourceTree.{item_of}
use Rattle.generated_design.specs.Pieces.{bit_item}
use Rattle.generated_design.specs.Channels.{chain}
use Rattle.generated_design.proofs.channel.declare_chain.Given as goal

abbrev pub invariant-loop-place : goal.invariant-loop-place
invariant-loop-place l = map item_of l.items ≡ map item_of l.initial.items ++ map bit_item (chain l.letter l.channel l.place)
