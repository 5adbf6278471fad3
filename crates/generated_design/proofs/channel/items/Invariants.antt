use Rattle.std.proofs.Common.{◌≡◌, map}
use Rattle.verilog_reading.specs.SourceTree.{item_of}
use Rattle.generated_design.specs.Channels.{channels}
use Rattle.generated_design.proofs.channel.items.Given as goal

abbrev pub invariant-loop-channel : goal.invariant-loop-channel
invariant-loop-channel l = map item_of l.items ≡ channels l.channel
