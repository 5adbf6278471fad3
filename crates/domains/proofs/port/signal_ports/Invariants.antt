use Rattle.std.proofs.Common.{◌≡◌, take}
use Rattle.domains.specs.Tables.{pairs_of}
use Rattle.domains.specs.Ports.{signal_ports}
use Rattle.domains.proofs.port.signal_ports.Given as goal

abbrev pub invariant-loop-signal : goal.invariant-loop-signal
invariant-loop-signal l = pairs_of l.ports.items ≡ signal_ports (take l.signal-index l.signals)
