use Rattle.std.proofs.Common.{◌≡◌, drop, map}
use Rattle.report.specs.Faults.{message_in}
use Rattle.report.proofs.fault.find_message.Given as goal

abbrev pub invariant-loop-known : goal.invariant-loop-known
invariant-loop-known l = message_in (map (λ row. (row.0, row.1.now)) l.table) l.number
    ≡ message_in (map (λ row. (row.0, row.1.now)) (drop l.known-index l.table)) l.number
