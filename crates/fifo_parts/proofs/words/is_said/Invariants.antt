-- No term so far says it.
use Rattle.std.proofs.Common.{◌≡◌, drop}
use Rattle.fifo_parts.specs.Words.{is_said}
use Rattle.fifo_parts.proofs.words.is_said.Given as goal

abbrev pub invariant-loop-term : goal.invariant-loop-term
invariant-loop-term l = is_said l.net.graph l.side.reg.count l.side.width l.terms l.said.at l.said.value
    ≡ is_said l.net.graph l.side.reg.count l.side.width (drop l.term-index l.terms) l.said.at l.said.value
