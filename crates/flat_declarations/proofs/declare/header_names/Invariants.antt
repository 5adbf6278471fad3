use Rattle.flat_declarations.proofs.Headers.{IsHeaded}
use Rattle.flat_declarations.proofs.declare.header_names.Given as goal

abbrev pub invariant-loop-port : goal.invariant-loop-port
invariant-loop-port l = IsHeaded l.module l.port-index l.header
