use Rattle.std.proofs.Common.{take, false}
use Rattle.std.specs.Prelude.{All}
use Rattle.domains.proofs.register.reads_any.Given as goal

abbrev pub invariant-loop-bit : goal.invariant-loop-bit
invariant-loop-bit g l = All (λ b. g.C.Cofactors.reads l.net.graph l.node b false) (take l.bit-index l.bits)
