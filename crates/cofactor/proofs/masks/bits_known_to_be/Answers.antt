use Rattle.cofactor.proofs.Beside.{ones-known, zeros-known}
use Rattle.cofactor.proofs.masks.bits_known_to_be.Goals as goal

pub returns-then-value : goal.returns-then-value
returns-then-value c = λ k w i small e l is. ones-known c.args.masks k w i c.args.value c.if-value.true e l is

pub returns-else-value : goal.returns-else-value
returns-else-value c = λ k w i small e l is. zeros-known c.args.masks k w i c.args.value c.if-value.false small e l is
