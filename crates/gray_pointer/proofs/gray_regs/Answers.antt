-- The net's table without a cube shows the net.
use Rattle.cofactor.proofs.Places.{if_ok}
use Rattle.gray_pointer.proofs.gray_regs.Goals as goal

pub returns : goal.returns
returns c = record { exact = if_ok c.gray_regs_with.result (λ grays h is has shared narrow. h is has shared narrow (c.in_ok-plain.ensures is.graph)) c.gray_regs_with.ensures.exact }
