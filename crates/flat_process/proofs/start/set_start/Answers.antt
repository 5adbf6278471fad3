use Rattle.flat_process.proofs.Started.{keep-none}
use Rattle.flat_process.proofs.start.set_start.Goals as goal

pub returns-in-None : goal.returns-in-None
returns-in-None c = λ pins e a o bs f h is inside noted. keep-none pins c.args.design.now e a bs h o c.args.start f c.args.faults.now c.in-None.is is noted
