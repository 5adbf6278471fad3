use Rattle.flat_process.proofs.Processes.{wide-edge}
use Rattle.flat_process.proofs.always.is_wide.Goals as goal

pub returns-in-Some : goal.returns-in-Some
returns-in-Some c = λ l h fit. wide-edge l c.args.look.now h fit c.args.edge.now c.in-Some.sig c.width.result (c.in-Some.ensures l h) c.width.ensures
