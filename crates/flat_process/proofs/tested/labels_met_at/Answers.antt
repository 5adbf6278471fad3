use Rattle.flat_process.specs.Resets.{look_at}
use Rattle.flat_process.proofs.Levels.{shows-level, fit-level}
use Rattle.flat_process.proofs.tested.labels_met_at.Goals as goal

pub returns : goal.returns
returns c = λ l h fit e f. let active = c.args.active in c.first_labels_met.ensures (look_at l active) (shows-level c.args.look.now l active h) (fit-level l active fit) e f
