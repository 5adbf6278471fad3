-- The read is the last draft.
use Rattle.driver_trees.specs.declared.draft.Form.TheVariants.{Read}
use Rattle.driver_trees.proofs.Growing.{built-push, ok-map}
use Rattle.driver_trees.proofs.draft.Drafts.read.Goals as goal

pub returns : goal.returns
returns c = record {
  built = λ wid are l m k. ok-map c.push.result (λ id h. built-push wid c.args.self.now c.push.new.self id (Read c.args.sig c.args.at) c.args.width h.0 h.1 are (l, m, k)) c.push.ensures.added;
}
