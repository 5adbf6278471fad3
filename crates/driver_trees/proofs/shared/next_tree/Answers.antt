-- Two givers or more are joined.
use Rattle.std.proofs.Common.{sym}
use Rattle.flat_meaning.specs.SignalTrees.{giver}
use Rattle.driver_trees.specs.Sketched.{given_in}
use Rattle.driver_trees.proofs.Growing.{built-as, ok-map}
use Rattle.driver_trees.proofs.Givers.{given_words, next_by_several}
use Rattle.driver_trees.proofs.shared.next_tree.Goals as goal

pub returns-in_default : goal.returns-in_default
returns-in_default c = record {
  built = λ wid bodies drafts is some most shares.
      let ds = c.args.drafts.now in let x = c.args.sig in let gs = c.args.givers.now in
      ok-map c.joined.result (λ id b. built-as _ b (λ sel. sym (next_by_several wid ds x sel gs bodies shares c.in_default.len_at_least)))
      (c.joined.ensures.built wid (λ sel. given_in wid sel bodies x) (giver wid bodies x) drafts is some most (given_words wid ds x gs bodies shares));
}
