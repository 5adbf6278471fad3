-- The signal's bits are those before and the new ones.
use Rattle.driver_trees.proofs.Growing.{ok-map}
use Rattle.driver_trees.proofs.Collected.{included}
use Rattle.driver_trees.proofs.assigned.include.Goals as goal

pub returns : goal.returns
returns c = record {
  adds = λ set h. ok-map c.insert.result (λ u w. included c.args.assigned.now c.insert.new.entries c.args.sig c.bits_of-before.result c.args.bits c.bits_of-before.ensures w.0 set h) c.insert.ensures;
}
