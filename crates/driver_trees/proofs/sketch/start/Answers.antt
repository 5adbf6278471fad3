-- The signal has its first tree.
use Rattle.std.proofs.Common.{◌≡◌, ◌∙◌}
use Rattle.driver_trees.specs.Sketched.{begin_tree}
use Rattle.driver_trees.proofs.Growing.{ok-map}
use Rattle.driver_trees.proofs.Begun.{starts}
use Rattle.driver_trees.proofs.sketch.start.Goals as goal

pub returns-clause-starts : goal.returns-clause-starts
returns-clause-starts c = λ wid target done process mine.
    let k = c.args.sig in
    let b = c.in_ok-tree.ensures.first wid target process.drafts c.in_ok-width.ensures.1 (c.in_ok-width.ensures.0 ∙ process.widths k) (process.words k) mine in
    ok-map c.place.result
    (λ u h. (
      b.grows,
      starts wid c.args.drafts.now c.first_tree.new.drafts b.grows c.args.present.now c.place.new.present done (begin_tree c.args.blocking target wid) k c.in_ok-tree.tree process
          (record { place = b.place; tree = b.tree }) h c.place.ensures.widths,
    ))
    c.place.ensures.trees
