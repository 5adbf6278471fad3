-- The signal is read whole.
use Rattle.std.proofs.Common.{◌≡◌, ℕ, ◌+◌, ◌≤◌, ap, ◌∙◌, arith}
use Rattle.driver_trees.proofs.Growing.{ok-map}
use Rattle.driver_trees.proofs.sketch.add_output.Goals as goal

pub returns-clause-exact : goal.returns-clause-exact
returns-clause-exact c = λ wid drafts idle some.
    let s = c.args.sig in
    let n : c.width.result ≡ wid s = c.width.ensures ∙ idle.widths s in
    let b = c.in_ok-tree.ensures.built wid drafts (omega (arith, n, some)) (omega (arith, n)) (idle.words s) in
    ok-map c.push.result (λ u e. (c.in_ok-tree.tree, record { grows = b.grows; place = (b.place.0, b.place.1 ∙ n); tree = λ sel. b.tree sel ∙ ap (λ w. sel s 0 w) n }, e)) c.push.ensures
