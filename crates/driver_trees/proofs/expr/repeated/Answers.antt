-- One copy more in each turn.
use Rattle.std.proofs.Common.{◌≡◌, ◌≤◌, ◌*◌, ◌+◌, ap₂, sym, subst, arith}
use Rattle.flat_meaning.specs.Trees.{copies_tree}
use Rattle.driver_trees.specs.Drafts.{tree_in}
use Rattle.driver_trees.specs.Growth.{IsBuilt}
use Rattle.driver_trees.proofs.Growing.{place-kept}
use Rattle.driver_trees.proofs.Copies.{first-copies, next-copies, next-fits}
use Rattle.driver_trees.proofs.expr.repeated.Goals as goal

pub loop-init : goal.loop-init
loop-init c = λ wid m are is some most. first-copies wid c.args.drafts.now c.args.word m c.args.count are is some

pub loop-preserved : goal.loop-preserved
loop-preserved c = λ wid m are is some most.
    let old = c.args.drafts.now in
    let ds = c.loop.drafts in
    let k = c.loop.counter in
    let so_far = c.loop.invariant wid m are is some most in
    let word = place-kept old ds c.args.word m so_far.built.grows.longer is in
    let room : c.loop.counter + 1 ≤ c.args.count = let t = c.loop-test.true in omega arith in
    next-copies wid old ds c.add.new.self c.args.word c.loop.copies c.in_ok-copies.copies m c.args.count k are is so_far room
    (c.in_ok-copies.ensures.built wid (m + k * m) so_far.built.grows.drafts
    (sym (ap₂ (λ p q. p + q) word.1 so_far.built.place.1), word.0, so_far.built.place.0, next-fits k c.args.count m room most))

pub returns : goal.returns
returns c = record {
  built = λ wid m are is some most.
      let so_far = c.loop.invariant wid m are is some most in
      let e : c.loop.counter ≡ c.args.count = let t = c.loop-test.false in let l = so_far.within in omega arith in
      subst (λ k. IsBuilt wid c.args.drafts.now c.loop.drafts c.loop.copies (k * m) (λ sel. copies_tree k m (tree_in sel c.args.drafts.now c.args.word))) e so_far.built;
}
