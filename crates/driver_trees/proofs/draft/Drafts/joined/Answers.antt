-- The words are joined from the lowest.
use Rattle.std.proofs.Common.{rules, ◌≡◌, [], ◌∷◌, ◌++◌, refl, arith}
use Rattle.driver_trees.specs.Drafts.{width_at}
use Rattle.driver_trees.specs.Growth.{joined_bits}
use Rattle.driver_trees.proofs.Growing.{place-kept}
use Rattle.driver_trees.proofs.Joining.{none-joined, one-joined, all-joined, nothing-joined, word-left}
use Rattle.driver_trees.proofs.draft.Drafts.joined.Goals as goal

pub loop-word-init : goal.loop-word-init
loop-word-init c = λ wid are is most. none-joined wid c.args.self.now c.args.words.items are is

pub loop-word-preserved : goal.loop-word-preserved
loop-word-preserved c = λ wid are is most.
    let so_far = c.loop-word.invariant wid are is most in
    let old = c.args.self.now in
    let e : c.loop-word.left.items ≡ c.pop.new.self.items ++ c.in-Some.word ∷ [] = c.in-Some.ensures.items in
    let there = word-left wid old c.loop-word.self c.args.words.items c.loop-word.left.items c.pop.new.self.items c.in-Some.word c.loop-word.whole so_far e most in
    one-joined wid old c.loop-word.self c.above.new.self c.args.words.items c.loop-word.left.items c.pop.new.self.items c.in-Some.word c.in_ok-above.field-0 c.loop-word.whole so_far e
    (c.in_ok-above.ensures.built wid (width_at old c.in-Some.word) so_far.grows.drafts
    (place-kept old c.loop-word.self c.in-Some.word (width_at old c.in-Some.word) so_far.grows.longer (there.0, refl)) so_far.below there.1)

pub returns-in-Some-whole : goal.returns-in-Some-whole
returns-in-Some-whole c = record {
  built = λ wid are is some most. all-joined wid c.args.self.now c.loop-word.self c.args.words.items c.loop-word.left.items c.loop-word.whole c.in-Some-whole.word (c.loop-word.invariant wid are is most) (search rules) c.in-Some-whole.is;
}

pub returns : goal.returns
returns c = record {
  built = λ wid are is some most.
      let none : joined_bits c.args.self.now c.args.words.items ≡ 0 = nothing-joined wid c.args.self.now c.loop-word.self c.args.words.items c.loop-word.left.items c.loop-word.whole (c.loop-word.invariant wid are is most) (search rules) c.in-None.is in
      absurd (omega arith);
}
