-- The run's bits of its giver's word, above the word below.
use Rattle.std.proofs.Common.{◌≡◌, ◌+◌, ◌-◌, ap₂, ◌∙◌, arith}
use Rattle.flat_meaning.specs.Trees.{cut, glue}
use Rattle.driver_trees.specs.Growth.{optional_bits, optional_tree}
use Rattle.driver_trees.proofs.Growing.{still-grows, ok-map}
use Rattle.driver_trees.proofs.PartsOfWords.{optional_grows}
use Rattle.driver_trees.proofs.shared.with_run.Goals as goal

pub returns : goal.returns
returns c = record {
  built = λ wid words giver drafts is some most given begun room.
      let ds = c.args.drafts.now in let es = c.word_of.new.drafts in let fs = c.cut.new.self in let gs = c.above.new.self in
      let from = c.args.run.from in let to = c.args.to in let low = c.args.run.low in let w = wid c.args.sig in let k = c.args.run.giver in
      let some_bits = begun.some in let below = begun.below in
      let n : c.saturating_sub.result ≡ to - from = omega (arith, c.saturating_sub.ensures, some_bits) in
      let b = c.in_ok-word.ensures.built wid words giver drafts is some most given in
      let t = c.in_ok-bits.ensures.built wid w b.grows.drafts b.place (omega (arith, n, some_bits)) (omega (arith, n, some_bits, is, room)) in
      let g = still-grows wid ds es fs b.grows t.grows in
      let o = optional_grows wid ds fs g low begun.place in
      ok-map c.above.result (λ id a. record {
        grows = still-grows wid ds fs gs g a.grows;
        place = (a.place.0, a.place.1 ∙ (let z : c.saturating_sub.result + optional_bits fs low ≡ to = omega (arith, n, o.1, below, some_bits) in z));
        tree = λ sel. a.tree sel
            ∙ ap₂ (λ m u. glue m u (optional_bits fs low) (optional_tree sel fs low)) n (t.tree sel ∙ ap₂ (λ m u. cut w from m u) n (b.tree sel))
            ∙ ap₂ (λ m u. glue (to - from) (cut w from (to - from) (words sel k)) m u) (o.1 ∙ below) (o.2 sel);
      }) (c.above.ensures.built wid c.saturating_sub.result t.grows.drafts t.place o.0 (omega (arith, n, o.1, below, some_bits, room, most)));
}
