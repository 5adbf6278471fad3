-- The bits above and below stay.
use Rattle.std.proofs.Common.{◌≡◌, ℕ, ◌+◌, ◌-◌, ◌≤◌, refl, sym, ap, ap₂, ◌∙◌, arith}
use Rattle.cell_graph.specs.Tree.{Tree, Slice, Concat}
use Rattle.flat_meaning.specs.Trees.{Selects, glue}
use Rattle.driver_trees.specs.Drafts.{tree_in}
use Rattle.driver_trees.specs.Growth.{IsBuilt, optional_bits, optional_tree}
use Rattle.driver_trees.proofs.Growing.{place-kept, tree-kept, still-grows, ok-map, glue-both, some-bits}
use Rattle.driver_trees.proofs.PartsOfWords.{glue_part, glue_none, part_some, part_none}
use Rattle.driver_trees.proofs.Stays.{built_since}
use Rattle.driver_trees.proofs.target.with_part.Goals as goal

pub returns-in-Some : goal.returns-in-Some
returns-in-Some c = record {
  built = λ wid n drafts old most word some room.
      let ds = c.args.drafts.now in let es = c.part_of.new.drafts in let fs = c.above.new.self in let gs = c.part_of-2.new.drafts in
      let at = c.args.at in let w = c.args.width in let k = c.saturating_sub.result in let end = c.saturating_add-end.result in
      let ends : end ≡ at + w = omega (arith, c.saturating_add-end.ensures, room, most) in
      let wide : c.width-all.result ≡ n = c.width-all.ensures ∙ old.1 in
      let left : k ≡ n - (at + w) = omega (arith, c.saturating_sub.ensures, ends, wide) in
      let b = c.in_ok-below.ensures.part wid n drafts old (omega (arith, room)) in
      let l = c.in_ok-lower.ensures.built wid w b.grows.drafts (place-kept ds es c.args.word w b.grows.longer word) b.place (omega (arith, b.bits, room, most)) in
      let g = still-grows wid ds es fs b.grows l.grows in
      let h = c.in_ok-high.ensures.part wid n g.drafts (place-kept ds fs c.args.old n g.longer old) (omega (arith, ends, left, room)) in
      let high = part_some wid fs gs c.in_ok-high.field-0 k (λ sel. Slice (tree_in sel fs c.args.old) end k) h c.in-Some.high c.in-Some.is in
      let more = some-bits wid gs c.in-Some.high k high.grows.drafts high.place in
      let all = still-grows wid ds fs gs g high.grows in
      let low = place-kept fs gs c.in_ok-lower.lower (w + optional_bits es c.in_ok-below.below) high.grows.longer l.place in
      let lows : (sel : Selects) → tree_in sel fs c.in_ok-lower.lower ≡ glue w (tree_in sel ds c.args.word) at (Slice (tree_in sel ds c.args.old) 0 at) = λ sel. l.tree sel
      ∙ ap (λ t. glue w t (optional_bits es c.in_ok-below.below) (optional_tree sel es c.in_ok-below.below)) (tree-kept sel ds es b.grows.longer c.args.word word.0)
      ∙ ap₂ (glue w (tree_in sel ds c.args.word)) b.bits (b.tree sel) ∙ glue_part w at (tree_in sel ds c.args.word) (Slice (tree_in sel ds c.args.old) 0 at) in
      ok-map c.add.result (λ id m. built_since wid ds gs all c.add.new.self id n _ _ m (λ sel.
      ap₂ Concat (high.tree sel ∙ ap (λ t. Slice t end k) (tree-kept sel ds fs g.longer c.args.old old.0) ∙ ap₂ (Slice (tree_in sel ds c.args.old)) ends left)
      (tree-kept sel fs gs high.grows.longer c.in_ok-lower.lower l.place.0 ∙ lows sel)
      ∙ glue-both (n - (at + w)) (w + at) _ _ (omega (arith, left, more)) (omega (arith, some))))
      (c.add.ensures.built wid n high.grows.drafts ((omega (arith, high.place.1, low.1, b.bits, left, room)), high.place.0, low.0, most));
}

pub returns-in-None : goal.returns-in-None
returns-in-None c = record {
  built = λ wid n drafts old most word some room.
      let ds = c.args.drafts.now in let es = c.part_of.new.drafts in let fs = c.above.new.self in let gs = c.part_of-2.new.drafts in
      let at = c.args.at in let w = c.args.width in let k = c.saturating_sub.result in let end = c.saturating_add-end.result in
      let ends : end ≡ at + w = omega (arith, c.saturating_add-end.ensures, room, most) in
      let wide : c.width-all.result ≡ n = c.width-all.ensures ∙ old.1 in
      let left : k ≡ n - (at + w) = omega (arith, c.saturating_sub.ensures, ends, wide) in
      let b = c.in_ok-below.ensures.part wid n drafts old (omega (arith, room)) in
      let l = c.in_ok-lower.ensures.built wid w b.grows.drafts (place-kept ds es c.args.word w b.grows.longer word) b.place (omega (arith, b.bits, room, most)) in
      let g = still-grows wid ds es fs b.grows l.grows in
      let h = c.in_ok-high.ensures.part wid n g.drafts (place-kept ds fs c.args.old n g.longer old) (omega (arith, ends, left, room)) in
      let none = part_none wid fs gs c.in_ok-high.field-0 k (λ sel. Slice (tree_in sel fs c.args.old) end k) h c.in-None.is in
      let low = place-kept fs gs c.in_ok-lower.lower (w + optional_bits es c.in_ok-below.below) h.grows.longer l.place in
      record {
        grows = still-grows wid ds fs gs g h.grows;
        place = (low.0, low.1 ∙ (let e : w + optional_bits es c.in_ok-below.below ≡ n = omega (arith, b.bits, none, left, room) in e));
        tree = λ sel. tree-kept sel fs gs h.grows.longer c.in_ok-lower.lower l.place.0 ∙ l.tree sel
            ∙ ap (λ t. glue w t (optional_bits es c.in_ok-below.below) (optional_tree sel es c.in_ok-below.below)) (tree-kept sel ds es b.grows.longer c.args.word word.0)
            ∙ ap₂ (glue w (tree_in sel ds c.args.word)) b.bits (b.tree sel) ∙ glue_part w at (tree_in sel ds c.args.word) (Slice (tree_in sel ds c.args.old) 0 at)
            ∙ glue_none (n - (at + w)) (w + at) (Slice (tree_in sel ds c.args.old) (at + w) (n - (at + w))) _ (sym left ∙ none) (omega (arith, some));
      };
}
