-- Each part gets its share of the word.
use Rattle.std.proofs.Common.{◌≡◌, ℕ, ◌+◌, ◌<◌, ◌≤◌, true, List, [], ◌∷◌, ◌++◌, map, drop, length, IfOk, refl, sym, ap, ap₂, subst, ◌∙◌, arith, append_assoc, append-nil}
use Rattle.std.proofs.lemmas.Bool.{and_parts}
use Rattle.std.proofs.lemmas.List.{drop_more, drop_all}
use Rattle.cell_graph.specs.Tree.{Tree, Slice}
use Rattle.flat_form.specs.declared.flat.FTarget.{FTarget}
use Rattle.flat_form.specs.declared.flat.FTarget.TheVariants as v
use Rattle.flat_form.specs.View.{target_of, targets_of, expr_of}
use Rattle.flat_form.specs.Sizes.{target_kept, all_right}
use Rattle.flat_form.proofs.Folds.{target_of-At, target_of-Join}
use Rattle.flat_form.proofs.Sized.{sized_target, target_range, sized_width, sized_range}
use Rattle.flat_meaning.specs.Flat.{Group, size, target_size, target_sizes}
use Rattle.flat_meaning.specs.Assigned.{FitTargets}
use Rattle.flat_meaning.specs.Trees.{Selects, tree}
use Rattle.driver_trees.specs.Drafts.{tree_in, width_at}
use Rattle.driver_trees.specs.Presents.{IsWithin}
use Rattle.driver_trees.specs.declared.target.Spot.TheVariants as spot
use Rattle.driver_trees.specs.Shares.{Share, share_of, chosen, shares, all_shares, put_of, IsPlaced}
use Rattle.driver_trees.proofs.Growing.{place-kept, tree-kept, still-grows, ok-map}
use Rattle.driver_trees.proofs.Seen.{sees-later}
use Rattle.driver_trees.proofs.Shares.{puts_grow, puts_same, puts_last, placed_at, placed_join}
use Rattle.driver_trees.proofs.target.+split.Goals as goal

pub split-returns-in_ok-index-in-At : goal.split-returns-in_ok-index-in-At
split-returns-in_ok-index-in-At t c = record {
  shares = λ wid look before drafts sees placed word puts.
      let ds = c.args.drafts.now in let es = c.own_tree.new.drafts in let sig = c.in-At.sig in let i = c.in_ok-index-in-At.index in let e = expr_of c.in-At.index in
      let r = placed_at wid c.args.target.now placed sig c.in-At.index c.in-At.is in
      let b = c.in_ok-index-in-At.ensures.built wid look drafts sees r.1 in
      let is : target_of c.args.target.now ≡ _ = ap target_of c.in-At.is ∙ target_of-At sig c.in-At.index in
      let k = place-kept ds es c.args.word 1 b.grows.longer (word.0, word.1 ∙ ap (target_size wid) is) in
      let wide = sized_width c.in-At.index r.1.sized in let range = sized_range c.in-At.index r.1.sized in
      let share : Selects → Share = λ sel. share_of sig (chosen (tree wid (look sel) e (size e)) (size e)) (tree_in sel ds c.args.word) in
      ok-map c.add_put-in-At.result (λ u h. (
        b.grows,
        puts_same wid es c.add_put-in-At.new.puts.items (λ sel. before sel ++ share sel ∷ []) _
            (puts_last wid es c.args.puts.now.items c.add_put-in-At.new.puts.items before (put_of sig (spot.Chosen i) c.args.word) share (puts_grow wid ds es b.grows c.args.puts.now.items before puts)
            (record { word = (k.0, refl); place = (k.1, (b.place.0, refl), (omega (arith, b.place.1, wide, range.some)), (omega (arith, b.place.1, wide, range.most)), r.0) })
            (λ sel. ap₂ (share_of sig) (ap₂ chosen (b.tree sel) b.place.1) (tree-kept sel ds es b.grows.longer c.args.word word.0)) h)
            (λ sel. ap (λ g. before sel ++ shares wid (look sel) g (tree_in sel ds c.args.word)) (sym is)),
      )) c.add_put-in-At.ensures;
}

pub split-returns-in-Join : goal.split-returns-in-Join
split-returns-in-Join t c = record {
  shares = λ wid look before drafts sees placed word puts.
      let parts = c.as_slice.result.now in let ds = c.args.drafts.now in
      let at : c.args.target.now ≡ v.Join parts = c.in-Join.is ∙ ap v.Join (sym c.as_slice.ensures) in
      let is : target_of c.args.target.now ≡ Group (targets_of (map target_of parts)) = ap target_of at ∙ target_of-Join parts in
      let p = placed_join wid c.args.target.now placed parts at in
      ok-map c.split_all.result (λ u h. (h.0, puts_same wid c.split_all.new.drafts c.split_all.new.puts.items _ _ h.1 (λ sel. ap (λ g. before sel ++ shares wid (look sel) g (tree_in sel ds c.args.word)) (sym is))))
      (c.split_all.ensures.shares wid look before placed.done drafts sees p.0 p.1 (word.0, word.1 ∙ ap (target_size wid) is) puts);
}

pub split_all-loop-part-preserved : goal.split_all-loop-part-preserved
split_all-loop-part-preserved t c = λ wid look before done drafts sees right fits word puts.
    let i = c.loop-part.invariant wid look before done drafts sees right fits word puts in
    let ds = c.args.drafts.now in let es = c.loop-part.drafts in let fs = c.add.new.self in let gs = c.split.new.drafts in
    let parts = c.args.parts.now in let k = c.loop-part.part-index in let x = c.part-item.result in let rest = drop (k + 1) parts in let w = c.target_width-width.result in let low = c.saturating_sub-low.result in
    let W = c.args.word in
    let next : drop k parts ≡ x ∷ rest = drop_more parts k x (omega (arith, c.loop-part-test.true, c.loop-part.auto.part-index-end)) ∙ ap (λ y. y ∷ rest) (sym c.part-item.is) in
    let both = and_parts (target_kept wid x).right (all_right (map (target_kept wid) rest)) (sym (ap (λ l. all_right (map (target_kept wid) l)) next) ∙ i.1) in
    let parted = subst (λ l. FitTargets wid (λ d. IsWithin wid) done (targets_of (map target_of l))) next i.2 in
    let width : w ≡ target_size wid (target_of x) = c.target_width-width.ensures wid sees.widths both.0 ∙ sized_target wid x both.0 in
    let range = target_range wid x both.0 in let size = sized_target wid x both.0 in
    let whole = i.3 ∙ ap (λ l. target_sizes wid (targets_of (map target_of l))) next in
    let lower : low ≡ target_sizes wid (targets_of (map target_of rest)) = omega (arith, c.saturating_sub-low.ensures, whole, width) in
    let word1 = place-kept ds es W (width_at ds W) i.0.longer (word.0, refl) in
    let s = c.in_ok-share.ensures.built wid w i.0.drafts (refl, word1.0, (omega (arith, width, size, range.some)), (omega (arith, lower, width, whole, i.4, word1.1))) in
    let g = still-grows wid ds es fs i.0 s.grows in
    let placed : IsPlaced wid x = record { sized = both.0; done = done; fits = parted.0 } in
    let sp = c.in_ok-split.ensures.shares wid look i.5 g.drafts (sees-later wid ds fs c.args.present.now look g.longer sees) placed (s.place.0, s.place.1 ∙ width) (puts_grow wid es fs s.grows c.loop-part.puts.items i.5 i.6) in (
      still-grows wid ds fs gs g sp.0,
      both.1,
      parted.1,
      lower,
      (omega (arith, lower, whole, i.4)),
      _,
      sp.1,
      λ sel. let R = all_shares wid (look sel) (targets_of (map target_of rest)) (tree_in sel ds W) in
          append_assoc (i.5 sel) (shares wid (look sel) (target_of x) (tree_in sel fs c.in_ok-share.share)) R
          ∙ ap (λ u. i.5 sel ++ (shares wid (look sel) (target_of x) u ++ R)) (s.tree sel ∙ ap (λ u. Slice u low w) (tree-kept sel ds es i.0.longer W word.0) ∙ ap₂ (Slice (tree_in sel ds W)) lower width)
          ∙ ap (λ l. i.5 sel ++ all_shares wid (look sel) (targets_of (map target_of l)) (tree_in sel ds W)) (sym next) ∙ i.7 sel,
    )

pub split_all-returns : goal.split_all-returns
split_all-returns t c = record {
  shares = λ wid look before done drafts sees right fits word puts.
      let i = c.loop-part.invariant wid look before done drafts sees right fits word puts in
      let parts = c.args.parts.now in let W = c.args.word in
      let none : drop c.loop-part.part-index parts ≡ [] = drop_all c.loop-part.part-index parts (omega (arith, c.loop-part-test.false)) in (
        i.0,
        puts_same wid c.loop-part.drafts c.loop-part.puts.items i.5 _ i.6 (λ sel. sym (append-nil (i.5 sel))
            ∙ ap (λ l. i.5 sel ++ all_shares wid (look sel) (targets_of (map target_of l)) (tree_in sel c.args.drafts.now W)) (sym none) ∙ i.7 sel),
      );
}
