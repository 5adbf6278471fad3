-- The next word is assigned.
use Rattle.std.proofs.Common.{◌≡◌, ℕ, ◌+◌, ◌<◌, true, ◌||◌, ◌==◌, List, [], ◌∷◌, ◌++◌, map, take, length, get_or, sym, ap, ◌∙◌, arith}
use Rattle.std.proofs.lemmas.List.{take_more, take_all}
use Rattle.flat_meaning.specs.Trees.{Selects}
use Rattle.driver_trees.specs.declared.target.Put.{Put}
use Rattle.driver_trees.specs.declared.target.Spot.TheVariants as spot
use Rattle.driver_trees.specs.Shares.{Share, share_tree, share_trees, has_share, put_share}
use Rattle.driver_trees.proofs.Steps.{assigns_more, assigns_same}
use Rattle.driver_trees.proofs.Growing.{still-grows}
use Rattle.driver_trees.proofs.Processes.{process_same}
use Rattle.driver_trees.proofs.Shares.{put_grows, share_same, has_put, has_last, map_last, trees_more}
use Rattle.driver_trees.proofs.target.assign_all.Goals as goal

pub loop-put-preserved : goal.loop-put-preserved
loop-put-preserved c = λ wid target ts ss sel₀ process puts targets.
    let i = c.loop-put.invariant wid target ts ss sel₀ process puts targets in
    let ds = c.args.drafts.now in let es = c.loop-put.drafts in let ps = c.args.puts.now in let k = c.loop-put.put-index in
    let d : Put = record { sig = 0; spot = spot.Whole; tree = record { 0 = 0 } } in
    let p = get_or ps k d in
    let within : k < length ps = omega (arith, c.loop-put-test.true, c.loop-put.auto.put-index-end) in
    let fit = puts.fit k d within in
    let a = c.in_ok-assign.ensures.assigns wid target (λ sel. share_trees wid (map (put_share sel ds) (take k ps)) (ts sel)) i.2 (put_grows wid ds es i.0 p fit)
    (targets p.sig (ap (λ ss. has_share ss p.sig) (sym (puts.are sel₀)) ∙ has_put sel₀ ds ps k d within)) in
    let next : (sel : Selects) → map (put_share sel ds) (take (k + 1) ps) ≡ map (put_share sel ds) (take k ps) ++ put_share sel ds p ∷ [] =
    λ sel. ap (map (put_share sel ds)) (take_more ps k d within) ∙ map_last (put_share sel ds) (take k ps) p in (
      still-grows wid ds es c.assign.new.drafts i.0 a.0,
      assigns_same c.args.present.now c.assign.new.present _ _ (assigns_more c.args.present.now c.loop-put.present c.assign.new.present _ _ i.1 a.1)
          (λ y. sym (ap (λ ss. has_share ss y) (next sel₀) ∙ has_last (map (put_share sel₀ ds) (take k ps)) (put_share sel₀ ds p) y)),
      process_same wid c.assign.new.drafts c.assign.new.present target _ _ a.2 (λ sel y.
          let so_far = share_trees wid (map (put_share sel ds) (take k ps)) (ts sel) in
          ap (λ s. share_tree wid s so_far y) (share_same wid ds es i.0 sel p fit)
          ∙ sym (ap (λ ss. share_trees wid ss (ts sel) y) (next sel) ∙ ap (λ f. f y) (trees_more wid (map (put_share sel ds) (take k ps)) (put_share sel ds p ∷ []) (ts sel)))),
    )

pub returns : goal.returns
returns c = record {
  assigns = λ wid target ts ss sel₀ process puts targets.
      let i = c.loop-put.invariant wid target ts ss sel₀ process puts targets in
      let ps = c.args.puts.now in
      let all : (sel : Selects) → map (put_share sel c.args.drafts.now) (take c.loop-put.put-index ps) ≡ ss sel =
      λ sel. ap (map (put_share sel c.args.drafts.now)) (take_all c.loop-put.put-index ps (omega (arith, c.loop-put-test.false))) ∙ puts.are sel in (
        i.0,
        assigns_same c.args.present.now c.loop-put.present _ (has_share (ss sel₀)) i.1 (λ x. ap (λ ss. has_share ss x) (all sel₀)),
        process_same wid c.loop-put.drafts c.loop-put.present target _ (λ sel. share_trees wid (ss sel) (ts sel)) i.2 (λ sel x. ap (λ ss. share_trees wid ss (ts sel) x) (all sel)),
      );
}
