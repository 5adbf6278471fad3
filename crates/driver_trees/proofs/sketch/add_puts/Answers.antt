-- What each word drives is added.
use Rattle.std.proofs.Common.{◌≡◌, ℕ, ◌+◌, ◌<◌, ◌≤◌, List, [], ◌∷◌, ◌++◌, map, drop, length, get_or, sym, ap, ◌∙◌, arith}
use Rattle.std.proofs.lemmas.List.{drop_more, drop_all}
use Rattle.driver_trees.specs.declared.target.Put.{Put}
use Rattle.driver_trees.specs.declared.target.Spot.TheVariants as spot
use Rattle.driver_trees.specs.Shares.{put_share}
use Rattle.driver_trees.specs.Sketches.{pieces_in}
use Rattle.driver_trees.specs.Sketched.{share_pieces}
use Rattle.driver_trees.proofs.Drafted.{pieces_as, as_they_are, with_all, with_more, with_none, first_share}
use Rattle.driver_trees.proofs.sketch.add_puts.Goals as goal

pub loop-put-init : goal.loop-put-init
loop-put-init c = λ wid ds ss before widths puts pieces. with_all (λ sel x. share_pieces wid x (map (put_share sel ds) c.args.puts.now)) pieces

pub loop-put-preserved : goal.loop-put-preserved
loop-put-preserved c = λ wid ds ss before widths puts pieces.
    let i = c.loop-put.invariant wid ds ss before widths puts pieces in
    let ps = c.args.puts.now in let k = c.loop-put.put-index in let rest = drop (k + 1) ps in
    let d : Put = record { sig = 0; spot = spot.Whole; tree = record { 0 = 0 } } in
    let p = get_or ps k d in
    let within : k < length ps = omega (arith, c.loop-put-test.true, c.loop-put.auto.put-index-end) in
    let next : drop k ps ≡ p ∷ rest = drop_more ps k d within in
    with_more ds c.add_put.new.pieces.items (λ sel x. share_pieces wid x (put_share sel ds p ∷ [])) (λ sel x. share_pieces wid x (map (put_share sel ds) rest)) i
    (c.in_ok-add_put.ensures.adds wid ds (λ sel x. pieces_in sel ds c.loop-put.pieces.items x) widths (puts.fit k d within) (as_they_are i.stand))
    (λ sel x. first_share wid x (put_share sel ds p) (map (put_share sel ds) rest) ∙ ap (λ l. share_pieces wid x (map (put_share sel ds) l)) (sym next))

pub returns : goal.returns
returns c = record {
  adds = λ wid ds ss before widths puts pieces.
      let i = c.loop-put.invariant wid ds ss before widths puts pieces in let ps = c.args.puts.now in
      let none : drop c.loop-put.put-index ps ≡ [] = drop_all c.loop-put.put-index ps (omega (arith, c.loop-put-test.false)) in
      pieces_as (λ sel x. before sel x ++ share_pieces wid x (ss sel)) (with_none i (λ sel x. ap (λ l. share_pieces wid x (map (put_share sel ds) l)) none)) (λ sel x. ap (λ us. before sel x ++ share_pieces wid x us) (puts.are sel));
}
