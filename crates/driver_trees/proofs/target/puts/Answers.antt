-- The value is cut to the target's bits, and split.
use Rattle.std.proofs.Common.{◌≡◌, ℕ, ◌+◌, ◌≤◌, max, [], refl, sym, ap, ap₂, ◌∙◌, arith}
use Rattle.flat_form.specs.View.{target_of, expr_of}
use Rattle.flat_form.proofs.Sized.{sized_target, target_range, sized_width, sized_range}
use Rattle.flat_meaning.specs.Flat.{size, target_size, value_size}
use Rattle.flat_meaning.specs.Trees.{Selects, tree, cut, value_tree}
use Rattle.driver_trees.specs.Drafts.{tree_in}
use Rattle.driver_trees.specs.Shares.{shares}
use Rattle.driver_trees.proofs.Growing.{still-grows}
use Rattle.driver_trees.proofs.Seen.{sees-later}
use Rattle.driver_trees.proofs.Shares.{puts_same, no_puts}
use Rattle.driver_trees.proofs.target.puts.Goals as goal

pub returns : goal.returns
returns c = record {
  shares = λ wid look drafts sees placed read.
      let ds = c.args.drafts.now in let es = c.tree.new.drafts in let fs = c.cut.new.self in let T = target_of c.args.target.now in let e = expr_of c.args.value.now in
      let w = c.target_width-width.result in let m = c.max.result in
      let width : w ≡ target_size wid T = c.target_width-width.ensures wid sees.widths placed.sized ∙ sized_target wid c.args.target.now placed.sized in
      let range = target_range wid c.args.target.now placed.sized in let size_is = sized_target wid c.args.target.now placed.sized in
      let own : c.width_of.result ≡ size e = c.width_of.ensures.kept ∙ sized_width c.args.value.now read.sized in
      let own_range = sized_range c.args.value.now read.sized in let own_is = sized_width c.args.value.now read.sized in
      let most : m ≡ value_size wid T e = omega (arith, c.max.ensures, width, own) in
      let b = c.in_ok-whole.ensures.built wid look drafts sees read (omega (arith, most)) (omega (arith, most, range.most, size_is, own_range.most, own_is)) in
      let x = c.in_ok-word.ensures.built wid m b.grows.drafts b.place (omega (arith, width, size_is, range.some)) (omega (arith, most, width)) in
      let g = still-grows wid ds es fs b.grows x.grows in
      let sp = c.in_ok-split.ensures.shares wid look (λ sel. []) g.drafts (sees-later wid ds fs c.args.present.now look g.longer sees) placed (x.place.0, x.place.1 ∙ width) (no_puts wid fs c.new-puts.result.items c.new-puts.ensures.items) in (
        still-grows wid ds fs c.split.new.drafts g sp.0,
        puts_same wid c.split.new.drafts c.split.new.puts.items _ _ sp.1 (λ sel.
            ap (shares wid (look sel) T) (x.tree sel ∙ ap (cut m 0 w) (b.tree sel) ∙ ap₂ (λ m w. cut m 0 w (tree wid (look sel) e m)) most width)),
      );
}
