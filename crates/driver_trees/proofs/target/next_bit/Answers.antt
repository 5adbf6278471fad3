-- The bit is chosen by whether the index names it.
use Rattle.std.proofs.Common.{◌≡◌, ℕ, ◌^◌, ◌<◌, cond, nat_lt, refl, sym, ap, ap₂, ◌∙◌, arith, lt-ltb}
use Rattle.std.proofs.lemmas.Nat.{pow_pos}
use Rattle.cell_graph.specs.Tree.{Tree, Mux, Eq, Const}
use Rattle.driver_trees.specs.Drafts.{tree_in}
use Rattle.driver_trees.proofs.Growing.{place-kept, tree-kept, still-grows, ok-map}
use Rattle.driver_trees.proofs.Stays.{built_since}
use Rattle.driver_trees.proofs.target.next_bit.Goals as goal

pub returns : goal.returns
returns c = record {
  built = λ wid m drafts old index some most bit.
      let ds = c.args.drafts.now in let es = c.constant.new.self in let fs = c.add.new.self in let at = c.args.at in let i = c.args.index in
      let size : c.width-size.result ≡ m = c.width-size.ensures ∙ index.1 in
      let within : at < 2 ^ c.width-size.result = let p = pow_pos c.width-size.result in let k = c.mask.ensures (omega (arith, size, most)) in omega (arith, c.if-from-mask.false, c.from.ensures, k, p) in
      let same : c.from-2.result ≡ at = c.from-2.ensures in
      let place = c.in_ok-place.ensures.built wid drafts (omega (arith, size, some)) (omega (arith, size, most)) (omega (arith, within, same)) in
      let g = place.grows in
      let by = place-kept ds es i m g.longer index in
      let test = c.in_ok-cond.ensures.built wid 1 g.drafts (refl, (by.0, place.place.0, by.1 ∙ sym size ∙ sym place.place.1)) in
      let all = still-grows wid ds es fs g test.grows in
      let yes = place-kept ds fs c.args.bit 1 all.longer bit in
      let other = place-kept ds fs c.args.old 1 all.longer old in
      ok-map c.add-2.result (λ id b. built_since wid ds fs all c.add-2.new.self id 1 _ _ b (λ sel.
      ap (λ u. Mux u (tree_in sel fs c.args.bit) (tree_in sel fs c.args.old)) (test.tree sel ∙ ap₂ Eq (tree-kept sel ds es g.longer i index.0) (place.tree sel ∙ ap₂ Const size same))
      ∙ ap₂ (Mux (Eq (tree_in sel ds i) (Const m at))) (tree-kept sel ds fs all.longer c.args.bit bit.0) (tree-kept sel ds fs all.longer c.args.old old.0)
      ∙ ap (λ b. cond b (Mux (Eq (tree_in sel ds i) (Const m at)) (tree_in sel ds c.args.bit) (tree_in sel ds c.args.old)) (tree_in sel ds c.args.old)) (sym (lt-ltb at (2 ^ m) (let e = ap (λ k. 2 ^ k) size in omega (arith, e, within))))))
      (c.add-2.ensures.built wid 1 test.grows.drafts (sym yes.1, test.place.0, test.place.1, (yes.0, other.0, yes.1 ∙ sym other.1)));
}
