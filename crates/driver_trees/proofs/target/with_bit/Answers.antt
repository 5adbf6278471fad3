-- Each bit goes above those that are done.
use Rattle.std.proofs.Common.{◌≡◌, ℕ, suc, ◌+◌, ◌^◌, ◌≤◌, cond, nat_lt, Some, refl, sym, ap, ap₂, subst, ◌∙◌, arith, add-one}
use Rattle.cell_graph.specs.declared.cell.CellId.{CellId}
use Rattle.cell_graph.specs.Tree.{Tree, Mux, Eq, Const, Slice}
use Rattle.flat_meaning.specs.Trees.{Selects, glue, picked}
use Rattle.driver_trees.specs.Drafts.{tree_in}
use Rattle.driver_trees.specs.Growth.{IsBuilt, optional_bits, optional_tree}
use Rattle.driver_trees.proofs.Growing.{place-kept, tree-kept, still-grows}
use Rattle.driver_trees.proofs.PartsOfWords.{optional_grows, optional_built}
use Rattle.driver_trees.proofs.target.with_bit.Goals as goal

pub loop-at-preserved : goal.loop-at-preserved
loop-at-preserved c = λ wid n m drafts old some most index isome imost bit.
    let i = c.loop-at.invariant wid n m drafts old some most index isome imost bit in
    let ds = c.args.drafts.now in let es = c.loop-at.drafts in let fs = c.add.new.self in let gs = c.next_bit.new.drafts in
    let at = c.loop-at.at in let I = c.args.index in let B = c.args.bit in let O = c.args.old in let done = c.loop-at.word in
    let old1 = place-kept ds es O n i.0.longer old in
    let s = c.in_ok-stays.ensures.built wid 1 i.0.drafts (refl, old1.0, (omega arith), (omega (arith, old1.1, c.loop-at-test.true, i.4))) in
    let g = still-grows wid ds es fs i.0 s.grows in
    let x = c.in_ok-next.ensures.built wid m g.drafts s.place (place-kept ds fs I m g.longer index) isome imost (place-kept ds fs B 1 g.longer bit) in
    let o = optional_grows wid es gs (still-grows wid es fs gs s.grows x.grows) done i.1 in
    let a = c.in_ok-above.ensures.built wid 1 x.grows.drafts x.place o.0 (omega (arith, o.1, i.2, most, c.loop-at-test.true, i.4)) in
    let next : Tree → Tree → Tree → Tree = λ i b s. cond (nat_lt at (2 ^ m)) (Mux (Eq i (Const m at)) b s) s in (
      still-grows wid ds gs c.above.new.self (still-grows wid ds fs gs g x.grows) a.grows,
      (a.place.0, refl),
      (omega (arith, a.place.1, o.1, i.2)),
      λ sel. a.tree sel
          ∙ ap (λ t. glue 1 t (optional_bits gs done) (optional_tree sel gs done)) (x.tree sel
          ∙ ap (λ t. next t (tree_in sel fs B) (tree_in sel fs c.in_ok-stays.stays)) (tree-kept sel ds fs g.longer I index.0)
          ∙ ap (λ t. next (tree_in sel ds I) t (tree_in sel fs c.in_ok-stays.stays)) (tree-kept sel ds fs g.longer B bit.0)
          ∙ ap (next (tree_in sel ds I) (tree_in sel ds B)) (s.tree sel ∙ ap (λ t. Slice t at 1) (tree-kept sel ds es i.0.longer O old.0)))
          ∙ ap₂ (glue 1 (next (tree_in sel ds I) (tree_in sel ds B) (Slice (tree_in sel ds O) at 1))) (o.1 ∙ i.2) (o.2 sel ∙ i.3 sel)
          ∙ ap (picked (tree_in sel ds I) m (tree_in sel ds B) (tree_in sel ds O)) (sym (add-one at)),
      i.4,
    )

pub returns : goal.returns
returns c = record {
  built = λ wid n m drafts old some most index isome imost bit.
      let i = c.loop-at.invariant wid n m drafts old some most index isome imost bit in
      let at : c.loop-at.at ≡ n = omega (arith, c.loop-at-test.false, c.loop-at.auto.at-end, i.4) in
      let ds = c.args.drafts.now in let tree = λ (sel : Selects). picked (tree_in sel ds c.args.index) m (tree_in sel ds c.args.bit) (tree_in sel ds c.args.old) in
      subst (λ (r : CellId). IsBuilt wid ds c.loop-at.drafts r n (λ sel. tree sel n)) (sym c.unwrap_or.ensures)
      (optional_built wid ds c.loop-at.drafts i.0 c.loop-at.word c.args.old n (λ sel. tree sel n) i.1 (i.2 ∙ at) some (λ sel. i.3 sel ∙ ap (tree sel) at));
}
