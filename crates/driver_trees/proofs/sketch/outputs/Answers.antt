-- Each output is read.
use Rattle.std.proofs.Common.{◌≡◌, ℕ, ◌+◌, ◌<◌, ◌≤◌, List, [], ◌∷◌, ◌++◌, All, map, drop, length, get_or, refl, sym, ap, ap₂, subst, ◌∙◌, arith, append_assoc, append-nil}
use Rattle.std.specs.List.{AllByRecursion as Each}
use Rattle.std.proofs.lemmas.List.{drop_more, drop_all}
use Rattle.std.proofs.lemmas.List.Elements.{All-nil, All-push}
use Rattle.cell_graph.specs.declared.cell.CellId.{CellId}
use Rattle.flat_meaning.proofs.Placed.{each_of}
use Rattle.driver_trees.specs.Drafts.{tree_in, width_at, IsDraftOf}
use Rattle.driver_trees.proofs.Growing.{still-grows}
use Rattle.driver_trees.proofs.Stays.{grows_not}
use Rattle.driver_trees.proofs.Registers.{ids_grow, trees_same, map_end}
use Rattle.driver_trees.proofs.sketch.outputs.Goals as goal

pub loop-sig-init : goal.loop-sig-init
loop-sig-init c = (
  c.new-trees.ensures.len,
  λ wid drafts idle some. (
    grows_not wid c.args.drafts.now drafts,
    some,
    subst (All (λ (id : CellId). IsDraftOf c.args.drafts.now id (width_at c.args.drafts.now id))) (sym c.new-trees.ensures.items) (All-nil (λ (id : CellId). IsDraftOf c.args.drafts.now id (width_at c.args.drafts.now id))),
    λ sel. ap (λ ids. map (tree_in sel c.args.drafts.now) ids ++ map (λ s. sel s 0 (wid s)) c.args.outputs.now) c.new-trees.ensures.items,
  ),
)

pub loop-sig-preserved : goal.loop-sig-preserved
loop-sig-preserved c = (
  (omega (arith, c.in_ok-add_output.ensures.count, c.loop-sig.invariant.0)),
  λ wid drafts idle some.
      let i = c.loop-sig.invariant.1 wid drafts idle some in
      let xs = c.args.outputs.now in let k = c.loop-sig.sig-index in let s = get_or xs k 0 in let rest = drop (k + 1) xs in
      let ds = c.loop-sig.drafts in let es = c.add_output.new.drafts in let ids = c.loop-sig.trees.items in
      let next : drop k xs ≡ s ∷ rest = drop_more xs k 0 (omega (arith, c.loop-sig-test.true, c.loop-sig.auto.sig-index-end)) in
      let both = subst (Each (λ s. 1 ≤ wid s)) next i.1 in
      let r = c.in_ok-add_output.ensures.exact wid i.0.drafts idle both.0 in
      let g = r.1.grows in (
        still-grows wid c.args.drafts.now ds es i.0 g,
        both.1,
        subst (All (λ (id : CellId). IsDraftOf es id (width_at es id))) (sym r.2) (All-push (λ (id : CellId). IsDraftOf es id (width_at es id)) ids r.0 (ids_grow wid ds es g ids i.2) (r.1.place.0, refl)),
        λ sel. ap (λ l. map (tree_in sel es) l ++ map (λ s. sel s 0 (wid s)) rest) r.2 ∙ ap (λ l. l ++ map (λ s. sel s 0 (wid s)) rest) (map_end (tree_in sel es) ids r.0)
            ∙ ap₂ (λ l t. (l ++ t ∷ []) ++ map (λ s. sel s 0 (wid s)) rest) (trees_same wid ds es g sel ids (each_of (λ (id : CellId). IsDraftOf ds id (width_at ds id)) ids i.2)) (r.1.tree sel)
            ∙ append_assoc (map (tree_in sel ds) ids) (sel s 0 (wid s) ∷ []) (map (λ s. sel s 0 (wid s)) rest)
            ∙ ap (λ l. map (tree_in sel ds) ids ++ map (λ s. sel s 0 (wid s)) l) (sym next) ∙ i.3 sel,
      ),
)

pub returns-clause-exact : goal.returns-clause-exact
returns-clause-exact c = λ wid drafts idle some.
    let i = c.loop-sig.invariant.1 wid drafts idle some in
    let none : drop c.loop-sig.sig-index c.args.outputs.now ≡ [] = drop_all c.loop-sig.sig-index c.args.outputs.now (omega (arith, c.loop-sig-test.false)) in
    (i.0, i.2, λ sel. sym (append-nil (map (tree_in sel c.loop-sig.drafts) c.loop-sig.trees.items)) ∙ ap (λ l. map (tree_in sel c.loop-sig.drafts) c.loop-sig.trees.items ++ map (λ s. sel s 0 (wid s)) l) (sym none) ∙ i.3 sel)
