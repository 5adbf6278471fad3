-- Labels and items of a `casez`, one after another.
use Rattle.std.proofs.Common.{◌≡◌, ℕ, true, List, [], ◌∷◌, ◌++◌, map, refl, sym, ap, subst, ◌∙◌, append-nil}
use Rattle.std.specs.Prelude.{All}
use Rattle.std.proofs.lemmas.List.Elements.{All-tail}
use Rattle.verilog_ast.specs.declared.Label.{Label}
use Rattle.verilog_ast.specs.declared.CaseItem.{CaseItem}
use Rattle.verilog_reading.specs.ExprTree.{ExprTree}
use Rattle.verilog_reading.specs.StmtTree.{stmt_tree_of, by_value, by_mask, ArmTree, ArmTrees, arms_of, label_tree_of}
use Rattle.flat_form.specs.declared.flat.FExpr.TheVariants as f
use Rattle.flat_form.specs.Sizes.{is_sized}
use Rattle.flat_form.proofs.Folds.{expr_of-Number}
use Rattle.flat_form.proofs.Sized.{width_word}
use Rattle.flat_unfolding.specs.Names.{Look}
use Rattle.flat_unfolding.specs.Expressions.{as_constant, read}
use Rattle.flat_unfolding.specs.Formed.{IsLabelFormed, AreArmsFormed}
use Rattle.flat_unfolding.specs.Statements.{Kind, Mask, Way, masks_broken, ways_broken, mask_of, done, ways}
use Rattle.flat_names.specs.declared.resolved.Resolved.{Resolved}
use Rattle.flat_names.specs.Noting.{Noted, all_noted}
use Rattle.flat_names.specs.Pieces.{IsRead}
use Rattle.flat_names.proofs.Notes.{noted-both}
use Rattle.flat_statements.specs.declared.masks.MaskLabel.{MaskLabel}
use Rattle.flat_statements.specs.declared.masks.MaskItem.{MaskItem}
use Rattle.flat_statements.specs.Statements.{arm_tree_of}
use Rattle.flat_statements.specs.Masks.{IsMask, AreMasks, IsWay, AreWays}
use Rattle.flat_statements.proofs.Loops.{push-push}
use Rattle.flat_statements.proofs.Done.{read-expr, read-sized, noted-three}
use Rattle.flat_statements.proofs.Sides.{side-push}
use Rattle.flat_statements.proofs.Tests.{number-sized}
use Rattle.flat_statements.proofs.Trees.{arm-tree}

abbrev item_rows : List CaseItem → ArmTrees
item_rows xs = arms_of (map arm_tree_of xs)

module _ (l : Look) (k : Kind) where
  -- ---- labels

  pub value-mask : (e : ExprTree) (r : Resolved) → IsRead (as_constant (read l e)) r → IsMask (mask_of l k (by_value e)) (record { expr = r.expr; opened = 0 })
  value-mask e r h = record { opened = refl; expr = read-expr (as_constant (read l e)) r h; sized = read-sized (as_constant (read l e)) r h }

  formed-sized : (v o w : ℕ) → IsLabelFormed (by_mask v o w) → is_sized (f.Number v w) ≡ true
  formed-sized v o w h = number-sized v w (width_word w (record { some = h.0; most = h.1 })) h.2

  pub number-mask : (v o w : ℕ) → IsLabelFormed (by_mask v o w) → IsMask (mask_of l k (by_mask v o w)) (record { expr = f.Number v w; opened = o })
  number-mask v o w h = record { opened = refl; expr = λ n. expr_of-Number v w; sized = λ n. formed-sized v o w h }

  abbrev masks : List Label → List Mask
  masks xs = map (mask_of l k) (map label_tree_of xs)

  pub record MasksSoFar (all rest : List Label) (cs : List MaskLabel) (before now : Noted) : Type 0 where
    pub formed : All IsLabelFormed (map label_tree_of rest)
    pub ms : List Mask
    pub are : AreMasks ms cs
    pub whole : ms ++ masks rest ≡ masks all
    pub noted : all_noted now (masks_broken (masks rest)) ≡ all_noted before (masks_broken (masks all))

  pub masks-start : (all : List Label) (f : Noted) → All IsLabelFormed (map label_tree_of all) → MasksSoFar all all [] f f
  masks-start all f h = record { formed = h; ms = []; are = tt; whole = refl; noted = refl }

  pub masks-step : (all rest left : List Label) (x : Label) (cs : List MaskLabel) (c : MaskLabel) (before now next : Noted) → MasksSoFar all left cs before now → left ≡ x ∷ rest → IsMask (mask_of l k (label_tree_of x)) c
      → next ≡ all_noted now (mask_of l k (label_tree_of x)).term.broken → MasksSoFar all rest (cs ++ c ∷ []) before next
  masks-step all rest left x cs c before now next h e i n =
      let g = subst (λ ys. MasksSoFar all ys cs before now) e h in
      let m = mask_of l k (label_tree_of x) in record {
        formed = All-tail IsLabelFormed (label_tree_of x) (map label_tree_of rest) g.formed;
        ms = g.ms ++ m ∷ [];
        are = side-push IsMask g.ms cs m c g.are i;
        whole = push-push g.ms m (masks rest) ∙ g.whole;
        noted = ap (λ f. all_noted f (masks_broken (masks rest))) n ∙ sym (noted-both now m.term.broken (masks_broken (masks rest))) ∙ g.noted;
      }

  pub masks-end : (all : List Label) (cs : List MaskLabel) (before now : Noted) → MasksSoFar all [] cs before now → AreMasks (masks all) cs × (now ≡ all_noted before (masks_broken (masks all)))
  masks-end all cs before now h = (subst (λ ms. AreMasks ms cs) (sym (append-nil h.ms) ∙ h.whole) h.are, h.noted)

  -- ---- items

  abbrev ways_in : List CaseItem → List Way
  ways_in xs = ways l k (item_rows xs)

  abbrev way_in : ArmTree → Way
  way_in a = record { masks = map (mask_of l k) a.labels; body = done l k a.body }

  pub record WaysSoFar (all rest : List CaseItem) (is : List MaskItem) (before now : Noted) : Type 0 where
    pub formed : AreArmsFormed (item_rows rest)
    pub done : List Way
    pub are : AreWays done is
    pub whole : done ++ ways_in rest ≡ ways_in all
    pub noted : all_noted now (ways_broken (ways_in rest)) ≡ all_noted before (ways_broken (ways_in all))

  pub ways-start : (all : List CaseItem) (f : Noted) → AreArmsFormed (item_rows all) → WaysSoFar all all [] f f
  ways-start all f h = record { formed = h; done = []; are = tt; whole = refl; noted = refl }

  pub ways-step : (all rest left : List CaseItem) (x : CaseItem) (is : List MaskItem) (i : MaskItem) (before now told next : Noted) → WaysSoFar all left is before now → left ≡ x ∷ rest
      → IsWay (record { masks = masks x.labels; body = done l k (stmt_tree_of x.body) }) i → told ≡ all_noted now (masks_broken (masks x.labels)) → next ≡ all_noted told (done l k (stmt_tree_of x.body)).broken
      → WaysSoFar all rest (is ++ i ∷ []) before next
  ways-step all rest left x is i before now told next h e w n m =
      let g = subst (λ ys. WaysSoFar all ys is before now) e h in
      let a : Way = way_in (arm_tree_of x) in
      let tree = ap way_in (arm-tree x) in
      let bs = masks_broken a.masks in let cs = a.body.broken in let ds = ways_broken (ways_in rest) in
      let all_told : next ≡ all_noted (all_noted now bs) cs = m ∙ ap (λ f. all_noted f (done l k (stmt_tree_of x.body)).broken) n ∙ ap (λ (v : Way). all_noted (all_noted now (masks_broken v.masks)) v.body.broken) (sym tree) in record {
        formed = g.formed.2;
        done = g.done ++ a ∷ [];
        are = side-push IsWay g.done is a i g.are (subst (λ v. IsWay v i) (sym tree) w);
        whole = push-push g.done a (ways_in rest) ∙ g.whole;
        noted = ap (λ f. all_noted f ds) all_told ∙ sym (noted-three now bs cs ds) ∙ g.noted;
      }

  pub ways-end : (all : List CaseItem) (is : List MaskItem) (before now : Noted) → WaysSoFar all [] is before now → AreWays (ways_in all) is × (now ≡ all_noted before (ways_broken (ways_in all)))
  ways-end all is before now h = (subst (λ ws. AreWays ws is) (sym (append-nil h.done) ∙ h.whole) h.are, h.noted)
