-- What a process reads, by the present trees.
use Rattle.std.proofs.Common.{◌≡◌, ℕ, zero, suc, ◌+◌, ◌<◌, ◌≤◌, Bool, true, false, cond, List, [], length, replicate, map, Option, Some, None, slice_get, unwrap_or, option_map, refl, sym, ap, ◌∙◌}
use Rattle.std.specs.Option.{option_map_or, option_flatten}
use Rattle.std.proofs.lemmas.Option.{slice_get-map}
use Rattle.cdc_base.specs.declared.signal.Signal.{Signal}
use Rattle.cell_graph.specs.declared.cell.CellId.{CellId}
use Rattle.cell_graph.specs.Tree.{Tree, Const}
use Rattle.flat_meaning.specs.Design.{width_in as signal_width}
use Rattle.flat_meaning.specs.Trees.{Selects, cut}
use Rattle.driver_trees.specs.declared.draft.Draft.{Draft}
use Rattle.driver_trees.specs.declared.present.Present.{Present}
use Rattle.driver_trees.specs.Drafts.{tree_in, IsDraftOf}
use Rattle.driver_trees.specs.Growth.{IsLonger}
use Rattle.driver_trees.specs.Presents.{present_of, shown_of, looks, Sees}
use Rattle.driver_trees.proofs.Growing.{place-kept, tree-kept}

pub widths-of : (ws : List ℕ) (ss : List Signal) → ws ≡ map (λ (x : Signal). x.width) ss → (s : ℕ) → unwrap_or (slice_get ws s) 0 ≡ signal_width ss s
widths-of ws ss e s = ap (λ xs. unwrap_or (slice_get xs s) 0) e ∙ ap (λ o. unwrap_or o 0) (slice_get-map (λ (x : Signal). x.width) ss s) ∙ by (slice_get ss s)
  where
    by : (o : Option Signal) → unwrap_or (option_map (λ (x : Signal). x.width) o) 0 ≡ option_map_or (λ (x : Signal). x.width) o 0
    by None = refl
    by (Some x) = refl

pub no-tree : (n s : ℕ) → option_flatten {T = CellId} (slice_get (replicate n None) s) ≡ None
no-tree zero s = refl
no-tree (suc n) zero = refl
no-tree (suc n) (suc s) = no-tree n s

shown-present_from : (b : Bool) (o : Option CellId) (id : CellId) → cond b o None ≡ Some id → o ≡ Some id
shown-present_from true o id e = e
shown-present_from false o id e = cc

pub shown-present : (p : Present) (s : ℕ) (id : CellId) → shown_of p s ≡ Some id → present_of p s ≡ Some id
shown-present p s id e = shown-present_from p.blocking (present_of p s) id e

module _ (wid : ℕ → ℕ) (sel : Selects) (p : Present) (s at w : ℕ) where
  abbrev pub seen : List Draft → Option CellId → Tree
  seen ds o = option_map_or (λ id. cut (wid s) at w (tree_in sel ds id)) o (sel s at w)

  -- a read sees a tree, or the signal as it is
  pub looks-shown : (ds : List Draft) → looks wid sel ds p s at w ≡ seen ds (shown_of p s)
  looks-shown ds = go p.blocking (present_of p s) refl
    where
      go : (b : Bool) (o : Option CellId) → present_of p s ≡ o → looks wid sel ds (record p { blocking = b }) s at w ≡ seen ds (cond b o None)
      go true None e = rw e refl
      go true (Some id) e = rw e refl
      go false o e = refl

  seen-later : (old new : List Draft) → IsLonger old new → (o : Option CellId) → ((id : CellId) → o ≡ Some id → id.0 < length old) → seen new o ≡ seen old o
  seen-later old new h None below = refl
  seen-later old new h (Some id) below = ap (cut (wid s) at w) (tree-kept sel old new h id (below id refl))

-- further drafts change nothing that is seen
pub sees-later : (wid : ℕ → ℕ) (old new : List Draft) (p : Present) (look : Selects → Selects) → IsLonger old new → Sees wid old p look → Sees wid new p look
sees-later wid old new p look h is = record {
  words = is.words;
  widths = is.widths;
  trees = λ s id e. place-kept old new id (wid s) h (is.trees s id e);
  looks = λ sel s at w l. is.looks sel s at w l ∙ looks-shown wid sel p s at w old
      ∙ sym (seen-later wid sel p s at w old new h (shown_of p s) (λ id e. (is.trees s id (shown-present p s id e)).0))
      ∙ sym (looks-shown wid sel p s at w new);
}
