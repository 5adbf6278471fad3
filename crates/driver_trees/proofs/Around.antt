-- Choices around a word, from the innermost.
use Rattle.std.proofs.Common.{◌≡◌, ℕ, List, [], ◌∷◌, ◌++◌, refl, sym, ap, ap₂, subst, ◌∙◌}
use Rattle.cell_graph.specs.declared.cell.CellId.{CellId}
use Rattle.cell_graph.specs.Tree.{Tree, Mux}
use Rattle.flat_meaning.specs.Trees.{Selects}
use Rattle.driver_trees.specs.declared.draft.Draft.{Draft}
use Rattle.driver_trees.specs.declared.expr.Choice.{Choice}
use Rattle.driver_trees.specs.Drafts.{tree_in, AreDrafts, IsDraftOf}
use Rattle.driver_trees.specs.Growth.{IsLonger, Grows, IsBuilt}
use Rattle.driver_trees.specs.Choices.{around_tree, AreChoices}
use Rattle.driver_trees.proofs.Growing.{place-kept, tree-kept, still-grows}

pub around-push : (sel : Selects) (ds : List Draft) (cs : List Choice) (c : Choice) (t : Tree) → around_tree sel ds (cs ++ c ∷ []) t ≡ around_tree sel ds cs (Mux (tree_in sel ds c.cond) (tree_in sel ds c.yes) t)
around-push sel ds [] c t = refl
around-push sel ds (d ∷ cs) c t = ap (Mux (tree_in sel ds d.cond) (tree_in sel ds d.yes)) (around-push sel ds cs c t)

pub choices-push : (ds : List Draft) (w : ℕ) (cs : List Choice) (c : Choice) → AreChoices ds w cs → IsDraftOf ds c.cond 1 → IsDraftOf ds c.yes w → AreChoices ds w (cs ++ c ∷ [])
choices-push ds w [] c is h k = (h, k, tt)
choices-push ds w (d ∷ cs) c is h k = (is.0, is.1, choices-push ds w cs c is.2 h k)

choices-pop : (ds : List Draft) (w : ℕ) (cs : List Choice) (c : Choice) → AreChoices ds w (cs ++ c ∷ []) → AreChoices ds w cs × (IsDraftOf ds c.cond 1 × IsDraftOf ds c.yes w)
choices-pop ds w [] c is = (tt, (is.0, is.1))
choices-pop ds w (d ∷ cs) c is = let r = choices-pop ds w cs c is.2 in ((is.0, is.1, r.0), r.1)

pub choices-kept : (old new : List Draft) (w : ℕ) → IsLonger old new → (cs : List Choice) → AreChoices old w cs → AreChoices new w cs
choices-kept old new w h [] is = tt
choices-kept old new w h (c ∷ cs) is = (place-kept old new c.cond 1 h is.0, place-kept old new c.yes w h is.1, choices-kept old new w h cs is.2)

pub around-kept : (sel : Selects) (old new : List Draft) (w : ℕ) → IsLonger old new → (cs : List Choice) → AreChoices old w cs → (t : Tree) → around_tree sel new cs t ≡ around_tree sel old cs t
around-kept sel old new w h [] is t = refl
around-kept sel old new w h (c ∷ cs) is t =
    ap₂ (λ p q. Mux p q (around_tree sel new cs t)) (tree-kept sel old new h c.cond is.0.0) (tree-kept sel old new h c.yes is.1.0)
    ∙ ap (Mux (tree_in sel old c.cond) (tree_in sel old c.yes)) (around-kept sel old new w h cs is.2 t)

-- the choices that are left, around the word so far, are all of them around the innermost word
pub record IsChosen (wid : ℕ → ℕ) (old ds : List Draft) (w : ℕ) (innermost : CellId) (all left : List Choice) (word : CellId) : Type 0 where
  pub grows : Grows wid old ds
  pub choices : AreChoices old w left
  pub place : IsDraftOf ds word w
  pub tree : (sel : Selects) → around_tree sel old all (tree_in sel old innermost) ≡ around_tree sel old left (tree_in sel ds word)

-- the choice that is next
pub next-choice : {wid : ℕ → ℕ} {old ds : List Draft} {w : ℕ} {innermost word : CellId} {all left : List Choice} (front : List Choice) (c : Choice) → IsChosen wid old ds w innermost all left word → left ≡ front ++ c ∷ []
    → AreChoices old w front × (IsDraftOf old c.cond 1 × IsDraftOf old c.yes w)
next-choice {wid} {old} {ds} {w} front c so_far e = choices-pop old w front c (subst (AreChoices old w) e so_far.choices)

pub one-chosen : {wid : ℕ → ℕ} {old ds new : List Draft} {w : ℕ} {innermost word out : CellId} {all left : List Choice} (front : List Choice) (c : Choice) → IsChosen wid old ds w innermost all left word → left ≡ front ++ c ∷ []
    → IsBuilt wid ds new out w (λ sel. Mux (tree_in sel ds c.cond) (tree_in sel ds c.yes) (tree_in sel ds word))
    → IsChosen wid old new w innermost all front out
one-chosen {wid} {old} {ds} {new} {w} {innermost} {word} {out} {all} {left} front c so_far e b = record {
  grows = still-grows wid old ds new so_far.grows b.grows;
  choices = next.0;
  place = b.place;
  tree = λ sel. so_far.tree sel ∙ ap (λ cs. around_tree sel old cs (tree_in sel ds word)) e ∙ around-push sel old front c (tree_in sel ds word)
      ∙ ap (around_tree sel old front) (sym (b.tree sel
      ∙ ap₂ (λ p q. Mux p q (tree_in sel ds word)) (tree-kept sel old ds so_far.grows.longer c.cond next.1.0.0) (tree-kept sel old ds so_far.grows.longer c.yes next.1.1.0)));
}
  where
    next : AreChoices old w front × (IsDraftOf old c.cond 1 × IsDraftOf old c.yes w)
    next = next-choice front c so_far e
