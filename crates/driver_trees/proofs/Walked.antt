-- A chain of choices that is walked: the whole is what was met, around what is left.
use Rattle.std.proofs.Common.{rules, ◌≡◌, ℕ, ◌≤◌, max, Box, Global, List, [], ◌∷◌, ◌++◌, refl, sym, ap, ap₂, subst, ◌∙◌, arith}
use Rattle.cell_graph.specs.declared.cell.CellId.{CellId}
use Rattle.cell_graph.specs.Tree.{Tree, Mux}
use Rattle.flat_form.specs.declared.flat.FExpr.{FExpr, size-FExpr}
use Rattle.flat_form.specs.declared.flat.FExpr.TheVariants as e
use Rattle.flat_form.specs.declared.flat.FExpr.TheViews.{the_lemmas}
use Rattle.flat_form.specs.View.{expr_of}
use Rattle.flat_meaning.specs.Flat as f
use Rattle.flat_meaning.specs.Flat.{size}
use Rattle.flat_meaning.specs.Trees.{Selects, tree, truth_of}
use Rattle.driver_trees.specs.declared.draft.Draft.{Draft}
use Rattle.driver_trees.specs.declared.expr.Choice.{Choice}
use Rattle.driver_trees.specs.Drafts.{tree_in, AreDrafts}
use Rattle.driver_trees.specs.Growth.{Grows, IsBuilt}
use Rattle.driver_trees.specs.Choices.{around_tree, AreChoices}
use Rattle.driver_trees.specs.Presents.{IsRead}
use Rattle.driver_trees.proofs.Growing.{same-longer, still-grows, place-kept, tree-later}
use Rattle.driver_trees.proofs.Around.{around-push, around-kept, choices-push, choices-kept}

-- what is taken where a condition doesn't hold is no deeper than its choice
pub other-smaller : (x z : FExpr) (c y o : Box FExpr Global) (w : ℕ) → x ≡ e.Choose c y o w → z ≡ o.value → size-FExpr z ≤ size-FExpr x
other-smaller x z c y o w h d = search (rules, the_lemmas)

pub record IsWalked (wid : ℕ → ℕ) (look : Selects → Selects) (old ds : List Draft) (W : ℕ) (x inner : FExpr) (around : List Choice) : Type 0 where
  pub grows : Grows wid old ds
  pub read : IsRead wid inner
  pub fits : size (expr_of inner) ≤ W
  pub choices : AreChoices ds W around
  pub tree : (sel : Selects) → tree wid (look sel) (expr_of x) W ≡ around_tree sel ds around (tree wid (look sel) (expr_of inner) W)

pub nothing-walked : (wid : ℕ → ℕ) (look : Selects → Selects) (old : List Draft) (W : ℕ) (x : FExpr) (around : List Choice) → around ≡ [] → AreDrafts wid old → IsRead wid x → size (expr_of x) ≤ W → IsWalked wid look old old W x x around
nothing-walked wid look old W x around e are is l = record {
  grows = record { longer = same-longer old; drafts = are };
  read = is;
  fits = l;
  choices = subst (AreChoices old W) (sym e) tt;
  tree = λ sel. sym (ap (λ cs. around_tree sel old cs (tree wid (look sel) (expr_of x) W)) e);
}

-- one choice more
module _ (wid : ℕ → ℕ) (look : Selects → Selects) (old ds mid new : List Draft) (W : ℕ) (x inner c y z : FExpr) (around after : List Choice) (i j : CellId) where
  pub choice-walked : IsWalked wid look old ds W x inner around → expr_of inner ≡ f.Choose (expr_of c) (expr_of y) (expr_of z) → IsRead wid z
      → IsBuilt wid ds mid i 1 (λ sel. truth_of wid (look sel) (expr_of c)) → IsBuilt wid mid new j W (λ sel. tree wid (look sel) (expr_of y) W)
      → after ≡ around ++ record { cond = i; yes = j } ∷ [] → IsWalked wid look old new W x z after
  choice-walked so_far e read cond_is yes_is pushed = record {
    grows = still-grows wid old ds new so_far.grows later;
    read = read;
    fits = let l = subst (λ v. size v ≤ W) e so_far.fits in omega arith;
    choices = subst (AreChoices new W) (sym pushed) (choices-push new W around (record { cond = i; yes = j }) (choices-kept ds new W later.longer around so_far.choices) (place-kept mid new i 1 yes_is.grows.longer cond_is.place) yes_is.place);
    tree = λ sel. so_far.tree sel ∙ ap (λ v. around_tree sel ds around (tree wid (look sel) v W)) e
        ∙ ap (around_tree sel ds around) (ap₂ (λ p q. Mux p q (tree wid (look sel) (expr_of z) W)) (sym (tree-later new sel cond_is yes_is.grows.longer)) (sym (yes_is.tree sel)))
        ∙ sym (around-kept sel ds new W later.longer around so_far.choices (Mux (tree_in sel new i) (tree_in sel new j) (tree wid (look sel) (expr_of z) W)))
        ∙ sym (around-push sel new around (record { cond = i; yes = j }) (tree wid (look sel) (expr_of z) W))
        ∙ sym (ap (λ cs. around_tree sel new cs (tree wid (look sel) (expr_of z) W)) pushed);
  }
    where
      later : Grows wid ds new
      later = still-grows wid ds mid new cond_is.grows yes_is.grows

-- the innermost word, and the choices around it
pub all-walked : {wid : ℕ → ℕ} {look : Selects → Selects} {old ds mid new : List Draft} {W : ℕ} {x inner : FExpr} {around : List Choice} {i j : CellId} → IsWalked wid look old ds W x inner around
    → IsBuilt wid ds mid i W (λ sel. tree wid (look sel) (expr_of inner) W) → IsBuilt wid mid new j W (λ sel. around_tree sel mid around (tree_in sel mid i))
    → IsBuilt wid old new j W (λ sel. tree wid (look sel) (expr_of x) W)
all-walked {wid} {look} {old} {ds} {mid} {new} {W} {x} {inner} {around} so_far word b = record {
  grows = still-grows wid old ds new so_far.grows (still-grows wid ds mid new word.grows b.grows);
  place = b.place;
  tree = λ sel. b.tree sel ∙ ap (around_tree sel mid around) (word.tree sel) ∙ around-kept sel ds mid W word.grows.longer around so_far.choices (tree wid (look sel) (expr_of inner) W) ∙ sym (so_far.tree sel);
}
