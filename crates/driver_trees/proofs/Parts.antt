-- Expressions side by side, and inputs of a gate: the whole is what is done, and what is left.
use Rattle.std.proofs.Common.{◌≡◌, ℕ, ◌+◌, ◌<◌, ◌≤◌, max, true, List, [], ◌∷◌, ◌++◌, length, map, refl, sym, ap, ap₂, subst, ◌∙◌, arith}
use Rattle.cell_graph.specs.declared.cell.CellId.{CellId}
use Rattle.cell_graph.specs.Tree.{Tree, Const}
use Rattle.flat_form.specs.declared.flat.FExpr.{FExpr}
use Rattle.flat_form.specs.View.{expr_of, exprs_of}
use Rattle.flat_meaning.specs.Flat.{BinaryOp, Exprs, size, sizes, largest}
use Rattle.flat_meaning.specs.Fits.{is_gate}
use Rattle.flat_meaning.specs.Meaning.{left_at, right_at}
use Rattle.flat_meaning.specs.Trees.{Selects, glue, tree, joined_tree, gate_tree, gate_on, binary_tree}
use Rattle.driver_trees.specs.declared.draft.Draft.{Draft}
use Rattle.driver_trees.specs.Drafts.{tree_in, width_at, AreDrafts, IsDraftOf}
use Rattle.driver_trees.specs.Growth.{IsLonger, Grows, IsBuilt, AreIn, joined_bits, joined_in}
use Rattle.driver_trees.specs.Presents.{IsRead, AreRead}
use Rattle.driver_trees.proofs.Growing.{same-longer, longer-length, width-kept, tree-kept, still-grows, built-after, built-as, tree-later}
use Rattle.driver_trees.proofs.Joining.{joined_onto, onto-nothing, onto-push, bits-push}
use Rattle.driver_trees.proofs.Forms.{first-read, gate-sizes}

abbrev pub views : List FExpr → Exprs
views xs = exprs_of (map expr_of xs)

in-kept : (old new : List Draft) → IsLonger old new → (ids : List CellId) → AreIn old ids → AreIn new ids
in-kept old new h [] is = tt
in-kept old new h (id ∷ ids) is = ((let l = longer-length old new h in let m = is.0 in omega arith), in-kept old new h ids is.1)

in-push_one : (ds : List Draft) (ids : List CellId) (id : CellId) → AreIn ds ids → id.0 < length ds → AreIn ds (ids ++ id ∷ [])
in-push_one ds [] id is l = (l, tt)
in-push_one ds (i ∷ ids) id is l = (is.0, in-push_one ds ids id is.1 l)

bits-kept : (old new : List Draft) → IsLonger old new → (ids : List CellId) → AreIn old ids → joined_bits new ids ≡ joined_bits old ids
bits-kept old new h [] is = refl
bits-kept old new h (id ∷ ids) is = ap₂ (λ m n. m + n) (width-kept old new h id is.0) (bits-kept old new h ids is.1)

onto-kept : (sel : Selects) (old new : List Draft) → IsLonger old new → (ids : List CellId) → AreIn old ids → (n : ℕ) (low : Tree) → joined_onto sel new ids n low ≡ joined_onto sel old ids n low
onto-kept sel old new h [] is n low = refl
onto-kept sel old new h (id ∷ ids) is n low =
    ap (λ m. glue m (tree_in sel new id) (joined_bits new ids + n) (joined_onto sel new ids n low)) (width-kept old new h id is.0)
    ∙ ap (λ t. glue (width_at old id) t (joined_bits new ids + n) (joined_onto sel new ids n low)) (tree-kept sel old new h id is.0)
    ∙ ap₂ (λ m t. glue (width_at old id) (tree_in sel old id) (m + n) t) (bits-kept old new h ids is.1) (onto-kept sel old new h ids is.1 n low)

pub record IsPartly (wid : ℕ → ℕ) (look : Selects → Selects) (old ds : List Draft) (parts rest : List FExpr) (words : List CellId) : Type 0 where
  pub grows : Grows wid old ds
  pub read : AreRead wid rest
  pub there : AreIn ds words
  pub bits : sizes (views parts) ≡ joined_bits ds words + sizes (views rest)
  pub tree : (sel : Selects) → joined_tree wid (look sel) (views parts) ≡ joined_onto sel ds words (sizes (views rest)) (joined_tree wid (look sel) (views rest))

module _ (wid : ℕ → ℕ) (look : Selects → Selects) (old : List Draft) (parts : List FExpr) where
  pub no-part : (words : List CellId) → words ≡ [] → AreDrafts wid old → AreRead wid parts → IsPartly wid look old old parts parts words
  no-part words e are is = record {
    grows = record { longer = same-longer old; drafts = are };
    read = is;
    there = subst (AreIn old) (sym e) tt;
    bits = sym (ap (λ ids. joined_bits old ids + sizes (views parts)) e ∙ (let z : 0 + sizes (views parts) ≡ sizes (views parts) = omega arith in z));
    tree = λ sel. sym (ap (λ ids. joined_onto sel old ids (sizes (views parts)) (joined_tree wid (look sel) (views parts))) e);
  }

  pub next-part : (ds new : List Draft) (rest more : List FExpr) (x : FExpr) (words after : List CellId) (id : CellId) → IsPartly wid look old ds parts rest words → rest ≡ x ∷ more
      → IsBuilt wid ds new id (size (expr_of x)) (λ sel. tree wid (look sel) (expr_of x) (size (expr_of x))) → after ≡ words ++ id ∷ [] → IsPartly wid look old new parts more after
  next-part ds new rest more x words after id so_far e b pushed = record {
    grows = still-grows wid old ds new so_far.grows b.grows;
    read = (first-read wid x more (subst (AreRead wid) e so_far.read)).1;
    there = subst (AreIn new) (sym pushed) (in-push_one new words id (in-kept ds new b.grows.longer words so_far.there) b.place.0);
    bits = so_far.bits ∙ ap (λ r. joined_bits ds words + sizes (views r)) e
        ∙ (let p = bits-push new words id in let k = bits-kept ds new b.grows.longer words so_far.there in let w = b.place.1 in let q = ap (joined_bits new) pushed in omega arith);
    tree = λ sel. so_far.tree sel ∙ ap (λ r. joined_onto sel ds words (sizes (views r)) (joined_tree wid (look sel) (views r))) e
        ∙ sym (onto-kept sel ds new b.grows.longer words so_far.there (size (expr_of x) + sizes (views more)) (joined_tree wid (look sel) (views (x ∷ more))))
        ∙ ap₂ (λ m t. joined_onto sel new words (m + sizes (views more)) (glue m t (sizes (views more)) (joined_tree wid (look sel) (views more)))) (sym b.place.1) (sym (b.tree sel))
        ∙ sym (onto-push sel new words id (sizes (views more)) (joined_tree wid (look sel) (views more)))
        ∙ sym (ap (λ ids. joined_onto sel new ids (sizes (views more)) (joined_tree wid (look sel) (views more))) pushed);
  }

  pub all-parts : (ds : List Draft) (rest : List FExpr) (words : List CellId) → IsPartly wid look old ds parts rest words → rest ≡ []
      → (sizes (views parts) ≡ joined_bits ds words) × ((sel : Selects) → joined_tree wid (look sel) (views parts) ≡ joined_in sel ds words)
  all-parts ds rest words so_far e = (
    so_far.bits ∙ ap (λ r. joined_bits ds words + sizes (views r)) e ∙ (let z : joined_bits ds words + 0 ≡ joined_bits ds words = omega arith in z),
    λ sel. so_far.tree sel ∙ ap (λ r. joined_onto sel ds words (sizes (views r)) (joined_tree wid (look sel) (views r))) e ∙ sym (onto-nothing sel ds words),
  )

-- ---- gates

pub record IsFolded (wid : ℕ → ℕ) (look : Selects → Selects) (old ds : List Draft) (op : BinaryOp) (W : ℕ) (inputs rest : List FExpr) (word : CellId) : Type 0 where
  pub grows : Grows wid old ds
  pub read : AreRead wid rest
  pub fits : largest (views rest) ≤ W
  pub place : IsDraftOf ds word W
  pub tree : (sel : Selects) → gate_tree wid (look sel) op W (views inputs) ≡ gate_on wid (look sel) op W (tree_in sel ds word) (views rest)

module _ (wid : ℕ → ℕ) (look : Selects → Selects) (old : List Draft) (op : BinaryOp) (W : ℕ) (inputs : List FExpr) where
  pub first-input : (ds : List Draft) (x : FExpr) (others : List FExpr) (word : CellId) → inputs ≡ x ∷ others → AreRead wid others → largest (views others) ≤ W
      → IsBuilt wid old ds word W (λ sel. tree wid (look sel) (expr_of x) W) → IsFolded wid look old ds op W inputs others word
  first-input ds x others word e is l b = record {
    grows = b.grows;
    read = is;
    fits = l;
    place = b.place;
    tree = λ sel. ap (λ r. gate_tree wid (look sel) op W (views r)) e ∙ ap (λ t. gate_on wid (look sel) op W t (views others)) (sym (b.tree sel));
  }

  pub next-input : (ds mid new : List Draft) (x : FExpr) (rest more : List FExpr) (word next out : CellId) → is_gate op ≡ true → IsFolded wid look old ds op W inputs rest word → rest ≡ x ∷ more
      → IsBuilt wid ds mid next W (λ sel. tree wid (look sel) (expr_of x) W)
      → IsBuilt wid mid new out W (λ sel. binary_tree op W (left_at op W W W) (right_at op W W W) (tree_in sel mid word) (tree_in sel mid next))
      → IsFolded wid look old new op W inputs more out
  next-input ds mid new x rest more word next out g so_far e input b = record {
    grows = still-grows wid old ds new so_far.grows (still-grows wid ds mid new input.grows b.grows);
    read = (first-read wid x more (subst (AreRead wid) e so_far.read)).1;
    fits = let l = subst (λ r. largest (views r) ≤ W) e so_far.fits in omega arith;
    place = b.place;
    tree = λ sel. so_far.tree sel ∙ ap (λ r. gate_on wid (look sel) op W (tree_in sel ds word) (views r)) e
        ∙ ap (λ t. gate_on wid (look sel) op W t (views more))
        (sym (b.tree sel ∙ ap₂ (λ m n. binary_tree op W m n (tree_in sel mid word) (tree_in sel mid next)) (gate-sizes op g W W W).0 (gate-sizes op g W W W).1
        ∙ ap₂ (binary_tree op W W W) (tree-kept sel ds mid input.grows.longer word so_far.place.0) (input.tree sel)));
  }
