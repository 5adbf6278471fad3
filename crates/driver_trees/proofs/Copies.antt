-- Copies of a word side by side.
use Rattle.std.proofs.Common.{◌≡◌, ℕ, suc, ◌+◌, ◌*◌, ◌==◌, ◌≤◌, cond, List, refl, sym, ap, ap₂, subst, ◌∙◌, arith}
use Rattle.std.proofs.Math.Nat.{mul-le-mul_right, suc-mul}
use Rattle.cell_graph.specs.declared.cell.CellId.{CellId}
use Rattle.cell_graph.specs.Tree.{Tree, Const, Concat}
use Rattle.flat_meaning.specs.Trees.{Selects, copies_tree, glue}
use Rattle.driver_trees.specs.declared.draft.Draft.{Draft}
use Rattle.driver_trees.specs.Drafts.{tree_in, AreDrafts, IsDraftOf}
use Rattle.driver_trees.specs.Growth.{IsBuilt}
use Rattle.driver_trees.proofs.Growing.{built-as, built-same, glue-both, some-bits, still-grows, tree-kept}

one-copy : (m : ℕ) (t : Tree) → t ≡ copies_tree 1 m t
one-copy m t = let e : 0 * m ≡ 0 = omega arith in sym (ap (λ n. cond (n == 0) t (cond (m == 0) (Const 0 0) (Concat t (Const 0 0)))) e)

next-bits : (k m : ℕ) → (k + 1) * m ≡ m + k * m
next-bits k m = let e : k + 1 ≡ suc k = omega arith in ap (λ n. n * m) e ∙ suc-mul k m ∙ (let f : k * m + m ≡ m + k * m = omega arith in f)

next-copy : (k m : ℕ) (t : Tree) → glue m t (k * m) (copies_tree k m t) ≡ copies_tree (k + 1) m t
next-copy k m t = let e : suc k ≡ k + 1 = omega arith in ap (λ n. copies_tree n m t) e

-- k copies stand side by side
pub record AreCopies (wid : ℕ → ℕ) (old ds : List Draft) (word : CellId) (m count k : ℕ) (copies : CellId) : Type 0 where
  pub some : 1 ≤ k
  pub within : k ≤ count
  pub built : IsBuilt wid old ds copies (k * m) (λ sel. copies_tree k m (tree_in sel old word))

pub first-copies : (wid : ℕ → ℕ) (old : List Draft) (word : CellId) (m count : ℕ) → AreDrafts wid old → IsDraftOf old word m → 1 ≤ count → AreCopies wid old old word m count 1 word
first-copies wid old word m count are is some = record {
  some = omega arith;
  within = some;
  built = built-as (λ sel. copies_tree 1 m (tree_in sel old word)) (subst (λ n. IsBuilt wid old old word n (λ sel. tree_in sel old word)) (let e : m ≡ 1 * m = omega arith in e) (built-same wid old word m are is))
      (λ sel. one-copy m (tree_in sel old word));
}

pub next-copies : (wid : ℕ → ℕ) (old ds new : List Draft) (word copies out : CellId) (m count k : ℕ) → AreDrafts wid old → IsDraftOf old word m → AreCopies wid old ds word m count k copies → k + 1 ≤ count
    → IsBuilt wid ds new out (m + k * m) (λ sel. Concat (tree_in sel ds word) (tree_in sel ds copies)) → AreCopies wid old new word m count (k + 1) out
next-copies wid old ds new word copies out m count k are is so_far room b = record {
  some = omega arith;
  within = room;
  built = record {
    grows = still-grows wid old ds new so_far.built.grows b.grows;
    place = (b.place.0, b.place.1 ∙ sym (next-bits k m));
    tree = λ sel. b.tree sel ∙ ap₂ Concat (tree-kept sel old ds so_far.built.grows.longer word is.0) (so_far.built.tree sel)
        ∙ glue-both m (k * m) (tree_in sel old word) (copies_tree k m (tree_in sel old word)) (some-bits wid old word m are is) (some-bits wid ds copies (k * m) so_far.built.grows.drafts so_far.built.place)
        ∙ next-copy k m (tree_in sel old word);
  };
}

pub next-fits : (k count m : ℕ) → k + 1 ≤ count → count * m ≤ 64 → m + k * m ≤ 64
next-fits k count m room most = let e = next-bits k m in let l = mul-le-mul_right m room in omega arith
