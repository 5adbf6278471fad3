-- Words side by side, joined from the lowest.
use Rattle.std.proofs.Common.{◌≡◌, ℕ, ◌+◌, ◌<◌, ◌≤◌, List, [], ◌∷◌, ◌++◌, length, Option, Some, None, refl, sym, ap, ap₂, subst, ◌∙◌, arith, zero-add}
use Rattle.cell_graph.specs.declared.cell.CellId.{CellId}
use Rattle.cell_graph.specs.Tree.{Tree, Const}
use Rattle.flat_meaning.specs.Trees.{Selects, glue}
use Rattle.driver_trees.specs.declared.draft.Draft.{Draft}
use Rattle.driver_trees.specs.Drafts.{tree_in, width_at, AreDrafts, IsDraftOf}
use Rattle.driver_trees.specs.Growth.{IsLonger, Grows, IsBuilt, AreIn, joined_bits, joined_in, optional_bits, optional_tree, IsOptionalDraft}
use Rattle.driver_trees.proofs.Growing.{same-longer, still-grows, place-kept, tree-kept}

-- drafts side by side with a word of n bits below them
abbrev pub joined_onto : Selects → List Draft → List CellId → ℕ → Tree → Tree
joined_onto sel ds [] n low = low
joined_onto sel ds (id ∷ ids) n low = glue (width_at ds id) (tree_in sel ds id) (joined_bits ds ids + n) (joined_onto sel ds ids n low)

pub onto-nothing : (sel : Selects) (ds : List Draft) (ids : List CellId) → joined_in sel ds ids ≡ joined_onto sel ds ids 0 (Const 0 0)
onto-nothing sel ds [] = refl
onto-nothing sel ds (id ∷ ids) = ap₂ (glue (width_at ds id) (tree_in sel ds id)) (let e : joined_bits ds ids ≡ joined_bits ds ids + 0 = omega arith in e) (onto-nothing sel ds ids)

pub bits-push : (ds : List Draft) (ids : List CellId) (id : CellId) → joined_bits ds (ids ++ id ∷ []) ≡ joined_bits ds ids + width_at ds id
bits-push ds [] id = omega arith
bits-push ds (i ∷ ids) id = let e = bits-push ds ids id in omega arith

pub onto-push : (sel : Selects) (ds : List Draft) (ids : List CellId) (id : CellId) (n : ℕ) (low : Tree)
    → joined_onto sel ds (ids ++ id ∷ []) n low ≡ joined_onto sel ds ids (width_at ds id + n) (glue (width_at ds id) (tree_in sel ds id) n low)
onto-push sel ds [] id n low = ap (λ k. glue (width_at ds id) (tree_in sel ds id) k low) (zero-add n)
onto-push sel ds (i ∷ ids) id n low =
    ap₂ (glue (width_at ds i) (tree_in sel ds i)) (let b = bits-push ds ids id in let e : joined_bits ds (ids ++ id ∷ []) + n ≡ joined_bits ds ids + (width_at ds id + n) = omega arith in e) (onto-push sel ds ids id n low)

pub in-push : (ds : List Draft) (ids : List CellId) (id : CellId) → AreIn ds (ids ++ id ∷ []) → AreIn ds ids × (id.0 < length ds)
in-push ds [] id is = (tt, is.0)
in-push ds (i ∷ ids) id is = let r = in-push ds ids id is.1 in ((is.0, r.0), r.1)

-- the words that are left, and below them the whole so far, are the words at first
pub record IsJoined (wid : ℕ → ℕ) (old ds : List Draft) (words left : List CellId) (whole : Option CellId) : Type 0 where
  pub grows : Grows wid old ds
  pub there : AreIn old left
  pub below : IsOptionalDraft ds whole
  pub bits : joined_bits old words ≡ joined_bits old left + optional_bits ds whole
  pub tree : (sel : Selects) → joined_in sel old words ≡ joined_onto sel old left (optional_bits ds whole) (optional_tree sel ds whole)

pub none-joined : (wid : ℕ → ℕ) (old : List Draft) (words : List CellId) → AreDrafts wid old → AreIn old words → IsJoined wid old old words words None
none-joined wid old words are is = record {
  grows = record { longer = same-longer old; drafts = are };
  there = is;
  below = tt;
  bits = omega arith;
  tree = λ sel. onto-nothing sel old words;
}

-- the next word is there, and has room above the whole so far
pub word-left : (wid : ℕ → ℕ) (old ds : List Draft) (words left front : List CellId) (id : CellId) (whole : Option CellId) → IsJoined wid old ds words left whole → left ≡ front ++ id ∷ []
    → joined_bits old words ≤ 64 → (id.0 < length old) × (width_at old id + optional_bits ds whole ≤ 64)
word-left wid old ds words left front id whole so_far e most = (
  (in-push old front id (subst (AreIn old) e so_far.there)).1,
  (let b = so_far.bits ∙ ap (λ ids. joined_bits old ids + optional_bits ds whole) e in let p = bits-push old front id in omega arith),
)

-- a word goes below what is left
pub one-joined : (wid : ℕ → ℕ) (old ds new : List Draft) (words left front : List CellId) (id out : CellId) (whole : Option CellId) → IsJoined wid old ds words left whole → left ≡ front ++ id ∷ []
    → IsBuilt wid ds new out (width_at old id + optional_bits ds whole) (λ sel. glue (width_at old id) (tree_in sel ds id) (optional_bits ds whole) (optional_tree sel ds whole))
    → IsJoined wid old new words front (Some out)
one-joined wid old ds new words left front id out whole so_far e b = record {
  grows = still-grows wid old ds new so_far.grows b.grows;
  there = parts.0;
  below = (b.place.0, refl);
  bits = so_far.bits ∙ ap (λ ids. joined_bits old ids + optional_bits ds whole) e ∙ (let p = bits-push old front id in let w = b.place.1 in omega arith);
  tree = λ sel. so_far.tree sel ∙ ap (λ ids. joined_onto sel old ids (optional_bits ds whole) (optional_tree sel ds whole)) e
      ∙ onto-push sel old front id (optional_bits ds whole) (optional_tree sel ds whole)
      ∙ ap₂ (joined_onto sel old front) (sym b.place.1)
      (ap (λ t. glue (width_at old id) t (optional_bits ds whole) (optional_tree sel ds whole)) (sym (tree-kept sel old ds so_far.grows.longer id parts.1)) ∙ sym (b.tree sel));
}
  where
    parts : AreIn old front × (id.0 < length old)
    parts = in-push old front id (subst (AreIn old) e so_far.there)

pub all-joined : (wid : ℕ → ℕ) (old ds : List Draft) (words left : List CellId) (whole : Option CellId) (out : CellId) → IsJoined wid old ds words left whole → left ≡ [] → whole ≡ Some out
    → IsBuilt wid old ds out (joined_bits old words) (λ sel. joined_in sel old words)
all-joined wid old ds words left whole out so_far e f = record {
  grows = so_far.grows;
  place = (below.0, sym (so_far.bits ∙ ap₂ (λ ids o. joined_bits old ids + optional_bits ds o) e f ∙ zero-add (width_at ds out)));
  tree = λ sel. sym (so_far.tree sel ∙ ap₂ (λ ids o. joined_onto sel old ids (optional_bits ds o) (optional_tree sel ds o)) e f);
}
  where
    below : IsOptionalDraft ds (Some out)
    below = subst (IsOptionalDraft ds) f so_far.below

pub nothing-joined : (wid : ℕ → ℕ) (old ds : List Draft) (words left : List CellId) (whole : Option CellId) → IsJoined wid old ds words left whole → left ≡ [] → whole ≡ None → joined_bits old words ≡ 0
nothing-joined wid old ds words left whole so_far e f = so_far.bits ∙ ap₂ (λ ids o. joined_bits old ids + optional_bits ds o) e f
