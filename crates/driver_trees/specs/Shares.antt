-- An assignment as the words that its target's parts get, from the left.
use Rattle.std.specs.Prelude.{◌≡◌, ℕ, ◌+◌, ◌^◌, ◌≤◌, Bool, true, false, cond, ◌||◌, ◌==◌, List, [], ◌∷◌, ◌++◌, map, Option, All}
use Rattle.cell_graph.specs.declared.cell.CellId.{CellId}
use Rattle.cell_graph.specs.Tree.{Tree, Const, Slice}
use Rattle.flat_form.specs.declared.flat.FTarget.{FTarget}
use Rattle.flat_form.specs.View.{target_of}
use Rattle.flat_form.specs.Sizes.{target_kept}
use Rattle.flat_meaning.specs.Flat.{Target, Whole, Part, Pick, Group, Targets, no_targets, target, size, target_size, target_sizes}
use Rattle.flat_meaning.specs.Trees.{Selects, Trees, tree, change_tree, part_tree, picked}
use Rattle.flat_meaning.specs.Assigned.{Done, FitsTarget}
use Rattle.driver_trees.specs.declared.draft.Draft.{Draft}
use Rattle.driver_trees.specs.declared.target.Put.{Put}
use Rattle.driver_trees.specs.declared.target.Spot.{Spot}
use Rattle.driver_trees.specs.declared.target.Spot.TheVariants as spot
use Rattle.driver_trees.specs.Drafts.{tree_in, width_at, IsDraftOf}
use Rattle.driver_trees.specs.Growth.{Grows, IsOptionalDraft, optional_bits, optional_tree}
use Rattle.driver_trees.specs.Presents.{IsWithin}

-- where in its signal a word goes: all of it, bits from a place on, or the bit that an index of m bits names
pub data Place : Type 0 where
  all : Place
  bits : (at width : ℕ) → Place
  chosen : (index : Tree) (m : ℕ) → Place

-- a word that a signal gets
pub record Share : Type 0 where
  pub sig : ℕ
  pub place : Place
  pub word : Tree

abbrev pub share_of : (sig : ℕ) → Place → Tree → Share
share_of s p t = record { sig = s; place = p; word = t }

-- the old tree of n bits with the new word
abbrev pub placed_tree : (n : ℕ) → Place → (new old : Tree) → Tree
placed_tree n all new old = new
placed_tree n (bits at w) new old = part_tree n at w new old
placed_tree n (chosen index m) new old = picked index m new old n

module _ (wid : ℕ → ℕ) where
  abbrev mutual
    pub shares : Selects → Target → Tree → List Share
    shares sel (Whole s) t = share_of s all t ∷ []
    shares sel (Part s at w) t = share_of s (bits at w) t ∷ []
    shares sel (Pick s e) t = share_of s (chosen (tree wid sel e (size e)) (size e)) t ∷ []
    shares sel (Group gs) t = all_shares sel gs t

    pub all_shares : Selects → Targets → Tree → List Share
    all_shares sel no_targets t = []
    all_shares sel (target g gs) t = shares sel g (Slice t (target_sizes wid gs) (target_size wid g)) ++ all_shares sel gs t

  abbrev pub share_tree : Share → Trees → Trees
  share_tree s ts = change_tree s.sig (placed_tree (wid s.sig) s.place s.word (ts s.sig)) ts

  -- each word in turn
  abbrev pub share_trees : List Share → Trees → Trees
  share_trees [] ts = ts
  share_trees (s ∷ ss) ts = share_trees ss (share_tree s ts)

abbrev pub has_share : List Share → ℕ → Bool
has_share [] x = false
has_share (s ∷ ss) x = (x == s.sig) || has_share ss x

-- what an assigned word is
abbrev pub place_of : Selects → List Draft → Spot → Place
place_of sel ds spot.Whole = all
place_of sel ds (spot.Part at w) = bits at w
place_of sel ds (spot.Chosen index) = chosen (tree_in sel ds index) (width_at ds index)

abbrev pub put_share : Selects → List Draft → Put → Share
put_share sel ds p = share_of p.sig (place_of sel ds p.spot) (tree_in sel ds p.tree)

abbrev pub put_of : (sig : ℕ) → Spot → CellId → Put
put_of s p t = record { sig = s; spot = p; tree = t }

-- bits of a word: none where their count is 0
pub record IsPart (wid : ℕ → ℕ) (old new : List Draft) (o : Option CellId) (w : ℕ) (t : Selects → Tree) : Type 0 where
  pub grows : Grows wid old new
  pub place : IsOptionalDraft new o
  pub bits : optional_bits new o ≡ w
  pub tree : (sel : Selects) → optional_tree sel new o ≡ cond (w == 0) (Const 0 0) (t sel)

-- a word fits its place
abbrev pub FitsPlace : (n : ℕ) → List Draft → Spot → (w : ℕ) → Type 0
FitsPlace n ds spot.Whole w = (1 ≤ w) × (w ≡ n)
FitsPlace n ds (spot.Part at v) w = (w ≡ v) × (1 ≤ v) × (at + v ≤ n)
FitsPlace n ds (spot.Chosen index) w = (w ≡ 1) × IsDraftOf ds index (width_at ds index) × (1 ≤ width_at ds index) × (width_at ds index ≤ 64) × (1 ≤ n)

pub record IsPut (wid : ℕ → ℕ) (ds : List Draft) (p : Put) : Type 0 where
  pub word : IsDraftOf ds p.tree (width_at ds p.tree)
  pub place : FitsPlace (wid p.sig) ds p.spot (width_at ds p.tree)

pub record ArePuts (wid : ℕ → ℕ) (ds : List Draft) (ps : List Put) (ss : Selects → List Share) : Type 0 where
  pub fit : All (IsPut wid ds) ps
  pub are : (sel : Selects) → map (put_share sel ds) ps ≡ ss sel

-- a target of right sizes, in which only bits that are there are read and assigned
pub record IsPlaced (wid : ℕ → ℕ) (t : FTarget) : Type 0 where
  pub sized : (target_kept wid t).right ≡ true
  pub done : Done
  pub fits : FitsTarget wid (λ d. IsWithin wid) done (target_of t)
