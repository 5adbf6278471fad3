-- What holds on all paths through statements, as sets of bits.
use Rattle.std.specs.Prelude.{◌≡◌, ℕ, ◌<◌, Bool, true, false, not, ◌&&◌, ◌||◌, Option, Some, None, is_some}
use Rattle.cell_graph.specs.Tree.{any_below}
use Rattle.flat_meaning.specs.Flat.{Stmt, Items, no_items, default_item, item}
use Rattle.flat_meaning.specs.Assigned as m
use Rattle.flat_meaning.specs.Deps.{Bits, union}
use Rattle.flat_form.specs.declared.masks.Masks.{Masks}
use Rattle.flat_form.specs.Masks.{bits_in}
use Rattle.flat_form.specs.Uses.{without}
use Rattle.flat_unfolding.specs.Reads as q
use Rattle.flat_unfolding.specs.Reads.{early_in, is_latch, first_from}
use Rattle.flat_statements.specs.declared.latch.Paths.{Paths}

-- whatever is assigned before: the bits that are surely assigned behind a statement, and those that it reads before
pub record IsPaths (sure early : Bits → Bits) (p : Paths) : Type 0 where
  pub surely : (d : Bits) (s i : ℕ) → i < 64 → sure d s i ≡ (bits_in p.surely s i || d s i)
  pub exposed : (d : Bits) (s i : ℕ) → i < 64 → early d s i ≡ (bits_in p.exposed s i && not (d s i))

-- what is read early behind an expression that is read first
abbrev pub behind : Bits → (Bits → Bits) → Bits → Bits
behind c early d = union (without d c) (early d)

-- whether some bit of a word's 64 passes
unfoldable pub some_bit : (ℕ → Bool) → Bool
some_bit p = any_below p 64

-- the bits that may be assigned, but for those that each path assigns and none reads before
abbrev pub open_bits : Masks → Paths → Bits
open_bits may p s i = bits_in may s i && not (bits_in p.surely s i && not (bits_in p.exposed s i))

abbrev pub sure_if : Option Paths → Bits → Bits
sure_if None d s i = true
sure_if (Some p) d s i = bits_in p.surely s i || d s i

abbrev pub early_if : Option Paths → Bits → Bits
early_if None d s i = false
early_if (Some p) d s i = bits_in p.exposed s i && not (d s i)

abbrev pub is_item : Items → Bool
is_item no_items = false
is_item (default_item x) = false
is_item (item ls x is) = true

module _ (wid : ℕ → ℕ) where
  -- the paths through a statement
  abbrev pub IsPathsOf : Stmt → Paths → Type 0
  IsPathsOf x = IsPaths (m.surely wid x) (q.early wid x)

  -- the bits that each item's body surely assigns
  abbrev pub each_surely : Items → Bits → Bits
  each_surely no_items d s i = true
  each_surely (default_item x) d s i = m.surely wid x d s i
  each_surely (item ls x is) d s i = m.surely wid x d s i && each_surely is d s i

  -- the same of one item after another, of which there may be none
  pub record AreBranches (is : Items) (o : Option Paths) : Type 0 where
    pub surely : (d : Bits) (s i : ℕ) → i < 64 → each_surely is d s i ≡ sure_if o d s i
    pub exposed : (d : Bits) (s i : ℕ) → i < 64 → early_in wid is d s i ≡ early_if o d s i
    pub some : is_some o ≡ is_item is

  -- whether some bit of the signal is a latch, and the first such signal among so many
  abbrev pub has_latch : Stmt → ℕ → Bool
  has_latch x s = any_below (is_latch wid x s) (wid s)

  abbrev pub latch_in : Stmt → ℕ → Option ℕ
  latch_in x n = first_from (has_latch x) 0 n

  -- a statement assigns no bit that its signal doesn't have
  abbrev pub IsWithin : Stmt → Type 0
  IsWithin x = (s i : ℕ) → m.may_assign wid x s i ≡ true → i < wid s
