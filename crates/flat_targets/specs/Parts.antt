-- Parts of resolved target concatenations, from the left: which of them assign what another one assigns or reads.
use Rattle.std.specs.Prelude.{◌≡◌, ℕ, ◌<◌, ◌≤◌, Bool, true, false, ◌&&◌, ◌||◌, cond, List, [], ◌∷◌, ◌++◌, length, Option, Some, None, slice_get}
use Rattle.std.specs.List.{list_any}
use Rattle.std.specs.Option.{option_map_or}
use Rattle.cell_graph.specs.Tree.{any_below}
use Rattle.flat_meaning.specs.Flat.{Target, Whole, Part, Pick, Group, Targets, no_targets, target}
use Rattle.flat_meaning.specs.Assigned.{is_within, reaches}
use Rattle.flat_meaning.specs.Deps.{Bits}
use Rattle.flat_form.specs.declared.masks.Masks.{Masks}
use Rattle.flat_form.specs.Masks.{bits_in}
use Rattle.flat_form.specs.Uses.{target_reads}
use Rattle.flat_names.specs.declared.design.Entry.{Entry}

-- the parts of a target that are no concatenations of parts. What breaks a rule is one of none
abbrev mutual
  pub parts : Target → List Target
  parts (Whole s) = Whole s ∷ []
  parts (Part s at w) = Part s at w ∷ []
  parts (Pick s e) = Pick s e ∷ []
  parts (Group no_targets) = Group no_targets ∷ []
  parts (Group (target t ts)) = parts t ++ parts_in ts

  pub parts_in : Targets → List Target
  parts_in no_targets = []
  parts_in (target t ts) = parts t ++ parts_in ts

abbrev pub IsPart : Target → Type 0
IsPart (Group (target t ts)) = ⊥
IsPart t = Unit {0}

abbrev pub is_pick : Target → Bool
is_pick (Pick s e) = true
is_pick (Whole s) = false
is_pick (Part s at w) = false
is_pick (Group ts) = false

abbrev pub is_group : Target → Bool
is_group (Group ts) = true
is_group (Whole s) = false
is_group (Part s at w) = false
is_group (Pick s e) = false

abbrev pub width_among : List Entry → ℕ → ℕ
width_among entries s = option_map_or (λ (e : Entry). e.width) (slice_get entries s) 0

-- widths of n signals, of which none has more than 64 bits
pub record AreWidths (wid : ℕ → ℕ) (n : ℕ) : Type 0 where
  pub words : (s : ℕ) → wid s ≤ 64
  pub none : (s : ℕ) → n ≤ s → wid s ≡ 0

-- whether some bit of a word's 64 passes
unfoldable pub some_bit : (ℕ → Bool) → Bool
some_bit p = any_below p 64

module _ (wid : ℕ → ℕ) where
  -- those of the bits that their signals have
  abbrev pub within : Bits → Bits
  within b s i = b s i && is_within 0 (wid s) i

  -- the bits that some of the targets may assign
  abbrev pub gathered : List Target → Bits
  gathered ts s i = list_any (λ t. reaches wid t s i) ts

  -- some bit of the signal is read, and some bit of it assigned
  abbrev pub is_read : (reads assigned : Bits) → ℕ → Bool
  is_read reads assigned s = some_bit (within reads s) && some_bit (assigned s)

  abbrev pub Holds : List Target → Masks → Type 0
  Holds ts m = (s i : ℕ) → i < 64 → bits_in m s i ≡ within (gathered ts) s i

  module _ (n : ℕ) where
    -- some bit of a signal may be assigned by both
    abbrev pub shares : Target → Target → Bool
    shares t g = any_below (λ s. any_below (λ i. reaches wid t s i && reaches wid g s i) (wid s)) n

    -- an index of the first reads a signal that the second assigns
    abbrev pub reads_from : Target → Target → Bool
    reads_from t g = any_below (λ s. any_below (target_reads wid t s) (wid s) && any_below (reaches wid g s) (wid s)) n

    abbrev pub is_met : (all before : List Target) → Target → Bool
    is_met all before t = list_any (shares t) before || list_any (reads_from t) all

    -- the place of the first part that assigns what an earlier one assigns, or reads what one assigns
    abbrev pub first_met : (all before : List Target) → List Target → Option ℕ
    first_met all before [] = None
    first_met all before (t ∷ rest) = cond (is_met all before t) (Some (length before)) (first_met all (before ++ t ∷ []) rest)
