-- The bits of a set that is kept as a mask for each signal.
use Rattle.std.specs.Prelude.{◌≡◌, ℕ, ◌<◌, Bool, ◌||◌, is_some, nat_eq}
use Rattle.std.specs.Option.{unwrap_or}
use Rattle.indexmap.specs.IndexMap.{get}
use Rattle.cell_graph.specs.Tree.{bit_at}
use Rattle.flat_meaning.specs.Deps.{Bits, union}
use Rattle.flat_form.specs.declared.masks.Masks.{Masks}

-- the mask of a signal; one that isn't there has no bits
abbrev pub mask_of : Masks → ℕ → ℕ
mask_of m s = unwrap_or (get nat_eq m.by_signal s) 0

abbrev pub bits_in : Masks → Bits
bits_in m s i = bit_at (mask_of m s) i

-- the second set is the first one with those bits
abbrev pub Adds : (old new : Masks) → Bits → Type 0
Adds old new b = (s i : ℕ) → i < 64 → bits_in new s i ≡ union (bits_in old) b s i

-- the set has an entry for the signal, be it of no bits
abbrev pub has_signal : Masks → ℕ → Bool
has_signal m s = is_some (get nat_eq m.by_signal s)

-- the second set has the entries of the first one and those
abbrev pub Lists : (old new : Masks) → (ℕ → Bool) → Type 0
Lists old new b = (s : ℕ) → has_signal new s ≡ (has_signal old s || b s)
