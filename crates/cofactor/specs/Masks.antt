-- What is known of the bits of a word, as masks.
use Rattle.std.specs.Prelude.{ℕ, Bool, false, Option, Some, None, is_some}
use Rattle.cell_graph.specs.declared.cell.ReduceKind.{ReduceKind}
use Rattle.cell_graph.specs.declared.cell.ReduceKind.TheVariants as kind
use Rattle.cell_graph.specs.Cofactor.{known_all, known_any, known_odd}
use Rattle.cell_graph.specs.Tree.{number}
use Rattle.cofactor.specs.declared.masks.Masks.{Masks}

-- known to be 1
abbrev pub is_one : Option Bool → Bool
is_one None = false
is_one (Some v) = v

-- of each of the low w bits whether it is known, and its value, which is 0 where it isn't
abbrev pub masks_of : (ℕ → Option Bool) → ℕ → Masks
masks_of k w = record { known = number (λ i. is_some (k i)) w; value = number (λ i. is_one (k i)) w }

-- what is known of the one bit of a reduction
abbrev pub known_reduced : ReduceKind → (ℕ → Option Bool) → ℕ → ℕ → Option Bool
known_reduced kind.And k w i = known_all k w
known_reduced kind.Or k w i = known_any k w
known_reduced kind.Xor k w i = known_odd k w
