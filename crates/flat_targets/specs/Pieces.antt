-- The parts of target concatenations as the text has them.
use Rattle.std.specs.Prelude.{ℕ, List, [], ◌∷◌, ◌++◌, Option, Some, None, slice_get}
use Rattle.std.specs.Option.{option_map_or}
use Rattle.verilog_reading.specs.ExprTree.{TargetTree, whole, index_of, part_of, join_of, TargetTrees, no_parts, and_parts}
use Rattle.flat_unfolding.specs.Outcome.{Text, breaks}
use Rattle.flat_names.specs.Noting.{Noted, all_noted}

-- the names in the parts of a target, from the left
abbrev mutual
  pub part_names : TargetTree → List Text
  part_names (whole x) = x ∷ []
  part_names (index_of x i) = x ∷ []
  part_names (part_of x kind l r) = x ∷ []
  part_names (join_of parts) = part_names_in parts

  pub part_names_in : TargetTrees → List Text
  part_names_in no_parts = []
  part_names_in (and_parts t rest) = part_names t ++ part_names_in rest

-- E313 with the name of the part at a place
abbrev pub first_noted : Noted → (names : List Text) → Option ℕ → Noted
first_noted f names None = f
first_noted f names (Some k) = option_map_or (λ x. all_noted f (breaks 313 x)) (slice_get names k) f
