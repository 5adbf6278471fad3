-- The constraints of the generated design.
use Rattle.std.specs.Prelude.{[], ◌∷◌, codes}
use Rattle.clock_constraints.specs.declared.Constraints.{Constraints}

-- the clocks ca of group A and cb of group B, and the inputs send and d on ca
unfoldable pub generated_constraints : Constraints
generated_constraints = record {
  top = codes "m";
  clocks = record { name = codes "ca"; group = codes "A"; settle = 1 } ∷ record { name = codes "cb"; group = codes "B"; settle = 1 } ∷ [];
  inputs = record { name = codes "send"; clock = 0 } ∷ record { name = codes "d"; clock = 0 } ∷ [];
  resets = [];
  statics = [];
  waivers = [];
}
