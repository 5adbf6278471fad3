use Rattle.std.proofs.Common.{arith, Bor, List, ℕ}
use Rattle.std.specs.Str.{bytes_eq}
use Rattle.std.proofs.lemmas.Grind.{common_steps}
use Rattle.clock_constraints.proofs.Places.{list_any-map}
use Rattle.sdc_subset.proofs.names.Names.add.Goals as goal

pub returns-clause-new : goal.returns-clause-new
returns-clause-new c =
    let same = list_any-map (bytes_eq c.args.name.now) (λ (n : Bor (List ℕ)). n.now) c.self.inside.set.keys in
    grind (arith, common_steps)
