use Rattle.std.proofs.Common.{arith, Bor, List, ℕ}
use Rattle.std.specs.Str.{bytes_eq}
use Rattle.std.proofs.lemmas.Grind.{common_steps}
use Rattle.clock_constraints.proofs.Places.{list_any-map}
use Rattle.run_file.proofs.shape.add_new.Goals as goal

pub returns-in-Ok : goal.returns-in-Ok
returns-in-Ok c =
    let same = list_any-map (bytes_eq c.args.name.now) (λ (n : Bor (List ℕ)). n.now) c.args.seen.now.keys in
    grind (arith, common_steps)
